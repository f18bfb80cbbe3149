use mathlib.Core.Path.{sym, ◌∙◌}
use Rattle.wire.proofs.Lawful.{good_lawful}
use Rattle.out_outcome.proofs.Outcomes.{header_faulty, header_halts, header_accepted}
use Rattle.out_outcome.proofs.outcome.header_says.Goals as goal

pub returns-in_default : goal.returns-in_default
returns-in_default c = c.halt_of.ensures ∙ header_faulty _ _ _ _ (sym c.read_header-read.ensures ∙ c.unwrap_err.ensures)

pub returns-in-Err : goal.returns-in-Err
returns-in-Err c = c.halt_of-in-Err.ensures ∙ header_halts _ _ _ _ (sym c.read_header-read.ensures ∙ c.in-Ok.is) _ c.header_fault.ensures _ c.in-Err.is

pub overflow_sub-s : goal.overflow_sub-s
overflow_sub-s c = (good_lawful _ _ (sym c.read_header-read.ensures ∙ c.in-Ok.is)).0

pub returns : goal.returns
returns c =
    rw (c.min.ensures, c.data_length-size.ensures)
    (header_accepted _ _ _ _ (sym c.read_header-read.ensures ∙ c.in-Ok.is) _ c.header_fault.ensures c.in_default-header_fault.is)
