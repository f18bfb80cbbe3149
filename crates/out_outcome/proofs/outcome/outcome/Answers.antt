use mathlib.Core.Path.{sym, ap, ◌∙◌}
use borrow.Author.Tests.{eqb-false}
use Rattle.port.specs.declared.types.Outcome.TheVariants.{Keep}
use Rattle.out_outcome.proofs.Outcomes.{outcome_kept, outcome_header}
use Rattle.out_outcome.proofs.outcome.outcome.Goals as goal

pub returns-in-Err : goal.returns-in-Err
returns-in-Err c = ap Keep c.number.ensures ∙ outcome_kept _ _ _ c.out_gate.ensures _ c.in-Err.is

pub returns : goal.returns
returns c =
    outcome_header _ _ _ c.out_gate.ensures c.in_default.is _ c.if-left-ne0.false (eqb-false _ 0 (sym c.is_empty.ensures ∙ c.if-is_empty.false)) c.header_says.ensures
