use Rattle.unit.proofs.Steps.{powered, unpowered}
use mathlib.Core.Path.{sym, ◌∙◌}
use Rattle.unit.proofs.types.Unit.new.Goals as goal

pub returns-then-is_size : goal.returns-then-is_size
returns-then-is_size c = rw (c.only.ensures, c.made.ensures) (powered _ (sym c.is_size.ensures ∙ c.if-is_size.true))

pub returns : goal.returns
returns c = rw (c.from.ensures, c.made-2.ensures) (unpowered _ (sym c.is_size.ensures ∙ c.if-is_size.false))
