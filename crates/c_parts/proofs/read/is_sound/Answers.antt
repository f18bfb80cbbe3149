use Rattle.rules.specs.Choice.{◌and◌}
use mathlib.Core.Path.{sym, ◌∙◌}
use Rattle.c_parts.proofs.read.is_sound.Goals as goal

pub returns-then-is_unit : goal.returns-then-is_unit
unfolding ◌and◌
returns-then-is_unit c = (rw (sym c.is_unit.ensures ∙ c.if-is_unit.true, c.sound.ensures, c.state_of.ensures), record { small = c.fits-u })

pub returns-else-is_unit : goal.returns-else-is_unit
unfolding ◌and◌
returns-else-is_unit c = (rw (c.if-is_unit.false, sym c.is_unit.ensures ∙ c.if-is_unit.false), record { small = c.fits-u })
