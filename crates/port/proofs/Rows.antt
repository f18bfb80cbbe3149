-- Every row of the table holds of ours, by computation.
-- Assumes nothing.
use mathlib.Core.Path.{refl}
use Rattle.port.specs.Step.{step}
use Rattle.port.specs.Cases.{cases, played, Cases}
use Rattle.port.proofs.Opened.{computed}

pub ours : Cases step
unfolding computed cases played
ours = refl
