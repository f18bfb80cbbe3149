-- A flag as a number: of a header and of a unit.
-- Assumes nothing.
use Rattle.std.specs.Prelude.{ℕ}

abbrev pub OFF : ℕ
OFF = 0

abbrev pub ON : ℕ
ON = 1
