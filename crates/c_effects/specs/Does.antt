-- What a row does to a unit in bytes.
-- Assumes nothing.
use Rattle.std.specs.Prelude.{ℕ, ◌≡◌, List}
use Rattle.port.specs.Rows.{effected}
use Rattle.port.specs.Device.{with_state}
use Rattle.port.specs.Laws.{Stored}
use Rattle.port.specs.declared.types.Effect.{Effect}
use Rattle.c_bytes.specs.Layout.{state_in, unit_in, unit_bytes}

-- bytes of a unit become those of the unit that the effect leaves
pub record Does (u : List ℕ) (effect : Effect) (u' : List ℕ) : Type 0 where
  pub to : Stored (unit_in u) → u ≡ unit_bytes (unit_in u) → u' ≡ unit_bytes (with_state (unit_in u) (effected (state_in u) effect))
