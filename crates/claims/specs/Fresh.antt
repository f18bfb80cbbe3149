-- The unit that a cleared one is compared with: made by calls, with the seven survivors set.
-- Assumes nothing.
use Rattle.std.specs.Prelude.{ℕ, List, [], ◌∷◌}
use Rattle.wire.specs.Setup.{CONTROL}
use Rattle.port.specs.Device.{Device, with_state, power_on}
use Rattle.port.specs.Step.{setup_of, step, after}
use Rattle.port.specs.Survivors.{Survivors, surviving}

-- the setup packets, as they go over the wire
abbrev pub SET_CONFIGURATION_1 : List ℕ
SET_CONFIGURATION_1 = 0x00 ∷ 9 ∷ 1 ∷ 0 ∷ 0 ∷ 0 ∷ 0 ∷ 0 ∷ []

abbrev pub SET_FEATURE_OUT : List ℕ
SET_FEATURE_OUT = 0x02 ∷ 3 ∷ 0 ∷ 0 ∷ 0x01 ∷ 0 ∷ 0 ∷ 0 ∷ []

abbrev pub CLEAR_FEATURE_OUT : List ℕ
CLEAR_FEATURE_OUT = 0x02 ∷ 1 ∷ 0 ∷ 0 ∷ 0x01 ∷ 0 ∷ 0 ∷ 0 ∷ []

abbrev pub GET_STATUS_OUT : List ℕ
GET_STATUS_OUT = 0x82 ∷ 0 ∷ 0 ∷ 0 ∷ 0x01 ∷ 0 ∷ 2 ∷ 0 ∷ []

-- "a unit just configured", of packet size p, "with Bulk-OUT halted by the host"
unfoldable pub halted : ℕ → Device
halted p = after step (power_on (record { packet = p })).unit (setup_of SET_CONFIGURATION_1 CONTROL ∷ setup_of SET_FEATURE_OUT CONTROL ∷ [])

-- a unit with these, given as values, and all else its own
abbrev pub resumed : Survivors → Device → Device
resumed s u = with_state u (surviving s u.state)

abbrev pub fresh_unit : ℕ → Survivors → Device
fresh_unit p s = resumed s (halted p)
