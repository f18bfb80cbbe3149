-- The unit as a whole, and power-on. 01, "The unit".
-- Assumes nothing.
use Rattle.std.specs.Prelude.{ℕ, Bool, List, take, drop, replicate}
use Rattle.rules.specs.Choice.{pick}
use Rattle.rules.specs.Answers.{DONE, WRONG_SIZE}
use Rattle.rules.specs.Flags.{OFF}
use Rattle.port.specs.Parts.{STORE, FULL_SPEED, is_size, fresh, out_of, in_of}
use Rattle.port.specs.Sound.{sound}
use Rattle.port.specs.Answer.{Answer, numbered}
use Rattle.port.specs.declared.types.Setting.{Setting}
use Rattle.port.specs.declared.types.BulkOut.{BulkOut}
use Rattle.port.specs.declared.types.BulkIn.{BulkIn}
use Rattle.port.specs.declared.types.State.{State}

-- a unit, as the definitions have it: its two stores, and the state that calls are decided by
pub record Device : Type 0 where
  pub message : List ℕ
  pub reply : List ℕ
  pub state : State

-- what a call gives back: the unit, and its answer
pub record Result : Type 0 where
  pub unit : Device
  pub answer : Answer

abbrev pub is_sound : Device → Bool
is_sound u = sound u.state

abbrev pub with_state : Device → State → Device
with_state u st = record { message = u.message; reply = u.reply; state = st }

-- the message that comes in, in the store that holds it, and the bytes of the reply that have not gone
abbrev pub held_in : BulkOut → List ℕ → List ℕ
held_in o message = take o.message.held message

abbrev pub unsent_in : BulkIn → List ℕ → List ℕ
unsent_in b reply = take b.reply.unsent (drop b.reply.at reply)

abbrev pub held_of : Device → List ℕ
held_of u = held_in (out_of u.state) u.message

abbrev pub unsent_of : Device → List ℕ
unsent_of u = unsent_in (in_of u.state) u.reply

-- ** power-on

-- "all zero at power-on"
unfoldable pub zeroed : List ℕ
zeroed = replicate STORE 0

-- a unit with nothing but its setting
unfoldable pub made : Setting → ℕ → Device
made setting configured = record { message = zeroed; reply = zeroed; state = fresh setting configured }

-- "Power-on takes a packet size P, 64 or 512; any other is answered 3, with an unconfigured unit of size 64"
unfoldable pub power_on : Setting → Result
power_on setting =
    pick (is_size setting.packet)
    (record { unit = made setting OFF; answer = numbered DONE })
    (record { unit = made (record { packet = FULL_SPEED }) OFF; answer = numbered WRONG_SIZE })
