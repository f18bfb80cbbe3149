-- What of a unit counts: all that an answer can ever show, with REN, the remote/local state and the whole status byte. Not counted are
-- the bytes of the stores that no message and no reply has, and where in its store the reply stands. In a sound unit nothing else is
-- left over: what a closed transfer does not use is 0 (Sound).
-- Assumes nothing.
use Rattle.std.specs.Prelude.{ℕ, List, ◌++◌, length, drop}
use Rattle.port.specs.Parts.{in_of, with_in, carrying}
use Rattle.port.specs.declared.types.BulkIn.{BulkIn}
use Rattle.port.specs.declared.types.State.{State}
use Rattle.port.specs.Device.{Device, held_of, unsent_of, zeroed}

pub record Live : Type 0 where
  pub state : State
  pub message : List ℕ
  pub reply : List ℕ

-- the reply is wherever it is
abbrev pub at_front : BulkIn → BulkIn
at_front b = carrying b (record { at = 0; unsent = b.reply.unsent }) b.transfer

unfoldable pub live : Device → Live
live u = record { state = with_in u.state (at_front (in_of u.state)); message = held_of u; reply = unsent_of u }

-- the unit with just that, each at the front of a store that is 0 elsewhere
unfoldable pub alive : Live → Device
alive l = record {
  message = l.message ++ drop (length l.message) zeroed;
  reply = l.reply ++ drop (length l.reply) zeroed;
  state = l.state;
}
