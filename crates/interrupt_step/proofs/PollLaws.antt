-- What a poll of Interrupt-IN comes to, a law for each way that the code takes.
-- Assumes nothing.
use Prim.Native.Nat.{ℕ, ◌≤◌}
use mathlib.Core.Path.{◌≡◌, refl}
use mathlib.Core.List.{List}
use borrow.Author.Tests.{ltb-false}
use Rattle.std.specs.Prelude.{Result, Ok, Err}
use Rattle.rules.specs.Choice.{gate}
use Rattle.rules.specs.declared.refusal.Refusal.{Refusal}
use Rattle.rules.specs.Answers.{done}
use Rattle.rules.proofs.Choice.{none_of, refuses, passes}
use Rattle.wire.specs.Bytes.{into}
use Rattle.port.specs.Parts.{interrupt_of, with_interrupt}
use Rattle.port.specs.Answer.{refuse}
use Rattle.port.specs.Interrupt.{NOTIFY, polled, interrupt_rules, notify_bytes, poll_interrupt}
use Rattle.port.specs.Given.{given_of, Hands}
use Rattle.port.specs.declared.types.State.{State}
use Rattle.state_parts.proofs.Handed.{hands_by}

module _ (st : State) (room : ℕ) (told : Result (Unit {0}) Refusal) (is : told ≡ gate (interrupt_rules st room)) where
  pub poll_refused : (before : List ℕ) (r : Refusal) → told ≡ Err r → Hands (poll_interrupt st room) (given_of (refuse st r)) before before
  unfolding poll_interrupt
  poll_refused before r e = hands_by _ before before (refuses (refuse st) (interrupt_rules st room) _ told is r e) (refl, refl)

  -- the buffer takes the packet
  pub poll_room : told ≡ Ok tt → NOTIFY ≤ room
  poll_room passed = ltb-false room NOTIFY (none_of (interrupt_rules st room) told is passed).1.0

  pub poll_packet : (before after : List ℕ) → told ≡ Ok tt → after ≡ into (notify_bytes (interrupt_of st).waiting) before
      → Hands (poll_interrupt st room) (record { state = with_interrupt st (polled (interrupt_of st)); verdict = done; len = NOTIFY }) before after
  unfolding poll_interrupt
  poll_packet before after passed e = hands_by _ before after (passes (refuse st) (interrupt_rules st room) _ told is passed) (refl, e)
