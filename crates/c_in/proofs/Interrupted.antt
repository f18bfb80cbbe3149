-- What an Interrupt-IN poll leaves of a unit in bytes.
-- Assumes nothing.
use Prim.Native.Nat.{ℕ, ◌≤◌}
use mathlib.Core.Path.{◌≡◌, sym, ap}
use mathlib.Core.List.{List}
use lib.ListN.{length}
use lib.Seq.{paste}
use Rattle.std.specs.Prelude.{Ok, Err}
use Rattle.rules.specs.Answers.{number_of}
use Rattle.rules.specs.declared.refusal.Refusal.{Refusal}
use Rattle.rules.specs.Answers.{done}
use Rattle.rules.proofs.Choice.{refuses, passes}
use Rattle.wire.specs.Bytes.{into}
use Rattle.port.specs.Parts.{interrupt_of}
use Rattle.port.specs.Interrupt.{NOTIFY, notify_bytes, polled, interrupt_rules, poll_interrupt}
use Rattle.port.specs.Answer.{numbered, refuse}
use Rattle.port.specs.Calls.{said, interrupt_in}
use Rattle.port.specs.Step.{Call, quiet, interrupt_poll, quietly, soundly}
use Rattle.port.specs.declared.types.InterruptIn.{InterruptIn}
use Rattle.interrupt_step.proofs.PollLaws.{poll_room}
use Rattle.c_bytes.specs.Layout.{INTERRUPT, INTERRUPT_AT, interrupt_bytes, state_in, unit_in}
use Rattle.c_parts.proofs.Puts.{interrupt_put}
use Rattle.c_promise.specs.Promise.{IsGate, on_bytes, answer_of, Fills}
use Rattle.c_promise.specs.declared.types.TmcAnswer.{TmcAnswer}
use Rattle.c_promise.proofs.Called.{Gate, holds, fills, refusal_into, is_sound_lem, by_rules}

module _ (u b : List ℕ) (told : Gate) (is : IsGate u (interrupt_rules (state_in u) (length b)) told) where
  abbrev call : Call
  call = quiet (interrupt_poll (length b))

  pub interrupt_room : told ≡ Ok tt → NOTIFY ≤ length b
  interrupt_room z = poll_room (state_in u) (length b) told (by_rules is z) z

  module _ (b' u' : List ℕ) (r : TmcAnswer) where
    pub interrupt_kept : (k : Refusal) → told ≡ Err k → r ≡ answer_of (numbered (number_of k)) → Fills (on_bytes u call) b b u r
    unfolding unit_in soundly quietly interrupt_in poll_interrupt
    interrupt_kept k e a = refusal_into u call is k e (λ _ g. sym (ap (said (unit_in u)) (refuses (refuse (state_in u)) (interrupt_rules (state_in u) (length b)) _ told g k e))) r a b

    pub interrupt_done : told ≡ Ok tt → (i after : InterruptIn) → i ≡ interrupt_of (state_in u) → after ≡ polled i
        → b' ≡ into (notify_bytes i.waiting) b → u' ≡ paste u INTERRUPT_AT (interrupt_bytes after) INTERRUPT
        → r ≡ record { verdict = done; len = NOTIFY } → Fills (on_bytes u call) b b' u' r
    unfolding unit_in soundly quietly interrupt_in poll_interrupt
    interrupt_done z i after is-part is-polled f g a =
        fills u is.lent call (is_sound_lem is z) _ (sym (ap (said (unit_in u)) (passes (refuse (state_in u)) (interrupt_rules (state_in u) (length b)) _ told (by_rules is z) z))) u' r
        ((interrupt_put _).to (holds u is.lent (is_sound_lem is z)) (rw (is-polled, is-part) at g)) a
        b b' (rw is-part at f)
