-- What the calls make of a sound Interrupt-IN is sound.
-- Assumes nothing.
use Prim.Native.Nat.{ℕ, ◌+◌, ◌%◌, ◌≤◌}
use mathlib.Core.Path.{◌≡◌, refl, sym, ◌∙◌}
use mathlib.Core.Bool.{true, false, true≢false}
use native.Mathlib.Omega.{arith}
use borrow.Author.Tests.{lt-ltb, ne_eqb}
use Rattle.rules.specs.Choice.{no, ◌≠ᵇ◌, pick}
use Rattle.rules.proofs.Choice.{pick_all, at_true, at_false, no_true, ne_neb}
use Rattle.port.specs.Parts.{with_status, with_waiting, with_interrupt_halted, no_packet}
use Rattle.port.specs.Interrupt.{asks_service, service_request, status_read, is_waiting, notified, status_held, polled, status_queued}
use Rattle.port.specs.Sound.{packet_sound}
use Rattle.port.specs.declared.types.InterruptIn.{InterruptIn}
use Rattle.port.proofs.Soundness.{InterruptSound}

request_sound : (status : ℕ) → asks_service status ≡ true → packet_sound (service_request status) ≡ true
unfolding packet_sound pick
request_sound status e = e

read_sound : (tag status : ℕ) → 2 ≤ tag → tag ≤ 127 → asks_service status ≡ false → packet_sound (status_read tag status) ≡ true
unfolding packet_sound
read_sound tag status low high e =
    let more : 129 + 1 ≤ 128 + tag % 128 = omega arith in
    at_false _ _ _ (ne_eqb (128 + tag % 128) 129 (λ z. omega arith))
    ∙ at_true _ _ _ (lt-ltb 129 (128 + tag % 128) (omega arith))
    ∙ no_true _ e

-- where no packet waits, one comes to wait or bit 6 is off
notified_sound : (i : InterruptIn) → i.halted ≤ 1 → is_waiting i ≡ false → i.waiting.notify2 ≡ 0 → InterruptSound (notified i)
unfolding notified no ◌≠ᵇ◌
notified_sound i h w z =
    pick_all InterruptSound (asks_service i.status) _ _
    (λ e. record { halted = h; waiting = λ _. request_sound i.status e; silent = λ f. absurd (true≢false f) })
    (λ e. record { halted = h; waiting = λ f. absurd (true≢false (sym f ∙ w)); silent = λ _. (z, e) })

module _ (i : InterruptIn) (h : InterruptSound i) where
  pub halted_interrupt : (halted : ℕ) → halted ≤ 1 → InterruptSound (with_interrupt_halted i halted)
  halted_interrupt halted e = record { halted = e; waiting = h.waiting; silent = h.silent }

  pub held_interrupt : (status : ℕ) → InterruptSound (status_held i status)
  unfolding status_held
  held_interrupt status =
      pick_all InterruptSound (is_waiting i) _ _
      (λ e. record { halted = h.halted; waiting = h.waiting; silent = λ f. absurd (true≢false (sym e ∙ f)) })
      (λ e. notified_sound (with_status i status) h.halted e (h.silent e).0)

  pub polled_interrupt : InterruptSound (polled i)
  unfolding polled no ◌≠ᵇ◌
  polled_interrupt = notified_sound (with_waiting i no_packet) h.halted refl refl

  pub queued_interrupt : (tag : ℕ) → 2 ≤ tag → tag ≤ 127 → is_waiting i ≡ false → InterruptSound (status_queued i tag)
  unfolding status_queued
  queued_interrupt tag low high e = record {
    halted = h.halted;
    waiting = λ _. read_sound tag i.status low high (h.silent e).1;
    silent = λ f. absurd (true≢false (sym (ne_neb (128 + tag % 128) 0 (λ z. omega arith)) ∙ f));
  }
