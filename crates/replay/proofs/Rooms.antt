-- The length of a lent buffer.
-- Assumes nothing.
use Prim.Native.Nat.{ℕ, ◌≤◌, min}
use mathlib.Core.Path.{◌≡◌, refl, sym, ap}
use mathlib.Core.Bool.{true}
use mathlib.Core.List.{List}
use mathlib.Core.Logic.{⊎_elim}
use native.Mathlib.Omega.{arith}
use native.Mathlib.Nat.{min-eq_left}
use borrow.Author.Tests.{eqb-true}
use Rattle.std.specs.Prelude.{Option, Some, None, Ok}
use Rattle.rules.proofs.Choice.{either, pick_both}
use Rattle.port.specs.Parts.{FULL_SPEED, HIGH_SPEED, is_size, packet_size}
use Rattle.port.specs.Device.{Device, Result, is_sound}
use Rattle.port.specs.Step.{in_poll, quiet, soundly, step}
use Rattle.port.proofs.Soundness.{sound_of}
use Rattle.text_lines.specs.Given.{length_of}
use Rattle.text_lines.specs.Lines.{lent, of_length, of_the_call}
use Rattle.text_lines.proofs.Reading.{length_fits}
use Rattle.replay.specs.Play.{room, carried_out, told}
use Rattle.replay.specs.Played.{Means, polling}

size_fits : (p : ℕ) → is_size p ≡ true → p ≤ 2048
size_fits p e = ⊎_elim (λ h. let f = eqb-true p FULL_SPEED h in omega arith) (λ h. let f = eqb-true p HIGH_SPEED h in omega arith) (either _ _ e)

pub packet_room : (u : Device) → step u (quiet (in_poll (min (packet_size u.state) 2048))) ≡ step u (quiet (in_poll (packet_size u.state)))
unfolding step
packet_room u =
    pick_both {A = Result} {B = Result} ◌≡◌ (is_sound u) _ _ _ _
    (λ s. ap (λ (n : ℕ). soundly u (quiet (in_poll n))) (min-eq_left (size_fits (packet_size u.state) (sound_of u.state s).port.size))) (λ _. refl)

-- a poll that is lent a buffer of the unit's packet size: a size that is larger than any buffer makes the unit unsound, which refuses
pub poll_room : (u : Device) (own : ℕ) → own ≡ min (packet_size u.state) 2048 → Means u own polling
unfolding carried_out
poll_room u own e of_the_call = ap told (sym (rw e (packet_room u)))
poll_room u own e (of_length n) = refl

-- a buffer that is lent has room in the largest
pub room_fits : (w : List ℕ) (own : ℕ) (said : Option ℕ) → length_of w ≡ Ok said → own ≤ 2048 → room own (lent said) ≤ 2048
room_fits w own None e h = h
room_fits w own (Some n) e h = length_fits w n e
