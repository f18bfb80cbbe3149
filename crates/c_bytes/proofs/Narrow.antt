-- What a unit's bytes can hold: a sound state's numbers have 16 bits, and what was shut is a unit's bytes.
-- Assumes nothing.
use Prim.Native.Nat.{ℕ}
use mathlib.Core.Path.{◌≡◌, refl, ap, ◌∙◌}
use mathlib.Core.Bool.{true}
use mathlib.Core.List.{[]}
use mathlib.Core.Logic.{inl, inr}
use native.Mathlib.Omega.{arith}
use Rattle.rules.specs.Choice.{◌≤ᵇ◌, ◌or◌, ◌&◌, pick}
use Rattle.rules.proofs.Choice.{of_all}
use Rattle.wire.specs.Bytes.{byte}
use Rattle.port.specs.Parts.{out_of}
use Rattle.port.specs.Sound.{sound}
use Rattle.port.specs.Device.{Device, is_sound}
use Rattle.port.specs.Laws.{Stored}
use Rattle.port.specs.declared.types.BulkOut.{BulkOut}
use Rattle.port.specs.declared.types.BulkIn.{BulkIn}
use Rattle.port.specs.declared.types.InTransfer.{InTransfer}
use Rattle.port.specs.declared.types.Split.{Split}
use Rattle.port.specs.declared.types.Split.TheVariants.{None, AbortOut, AbortIn, Clear}
use Rattle.port.specs.declared.types.Remote.{Remote}
use Rattle.port.specs.declared.types.Remote.TheVariants.{Locs, Rems, Lwls, Rwls}
use Rattle.port.specs.declared.types.State.{State}
use Rattle.port.proofs.Sizes.{size_of}
use Rattle.port.proofs.Soundness.{OutSound, Phase, is_closed, is_asked, is_sending, is_owed_lem, SplitSound, sound_of}
use Rattle.c_bytes.specs.Layout.{SPLIT, REMOTE_AT, SPLIT_AT, split_number, count_of, remote_number, split_bytes, part, state_bytes, is_split, is_unit, unit_bytes}
use Rattle.c_bytes.proofs.Again.{Narrow16, Narrow, Fits}
use Rattle.c_bytes.proofs.Parted.{part_of_bytes, byte_of_bytes}

-- ** a sound state

out_narrow : (o : BulkOut) → OutSound o → Narrow16 o.message.held × Narrow16 o.transfer.left × Narrow16 o.transfer.got
out_narrow o (inl h) =
    let room = h.1.room in
    let within = h.1.within in
    (omega arith, omega arith, omega arith)
out_narrow o (inr h) =
    let left = h.0 in
    let held = h.1.held in
    let got = h.1.got in
    (omega arith, omega arith, omega arith)

phase_narrow : (unsent : ℕ) (t : InTransfer) → Phase unsent t → Narrow16 t.asked × Narrow16 t.left × Narrow16 t.sent
phase_narrow unsent t (is_closed e z h) = (omega (arith, h.asked), omega (arith, h.left), omega (arith, h.sent))
phase_narrow unsent t (is_asked e h) = (omega (arith, h.most), omega (arith, h.left), omega (arith, h.sent))
phase_narrow unsent t (is_sending e h) = (omega (arith, h.asked), omega (arith, h.count), omega (arith, h.count))
phase_narrow unsent t (is_owed_lem e z h) = (omega (arith, h.asked), omega (arith, h.left), omega (arith, h.sent))

count_narrow : (s : Split) (o : BulkOut) (b : BulkIn) → SplitSound s o b → Narrow16 (count_of s)
unfolding count_of
count_narrow None o b h = omega arith
count_narrow (AbortOut count) o b h = omega (arith, h.0)
count_narrow (AbortIn count) o b h = omega (arith, h)
count_narrow Clear o b h = omega arith

pub narrow : (st : State) → sound st ≡ true → Narrow st
narrow st e =
    let h = sound_of st e in
    let o = out_narrow (out_of st) h.out in
    let p = phase_narrow _ _ h.inward.phase in
    let reply = h.inward.reply in
    record {
      packet = (size_of _ h.port.size).most;
      held = o.0;
      left = o.1;
      got = o.2;
      at = omega arith;
      unsent = omega arith;
      asked = p.0;
      to_go_lem = p.1;
      sent = p.2;
      count = count_narrow st.split _ _ h.split;
    }

pub fits : (d : Device) → Stored d → is_sound d ≡ true → Fits d
fits d stored e = record { stored = stored; narrow = narrow d.state e }

-- ** bytes that were shut

place_kept : (r : Remote) → (remote_number r ≤ᵇ 3) ≡ true
unfolding remote_number
place_kept Locs = refl
place_kept Rems = refl
place_kept Lwls = refl
place_kept Rwls = refl

split_kept : (s : Split) → is_split (split_bytes s) ≡ true
unfolding split_number count_of ◌or◌ pick
split_kept None = refl
split_kept (AbortOut count) = refl
split_kept (AbortIn count) = refl
split_kept Clear = refl

pub unit_again : (d : Device) → Stored d → is_unit (unit_bytes d) ≡ true
unfolding is_unit state_bytes
unit_again d h =
    of_all (byte (unit_bytes d) REMOTE_AT ≤ᵇ 3 & is_split (part SPLIT_AT SPLIT (unit_bytes d)) & []) (
      ap (λ (p : ℕ). p ≤ᵇ 3) (byte_of_bytes d h REMOTE_AT (omega arith)) ∙ place_kept d.state.remote,
      (ap is_split (part_of_bytes d h SPLIT_AT SPLIT (omega arith)) ∙ split_kept d.state.split, tt),
    )
