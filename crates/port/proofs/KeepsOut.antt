-- What power-on, a halt, data and a header make of a sound state is sound.
-- Assumes nothing.
use Prim.Native.Nat.{ℕ, ◌+◌, ◌-◌, ◌≤◌, ◌<◌, min}
use mathlib.Core.Path.{◌≡◌, refl}
use mathlib.Core.Bool.{Bool, true, false, false≢true}
use mathlib.Core.List.{List}
use mathlib.Core.Logic.{◌⊎◌, inl, inr, ⊎_elim}
use native.Mathlib.Omega.{arith}
use lib.ListN.{length}
use borrow.Author.Tests.{eqb-true, eqb-false, ltb-true, ltb-false, lt-ltb}
use Rattle.rules.specs.Choice.{◌=ᵇ◌, ◌≠ᵇ◌, ◌<ᵇ◌, no}
use Rattle.rules.proofs.Choice.{pick_all, none_right, not_both}
use Rattle.rules.specs.Flags.{ON}
use Rattle.wire.specs.Header.{HEADER, aligned}
use Rattle.wire.specs.declared.types.Header.{Header}
use Rattle.wire.specs.declared.types.Header.TheVariants.{Message, Request, Trigger}
use Rattle.port.specs.Parts.{STORE, is_size, OWED, on, keeps_halt, out_of}
use Rattle.port.specs.Parts.{in_of, packet_size, closed_out, with_out, fresh, broken, halted_out}
use Rattle.port.specs.Out.{wrong_length, data_length, absorbed, opened, tagged, accepted, planned}
use Rattle.port.specs.declared.types.Setting.{Setting}
use Rattle.port.specs.declared.types.OutMessage.{OutMessage}
use Rattle.port.specs.declared.types.BulkOut.{BulkOut}
use Rattle.port.specs.declared.types.BulkIn.{BulkIn}
use Rattle.port.specs.declared.types.Split.{Split}
use Rattle.port.specs.declared.types.Split.TheVariants.{None, AbortOut, AbortIn, Clear}
use Rattle.port.specs.declared.types.State.{State}
use Rattle.port.specs.declared.types.Outcome.TheVariants.{Data, Accept}
use Rattle.port.proofs.Sizes.{size_of}
use Rattle.port.proofs.Soundness.{RestingOut, OutSound, is_closed, is_asked, SplitSound, Sound}
use Rattle.port.proofs.Ways.{Passed, Continues, Heads}

pub cases : (t : Bool) → (t ≡ true) ⊎ (t ≡ false)
cases true = inl refl
cases false = inr refl

-- ** power-on

pub fresh_sound : (setting : Setting) (configured : ℕ) → is_size setting.packet ≡ true → configured ≤ 1 → Sound (fresh setting configured)
unfolding fresh no ◌≠ᵇ◌
fresh_sound setting configured size c = record {
  port = record { size = size; configured = c; ren = omega arith };
  out = inr (refl, record { halted = omega arith; ready = omega arith; end = refl; got = refl; held = omega arith; whole = λ e. absurd (omega arith); dropped = λ e. absurd (omega arith) });
  inward = record { halted = omega arith; reply = omega arith; phase = is_closed refl refl (record { asked = refl; enabled = refl; term = refl; left = refl; sent = refl }) };
  interrupt = record { halted = omega arith; waiting = λ e. absurd (false≢true e); silent = λ _. (refl, refl) };
  split = λ e. absurd (omega arith);
}

-- ** a halt, or the end of one

module _ (st : State) (h : Sound st) where
  pub out_held : (out_of st).message.held ≤ STORE
  out_held = ⊎_elim (λ w. let r = w.1.room in omega arith) (λ w. w.1.held) h.out

  pub out_ready : (out_of st).message.ready ≤ 1
  out_ready = ⊎_elim (λ w. let r = w.1.unready in omega arith) (λ w. w.1.ready) h.out

  pub halt_flag : (out_of st).halted ≤ 1
  halt_flag = ⊎_elim (λ w. let z = w.1.running in omega arith) (λ w. w.1.halted) h.out

  -- a ready message has a byte
  out_whole : (out_of st).message.ready ≡ 1 → (out_of st).message.held ≡ 0 → ⊥
  out_whole r = ⊎_elim (λ w. let z = w.1.unready in absurd (omega arith)) (λ w. w.1.whole r) h.out

  pub broken_sound : (halted : ℕ) → halted ≤ 1 → (keeps_halt st.split ≡ true → halted ≡ 1) → Sound (with_out st (broken halted (out_of st)))
  unfolding broken
  broken_sound halted bound keeps = record {
    port = h.port;
    out = inr (
      refl,
      pick_all Resting (on (out_of st).message.ready) _ _
          (λ e. let r = eqb-true _ _ e in record { halted = bound; ready = out_ready; end = refl; got = refl; held = out_held; whole = out_whole; dropped = λ _ n. absurd (n r) })
          (λ _. record { halted = bound; ready = omega arith; end = refl; got = refl; held = omega arith; whole = λ e. absurd (omega arith); dropped = λ _ _. refl }),
    );
    inward = h.inward;
    interrupt = h.interrupt;
    split = split st.split h.split keeps;
  }
    where
      Resting : OutMessage → Type 0
      Resting m = RestingOut (record { message = m; transfer = closed_out; halted = halted; recent = (out_of st).recent })

      split : (s : Split) → SplitSound s (out_of st) (in_of st) → (keeps_halt s ≡ true → halted ≡ 1) → SplitSound s (broken halted (out_of st)) (in_of st)
      split None k e = k
      split (AbortOut count) k e = (k.0, e refl, k.2)
      split (AbortIn count) k e = k
      split Clear k e = record {
        halted = e refl;
        held = pick_all (λ (m : OutMessage). m.held ≡ 0) (on (out_of st).message.ready) _ _ (λ _. k.held) (λ _. refl);
        no_out_tag = k.no_out_tag;
        unsent = k.unsent;
        no_in_tag = k.no_in_tag;
        phase = k.phase;
      }

  pub halted_sound : Sound (halted_out st)
  halted_sound = broken_sound ON (omega arith) (λ _. refl)

-- ** data and headers on Bulk-OUT

-- while Bulk-OUT runs, no clear and no abort-OUT is in progress: all may change but that a packet comes to be owed
running_split : (s : Split) (o o' : BulkOut) (b b' : BulkIn) → SplitSound s o b → (o.halted ≡ 1 → ⊥) → (b'.transfer.phase ≡ OWED → b.transfer.phase ≡ OWED) → SplitSound s o' b'
running_split None o o' b b' k r p = λ e. k (p e)
running_split (AbortOut count) o o' b b' k r p = absurd (r k.1)
running_split (AbortIn count) o o' b b' k r p = k
running_split Clear o o' b b' k r p = absurd (r k.halted)

-- `count` bytes of an open transfer: some are left to come, or it is complete
absorbed_sound : (o : BulkOut) (count : ℕ) → o.halted ≡ 0 → o.transfer.end ≤ 1 → (o.recent ≡ 0 → ⊥) → o.message.held + o.transfer.left ≤ STORE → o.transfer.got ≤ o.message.held
    → count ≤ o.transfer.left
    → (o.transfer.got + count ≡ 0 → ⊥) → OutSound (absorbed o count)
unfolding absorbed
absorbed_sound o count running end tag room within fits some =
    pick_all OutSound (o.transfer.left =ᵇ count) _ _
    (λ e.
    let full = eqb-true o.transfer.left count e in
    inr (refl, record { halted = omega arith; ready = end; end = refl; got = refl; held = omega arith; whole = λ _ z. some (omega arith); dropped = λ h. absurd (omega arith) }))
    (λ e.
    let less = eqb-false o.transfer.left count e in
    inl (λ z. less (omega arith), record { running = running; unready = refl; end = end; tag = tag; some = some; within = omega arith; room = omega arith }))

module _ (st : State) (s : List ℕ) where
  running : Passed st (length s) → (out_of st).halted ≡ 1 → ⊥
  running p e = eqb-false _ _ p.running e

  pub data_sound : Sound st → Continues st s → Sound (planned st (Data (min (out_of st).transfer.left (length s)))).state
  unfolding planned
  data_sound h c =
      record {
        port = h.port;
        out = ⊎_elim
            (λ w. let o = w.1 in let r = o.room in let g = o.within in absorbed_sound (out_of st) (min (out_of st).transfer.left (length s)) o.running o.end o.tag r g
            (omega arith) (λ e. o.some (omega arith)))
            (λ w. absurd (c.is_open w.0))
            h.out;
        inward = h.inward;
        interrupt = h.interrupt;
        split = running_split st.split _ _ _ _ h.split (running c.passed) (λ e. e);
      }

  -- a message whose header packet does not bring all of it came in a full packet
  part_full : (size : ℕ) → wrong_length (packet_size st) (length s) (HEADER + aligned size) ≡ false → is_size (packet_size st) ≡ true → length s - HEADER < size → HEADER < length s
  part_full size e p l =
      let long : HEADER < packet_size st = let k = (size_of (packet_size st) p).least in omega arith in
      let f = not_both (length s <ᵇ HEADER + aligned size) (length s <ᵇ packet_size st) (none_right (HEADER + aligned size <ᵇ length s) _ e) in
      ⊎_elim (λ d. let b : length s < HEADER + aligned size = d in let w : packet_size st ≤ length s = ltb-false _ _ (f (lt-ltb _ _ b)) in omega arith)
      (λ d. let b : HEADER + aligned size ≤ length s = d in omega arith) (either_order (length s) (HEADER + aligned size))
    where
      either_order : (m n : ℕ) → (m < n) ⊎ (n ≤ m)
      either_order m n = ⊎_elim (λ e. inl (ltb-true m n e)) (λ e. inr (ltb-false m n e)) (cases (m <ᵇ n))

  resting : (o : BulkOut) → o.transfer.left ≡ 0 → OutSound o → RestingOut o
  resting o e (inl w) = absurd (w.0 e)
  resting o e (inr w) = w.1

  -- between transfers the most recent tag is free
  tagged_sound : (tag : ℕ) → (out_of st).transfer.left ≡ 0 → OutSound (out_of st) → OutSound (tagged (out_of st) tag)
  tagged_sound tag e h = let r = resting (out_of st) e h in inr (e, record { halted = r.halted; ready = r.ready; end = r.end; got = r.got; held = r.held; whole = r.whole; dropped = r.dropped })

  pub accept_sound : Sound st → (h : Header) → Heads st s h → Sound (planned st (Accept h (min (data_length h) (length s - HEADER)))).state
  unfolding planned accepted
  accept_sound h (Message tag size end) c =
      let r = resting (out_of st) c.between h.out in
      let law = c.reads.2 in
      let room : (out_of st).message.held + size ≤ STORE = ltb-false _ _ c.none.1.0 in
      record {
        port = h.port;
        out = absorbed_sound (opened (out_of st) tag size end) (min size (length s - HEADER)) (let b = r.halted in
            let n = running c.passed in ⊎_elim (λ e. absurd (n e)) (λ e. e) (flag (out_of st).halted b)) law.2 law.0 room (omega arith) (omega arith)
            (λ e. law.1 (⊎_elim (λ l. let f : HEADER < length s = part_full size c.none.1.1.0 h.port.size (ltb-true _ _ l) in absurd (omega arith))
            (λ l. let b : size ≤ length s - HEADER = ltb-false _ _ l in omega arith) (cases (length s - HEADER <ᵇ size))));
        inward = h.inward;
        interrupt = h.interrupt;
        split = running_split st.split _ _ _ _ h.split (running c.passed) (λ e. e);
      }
    where
      flag : (n : ℕ) → n ≤ 1 → (n ≡ 1) ⊎ (n ≡ 0)
      flag n e = ⊎_elim (λ t. inl (eqb-true n 1 t)) (λ t. let z = eqb-false n 1 t in inr (omega arith)) (cases (n =ᵇ 1))
  accept_sound h (Request tag size enabled term) c =
      let law = c.reads.2 in
      record {
        port = h.port;
        out = tagged_sound tag c.between h.out;
        inward = record {
          halted = h.inward.halted;
          reply = h.inward.reply;
          phase = is_asked refl (record { tag = law.0; some = λ e. law.1 (omega arith); most = omega arith; enabled = law.2; term = law.3; left = refl; sent = refl });
        };
        interrupt = h.interrupt;
        split = running_split st.split _ _ _ _ h.split (running c.passed) (λ e. absurd (omega arith));
      }
  accept_sound h (Trigger tag) c =
      record {
        port = h.port;
        out = tagged_sound tag c.between h.out;
        inward = h.inward;
        interrupt = h.interrupt;
        split = running_split st.split _ _ _ _ h.split (running c.passed) (λ e. e);
      }
