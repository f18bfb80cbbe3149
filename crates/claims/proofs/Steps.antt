-- THE EFFECT of a call on the message that a sound unit holds is told by what is heard of it.
-- Assumes nothing.
use Prim.Native.Nat.{ℕ, ◌+◌, ◌≤◌, min}
use mathlib.Core.Path.{◌≡◌, refl, sym, ap, ◌∙◌, subst}
use mathlib.Core.Bool.{true, false}
use mathlib.Core.List.{List, [], ◌∷◌}
use mathlib.Core.Logic.{inl, inr, ⊎_elim}
use native.Mathlib.Omega.{arith}
use lib.ListN.{length, take, drop, length-take, length-drop}
use lib.Seq.{paste, paste-zero}
use borrow.Author.Tests.{eqb-true, eqb-false}
use Rattle.std.specs.Prelude.{Option, Some, None}
use Rattle.rules.specs.Choice.{◌=ᵇ◌, pick}
use Rattle.rules.specs.Answers.{DONE, UNCONFIGURED, WRONG_SIZE, NO_ROW, NOT_NOW, SUCCESS, FAILED, TRANSFER_NOT_IN_PROGRESS, SPLIT_IN_PROGRESS}
use Rattle.rules.proofs.Choice.{pick_all, decide_all, at_true, at_false, not_no}
use Rattle.rules.specs.Flags.{ON}
use Rattle.wire.specs.Setup.{read_setup}
use Rattle.wire.specs.When.{four_at}
use Rattle.wire.specs.declared.types.Header.{Header}
use Rattle.wire.specs.declared.types.Header.TheVariants.{Message, Request, Trigger}
use Rattle.wire.specs.declared.types.Endpoint.TheVariants.{Out, In, Interrupt}
use Rattle.wire.specs.declared.types.Row.{Row}
use Rattle.wire.specs.declared.types.Row.TheVariants.{InitiateAbortBulkOut, CheckAbortBulkOutStatus, InitiateAbortBulkIn, CheckAbortBulkInStatus}
use Rattle.wire.specs.declared.types.Row.TheVariants.{InitiateClear, CheckClearStatus, GetCapabilities, IndicatorPulse, ReadStatusByte}
use Rattle.wire.specs.declared.types.Row.TheVariants.{RenControl, GoToLocal, LocalLockout, ClearFeature, SetFeature, GetStatus}
use Rattle.wire.specs.declared.types.Setup.{Setup}
use Rattle.wire.specs.declared.types.Setup.TheVariants.{Configure, Asks}
use Rattle.port.specs.Parts.{on, packet_size, is_open_out, is_clear, out_of, is_configured, no_message, empty_out, broken, fresh}
use Rattle.port.specs.Answer.{Answer, Said, numbered, refuse}
use Rattle.port.specs.Out.{opened, tagged, outcome, planned, accepted as acceptance, out_plan}
use Rattle.port.specs.Rows.{Reaction, answering, abort_rules, out_tag, initiate_abort_out, clearing, initiate_clear, clear_feature_out, answer_row, effected}
use Rattle.port.specs.Device.{Device, Result, is_sound, with_state, held_of, made}
use Rattle.port.specs.Calls.{refused, said, with_message, bulk_out, setup_rules, asked, setup_outcome}
use Rattle.port.specs.Calls.{answered, setup, take_rules, released, taking, take_message, reset_by_bus}
use Rattle.port.specs.Step.{SetupPacket, Call, setup_packet, out_packet, take_into, bus_reset, quiet, quietly, soundly, step}
use Rattle.port.specs.Breaks.{breaks_row}
use Rattle.port.specs.Laws.{Stored}
use Rattle.port.specs.Trace.{Octets, InOctets}
use Rattle.port.specs.When.{given}
use Rattle.port.specs.declared.types.OutMessage.{OutMessage}
use Rattle.port.specs.declared.types.BulkOut.{BulkOut}
use Rattle.port.specs.Answer.{SetupOutcome}
use Rattle.std.specs.Prelude.{Err}
use Rattle.port.specs.declared.types.State.{State}
use Rattle.port.specs.declared.types.Outcome.{Outcome}
use Rattle.port.specs.declared.types.Outcome.TheVariants.{Keep, Halt, Data, Accept}
use Rattle.wire.proofs.When.{header_law}
use Rattle.port.proofs.Sizes.{Size, size_of}
use Rattle.port.proofs.Soundness.{OutSound, sound_of}
use Rattle.port.proofs.When.{rule_for_every}
use Rattle.port.proofs.KeepsOut.{out_held}
use Rattle.port.proofs.Calls.{step_sound}
use Rattle.claims.specs.Wire.{Heard, nothing, accepted, broken_off, wiped_out, handed_over, heard_packet, heard}
use Rattle.claims.proofs.Between.{face, row_kept, quiet_kept}
use Rattle.claims.proofs.Setups.{in_row, Told, told, heard_done, heard_refused}
use Rattle.claims.proofs.Packets.{Facts, outcome_facts, passing}
use Rattle.claims.proofs.Accepted.{gate, more_bytes, unheld, opens, requests, triggers}
use Rattle.claims.proofs.Effects.{View, view_of, view, Opening, Taken, empty, other, all_at_once, begins}
use Rattle.claims.proofs.Effects.{ends, goes_on, Broken, Wiped, Effect, landed_whole, landed_part}

module _ (u : Device) (stored : Stored u) (sound : is_sound u ≡ true) where
  abbrev st : State
  st = u.state

  abbrev w : View
  w = view u

  s : OutSound (out_of st)
  s = (sound_of st sound).out

  flag : (out_of st).message.ready ≤ 1
  flag = ⊎_elim (λ o. let z = o.1.unready in omega arith) (λ o. o.1.ready) s

  -- the call's result: what is heard of it tells what became of the message
  abbrev Goes : Call → Result → Type 0
  Goes c r = Effect w (heard c r.answer) (view r.unit)

  by_heard : (x y : Heard) (v : View) → x ≡ y → Effect w y v → Effect w x v
  by_heard x y v e k = subst (λ (z : Heard). Effect w z v) (sym e) k

  kept : (v : Device) → face v ≡ face u → Effect w nothing (view v)
  kept v e = ap view_of e

  -- ** a break, and one that leaves nothing

  abbrev with_out : BulkOut → View
  with_out o = view_of (record { out = o; message = u.message; size = packet_size st; configured = is_configured st })

  breaks : (halted : ℕ) → Broken w (with_out (broken halted (out_of st)))
  unfolding broken
  breaks halted =
      let k = pick_all (λ (m : OutMessage). (m.ready ≡ w.ready) × (w.ready ≡ 1 → take m.held u.message ≡ w.held) × (w.ready ≡ 0 → take m.held u.message ≡ []))
      (on (out_of st).message.ready) (out_of st).message no_message
      (λ e. let r : w.ready ≡ 1 = eqb-true _ _ e in (refl, (λ _. refl), (λ z. let q : ◌≡◌ {A = ℕ} 0 1 = sym z ∙ r in absurd (omega arith))))
      (λ e. let r = eqb-false (out_of st).message.ready 1 e in let f = flag in (omega arith, (λ z. absurd (r z)), (λ _. refl))) in
      record { size = refl; left = refl; end = refl; ready = k.0; keeps = k.1; drops = k.2 }

  -- ** setup rows

  abbrev Rows : (Answer → Heard) → Reaction → Type 0
  Rows heeds r = Effect w (heeds r.answer) (view (with_state u (effected st r.effect)))

  calm : (row : Row) → breaks_row row (answer_row st row).answer.bytes ≡ false → Rows (λ _. nothing) (answer_row st row)
  calm row e = kept (with_state u (effected st (answer_row st row).effect)) ((row_kept u row).1 e)

  failing : (x : Heard) (status : ℕ) → (status =ᵇ 1) ≡ false → Effect w (pick (status =ᵇ 1) x nothing) w
  failing x status e = by_heard _ nothing w (at_false _ _ _ e) refl

  succeeds : (x : Heard) (v : View) → Effect w x v → Effect w (pick (SUCCESS =ᵇ 1) x nothing) v
  succeeds x v k = by_heard _ x v (at_true _ _ _ refl) k

  wiped : (halted recent : ℕ) → Wiped w (with_out (empty_out halted recent))
  wiped halted recent = record { size = refl; left = refl; end = refl; ready = refl; held = refl }

  row_goes : (row : Row) → Rows (in_row row) (answer_row st row)
  unfolding answer_row initiate_abort_out initiate_clear effected clearing clear_feature_out
  row_goes (InitiateAbortBulkOut tag) =
      decide_all (Rows (in_row (InitiateAbortBulkOut tag))) (λ status. answering (status ∷ out_tag (out_of st) ∷ [])) (abort_rules st.split (is_open_out (out_of st)) (out_tag (out_of st)) tag) _
      (failing broken_off SPLIT_IN_PROGRESS refl, (failing broken_off FAILED refl, (failing broken_off TRANSFER_NOT_IN_PROGRESS refl, tt)))
      (λ _. succeeds broken_off _ (breaks ON))
  row_goes CheckAbortBulkOutStatus = calm CheckAbortBulkOutStatus refl
  row_goes (InitiateAbortBulkIn tag) = calm (InitiateAbortBulkIn tag) refl
  row_goes CheckAbortBulkInStatus = calm CheckAbortBulkInStatus refl
  row_goes InitiateClear =
      pick_all (Rows (in_row InitiateClear)) (is_clear st.split) _ _ (λ _. failing wiped_out SPLIT_IN_PROGRESS refl) (λ _. succeeds wiped_out _ (wiped ON 0))
  row_goes CheckClearStatus = calm CheckClearStatus refl
  row_goes GetCapabilities = refl
  row_goes IndicatorPulse = refl
  row_goes (ReadStatusByte tag) = calm (ReadStatusByte tag) refl
  row_goes (RenControl ren) = calm (RenControl ren) refl
  row_goes GoToLocal = refl
  row_goes LocalLockout = refl
  row_goes (ClearFeature Out) = breaks _
  row_goes (ClearFeature In) = refl
  row_goes (ClearFeature Interrupt) = refl
  row_goes (SetFeature Out) = breaks ON
  row_goes (SetFeature In) = refl
  row_goes (SetFeature Interrupt) = refl
  row_goes (GetStatus endpoint) = refl

  module _ (p : SetupPacket) where
    abbrev packet : Call
    packet = setup_packet p

    refusing : (n : ℕ) → (n =ᵇ 0) ≡ false → Goes packet (refused u n)
    unfolding heard
    refusing n e = by_heard _ nothing w (heard_refused p.packet _ e) refl

    abbrev Comes : SetupOutcome → Type 0
    Comes x = Goes packet (answered u x)

    answers : (x : Option Setup) → Told p.packet x → Comes (asked st x)
    unfolding heard answered asked made fresh
    answers (Some (Configure value)) k =
        by_heard _ wiped_out _ (heard_done p.packet (numbered DONE) refl ∙ k (numbered DONE)) (record { size = refl; left = refl; end = refl; ready = refl; held = refl })
    answers (Some (Asks row)) k =
        pick_all Comes (is_configured st) _ _
        (λ _. by_heard _ (in_row row (answer_row st row).answer) _ (heard_done p.packet _ (row_kept u row).0 ∙ k _) (row_goes row))
        (λ _. refusing NO_ROW refl)
    answers None k = refusing NO_ROW refl

    setup_goes : Goes packet (setup u p.packet p.room)
    unfolding setup setup_outcome answered
    setup_goes = decide_all Comes Err (setup_rules (length p.packet) p.room) _ (refusing WRONG_SIZE refl, tt) (λ _. answers (read_setup p.packet) (told p.packet))

  -- ** a take

  take_goes : (room : ℕ) → Goes (take_into room) (take_message u room)
  unfolding heard take_message taking released
  take_goes room =
      decide_all (λ (r : Said). Goes (take_into room) (said u r)) (refuse st) (take_rules st room) _
      (refusing UNCONFIGURED refl, (refusing NOT_NOW refl, (refusing WRONG_SIZE refl, tt)))
      (λ n. by_heard _ (handed_over (held_of u)) _ (at_true _ _ _ refl) (record { ready = eqb-true _ _ (not_no _ n.1.0); message = refl; after = refl }))
    where
      refusing : (n : ℕ) → (n =ᵇ 0) ≡ false → Effect w (pick (n =ᵇ 0) (handed_over []) nothing) w
      refusing n e = by_heard _ nothing w (at_false _ _ _ e) refl

  -- ** Bulk-OUT

  module _ (p : List ℕ) (octets : Octets p) where
    -- nothing is put into the store
    unput : (o : BulkOut) → view_of (record { out = o; message = paste u.message (out_of st).message.held p 0; size = packet_size st; configured = is_configured st }) ≡ with_out o
    unput o = ap (λ (m : List ℕ). view_of (record { out = o; message = m; size = packet_size st; configured = is_configured st })) (sym (paste-zero u.message (out_of st).message.held p))

    fours : Size (packet_size st)
    fours = size_of (packet_size st) (sound_of st sound).port.size

    long_enough : length u.message ≡ 1024
    long_enough = stored.message

    held_long : length w.held ≡ (out_of st).message.held
    held_long = let e = out_held st (sound_of st sound) in let l = stored.message in let k = length-take (out_of st).message.held u.message in omega arith

    module _ (g : given u (out_packet p) 0) where
      unready : w.ready ≡ 0
      unready = let n = (gate u p g).2 in let f = flag in omega arith

      comes_data : (count : ℕ) → Facts st p (Data count) → Taken w p (view (with_message u p (planned st (Data count))).unit)
      unfolding planned
      comes_data count f =
          let o = out_of st in
          let room : o.message.held + o.transfer.left ≤ 1024 = ⊎_elim (λ w. w.1.room) (λ w. absurd (f.0 w.0)) s in
          ⊎_elim
          (λ l. ends f.0 l (gate u p g).0 (landed_whole o u.message p count (packet_size st) (is_configured st) long_enough room f.1 l))
          (λ l. goes_on f.0 l.0 l.1 (landed_part o u.message p count (packet_size st) (is_configured st) long_enough room f.1 l.1))
          (more_bytes u p g fours.fours f.0)

      comes_header : (h : Header) (count : ℕ) → Facts st p (Accept h count) → Taken w p (view (with_message u p (planned st (Accept h count))).unit)
      unfolding planned acceptance
      comes_header (Message tag size end) count f =
          let m = header_law.meaning p (Message tag size end) f.3 in
          let k = opens u p g f.0 f.1 octets tag size m.1 m.2 fours.fours (let b = fours.least in omega arith) end m.0 m.3 in
          let o = opened (out_of st) tag size end in
          let l = length-drop 12 p in
          let counted : count ≡ min size (length (drop 12 p)) = f.2 ∙ ap (λ (n : ℕ). min size n) (sym l) in
          let e = held_long in
          let opening : Opening w p = record {
            tag = tag;
            size = size;
            end = end;
            tag_some = k.tag_some;
            tag_fits = k.tag_fits;
            size_some = k.size_some;
            flag = k.flag;
            room = let r = k.room in omega arith;
            bytes = k.bytes;
          } in
          ⊎_elim
          (λ r. all_at_once opening f.0 r k.fits
          (landed_whole o u.message (drop 12 p) count (packet_size st) (is_configured st) long_enough k.room counted r))
          (λ r. begins opening f.0 (let q = r.0 in let n = k.long in let b = fours.least in omega arith) r.1
          (landed_part o u.message (drop 12 p) count (packet_size st) (is_configured st) long_enough k.room counted r.1))
          k.rest
      comes_header (Request tag size enabled term) count f =
          let m = header_law.meaning p (Request tag size enabled term) f.3 in
          other (inl (requests u p g f.0 f.1 octets tag size m.1 m.2 m.0)) f.0
          (ap (λ (n : ℕ). take n u.message) (unheld u p g f.0 f.1 (inl m.0))) (unput (tagged (out_of st) tag))
      comes_header (Trigger tag) count f =
          let m = header_law.meaning p (Trigger tag) f.3 in
          other (inr (triggers u p g f.0 f.1 octets tag (four_at p 4) m.1 refl m.0)) f.0
          (ap (λ (n : ℕ). take n u.message) (unheld u p g f.0 f.1 (inr m.0))) (unput (tagged (out_of st) tag))

    comes : (x : Outcome) → Facts st p x → given u (out_packet p) (planned st x).verdict.number → Goes (out_packet p) (with_message u p (planned st x))
    unfolding heard planned acceptance
    comes (Keep n) f g =
        ⊎_elim
        (λ e. by_heard _ (accepted p) _ (ap (heard_packet p) e.0 ∙ passing p)
        (let z = subst (given u (out_packet p)) e.0 g in (unready z, empty (nil p e.1) e.2 (unput (out_of st)))))
        (λ e. by_heard _ nothing _ e (unput (out_of st))) f
      where
        nil : (l : List ℕ) → length l ≡ 0 → l ≡ []
        nil [] e = refl
        nil (b ∷ l) e = absurd (omega arith)
    comes (Halt n) f g = by_heard _ broken_off _ f (subst (Broken w) (sym (unput (broken ON (out_of st)))) (breaks ON))
    comes (Data count) f g = by_heard _ (accepted p) _ (passing p) (unready g, comes_data g count f)
    comes (Accept (Message tag size end) count) f g = by_heard _ (accepted p) _ (passing p) (unready g, comes_header g (Message tag size end) count f)
    comes (Accept (Request tag size enabled term) count) f g = by_heard _ (accepted p) _ (passing p) (unready g, comes_header g (Request tag size enabled term) count f)
    comes (Accept (Trigger tag) count) f g = by_heard _ (accepted p) _ (passing p) (unready g, comes_header g (Trigger tag) count f)

    out_goes : Goes (out_packet p) (bulk_out u p)
    unfolding soundly bulk_out out_plan
    out_goes =
        comes (outcome st p) (outcome_facts st p) (subst (λ (r : Result). given u (out_packet p) r.answer.verdict.number) (step_sound u (out_packet p) sound)
        (rule_for_every u (out_packet p)))

  -- ** any call

  goes : (c : Call) → InOctets c → Goes c (soundly u c)
  unfolding soundly heard reset_by_bus made fresh
  goes (setup_packet p) i = setup_goes p
  goes (out_packet p) i = out_goes p i
  goes (take_into room) i = take_goes room
  goes bus_reset i = by_heard _ wiped_out _ (at_true _ _ _ refl) (record { size = refl; left = refl; end = refl; ready = refl; held = refl })
  goes (quiet q) i = kept (quietly u q).unit (quiet_kept u q)

  pub effect : (c : Call) → InOctets c → Effect w (heard c (step u c).answer) (view (step u c).unit)
  effect c i = subst (Goes c) (sym (step_sound u c sound)) (goes c i)
