-- What a poll, a setup row and the thermostat's calls make of a sound state is sound.
-- Assumes nothing.
use Prim.Native.Nat.{ℕ, ◌+◌, ◌-◌, ◌≤◌}
use mathlib.Core.Path.{◌≡◌, refl, sym, ◌∙◌, subst}
use mathlib.Core.Bool.{true, false, true≢false, false≢true}
use mathlib.Core.List.{List, [], ◌∷◌, ◌++◌}
use mathlib.Core.Logic.{◌⊎◌, inl, inr, ⊎_elim}
use native.Mathlib.Omega.{arith}
use lib.ListN.{length, take, length-append, length-take}
use borrow.Author.Tests.{eq-eqb, ne_eqb, eqb-false}
use Rattle.rules.specs.Choice.{◌=ᵇ◌, ◌<ᵇ◌, no}
use Rattle.rules.specs.Answers.{SUCCESS}
use Rattle.rules.proofs.Choice.{pick_all, decide_all, at_true, at_false, neb_ne, not_no, none_right}
use Rattle.rules.specs.Flags.{OFF, ON}
use Rattle.wire.specs.declared.types.Endpoint.TheVariants.{Out, In, Interrupt}
use Rattle.wire.specs.declared.types.Row.{Row}
use Rattle.wire.proofs.SetupLaws.{Tagged}
use Rattle.wire.specs.declared.types.Row.TheVariants.{InitiateAbortBulkOut, CheckAbortBulkOutStatus, InitiateAbortBulkIn, CheckAbortBulkInStatus}
use Rattle.wire.specs.declared.types.Row.TheVariants.{InitiateClear, CheckClearStatus, GetCapabilities, IndicatorPulse, ReadStatusByte}
use Rattle.wire.specs.declared.types.Row.TheVariants.{RenControl, GoToLocal, LocalLockout, ClearFeature, SetFeature, GetStatus}
use Rattle.port.specs.Parts.{STORE, CLOSED, ASKED, SENDING, OWED, on, is_open_out, is_open_in, is_owed, has_reply, is_none, keeps_halt, is_clear}
use Rattle.port.specs.Parts.{port_of, out_of, in_of, interrupt_of, closed_in, owed_in, with_port, with_out, with_in, with_interrupt, with_split}
use Rattle.port.specs.Parts.{with_remote, with_ren, with_in_halted, with_interrupt_halted, empty_out, empty_in, broken, shut}
use Rattle.port.specs.Remote.{local_now}
use Rattle.port.specs.Interrupt.{is_waiting}
use Rattle.port.specs.In.{Packet, fixed, header, started, to_go, gone, send, next_packet}
use Rattle.port.specs.Rows.{Reaction, answering, reacts, abort_rules, out_tag, in_tag, initiate_abort_out, initiate_abort_in, check_abort_out, check_abort_in}
use Rattle.port.specs.Rows.{initiate_clear, check_clear, read_status, answer_row, owing, clearing, clear_feature_out, clear_feature_in, effected}
use Rattle.port.specs.Calls.{released, offered}
use Rattle.port.specs.declared.types.Port.{Port}
use Rattle.port.specs.declared.types.BulkOut.{BulkOut}
use Rattle.port.specs.declared.types.InTransfer.{InTransfer}
use Rattle.port.specs.declared.types.BulkIn.{BulkIn}
use Rattle.port.specs.declared.types.InterruptIn.{InterruptIn}
use Rattle.port.specs.declared.types.Remote.{Remote}
use Rattle.port.specs.declared.types.Split.{Split}
use Rattle.port.specs.declared.types.Split.TheVariants.{None, AbortOut, AbortIn, Clear}
use Rattle.port.specs.declared.types.Effect.TheVariants.{AbortsOut, AbortsIn}
use Rattle.port.specs.declared.types.State.{State}
use Rattle.port.proofs.Soundness.{PortSound, OutSound, Idle, SendingIn, Phase, is_closed, is_asked, is_sending}
use Rattle.port.proofs.Soundness.{is_owed_lem, phase_kept, InSound, InterruptSound, ClearSound, SplitSound, Sound}
use Rattle.port.proofs.KeepsInterrupt.{halted_interrupt, queued_interrupt}
use Rattle.port.proofs.KeepsOut.{halt_flag, broken_sound, halted_sound}

-- ** Bulk-IN

-- what closes keeps the reply
shut_sound : (b : BulkIn) → InSound b → InSound (shut b)
unfolding shut
shut_sound b h = record { halted = h.halted; reply = h.reply; phase = is_closed refl refl (record { asked = refl; enabled = refl; term = refl; left = refl; sent = refl }) }

-- a Bulk-IN side that is closed, or that owes no packet more than before: no split minds it, but for what a clear asks of it
pub in_split : (s : Split) (o : BulkOut) (b b' : BulkIn) → SplitSound s o b → (b'.transfer.phase ≡ OWED → b.transfer.phase ≡ OWED)
    → (is_clear s ≡ true → (b'.reply.unsent ≡ 0) × (b'.recent ≡ 0) × ((b'.transfer.phase ≡ CLOSED) ⊎ (b'.transfer.phase ≡ OWED))) → SplitSound s o b'
in_split None o b b' k p c = λ e. k (p e)
in_split (AbortOut count) o b b' k p c = (k.0, k.1, λ e. k.2 (p e))
in_split (AbortIn count) o b b' k p c = k
in_split Clear o b b' k p c = let d = c refl in record { halted = k.halted; held = k.held; no_out_tag = k.no_out_tag; unsent = d.0; no_in_tag = d.1; phase = d.2 }

-- what a clear says of the Bulk-IN side
clear_in : (s : Split) (o : BulkOut) (b : BulkIn) → SplitSound s o b → is_clear s ≡ true → ClearSound o b
clear_in None o b k e = absurd (false≢true e)
clear_in (AbortOut count) o b k e = absurd (false≢true e)
clear_in (AbortIn count) o b k e = absurd (false≢true e)
clear_in Clear o b k e = k

module _ (st : State) (h : Sound st) where
  pub clears : is_clear st.split ≡ true → ClearSound (out_of st) (in_of st)
  clears = clear_in st.split _ _ h.split

  with_in_lem : (b : BulkIn) → InSound b → (b.transfer.phase ≡ OWED → (in_of st).transfer.phase ≡ OWED)
      → (is_clear st.split ≡ true → (b.reply.unsent ≡ 0) × (b.recent ≡ 0) × ((b.transfer.phase ≡ CLOSED) ⊎ (b.transfer.phase ≡ OWED))) → Sound (with_in st b)
  with_in_lem b i p c = record { port = h.port; out = h.out; inward = i; interrupt = h.interrupt; split = in_split st.split _ _ b h.split p c }

  pub shut_in_sound : Sound (with_in st (shut (in_of st)))
  unfolding shut
  shut_in_sound = with_in_lem _ (shut_sound _ h.inward) (λ e. absurd (omega arith)) (λ e. let c = clears e in (c.unsent, c.no_in_tag, inl refl))

  -- ** a packet of an open transfer

  -- what a transfer on its way has to be, however it got there
  pub record Going (b : BulkIn) : Type 0 where
    pub phase : b.transfer.phase ≡ SENDING
    pub sending : SendingIn b.reply.unsent b.transfer
    pub halted : b.halted ≤ 1
    pub reply : b.reply.at + b.reply.unsent ≤ STORE

  going : (unsent : List ℕ) → ((in_of st).transfer.phase ≡ CLOSED → ⊥) → ((in_of st).transfer.phase ≡ OWED → ⊥) → Going (started (in_of st) unsent)
  unfolding started fixed
  going unsent open_now unowed = by h.inward.phase
    where
      by : Phase (in_of st).reply.unsent (in_of st).transfer → Going (started (in_of st) unsent)
      by (is_closed e t i) = absurd (open_now e)
      by (is_owed_lem e t i) = absurd (unowed e)
      by (is_asked e a) =
          let r = h.inward.reply in
          subst Going (sym (at_true ((in_of st).transfer.phase =ᵇ ASKED) _ _ (eq-eqb _ _ e)))
          (record { phase = refl; sending = record { tag = a.tag; stored = omega arith; count = omega arith; asked = refl; enabled = refl; term = refl }; halted = h.inward.halted; reply = r })
      by (is_sending e a) =
          subst Going (sym (at_false ((in_of st).transfer.phase =ᵇ ASKED) _ _ (ne_eqb (in_of st).transfer.phase ASKED (λ z. omega arith))))
          (record { phase = e; sending = a; halted = h.inward.halted; reply = h.inward.reply })

  gone_sound : (b : BulkIn) (k : ℕ) → Going b → k ≤ b.transfer.left → InSound (gone b k)
  unfolding gone
  gone_sound b k g f =
      let r = g.reply in
      let s = g.sending.stored in
      let c = g.sending.count in
      record {
        halted = g.halted;
        reply = omega arith;
        phase = is_sending refl
            (record { tag = g.sending.tag; stored = omega arith; count = omega arith; asked = refl; enabled = refl; term = refl });
      }

  -- no packet takes more data than is left
  packet_fits : (p : ℕ) (unsent : List ℕ) → length (take p (to_go (in_of st) unsent)) - length (header (in_of st) unsent) ≤ (started (in_of st) unsent).transfer.left
  unfolding to_go
  packet_fits p unsent =
      let a = length-take p (header (in_of st) unsent ++ take (started (in_of st) unsent).transfer.left unsent) in
      let b = length-append (header (in_of st) unsent) (take (started (in_of st) unsent).transfer.left unsent) in
      let c = length-take (started (in_of st) unsent).transfer.left unsent in
      omega arith

  send_sound : (p : ℕ) (unsent : List ℕ) → ((in_of st).transfer.phase ≡ CLOSED → ⊥) → ((in_of st).transfer.phase ≡ OWED → ⊥) → Sound (with_in st (send p (in_of st) unsent).side)
  unfolding send shut gone
  send_sound p unsent open_now unowed =
      let g = going unsent open_now unowed in
      let k = length (take p (to_go (in_of st) unsent)) - length (header (in_of st) unsent) in
      let i = gone_sound (started (in_of st) unsent) k g (packet_fits p unsent) in
      pick_all (λ (b : BulkIn). Sound (with_in st b)) (length (take p (to_go (in_of st) unsent)) <ᵇ p) _ _
      (λ _. with_in_lem _ (shut_sound _ i) (λ e. absurd (omega arith)) (λ e. absurd (not_clear e)))
      (λ _. with_in_lem _ i (λ e. absurd (omega arith)) (λ e. absurd (not_clear e)))
    where
      not_clear : is_clear st.split ≡ true → ⊥
      not_clear e = ⊎_elim open_now unowed (clears e).phase

  pub packet_sound_lem : (p : ℕ) (unsent : List ℕ) → ((in_of st).transfer.phase ≡ CLOSED → ⊥) → Sound (with_in st (next_packet p (in_of st) unsent).side)
  unfolding next_packet
  packet_sound_lem p unsent open_now =
      pick_all (λ (r : Packet). Sound (with_in st r.side)) (is_owed (in_of st)) _ _ (λ _. shut_in_sound) (λ e. send_sound p unsent open_now (eqb-false _ _ e))

-- ** setup rows

idle_owed : (tag : ℕ) → Idle (owed_in tag)
idle_owed tag = record { asked = refl; enabled = refl; term = refl; left = refl; sent = refl }

-- an IN transfer that is open has a tag, and what it has sent fits a store
open_tag : (unsent : ℕ) (t : InTransfer) → Phase unsent t → (t.phase ≡ CLOSED → ⊥) → t.tag ≡ 0 → ⊥
open_tag unsent t (is_closed e z i) n = absurd (n e)
open_tag unsent t (is_asked e a) n = a.tag
open_tag unsent t (is_sending e a) n = a.tag
open_tag unsent t (is_owed_lem e z i) n = z

sent_fits : (unsent : ℕ) (t : InTransfer) → Phase unsent t → t.sent ≤ STORE
sent_fits unsent t (is_closed e z i) = let k = i.sent in omega arith
sent_fits unsent t (is_asked e a) = let k = a.sent in omega arith
sent_fits unsent t (is_sending e a) = let k = a.count in omega arith
sent_fits unsent t (is_owed_lem e z i) = let k = i.sent in omega arith

got_fits : (o : BulkOut) → OutSound o → o.transfer.got ≤ STORE
got_fits o (inl w) = let r = w.1.room in let g = w.1.within in omega arith
got_fits o (inr w) = let g = w.1.got in omega arith

owed_sound : (b : BulkIn) (recent : ℕ) → InSound b → (b.transfer.phase ≡ CLOSED → ⊥) → InSound (owing b recent)
owed_sound b recent h n = record { halted = h.halted; reply = omega arith; phase = is_owed_lem refl (open_tag _ _ h.phase n) (idle_owed b.transfer.tag) }

closed_sound : (halted recent : ℕ) → halted ≤ 1 → InSound (empty_in closed_in halted recent)
closed_sound halted recent e = record { halted = e; reply = omega arith; phase = is_closed refl refl (record { asked = refl; enabled = refl; term = refl; left = refl; sent = refl }) }

-- with no split in progress no packet is owed
none_owed : (s : Split) (o : BulkOut) (b : BulkIn) → SplitSound s o b → is_none s ≡ true → b.transfer.phase ≡ OWED → ⊥
none_owed None o b k e = k
none_owed (AbortOut count) o b k e = absurd (false≢true e)
none_owed (AbortIn count) o b k e = absurd (false≢true e)
none_owed Clear o b k e = absurd (false≢true e)

module _ (st : State) (h : Sound st) where
  -- what a row does leaves a sound state
  Leaves : Reaction → Type 0
  Leaves r = Sound (effected st r.effect)

  stays : (bytes : List ℕ) → Leaves (answering bytes)
  unfolding Leaves effected
  stays bytes = h

  -- ** aborts

  abort_out_sound_lem : (tag : ℕ) → Leaves (initiate_abort_out st tag)
  unfolding Leaves initiate_abort_out effected broken
  abort_out_sound_lem tag =
      decide_all Leaves (λ status. answering (status ∷ out_tag (out_of st) ∷ [])) (abort_rules st.split (is_open_out (out_of st)) (out_tag (out_of st)) tag)
      (reacts AbortsOut (SUCCESS ∷ out_tag (out_of st) ∷ [])) (h, (h, (h, tt)))
      (λ n.
      let halted = halted_sound st h in
      record { port = halted.port; out = halted.out; inward = halted.inward; interrupt = h.interrupt; split = (got_fits _ h.out, refl, none_owed st.split _ _ h.split (not_no _ n.0)) })

  abort_in_sound : (tag : ℕ) → Leaves (initiate_abort_in st tag)
  unfolding Leaves initiate_abort_in effected
  abort_in_sound tag =
      decide_all Leaves (λ status. answering (status ∷ in_tag (in_of st) ∷ [])) (abort_rules st.split (is_open_in (in_of st)) (in_tag (in_of st)) tag)
      (reacts AbortsIn (SUCCESS ∷ in_tag (in_of st) ∷ [])) (h, (h, (h, tt)))
      (λ n. record {
        port = h.port;
        out = h.out;
        inward = owed_sound (in_of st) (in_of st).recent h.inward (neb_ne _ _ (not_no _ n.1.0));
        interrupt = h.interrupt;
        split = sent_fits _ _ h.inward.phase;
      })

  -- a split that ends owes no packet
  ended_sound : ((in_of st).transfer.phase ≡ OWED → ⊥) → Sound (with_split st None)
  ended_sound e = record { port = h.port; out = h.out; inward = h.inward; interrupt = h.interrupt; split = e }

  check_out_sound : (s : Split) → st.split ≡ s → Leaves (check_abort_out s)
  unfolding Leaves check_abort_out effected
  check_out_sound None e = h
  check_out_sound (AbortOut count) e = let k : SplitSound (AbortOut count) (out_of st) (in_of st) = rw e at h.split in ended_sound k.2
  check_out_sound (AbortIn count) e = h
  check_out_sound Clear e = h

  check_in_sound : (s : Split) → Leaves (check_abort_in (in_of st) s)
  unfolding Leaves check_abort_in effected
  check_in_sound None = h
  check_in_sound (AbortOut count) = h
  check_in_sound (AbortIn count) = pick_all Leaves (is_owed (in_of st)) _ _ (λ _. h) (λ e. ended_sound (eqb-false _ _ e))
  check_in_sound Clear = h

  -- ** clear

  clearing_sound : Sound (clearing st)
  unfolding clearing
  clearing_sound =
      pick_all (λ (b : BulkIn). Sound (with_split (with_in (with_out st (empty_out ON 0)) b) Clear)) (is_open_in (in_of st)) _ _
      (λ e. made (owed_sound (in_of st) 0 h.inward (neb_ne _ _ e)) (inr refl))
      (λ _. made (closed_sound (in_of st).halted 0 h.inward.halted) (inl refl))
    where
      made : {t : InTransfer} → InSound (empty_in t (in_of st).halted 0) → (t.phase ≡ CLOSED) ⊎ (t.phase ≡ OWED)
          → Sound (with_split (with_in (with_out st (empty_out ON 0)) (empty_in t (in_of st).halted 0)) Clear)
      made i p = record {
        port = h.port;
        out = inr (refl, record { halted = omega arith; ready = omega arith; end = refl; got = refl; held = omega arith; whole = λ e. absurd (omega arith); dropped = λ _ _. refl });
        inward = i;
        interrupt = h.interrupt;
        split = record { halted = refl; held = refl; no_out_tag = refl; unsent = refl; no_in_tag = refl; phase = p };
      }

  initiate_sound : Leaves (initiate_clear st.split)
  unfolding Leaves initiate_clear effected
  initiate_sound = pick_all Leaves (is_clear st.split) _ _ (λ _. h) (λ _. clearing_sound)

  check_clear_sound : Leaves (check_clear (in_of st) st.split)
  unfolding Leaves check_clear effected
  check_clear_sound =
      pick_all Leaves (no (is_clear st.split)) _ _ (λ _. h)
      (λ _. pick_all Leaves (is_owed (in_of st)) _ _ (λ _. h) (λ e. ended_sound (eqb-false _ _ e)))

  -- ** features

  feature_out_sound : Sound (with_out st (clear_feature_out st.split (out_of st)))
  unfolding clear_feature_out
  feature_out_sound =
      pick_all (λ (n : ℕ). Sound (with_out st (broken n (out_of st)))) (keeps_halt st.split) _ _
      (λ _. broken_sound st h (out_of st).halted (halt_flag st h) (kept_halted st.split h.split))
      (λ e. broken_sound st h OFF (omega arith) (λ c. absurd (true≢false (sym c ∙ e))))
    where
      kept_halted : (s : Split) → SplitSound s (out_of st) (in_of st) → keeps_halt s ≡ true → (out_of st).halted ≡ 1
      kept_halted None k e = absurd (false≢true e)
      kept_halted (AbortOut count) k e = k.1
      kept_halted (AbortIn count) k e = absurd (false≢true e)
      kept_halted Clear k e = k.halted

  -- the halt of Bulk-IN is its own
  halt_in : (b : BulkIn) (halted : ℕ) → halted ≤ 1 → InSound b → InSound (with_in_halted b halted)
  halt_in b halted e i = record { halted = e; reply = i.reply; phase = i.phase }

  halted_in_sound : (halted : ℕ) → halted ≤ 1 → Sound (with_in st (with_in_halted (in_of st) halted))
  halted_in_sound halted e = with_in_lem st h _ (halt_in (in_of st) halted e h.inward) (λ p. p) (λ c. let k = clears st h c in (k.unsent, k.no_in_tag, k.phase))

  feature_in_sound : Sound (with_in st (clear_feature_in (in_of st)))
  unfolding clear_feature_in shut
  feature_in_sound =
      pick_all (λ (b : BulkIn). Sound (with_in st b)) (is_owed (in_of st)) _ _
      (λ _. with_in_lem st h _ (shut_sound _ (halt_in (in_of st) OFF (omega arith) h.inward)) (λ e. absurd (omega arith)) (λ c. let k = clears st h c in (k.unsent, k.no_in_tag, inl refl)))
      (λ _. pick_all (λ (b : BulkIn). Sound (with_in st b)) (is_open_in (in_of st)) _ _
      (λ _. with_in_lem st h _ (closed_sound OFF (in_of st).recent (omega arith)) (λ e. absurd (omega arith)) (λ c. let k = clears st h c in (refl, k.no_in_tag, inl refl)))
      (λ _. halted_in_sound OFF (omega arith)))

  -- ** the port

  with_port_lem : (p : Port) → PortSound p → Sound (with_port st p)
  with_port_lem p e = record { port = e; out = h.out; inward = h.inward; interrupt = h.interrupt; split = h.split }

  pub remote_sound : (r : Remote) → Sound (with_remote st r)
  remote_sound r = record { port = h.port; out = h.out; inward = h.inward; interrupt = h.interrupt; split = h.split }

  ren_port : (ren : ℕ) → ren ≤ 1 → PortSound (with_ren (port_of st) ren)
  ren_port ren e = record { size = h.port.size; configured = h.port.configured; ren = e }

  pub local_sound : Sound (local_now st)
  unfolding local_now
  local_sound = record { port = ren_port OFF (omega arith); out = h.out; inward = h.inward; interrupt = h.interrupt; split = h.split }

  -- ** Interrupt-IN

  pub with_interrupt_lem : (i : InterruptIn) → InterruptSound i → Sound (with_interrupt st i)
  with_interrupt_lem i e = record { port = h.port; out = h.out; inward = h.inward; interrupt = e; split = h.split }

  read_status_sound : (tag : ℕ) → (2 ≤ tag) × (tag ≤ 127) → Leaves (read_status (interrupt_of st) tag)
  unfolding Leaves read_status effected
  read_status_sound tag t =
      pick_all Leaves (is_waiting (interrupt_of st)) _ _ (λ _. h) (λ e. with_interrupt_lem _ (queued_interrupt (interrupt_of st) h.interrupt tag t.0 t.1 e))

  halted_interrupt_sound : (halted : ℕ) → halted ≤ 1 → Sound (with_interrupt st (with_interrupt_halted (interrupt_of st) halted))
  halted_interrupt_sound halted e = with_interrupt_lem _ (halted_interrupt (interrupt_of st) h.interrupt halted e)

  -- ** the rows

  pub row_sound : (row : Row) → Tagged row → Sound (effected st (answer_row st row).effect)
  unfolding answer_row Leaves effected
  row_sound (InitiateAbortBulkOut tag) t = abort_out_sound_lem tag
  row_sound CheckAbortBulkOutStatus t = check_out_sound st.split refl
  row_sound (InitiateAbortBulkIn tag) t = abort_in_sound tag
  row_sound CheckAbortBulkInStatus t = check_in_sound st.split
  row_sound InitiateClear t = initiate_sound
  row_sound CheckClearStatus t = check_clear_sound
  row_sound GetCapabilities t = h
  row_sound IndicatorPulse t = h
  row_sound (ReadStatusByte tag) t = read_status_sound tag t
  row_sound (RenControl ren) t = pick_all Sound (on ren) _ _ (λ _. with_port_lem _ (ren_port ON (omega arith))) (λ _. local_sound)
  row_sound GoToLocal t = remote_sound _
  row_sound LocalLockout t = remote_sound _
  row_sound (ClearFeature Out) t = feature_out_sound
  row_sound (ClearFeature In) t = feature_in_sound
  row_sound (ClearFeature Interrupt) t = halted_interrupt_sound OFF (omega arith)
  row_sound (SetFeature Out) t = halted_sound st h
  row_sound (SetFeature In) t = halted_in_sound ON (omega arith)
  row_sound (SetFeature Interrupt) t = halted_interrupt_sound ON (omega arith)
  row_sound (GetStatus endpoint) t = h

  -- ** the thermostat's calls

  pub released_sound : (out_of st).message.ready ≡ 1 → Sound (with_out st (released (out_of st)))
  unfolding released
  released_sound r = record {
    port = h.port;
    out = ⊎_elim (λ w. let z = w.1.unready in absurd (omega arith))
        (λ w. let o = w.1 in inr (w.0, record { halted = o.halted; ready = omega arith; end = o.end; got = o.got; held = omega arith; whole = λ e. absurd (omega arith); dropped = λ _ _. refl }))
        h.out;
    inward = h.inward;
    interrupt = h.interrupt;
    split = split st.split h.split;
  }
    where
      split : (s : Split) → SplitSound s (out_of st) (in_of st) → SplitSound s (released (out_of st)) (in_of st)
      split None k = k
      split (AbortOut count) k = k
      split (AbortIn count) k = k
      split Clear k = record { halted = k.halted; held = refl; no_out_tag = k.no_out_tag; unsent = k.unsent; no_in_tag = k.no_in_tag; phase = k.phase }

  pub offered_sound : (n : ℕ) → n ≤ STORE → has_reply (in_of st) ≡ false → is_clear st.split ≡ false → Sound (with_in st (offered (in_of st) n))
  unfolding offered
  offered_sound n e r c =
      with_in_lem st h _
      (record {
        halted = h.inward.halted;
        reply = omega arith;
        phase = phase_kept (in_of st).reply.unsent n (in_of st).transfer
            (λ e. absurd (eqb-false (in_of st).transfer.phase SENDING (none_right _ _ r) e)) h.inward.phase;
      }) (λ p. p) (λ k. absurd (true≢false (sym k ∙ c)))
