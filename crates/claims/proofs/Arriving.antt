-- A REPLY ARRIVES: what may come leaves both endpoints running and Bulk-OUT at rest, and then the rules of 01 (RuleForEvery) leave no other answer than the
-- one that is due.
-- Assumes nothing.
use Prim.Native.Nat.{ℕ, suc, ◌+◌, ◌*◌, ◌/◌, ◌%◌, ◌≤◌, ◌<◌}
use mathlib.Core.Path.{◌≡◌, refl, sym, ap, ◌∙◌, subst}
use mathlib.Core.Bool.{true, true≢false}
use mathlib.Core.List.{List, [], ◌∷◌, ◌++◌, append-nil}
use mathlib.Core.Logic.{◌⊎◌, inl, inr, ⊎_elim}
use native.Mathlib.Nat.{div-eq_of_lt, div-div-eq-div-mul}
use native.Mathlib.Omega.{arith}
use lib.ListN.{length, take, drop}
use lib.Seq.{drop-nil}
use borrow.Author.Tests.{eqb-true}
use Rattle.std.specs.Prelude.{Option, Some, None}
use Rattle.rules.specs.Answers.{refusing}
use Rattle.rules.specs.Choice.{◌=ᵇ◌}
use Rattle.rules.specs.When.{Not}
use Rattle.rules.proofs.Choice.{Each, pick_all, decide_all, not_no}
use Rattle.wire.specs.Setup.{read_setup}
use Rattle.wire.specs.When.{at, Requests, BadRequest, Column, rows, RowOf}
use Rattle.wire.specs.declared.types.Header.TheVariants.{Message, Request, Trigger}
use Rattle.wire.specs.declared.types.Row.{Row}
use Rattle.wire.specs.declared.types.Setup.{Setup}
use Rattle.wire.specs.declared.types.Setup.TheVariants.{Configure, Asks}
use Rattle.wire.proofs.When.{setup_law}
use Rattle.port.specs.Parts.{on, is_owed, is_clear, port_of, out_of, in_of, interrupt_of, packet_size, with_in, ASKED, shut as shut-off}
use Rattle.port.specs.Remote.{local_now}
use Rattle.port.specs.Answer.{Answer, Said, refuse}
use Rattle.port.specs.Out.{plain, outcome, planned, accepted, out_plan}
use Rattle.port.specs.In.{Packet, fixed, started, gone, send, next_packet, in_rules, poll}
use Rattle.port.specs.Interrupt.{is_waiting, interrupt_rules, poll_interrupt}
use Rattle.port.specs.Rows.{Reaction, check_abort_out, check_abort_in, check_clear, read_status, answer_row, effected}
use Rattle.port.specs.Device.{Device, Result, is_sound, unsent_of}
use Rattle.port.specs.Calls.{bulk_out, bulk_in, interrupt_in, setup_rules, asked as asks-for, setup_outcome, answered, setup}
use Rattle.port.specs.Calls.{take_rules, taking, take_message, offer_rules, offered, offer_plan, with_reply, offer}
use Rattle.port.specs.Calls.{thermostat_rules, status_set, set_status_byte, returned, panel, suspend}
use Rattle.port.specs.Step.{Quiet, in_poll, interrupt_poll, offer_reply, set_status, front_panel, bus_suspend}
use Rattle.port.specs.Step.{Call, setup_packet, out_packet, take_into, bus_reset, quiet, quietly, soundly, step}
use Rattle.port.specs.Trace.{Event, trace}
use Rattle.port.specs.Laws.{Stored}
use Rattle.port.specs.When.{Unsound, Unconfigured, InOpen, Owed, ReplyStored, of_header, given}
use Rattle.port.specs.Reply.{InLine, shut, owing, asked, sending, Reader, unread, after_call, Free, Closed}
use Rattle.port.specs.declared.types.OutMessage.{OutMessage}
use Rattle.port.specs.declared.types.OutTransfer.{OutTransfer}
use Rattle.port.specs.declared.types.BulkIn.{BulkIn}
use Rattle.port.specs.declared.types.Split.{Split}
use Rattle.port.specs.declared.types.Split.TheVariants.{None, AbortOut, AbortIn, Clear}
use Rattle.port.specs.Answer.{SetupOutcome}
use Rattle.std.specs.Prelude.{Err}
use Rattle.port.specs.declared.types.State.{State}
use Rattle.port.specs.declared.types.Plan.{Plan}
use Rattle.port.specs.declared.types.Outcome.{Outcome}
use Rattle.port.specs.declared.types.Outcome.TheVariants.{Keep, Halt, Data, Accept}
use Rattle.port.proofs.Soundness.{Sound, sound_of}
use Rattle.port.proofs.KeepsIn.{clears}
use Rattle.port.proofs.Calls.{row_done, step_sound, keeps_sound, keeps_stored}
use Rattle.port.proofs.When.{rule_for_every}
use Rattle.port.proofs.Sending.{Line}
use Rattle.port.proofs.Readers.{find, ◌▹◌, Came, came}
use Rattle.port.proofs.Replies.{seen, Agreed, whole, long, steps, reads}
use Rattle.claims.specs.Command.{request_bytes, IsRequest}
use Rattle.claims.specs.Replies.{polled_in, Drops, NoDrops, Harmless, MayCome, AllCome, poll_due, ReplyDue, Arriving, Ready, ReplyArrives, WholeReply}
use Rattle.claims.proofs.Replies.{each_byte_once, wide}

-- ** what such calls leave: Bulk-OUT but for its tag, that it is configured, and that Bulk-IN runs

record Rests : Type 0 where
  configured : ℕ
  message : OutMessage
  transfer : OutTransfer
  out_halted : ℕ
  in_halted : ℕ

abbrev rests : State → Rests
rests st = record { configured = (port_of st).configured; message = (out_of st).message; transfer = (out_of st).transfer; out_halted = (out_of st).halted; in_halted = (in_of st).halted }

module _ (u : Device) where
  abbrev st : State
  st = u.state

  abbrev Kept : State → Type 0
  Kept s = rests s ≡ rests st

  -- a Bulk-IN side that runs as before
  side_kept : (x : BulkIn) → x.halted ≡ (in_of st).halted → Kept (with_in st x)
  side_kept x e = ap (λ (n : ℕ). record { configured = (port_of st).configured; message = (out_of st).message; transfer = (out_of st).transfer; out_halted = (out_of st).halted; in_halted = n }) e

  packet_kept : (p : ℕ) (unsent : List ℕ) → (send p (in_of st) unsent).side.halted ≡ (in_of st).halted
  unfolding send gone started fixed shut-off
  packet_kept p unsent = pick_all (λ (x : BulkIn). x.halted ≡ (in_of st).halted) _ _ _ (λ _. started_kept) (λ _. started_kept)
    where
      started_kept : (started (in_of st) unsent).halted ≡ (in_of st).halted
      started_kept = pick_all (λ (x : BulkIn). x.halted ≡ (in_of st).halted) ((in_of st).transfer.phase =ᵇ ASKED) _ _ (λ _. refl) (λ _. refl)

  quiet_kept : (q : Quiet) → Kept (quietly u q).unit.state
  unfolding quietly bulk_in poll interrupt_in poll_interrupt next_packet shut-off offer offered offer_plan set_status_byte status_set panel returned suspend local_now
  quiet_kept (in_poll room) =
      decide_all (λ (x : Said). Kept x.state) (refuse st) (in_rules st room) _ (refl, (refl, (refl, (refl, tt))))
      (λ _. pick_all (λ (x : Packet). Kept (with_in st x.side)) (is_owed (in_of st)) _ _ (λ _. refl)
      (λ _. side_kept (send (packet_size st) (in_of st) (unsent_of u)).side (packet_kept (packet_size st) (unsent_of u))))
  quiet_kept (interrupt_poll room) = decide_all (λ (x : Said). Kept x.state) (refuse st) (interrupt_rules st room) _ (refl, (refl, (refl, (refl, tt)))) (λ _. refl)
  quiet_kept (offer_reply bytes) =
      decide_all (λ (x : Plan). Kept (with_reply u bytes x).unit.state) (λ k. plain st (refusing k)) (offer_rules st (length bytes)) _ (refl, (refl, (refl, tt))) (λ _. refl)
  quiet_kept (set_status status) = decide_all (λ (x : Said). Kept x.state) (refuse st) (thermostat_rules st) _ (refl, tt) (λ _. refl)
  quiet_kept front_panel = decide_all (λ (x : Said). Kept x.state) (refuse st) (thermostat_rules st) _ (refl, tt) (λ _. refl)
  quiet_kept bus_suspend = refl

  -- nothing is taken where nothing is ready
  take_kept : (room : ℕ) → Not ((out_of st).message.ready ≡ 1) → Kept (take_message u room).unit.state
  unfolding take_message taking
  take_kept room n =
      decide_all (λ (x : Said). Kept x.state) (refuse st) (take_rules st room) _ (refl, (refl, (refl, tt)))
      (λ k. absurd (n (eqb-true _ _ (not_no _ k.1.0))))

  -- ** setup rows

  abbrev KeptBy : SetupOutcome → Type 0
  KeptBy x = Kept (answered u x).unit.state

  row_kept : (row : Row) → Kept (effected st (answer_row st row).effect) → KeptBy (asks-for st (Some (Asks row)))
  unfolding answered asks-for
  row_kept row k = pick_all KeptBy _ _ _ (λ _. k) (λ _. refl)

  abbrev Safe : Column × (ℕ → Setup) → Type 0
  Safe c = (c.0.index < 256) × (Harmless c.0.type c.0.request c.0.index → (v : ℕ) → KeptBy (asks-for st (Some (c.1 v))))

  abbrev Reacts : Reaction → Type 0
  Reacts x = Kept (effected st x.effect)

  checks : (x : Split) → Reacts (check_abort_out x) × Reacts (check_abort_in (in_of st) x)
  unfolding check_abort_out check_abort_in effected
  checks None = (refl, refl)
  checks (AbortOut count) = (refl, refl)
  checks (AbortIn count) = (refl, pick_all Reacts (is_owed (in_of st)) _ _ (λ _. refl) (λ _. refl))
  checks Clear = (refl, refl)

  all_safe : Each Safe rows
  unfolding answer_row effected check_clear read_status local_now
  all_safe =
      (omega arith, λ h. absurd (h.2 (refl, refl))) ▹ (omega arith, λ _ _. row_kept _ (checks st.split).0) ▹
      (omega arith, λ h. absurd (h.3 (refl, refl))) ▹ (omega arith, λ _ _. row_kept _ (checks st.split).1) ▹
      (omega arith, λ h. absurd (h.4 (refl, refl))) ▹
      (omega arith, λ _ _. row_kept _ (pick_all Reacts _ _ _ (λ _. refl) (λ _. pick_all Reacts (is_owed (in_of st)) _ _ (λ _. refl) (λ _. refl)))) ▹
      (omega arith, λ _ _. row_kept _ refl) ▹ (omega arith, λ _ _. row_kept _ refl) ▹
      (omega arith, λ _ tag. row_kept _ (pick_all Reacts (is_waiting (interrupt_of st)) _ _ (λ _. refl) (λ _. refl))) ▹
      (omega arith, λ _ ren. row_kept _ (pick_all Kept (on ren) _ _ (λ _. refl) (λ _. refl))) ▹
      (omega arith, λ _ _. row_kept _ refl) ▹ (omega arith, λ _ _. row_kept _ refl) ▹
      (omega arith, λ h. absurd (other (h.1 refl) (omega arith))) ▹ (omega arith, λ h. absurd (other (h.1 refl) (omega arith))) ▹ (omega arith, λ _ _. row_kept _ refl) ▹
      (omega arith, λ h. absurd (other (h.1 refl) (omega arith))) ▹ (omega arith, λ h. absurd (other (h.1 refl) (omega arith))) ▹ (omega arith, λ _ _. row_kept _ refl) ▹
      (omega arith, λ _ _. row_kept _ refl) ▹ (omega arith, λ _ _. row_kept _ refl) ▹ (omega arith, λ _ _. row_kept _ refl) ▹
      (omega arith, λ h. absurd (h.0 refl)) ▹ tt
    where
      -- an endpoint below 0x83
      other : {n : ℕ} → n ≡ 0x83 → n < 0x83 → ⊥
      other e l = omega arith

  setup_kept : (s : List ℕ) (room : ℕ) → Harmless (at s 0) (at s 1) (at s 4) → Kept (setup u s room).unit.state
  unfolding setup setup_outcome answered asks-for
  setup_kept s room h =
      decide_all KeptBy Err (setup_rules (length s) room) _ (refl, tt)
      (λ _. by (read_setup s) (setup_law s))
    where
      by : (x : Option Setup) → RowOf s x → KeptBy (asks-for st x)
      by None _ = refl
      by (Some x) m =
          let f = find s Safe rows x all_safe m in
          let index : at s 4 ≡ f.row.0.index = let l = f.holds.0 in let e = f.fits.index in omega arith in
          let row = f.row.0 in
          subst (λ (x : Setup). KeptBy (asks-for st (Some x))) (sym f.asks)
          (f.holds.1 (subst (λ (n : ℕ). Harmless n row.request row.index) f.fits.type
          (subst (λ (n : ℕ). Harmless (at s 0) n row.index) f.fits.request (subst (Harmless (at s 0) (at s 1)) index h))) _)

  -- one that is refused
  refused_kept : (s : List ℕ) (room : ℕ) → Not ((setup u s room).answer.verdict.number ≡ 0) → Kept (setup u s room).unit.state
  unfolding setup setup_outcome answered asks-for
  refused_kept s room = decide_all Refused Err (setup_rules (length s) room) _ (λ _. refl, tt) (λ _. by (read_setup s))
    where
      Refused : SetupOutcome → Type 0
      Refused x = Not ((answered u x).answer.verdict.number ≡ 0) → KeptBy x

      by : (x : Option Setup) → Refused (asks-for st x)
      by (Some (Configure value)) n = absurd (n refl)
      by (Some (Asks row)) n = pick_all Refused _ _ _ (λ _ n. absurd (n (row_done st row))) (λ _ _. refl) n
      by None n = refl

  -- ** a REQUEST

  request_kept : (s : List ℕ) → Requests s → (out_of st).transfer.left ≡ 0 → (x : Outcome) → Came st s x → (planned st x).verdict.number ≡ 0 → Kept (planned st x).state
  unfolding planned accepted
  request_kept s q l (Keep n) c z = refl
  request_kept s q l (Halt n) c z = let k = c.0 in absurd (omega arith)
  request_kept s q l (Data count) c z = absurd (c.0 l)
  request_kept s q l (Accept (Message tag size end) count) c z = let k = c.2.0 in absurd (omega arith)
  request_kept s q l (Accept (Request tag size enabled term) count) c z = refl
  request_kept s q l (Accept (Trigger tag) count) c z = let k = c.2.0 in absurd (omega arith)

-- ** what is due

-- the lines below one whose condition does not hold
past : {m n : ℕ} {G B : Type 0} → Not G → ((n ≡ m) × G) ⊎ (Not G × B) → B
past z (inl x) = absurd (z x.1)
past z (inr x) = x.1

-- and the number of one that does
given_now : {m n : ℕ} {G B : Type 0} → G → ((n ≡ m) × G) ⊎ (Not G × B) → n ≡ m
given_now g (inl x) = x.0
given_now g (inr x) = absurd (x.0 g)

-- a number whose four bytes are 0
no_bytes : (n : ℕ) → n ≤ 4294967295 → n % 256 + 256 * (n / 256 % 256) + 65536 * (n / 65536 % 256) + 16777216 * (n / 16777216 % 256) ≡ 0 → n ≡ 0
no_bytes n fits e =
    let zeros : (a b c d : ℕ) → a + 256 * b + 65536 * c + 16777216 * d ≡ 0 → (a ≡ 0) × (b ≡ 0) × (c ≡ 0) × (d ≡ 0) = λ a b c d e. (omega arith, omega arith, omega arith, omega arith) in
    let low : (m : ℕ) → m % 256 ≡ 0 → m / 256 ≡ 0 → m ≡ 0 = λ m a b. omega arith in
    let z = zeros (n % 256) (n / 256 % 256) (n / 65536 % 256) (n / 16777216 % 256) e in
    let top : n / 16777216 / 256 ≡ 0 = div-div-eq-div-mul n 16777216 256 ∙ div-eq_of_lt (omega arith) in
    let c = low (n / 65536) z.2 (div-div-eq-div-mul n 65536 256 ∙ low (n / 16777216) z.3 top) in
    low n z.0 (low (n / 256) z.1 (div-div-eq-div-mul n 256 256 ∙ c))

record Steady (w : Rests) : Type 0 where
  configured : w.configured ≡ 1
  out_runs : w.out_halted ≡ 0
  in_runs : w.in_halted ≡ 0
  unheld : w.message.held ≡ 0
  unready : w.message.ready ≡ 0
  closed : w.transfer.left ≡ 0

module _ (u : Device) (r : Reader) (stored : Stored u) (sound : is_sound u ≡ true) (steady : Steady (rests u.state)) (agreed : Agreed (packet_size u.state) (seen u) r) where
  abbrev b : BulkIn
  b = in_of u.state

  h : Sound u.state
  h = sound_of u.state sound

  sound_now : Not (Unsound u)
  sound_now e = true≢false (sym sound ∙ e)

  configured_now : Not (Unconfigured u)
  configured_now e = let k = steady.configured in omega arith

  -- what is stored of a reply
  none_stored : Not (b.transfer.phase ≡ 2) → r.unsent ≡ [] → b.reply.unsent ≡ 0
  none_stored n e = let l = long u r stored h agreed in let k : length (unsent_of u) ≡ 0 = ap length (sym (whole u r stored h agreed n) ∙ e) in omega arith

  some_stored : Not (b.transfer.phase ≡ 2) → (x : ℕ) (xs : List ℕ) → r.unsent ≡ x ∷ xs → Not (b.reply.unsent ≡ 0)
  some_stored n x xs e z = let l = long u r stored h agreed in let k : length (unsent_of u) ≡ suc (length xs) = ap length (sym (whole u r stored h agreed n) ∙ e) in omega arith

  -- the line of this unit
  abbrev Lined : InLine → Type 0
  Lined l = Line (packet_size u.state) b.transfer (unsent_of u) l

  poll_due_lem : (room n : ℕ) → packet_size u.state ≤ room → given u (quiet (in_poll room)) n → (unsent : List ℕ) (l : InLine) → r.unsent ≡ unsent → Lined l → poll_due unsent l n
  poll_due_lem room n fits g = by
    where
      last : ((n ≡ 5) × (Not (Owed u) × (Not (InOpen u) ⊎ Not (ReplyStored u)))) ⊎ (Not (Not (Owed u) × (Not (InOpen u) ⊎ Not (ReplyStored u))) × (n ≡ 0))
      last = past (λ e. let k = steady.in_runs in omega arith) (past (λ l. omega arith) (past configured_now (past sound_now g)))

      by : (unsent : List ℕ) (l : InLine) → r.unsent ≡ unsent → Lined l → poll_due unsent l n
      by unsent shut e a = given_now ((λ o. omega arith), inl (λ o. o a)) last
      by unsent owing e a = past (λ c. c.0 a) last
      by [] (asked x) e a =
          let p = a.phase in
          given_now ((λ o. omega arith), inr (⊎_elim (λ s. s (none_stored (λ q. omega arith) e)) (λ q. omega arith))) last
      by (y ∷ ys) (asked x) e a = let p = a.phase in past (λ c. ⊎_elim (λ o. o (λ z. omega arith)) (λ s. s (inl (some_stored (λ q. omega arith) y ys e))) c.1) last
      by unsent (sending ps) e a = let p = a.0 in past (λ c. ⊎_elim (λ o. o (λ z. omega arith)) (λ s. s (inr p)) c.1) last

  -- a reply is in no transfer on its way
  free_idle : (l : InLine) → Lined l → Free l → Not (b.transfer.phase ≡ 2)
  free_idle shut a f e = omega arith
  free_idle owing a f e = omega arith
  free_idle (asked x) a f e = let p = a.phase in omega arith
  free_idle (sending ps) a f e = absurd f

  offer_due : (bytes : List ℕ) (n : ℕ) → given u (quiet (offer_reply bytes)) n → 1 ≤ length bytes → length bytes ≤ 1024 → r.unsent ≡ [] → Free r.line → n ≡ 0
  offer_due bytes n g some fits e f =
      let idle = free_idle r.line agreed.line f in
      past (⊎_elim (⊎_elim (λ s. s (none_stored idle e)) idle) (λ c. let k = (clears u.state h (ap is_clear c)).halted in let z = steady.out_runs in omega arith))
      (past (⊎_elim (λ z. omega arith) (λ z. omega arith)) (past configured_now (past sound_now g)))

  -- no transfer is open
  closed_line : (l : InLine) → Lined l → Closed l → b.transfer.phase ≡ 0
  closed_line shut a c = a
  closed_line owing a c = absurd c
  closed_line (asked x) a c = absurd c
  closed_line (sending ps) a c = absurd c

  request_due : (s : List ℕ) (n : ℕ) → IsRequest s → Closed r.line → given u (out_packet s) n → n ≡ 0
  request_due s n q c = subst (λ (t : List ℕ). given u (out_packet t) n → n ≡ 0) (sym q.bytes) by
    where
      bytes : List ℕ
      bytes = request_bytes q.request

      head : of_header u bytes n → n ≡ 0
      head g =
          let k = q.good in
          let msg : Not (◌≡◌ {A = ℕ} 2 1) = λ e. omega arith in
          let a = past (λ z. z refl) g in
          let b = past (⊎_elim (λ e. omega arith) (λ e. omega arith)) a in
          let d = past (⊎_elim (λ e. let z = k.tag_some in omega arith) (λ z. z refl)) b in
          let f = past (λ z. z.1 refl) d in
          let i = past (⊎_elim (λ z. msg z.0) (⊎_elim (λ z. reserved z.1) (λ z. let e = z.0 in omega arith))) f in
          let j = past (⊎_elim (λ z. z.1 (closed_line r.line agreed.line c)) (λ z. z.1.1 steady.unheld)) i in
          let l = past (λ z. msg z.0) j in
          past (⊎_elim (λ z. msg z.0) (λ z. z.1 refl)) l
        where
          reserved : Not (BadRequest bytes)
          reserved (inl z) = z refl
          reserved (inr (inl z)) = let k = q.good.size_some in let e = no_bytes q.request.size q.good.size_fits z in omega arith
          reserved (inr (inr (inl z))) = ⊎_elim z.0 z.1 q.good.flag
          reserved (inr (inr (inr z))) = z (refl, refl)

      by : given u (out_packet bytes) n → n ≡ 0
      by g =
          let w = wide u sound in
          ⊎_elim (λ o. absurd (o.0 steady.closed)) (⊎_elim (λ o. o.2) (λ o. head o.2))
          (past (λ e. let z = steady.unready in omega arith)
          (past (λ e. let z = steady.out_runs in omega arith) (past (λ l. omega arith) (past configured_now (past sound_now g)))))

  -- ** any call that may come

  abbrev P : ℕ
  P = packet_size u.state

  abbrev Answers : Call → Result → Type 0
  Answers c q = MayCome P r c q.answer → given u c q.answer.verdict.number → ReplyDue r c q.answer.verdict.number × (rests q.unit.state ≡ rests u.state)

  answers : (c : Call) → Answers c (soundly u c)
  unfolding soundly bulk_out out_plan
  answers (setup_packet p) m g = (tt, ⊎_elim (refused_kept u p.packet p.room) (setup_kept u p.packet p.room) m)
  answers (out_packet s) m g =
      let z = request_due s _ m.0 m.1 g in
      let q : Requests s = ap (λ (l : List ℕ). at l 0) m.0.bytes in
      (z, request_kept u s q steady.closed (outcome u.state s) (came u.state s) z)
  answers (take_into room) m g = (tt, take_kept u room (λ e. let z = steady.unready in omega arith))
  answers bus_reset m g = absurd m
  answers (quiet (in_poll room)) m g = (poll_due_lem room _ m g r.unsent r.line refl agreed.line, quiet_kept u (in_poll room))
  answers (quiet (interrupt_poll room)) m g = (tt, quiet_kept u (interrupt_poll room))
  answers (quiet (offer_reply bytes)) m g = (offer_due bytes _ g, quiet_kept u (offer_reply bytes))
  answers (quiet (set_status status)) m g = (tt, quiet_kept u (set_status status))
  answers (quiet front_panel) m g = (tt, quiet_kept u front_panel)
  answers (quiet bus_suspend) m g = (tt, quiet_kept u bus_suspend)

-- ** a run

module _ (u : Device) (r : Reader) (c : Call) (stored : Stored u) (sound : is_sound u ≡ true) (steady : Steady (rests u.state)) where
  abbrev Due : ℕ → Type 0
  Due P = MayCome P r c (step u c).answer → ReplyDue r c (step u c).answer.verdict.number × (rests (step u c).unit.state ≡ rests u.state)

  due : (P : ℕ) → Agreed P (seen u) r → Due P
  due P a = subst (λ (p : ℕ). Agreed p (seen u) r → Due p) a.size own a
    where
      own : Agreed (packet_size u.state) (seen u) r → Due (packet_size u.state)
      own a m = subst (Answers u r stored sound steady a c) (sym (step_sound u c sound)) (answers u r stored sound steady a c) m (rule_for_every u c)

arriving : (P : ℕ) (u : Device) (r : Reader) (calls : List Call) → Stored u → is_sound u ≡ true → Steady (rests u.state) → Agreed P (seen u) r → Arriving P r (trace step u calls)
unfolding trace
arriving P u r [] stored sound steady agreed = tt
arriving P u r (c ∷ cs) stored sound steady agreed = λ m.
    let k = due u r c stored sound steady P agreed m in
    (k.0, arriving P (step u c).unit _ cs (keeps_stored u c stored) (keeps_sound u c sound) (subst Steady (sym k.1) steady) (steps u r c stored sound P agreed).1)

module _ (u : Device) (ready : Ready u) where
  starts : Agreed (packet_size u.state) (seen u) unread
  starts = record {
    size = refl;
    due = sym ready.out_closed;
    unsent = sym (ap (λ (n : ℕ). drop (in_of u.state).transfer.left (take n (drop (in_of u.state).reply.at u.reply))) ready.unstored ∙ drop-nil (in_of u.state).transfer.left);
    line = ready.in_closed;
  }

  steady : Steady (rests u.state)
  steady = record { configured = eqb-true _ _ ready.configured; out_runs = ready.out_runs; in_runs = ready.in_runs; unheld = ready.unheld; unready = ready.unready; closed = ready.out_closed }

pub reply_arrives : ReplyArrives step
reply_arrives u calls ready = arriving (packet_size u.state) u unread calls ready.stored ready.sound (steady u ready) (starts u ready)

-- ** all of it

-- nothing that may come drops a reply
keeps_reply : (P : ℕ) (r : Reader) (c : Call) (a : Answer) → MayCome P r c a → Not (Drops r c a)
keeps_reply P r (setup_packet p) a (inl n) d = n d.0
keeps_reply P r (setup_packet p) a (inr h) d =
    ⊎_elim h.0 (⊎_elim (λ e. h.3 (e.0, e.1)) (⊎_elim (λ e. h.4 (e.0, e.1)) (λ e. let i = h.1 e.0 in let j = e.2 in omega arith))) d.1
keeps_reply P r (out_packet s) a m d = d
keeps_reply P r (take_into room) a m d = d
keeps_reply P r bus_reset a m d = m
keeps_reply P r (quiet q) a m d = d

no_drops : (P : ℕ) (r : Reader) (es : List Event) → AllCome P r es → NoDrops P r es
no_drops P r [] m = tt
no_drops P r (e ∷ es) m = (keeps_reply P r e.call e.answer m.0, no_drops P (after_call P r e.call e.answer) es m.1)

pub whole_reply : WholeReply step
whole_reply u calls ready come none =
    let P = packet_size u.state in
    let es = trace step u calls in
    let read = reads P u unread calls ready.stored ready.sound (starts u ready) in
    sym (each_byte_once P unread es (wide u ready.sound) read (no_drops P unread es come) ∙ ap (λ (l : List ℕ). polled_in P unread es ++ l) none ∙ append-nil (polled_in P unread es))
