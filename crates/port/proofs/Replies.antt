-- THE LAW of replies, proved of our step: a unit and a reader agree (Sending), every call keeps that, and its answer is one that the reader expects.
-- Assumes nothing.
use Prim.Native.Nat.{ℕ, ◌+◌, ◌-◌, ◌≤◌, ◌<◌, min}
use mathlib.Core.Path.{◌≡◌, refl, sym, ap, ◌∙◌, subst}
use mathlib.Core.Bool.{true, false, true≢false}
use mathlib.Core.List.{List, [], ◌∷◌, ◌++◌}
use mathlib.Core.Logic.{inl, inr, ⊎_elim}
use native.Mathlib.Omega.{arith}
use lib.ListN.{length, take, drop, length-take, length-drop, get_or-eq_default}
use lib.Seq.{paste, take_at, take-length}
use borrow.Author.Tests.{eq-eqb, ne_eqb, eqb-true, eqb-false}
use Rattle.std.specs.Prelude.{Option, Some, None}
use Rattle.rules.specs.Answers.{refusing}
use Rattle.rules.specs.Choice.{◌=ᵇ◌, ◌<ᵇ◌, no, pick}
use Rattle.rules.specs.Answers.{DONE, UNCONFIGURED, WRONG_SIZE, HALTED, WAIT, NO_ROW, NOT_NOW, only}
use Rattle.rules.specs.When.{Not}
use Rattle.rules.proofs.Choice.{pick_all, decide_all, at_true, at_false, no_true, not_no, none_left, none_right, neb_ne, neb_eq, not_both, either}
use Rattle.wire.specs.Bytes.{bytes4}
use Rattle.rules.specs.Flags.{OFF}
use Rattle.wire.specs.Header.{HEADER, in_header}
use Rattle.wire.specs.Setup.{read_setup}
use Rattle.wire.specs.When.{at, Commands, Requests, rows, Matches, RowOf}
use Rattle.wire.specs.declared.types.Header.TheVariants.{Message, Request, Trigger}
use Rattle.wire.specs.declared.types.Endpoint.TheVariants.{Out, In, Interrupt}
use Rattle.wire.specs.declared.types.Row.{Row}
use Rattle.wire.specs.declared.types.Row.TheVariants.{InitiateAbortBulkOut, CheckAbortBulkOutStatus, InitiateAbortBulkIn, CheckAbortBulkInStatus}
use Rattle.wire.specs.declared.types.Row.TheVariants.{InitiateClear, CheckClearStatus, GetCapabilities}
use Rattle.wire.specs.declared.types.Row.TheVariants.{IndicatorPulse, ReadStatusByte, RenControl, GoToLocal, LocalLockout, ClearFeature, SetFeature, GetStatus}
use Rattle.wire.specs.declared.types.Setup.{Setup}
use Rattle.wire.specs.declared.types.Setup.TheVariants.{Configure, Asks}
use Rattle.wire.proofs.When.{setup_law}
use Rattle.port.specs.Parts.{STORE, is_size, CLOSED, ASKED, SENDING, OWED, on, is_open_out, is_open_in, is_owed, is_clear}
use Rattle.port.specs.Parts.{has_reply, out_of, in_of, interrupt_of, packet_size, is_configured, closed_in, owed_in, fresh}
use Rattle.port.specs.Parts.{empty_in, with_in_halted, broken, shut}
use Rattle.port.specs.Remote.{local_now}
use Rattle.port.specs.Answer.{Said, numbered, refuse}
use Rattle.port.specs.In.{Packet, sendable, marks, gone, fixed, header, started, to_go, send, next_packet, in_rules, sends, poll}
use Rattle.port.specs.Interrupt.{is_waiting, interrupt_rules, poll_interrupt}
use Rattle.port.specs.Rows.{Reaction, answering, abort_rules, out_tag, in_tag, initiate_abort_out, initiate_abort_in, check_abort_out}
use Rattle.port.specs.Rows.{check_abort_in, initiate_clear, check_clear, read_status, answer_row, clearing}
use Rattle.port.specs.Rows.{clear_feature_out, clear_feature_in, effected}
use Rattle.port.specs.Device.{Device, Result, is_sound, with_state, unsent_in, unsent_of, made, power_on}
use Rattle.port.specs.Out.{plain, opened, outcome, accepted, planned, out_plan}
use Rattle.port.specs.Calls.{take_rules, released, taking, take_message, thermostat_rules, status_set, set_status_byte, returned, panel, reset_by_bus, suspend}
use Rattle.port.specs.Calls.{refused, with_message, bulk_out, said, offer_rules, offered, offer_plan, with_reply, offer}
use Rattle.port.specs.Calls.{setup_rules, asked as asks-for, setup_outcome, answered, setup, bulk_in, interrupt_in}
use Rattle.port.specs.Step.{in_poll, interrupt_poll, offer_reply, set_status, front_panel, bus_suspend, SetupPacket}
use Rattle.port.specs.Step.{Call, setup_packet, out_packet, take_into, bus_reset, quiet, quietly, soundly, step}
use Rattle.port.specs.Trace.{trace}
use Rattle.port.specs.Laws.{Stored}
use Rattle.port.specs.Reply.{Asked, portion, in_transfer, in_packets, InLine, shut as closed, owing, asked, sending}
use Rattle.port.specs.Reply.{Reader, unread, due_after, requests_now, after_packet, remaining, tail, after_poll}
use Rattle.port.specs.Reply.{owing_now, cleared, closed_by, broken as cut_off, after_call, FirstOf, Polled, Free}
use Rattle.port.specs.Reply.{Closed, Expects, Reading, line_of, reader_of, RepliesRead, RepliesReadEver}
use Rattle.port.specs.declared.types.InTransfer.{InTransfer}
use Rattle.port.specs.declared.types.BulkIn.{BulkIn}
use Rattle.port.specs.declared.types.Split.{Split}
use Rattle.port.specs.declared.types.Split.TheVariants.{None, AbortOut, AbortIn, Clear}
use Rattle.port.specs.Answer.{SetupOutcome}
use Rattle.std.specs.Prelude.{Err}
use Rattle.port.specs.declared.types.State.{State}
use Rattle.port.specs.declared.types.Plan.{Plan}
use Rattle.port.specs.declared.types.Outcome.{Outcome}
use Rattle.port.specs.declared.types.Outcome.TheVariants.{Keep, Halt, Data, Accept}
use Rattle.port.proofs.Soundness.{Phase, is_closed, is_asked, is_sending, is_owed_lem, Sound, sound_of}
use Rattle.port.proofs.Sizes.{size_of}
use Rattle.port.proofs.Calls.{power_on_sound, power_on_stored, unstored, row_done, step_sound, keeps_sound, keeps_stored}
use Rattle.port.proofs.Sending.{Asks as AsksFor, Line, Sends, sends as packet-sent, sendable_portion, first_to_go}
use Rattle.port.proofs.Readers.{by_row, setup_told, setup_unheard, absorbed_left, due_more, due_command, due_other}
use Rattle.port.proofs.Readers.{is_request, no_request, packet_kept, packet_halted, packet_done, asks_same}
use Rattle.port.proofs.Readers.{Came, came}

-- ** a unit and a reader

-- what of a unit a reader knows
pub record Seen : Type 0 where
  pub size : ℕ
  pub left : ℕ
  pub transfer : InTransfer
  pub unsent : List ℕ

abbrev pub seen : Device → Seen
seen u = record { size = packet_size u.state; left = (out_of u.state).transfer.left; transfer = (in_of u.state).transfer; unsent = unsent_of u }

pub record Agreed (P : ℕ) (w : Seen) (r : Reader) : Type 0 where
  pub size : w.size ≡ P
  pub due : r.due ≡ w.left
  pub unsent : r.unsent ≡ drop w.transfer.left w.unsent
  pub line : Line P w.transfer w.unsent r.line

-- but for a transfer on its way nothing is left of one
none_left_to_go : (unsent : ℕ) (t : InTransfer) → Phase unsent t → Not (t.phase ≡ SENDING) → t.left ≡ 0
none_left_to_go unsent t (is_closed e z i) n = i.left
none_left_to_go unsent t (is_asked e a) n = a.left
none_left_to_go unsent t (is_sending e a) n = absurd (n e)
none_left_to_go unsent t (is_owed_lem e z i) n = i.left

-- the line of a transfer that is open, and of one that is not
owes : (P tag : ℕ) (t : InTransfer) (unsent : List ℕ) (l : InLine) → Line P t unsent l → Not (t.phase ≡ CLOSED) → Line P (owed_in tag) [] (owing_now l)
owes P tag t unsent closed a n = absurd (n a)
owes P tag t unsent owing a n = refl
owes P tag t unsent (asked x) a n = refl
owes P tag t unsent (sending ps) a n = refl

rests : (P : ℕ) (t : InTransfer) (unsent : List ℕ) (l : InLine) → Line P t unsent l → t.phase ≡ CLOSED → Line P closed_in [] (owing_now l)
rests P t unsent closed a e = refl
rests P t unsent owing a e = absurd (omega arith)
rests P t unsent (asked x) a e = let p = a.phase in absurd (omega arith)
rests P t unsent (sending ps) a e = let p = a.0 in absurd (omega arith)

line_closed : (P : ℕ) (t : InTransfer) (unsent : List ℕ) (l : InLine) → Line P t unsent l → t.phase ≡ CLOSED → Closed l
line_closed P t unsent closed a e = tt
line_closed P t unsent owing a e = absurd (omega arith)
line_closed P t unsent (asked x) a e = let p = a.phase in absurd (omega arith)
line_closed P t unsent (sending ps) a e = let p = a.0 in absurd (omega arith)

module _ (u : Device) (r : Reader) (stored : Stored u) (h : Sound u.state) (agreed : Agreed (packet_size u.state) (seen u) r) where
  abbrev pub st : State
  st = u.state

  abbrev P : ℕ
  P = packet_size st

  abbrev pub b : BulkIn
  b = in_of st

  abbrev pub t : InTransfer
  t = b.transfer

  abbrev pub U : List ℕ
  U = unsent_of u

  -- where no transfer is on its way, all that is stored is in none
  pub whole : Not (t.phase ≡ SENDING) → r.unsent ≡ U
  whole n = agreed.unsent ∙ ap (λ (k : ℕ). drop k U) (none_left_to_go _ t h.inward.phase n)

  -- with another Bulk-IN side
  abbrev seen_with : ℕ → BulkIn → Seen
  seen_with left x = record { size = P; left = left; transfer = x.transfer; unsent = unsent_in x u.reply }

  abbrev left : ℕ
  left = (out_of st).transfer.left

  record Goes (c : Call) (q : Result) : Type 0 where
    expects : Expects P r c q.answer
    agrees : Agreed P (seen q.unit) (after_call P r c q.answer)

  -- ** setup rows

  abbrev RowGoes : Row → Reaction → Type 0
  RowGoes row x = Agreed P (seen (with_state u (effected st x.effect))) (by_row r row x.answer)

  -- CLEAR_FEATURE on 0x82
  owed_closed : (l : InLine) → Line P t U l → t.phase ≡ OWED → Agreed P (seen_with left (shut (with_in_halted b OFF))) (closed_by r l)
  unfolding shut
  owed_closed closed a e = absurd (omega arith)
  owed_closed owing a e = record { size = refl; due = agreed.due; unsent = whole (λ s. omega arith); line = refl }
  owed_closed (asked x) a e = let p = a.phase in absurd (omega arith)
  owed_closed (sending ps) a e = let p = a.0 in absurd (omega arith)

  open_closed : (l : InLine) → Line P t U l → Not (t.phase ≡ CLOSED) → Not (t.phase ≡ OWED) → Agreed P (seen_with left (empty_in closed_in OFF b.recent)) (closed_by r l)
  open_closed closed a n m = absurd (n a)
  open_closed owing a n m = absurd (m a)
  open_closed (asked x) a n m = record { size = refl; due = agreed.due; unsent = refl; line = refl }
  open_closed (sending ps) a n m = record { size = refl; due = agreed.due; unsent = refl; line = refl }

  closed_closed : (l : InLine) → Line P t U l → t.phase ≡ CLOSED → Agreed P (seen u) (closed_by r l)
  closed_closed closed a e = agreed
  closed_closed owing a e = absurd (omega arith)
  closed_closed (asked x) a e = let p = a.phase in absurd (omega arith)
  closed_closed (sending ps) a e = let p = a.0 in absurd (omega arith)

  feature_in : Agreed P (seen_with left (clear_feature_in b)) (closed_by r r.line)
  unfolding clear_feature_in
  feature_in =
      pick_all (λ (x : BulkIn). Agreed P (seen_with left x) (closed_by r r.line)) (is_owed b) _ _ (λ e. owed_closed r.line agreed.line (eqb-true _ _ e))
      (λ e. pick_all (λ (x : BulkIn). Agreed P (seen_with left x) (closed_by r r.line)) (is_open_in b) _ _
      (λ f. open_closed r.line agreed.line (neb_ne _ _ f) (eqb-false _ _ e)) (λ f. closed_closed r.line agreed.line (neb_eq _ _ f)))

  -- Bulk-OUT breaks off
  breaks : Agreed P (record { size = P; left = 0; transfer = t; unsent = U }) (cut_off r)
  breaks = record { size = refl; due = refl; unsent = agreed.unsent; line = agreed.line }

  row_goes : (row : Row) → RowGoes row (answer_row st row)
  unfolding answer_row initiate_abort_out initiate_abort_in check_abort_out check_abort_in initiate_clear check_clear read_status effected local_now clearing clear_feature_out broken pick
  row_goes (InitiateAbortBulkOut tag) =
      decide_all (RowGoes (InitiateAbortBulkOut tag)) (λ status. answering (status ∷ out_tag (out_of st) ∷ [])) (abort_rules st.split (is_open_out (out_of st)) (out_tag (out_of st)) tag) _
      (agreed, (agreed, (agreed, tt))) (λ _. breaks)
  row_goes CheckAbortBulkOutStatus = by st.split
    where
      by : (s : Split) → RowGoes CheckAbortBulkOutStatus (check_abort_out s)
      by None = agreed
      by (AbortOut count) = agreed
      by (AbortIn count) = agreed
      by Clear = agreed
  row_goes (InitiateAbortBulkIn tag) =
      decide_all (RowGoes (InitiateAbortBulkIn tag)) (λ status. answering (status ∷ in_tag b ∷ [])) (abort_rules st.split (is_open_in b) (in_tag b) tag) _ (agreed, (agreed, (agreed, tt)))
      (λ n. record { size = refl; due = agreed.due; unsent = refl; line = owes P t.tag t U r.line agreed.line (neb_ne _ _ (not_no _ n.1.0)) })
  row_goes CheckAbortBulkInStatus = by st.split
    where
      by : (s : Split) → RowGoes CheckAbortBulkInStatus (check_abort_in b s)
      by None = agreed
      by (AbortOut count) = agreed
      by (AbortIn count) = pick_all (RowGoes CheckAbortBulkInStatus) (is_owed b) _ _ (λ _. agreed) (λ _. agreed)
      by Clear = agreed
  row_goes InitiateClear =
      pick_all (RowGoes InitiateClear) (is_clear st.split) _ _ (λ _. agreed)
      (λ _. pick_all (λ (x : BulkIn). Agreed P (seen_with 0 x) (cleared r)) (is_open_in b) _ _
      (λ e. record { size = refl; due = refl; unsent = refl; line = owes P t.tag t U r.line agreed.line (neb_ne _ _ e) })
      (λ e. record { size = refl; due = refl; unsent = refl; line = rests P t U r.line agreed.line (neb_eq _ _ e) }))
  row_goes CheckClearStatus =
      pick_all (RowGoes CheckClearStatus) (no (is_clear st.split)) _ _ (λ _. agreed)
      (λ _. pick_all (RowGoes CheckClearStatus) (is_owed b) _ _ (λ _. agreed) (λ _. agreed))
  row_goes GetCapabilities = agreed
  row_goes IndicatorPulse = agreed
  row_goes (ReadStatusByte tag) = pick_all (RowGoes (ReadStatusByte tag)) (is_waiting (interrupt_of st)) _ _ (λ _. agreed) (λ _. agreed)
  row_goes (RenControl ren) =
      pick_all (λ (s : State). Agreed P (seen (with_state u s)) r) (on ren) _ _ (λ _. agreed)
      (λ _. agreed)
  row_goes GoToLocal = agreed
  row_goes LocalLockout = agreed
  row_goes (ClearFeature Out) = breaks
  row_goes (ClearFeature In) = feature_in
  row_goes (ClearFeature Interrupt) = agreed
  row_goes (SetFeature Out) = breaks
  row_goes (SetFeature In) = agreed
  row_goes (SetFeature Interrupt) = agreed
  row_goes (GetStatus endpoint) = agreed

  module _ (p : SetupPacket) where
    abbrev Comes : SetupOutcome → Type 0
    Comes x = Goes (setup_packet p) (answered u x)

    denied : (n : ℕ) → Not (n ≡ 0) → Goes (setup_packet p) (refused u n)
    denied n z = record { expects = tt; agrees = subst (Agreed P (seen u)) (sym (setup_unheard r p.packet (numbered n) z)) agreed }

    served : (x : Setup) → Matches p.packet rows x → Comes (asks-for st (Some x))
    unfolding asks-for answered made fresh
    served (Configure value) m = record {
      expects = tt;
      agrees = subst (Agreed P _) (sym (setup_told r p.packet (numbered DONE) (Configure value) refl m)) (record { size = refl; due = refl; unsent = refl; line = refl });
    }
    served (Asks row) m =
        pick_all Comes (is_configured st) _ _
        (λ _. record { expects = tt; agrees = subst (Agreed P _) (sym (setup_told r p.packet (answer_row st row).answer (Asks row) (row_done st row) m)) (row_goes row) })
        (λ _. denied NO_ROW (λ e. omega arith))

    row_read : (x : Option Setup) → RowOf p.packet x → Comes (asks-for st x)
    unfolding asks-for answered
    row_read (Some x) m = served x m
    row_read None _ = denied NO_ROW (λ e. omega arith)

    setup_goes : Goes (setup_packet p) (setup u p.packet p.room)
    unfolding setup setup_outcome answered asks-for
    setup_goes =
        decide_all Comes Err (setup_rules (length p.packet) p.room) _ (denied WRONG_SIZE (λ e. omega arith), tt)
        (λ _. row_read (read_setup p.packet) (setup_law p.packet))

  -- ** polls

  pub long : length U ≡ b.reply.unsent
  long = let s = stored.reply in let k = h.inward.reply in let m = length-take b.reply.unsent (drop b.reply.at u.reply) in let n = length-drop b.reply.at u.reply in omega arith

  -- a poll that is answered 0, and the side behind it
  abbrev Answers : InLine → Packet → Type 0
  Answers l x = Polled P r.unsent l x.bytes × Agreed P (seen_with left x.side) (after_poll P r l)

  owed_answers : (l : InLine) → Line P t U l → t.phase ≡ OWED → Answers l (record { side = shut b; bytes = [] })
  unfolding shut
  owed_answers closed a e = absurd (omega arith)
  owed_answers owing a e = (refl, record { size = refl; due = agreed.due; unsent = whole (λ s. omega arith); line = refl })
  owed_answers (asked x) a e = let p = a.phase in absurd (omega arith)
  owed_answers (sending ps) a e = let p = a.0 in absurd (omega arith)

  -- what is sent, by the side and the header that it starts with
  abbrev sent_by : BulkIn → List ℕ → Packet
  sent_by x top =
      let packet = take P (top ++ take x.transfer.left U) in
      let after = gone x (length packet - length top) in
      record { side = pick (length packet <ᵇ P) (shut after) after; bytes = packet }

  sent_by_lem : (x : BulkIn) (top : List ℕ) → started b U ≡ x → header b U ≡ top → send P b U ≡ sent_by x top
  unfolding send to_go
  sent_by_lem x top e f = λ i. sent_by (e i) (f i)

  -- the first of a transfer's packets goes, and the others are left
  first_goes : {to_go rest : List ℕ} (ps : List (List ℕ)) (x : Packet) (kept : List ℕ) → Sends P to_go rest u.reply x.bytes x.side → ps ≡ in_packets P to_go → kept ≡ rest
      → FirstOf ps x.bytes × Agreed P (seen_with left x.side) (record { due = r.due; unsent = kept; line = remaining (tail ps) })
  first_goes ps x kept s e f =
      let cut = e ∙ s.cut in (
        subst (λ (qs : List (List ℕ)). FirstOf qs x.bytes) (sym cut) refl,
        record {
          size = refl;
          due = agreed.due;
          unsent = f ∙ s.unsent;
          line = subst (λ (qs : List (List ℕ)). Line P x.side.transfer (unsent_in x.side u.reply) (remaining (tail qs))) (sym cut) s.line;
        },
      )

  wide : HEADER < P
  wide = let k = (size_of P h.port.size).least in omega arith

  in_store : b.reply.at + b.reply.unsent ≤ length u.reply
  in_store = let k = h.inward.reply in let s = stored.reply in omega arith

  next_answers : (ps : List (List ℕ)) → Line P t U (sending ps) → Answers (sending ps) (send P b U)
  unfolding started header
  next_answers ps a =
      let other : (t.phase =ᵇ ASKED) ≡ false = ne_eqb t.phase ASKED (λ e. let p = a.0 in omega arith) in
      subst (Answers (sending ps)) (sym (sent_by_lem b [] (at_false _ _ _ other) (at_false _ _ _ other)))
      (first_goes ps (sent_by b []) r.unsent
      (packet-sent P b [] u.reply (record { short = let w = wide in omega arith; within = within _ t h.inward.phase; stored = in_store })) a.1 agreed.unsent)
    where
      within : (unsent : ℕ) (t : InTransfer) → Phase unsent t → t.left ≤ unsent
      within unsent t (is_closed e z i) = let k = i.left in omega arith
      within unsent t (is_asked e a) = let k = a.left in omega arith
      within unsent t (is_sending e a) = a.stored
      within unsent t (is_owed_lem e z i) = let k = i.left in omega arith

  -- the first packet of a transfer, by what is unsent
  abbrev Begins : Asked → Packet → List ℕ → Type 0
  Begins x q unsent =
      FirstOf (in_packets P (in_transfer x unsent)) q.bytes
      × Agreed P (seen_with left q.side) (record { due = r.due; unsent = drop (length (portion x unsent)) unsent; line = remaining (tail (in_packets P (in_transfer x unsent))) })

  first_answers : (x : Asked) → AsksFor t x → 1 ≤ length U → Answers (asked x) (send P b U)
  unfolding started header fixed in_header bytes4
  first_answers x a some =
      let yes : (t.phase =ᵇ ASKED) ≡ true = eq-eqb _ _ a.phase in
      let top = in_header t.tag (sendable b U) (marks b U (sendable b U)) in
      let side = fixed b U in
      let fits : length U ≤ STORE = let k = h.inward.reply in let l = long in omega arith in
      let same : in_packets P (in_transfer x U) ≡ in_packets P (top ++ take (sendable b U) U) = ap (in_packets P) (sym (first_to_go b x U a long fits (ask_some _ t h.inward.phase a.phase) some)) in
      let begins : Begins x (send P b U) U =
      subst (λ (q : Packet). Begins x q U) (sym (sent_by_lem side top (at_true _ _ _ yes) (at_true _ _ _ yes)))
      (first_goes _ (sent_by side top) _ (packet-sent P side top u.reply (record { short = wide; within = omega arith; stored = in_store })) same
      (ap (λ (n : ℕ). drop n U) (sym (sendable_portion b x U a long fits)))) in
      let all = whole (λ e. let p = a.phase in omega arith) in
      let k : Begins x (send P b U) r.unsent = subst (Begins x (send P b U)) (sym all) begins in
      ((λ e. let l : length U ≡ 0 = ap length (sym all ∙ e) in omega arith, k.0), k.1)
    where
      ask_some : (unsent : ℕ) (t : InTransfer) → Phase unsent t → t.phase ≡ ASKED → 1 ≤ t.asked
      ask_some unsent t (is_closed e z i) p = absurd (omega arith)
      ask_some unsent t (is_asked e a) p = let z = a.some in omega arith
      ask_some unsent t (is_sending e a) p = absurd (omega arith)
      ask_some unsent t (is_owed_lem e z i) p = absurd (omega arith)

  open_answers : (l : InLine) → Line P t U l → Not (t.phase ≡ CLOSED) → Not (t.phase ≡ OWED) → has_reply b ≡ true → Answers l (send P b U)
  open_answers closed a n m k = absurd (n a)
  open_answers owing a n m k = absurd (m a)
  open_answers (asked x) a n m k =
      let l = long in
      let p = a.phase in
      first_answers x a (⊎_elim (λ e. let z = neb_ne _ _ e in omega arith) (λ e. let q = eqb-true t.phase SENDING e in omega arith) (either _ _ k))
  open_answers (sending ps) a n m k = next_answers ps a

  poll_goes : (room : ℕ) → Goes (quiet (in_poll room)) (bulk_in u room)
  unfolding bulk_in poll next_packet
  poll_goes room =
      decide_all (λ (x : Said). Goes (quiet (in_poll room)) (said u x)) (refuse st) (in_rules st room) _
      (waits UNCONFIGURED (λ e. omega arith), (waits WRONG_SIZE (λ e. omega arith), (waits HALTED (λ e. omega arith), (waits WAIT (λ e. omega arith), tt))))
      (λ n. pick_all (λ (x : Packet). Goes (quiet (in_poll room)) (said u (sends st x))) (is_owed b) _ _ (λ e. gives (owed_answers r.line agreed.line (eqb-true _ _ e)))
      (λ e.
      let none = not_both _ _ n.1.1.1.0 (no_true _ e) in
      gives (open_answers r.line agreed.line (neb_ne _ _ (not_no _ (none_left _ _ none))) (eqb-false _ _ e) (not_no _ (none_right (no (is_open_in b)) _ none)))))
    where
      waits : (n : ℕ) → Not (n ≡ 0) → Goes (quiet (in_poll room)) (refused u n)
      waits n z = record { expects = λ e. absurd (z e); agrees = subst (Agreed P (seen u)) (sym (at_false _ _ _ (ne_eqb _ _ z))) agreed }

      gives : {x : Packet} → Answers r.line x → Goes (quiet (in_poll room)) (said u (sends st x))
      gives k = record { expects = λ _. k.0; agrees = subst (Agreed P _) (sym (at_true _ _ _ refl)) k.1 }

  -- ** offers

  -- a reply is in no transfer on its way
  line_kept : (unsent : List ℕ) (l : InLine) → Line P t U l → Not (t.phase ≡ SENDING) → Line P t unsent l × Free l
  line_kept unsent closed a n = (a, tt)
  line_kept unsent owing a n = (a, tt)
  line_kept unsent (asked x) a n = (a, tt)
  line_kept unsent (sending ps) a n = absurd (n a.0)

  offer_goes : (bytes : List ℕ) → Goes (quiet (offer_reply bytes)) (offer u bytes)
  unfolding offer offer_plan offered
  offer_goes bytes =
      decide_all (λ (x : Plan). Goes (quiet (offer_reply bytes)) (with_reply u bytes x)) (λ k. plain st (refusing k)) (offer_rules st (length bytes)) _
      (waits UNCONFIGURED (λ e. omega arith), (waits WRONG_SIZE (λ e. omega arith), (waits NOT_NOW (λ e. omega arith), tt)))
      (λ n.
      let none = none_left _ _ n.1.1.0 in
      let idle = eqb-false t.phase SENDING (none_right _ _ none) in
      let some = eqb-false (length bytes) 0 (none_left _ _ n.1.0) in
      let kept = line_kept (unsent_in (offered b (length bytes)) (paste u.reply 0 bytes (length bytes))) r.line agreed.line idle in
      record {
        expects = λ _. (whole idle ∙ ap (λ (k : ℕ). take k (drop b.reply.at u.reply)) (neb_eq _ _ (none_left _ _ none)), kept.1, λ e. some (ap length e));
        agrees = subst (Agreed P _) (sym (at_true _ _ _ refl)) (record {
          size = refl;
          due = agreed.due;
          unsent = sym (ap (λ (k : ℕ). drop k (take (length bytes) (paste u.reply 0 bytes (length bytes)))) (none_left_to_go _ t h.inward.phase idle)
              ∙ take_at (take (length bytes) bytes) (drop (0 + length bytes) u.reply) (length bytes) (ap length (take-length bytes)) ∙ take-length bytes);
          line = kept.0;
        });
      })
    where
      waits : (n : ℕ) → Not (n ≡ 0) → Goes (quiet (offer_reply bytes)) (with_reply u bytes (plain st (only n)))
      waits n z =
          subst (Goes (quiet (offer_reply bytes))) (sym (unstored u bytes n))
          (record { expects = λ e. absurd (z e); agrees = subst (Agreed P (seen u)) (sym (at_false _ _ _ (ne_eqb _ _ z))) agreed })

  -- ** packets

  module _ (s : List ℕ) where
    abbrev leaving : ℕ → Seen
    leaving more = record { size = P; left = more; transfer = t; unsent = U }

    -- one that brings data, or is no REQUEST
    accepts : {q : Result} (more : ℕ) → q.answer.verdict.number ≡ 0 → seen q.unit ≡ leaving more → due_after r.due s ≡ more → requests_now r.due s ≡ false → Goes (out_packet s) q
    accepts {q} more z e d n = record {
      expects = λ _ f. absurd (true≢false (sym f ∙ n));
      agrees = subst (λ (w : Seen). Agreed P w (after_packet r s q.answer.verdict.number)) (sym e)
          (subst (Agreed P _) (sym (ap (after_packet r s) z ∙ packet_done r s))
          (record { size = refl; due = d; unsent = agreed.unsent; line = subst (Line P t U) (sym (at_false _ _ _ n)) agreed.line }));
    }

    -- between transfers, and no command
    plain_goes : {q : Result} → q.answer.verdict.number ≡ 0 → seen q.unit ≡ seen u → left ≡ 0 → Not (Commands s) → Not (Requests s) → Goes (out_packet s) q
    plain_goes z e l c n = accepts left z e (due_other r.due s (agreed.due ∙ l) c ∙ sym l) (no_request r.due s (inr n))

    packet_goes : (x : Outcome) → Came st s x → Goes (out_packet s) (with_message u s (planned st x))
    unfolding planned accepted broken
    packet_goes (Keep n) (inl c) =
        let none : at s 0 ≡ 0 = get_or-eq_default s 0 (let l = c.1 in omega arith) in plain_goes c.0 refl c.2 (λ e. omega arith) (λ e. omega arith)
    packet_goes (Keep n) (inr c) = record { expects = λ e. absurd (let l = c.0 in omega arith); agrees = subst (Agreed P (seen u)) (sym (packet_kept r s n c.0 c.1)) agreed }
    packet_goes (Halt n) c = record { expects = λ e. absurd (let l = c.0 in omega arith); agrees = subst (Agreed P _) (sym (packet_halted r s n c.0 c.1)) breaks }
    packet_goes (Data count) c =
        let d = agreed.due in
        let n = c.0 in
        let k = c.1 in
        accepts (left - count) refl (ap leaving (absorbed_left (out_of st) count)) (due_more r.due s (λ z. n (omega arith)) ∙ omega arith) (no_request r.due s (inl (λ z. n (omega arith))))
    packet_goes (Accept (Message tag size end) count) c =
        let m = c.2 in
        let is = m.0 in
        let z = m.2 in
        let k = c.1 in
        accepts (size - count) refl (ap leaving (absorbed_left (opened (out_of st) tag size end) count))
        (due_command r.due s (agreed.due ∙ c.0) is ∙ omega arith) (no_request r.due s (inr (λ q. omega arith)))
    packet_goes (Accept (Request tag size enabled term) count) c =
        let m = c.2 in
        let is = m.0 in
        let between : r.due ≡ 0 = agreed.due ∙ c.0 in
        let idle : t.phase ≡ CLOSED = neb_eq _ _ (none_left _ _ c.3) in
        record {
          expects = λ _ _. line_closed P t U r.line agreed.line idle;
          agrees = subst (Agreed P _) (sym (packet_done r s)) (record {
            size = refl;
            due = due_other r.due s between (λ e. omega arith) ∙ sym c.0;
            unsent = whole (λ e. omega arith);
            line = subst (Line P _ U) (sym (at_true _ _ _ (is_request r.due s between is))) (asks_same s tag size enabled term m);
          });
        }
    packet_goes (Accept (Trigger tag) count) c = let is = c.2.0 in plain_goes refl refl c.0 (λ e. omega arith) (λ e. omega arith)

    out_goes : Goes (out_packet s) (bulk_out u s)
    unfolding bulk_out out_plan
    out_goes = packet_goes (outcome st s) (came st s)

  -- ** any call

  abbrev Kept : Said → Type 0
  Kept x = Agreed P (seen (said u x).unit) r

  goes : (c : Call) → Goes c (soundly u c)
  unfolding soundly quietly interrupt_in poll_interrupt take_message taking released reset_by_bus made fresh set_status_byte status_set panel returned suspend local_now
  goes (setup_packet p) = setup_goes p
  goes (out_packet s) = out_goes s
  goes (take_into room) = record { expects = tt; agrees = decide_all Kept (refuse st) (take_rules st room) _ (agreed, (agreed, (agreed, tt))) (λ _. agreed) }
  goes bus_reset = record { expects = tt; agrees = subst (Agreed P _) (sym (at_true _ _ _ refl)) (record { size = refl; due = refl; unsent = refl; line = refl }) }
  goes (quiet (in_poll room)) = poll_goes room
  goes (quiet (interrupt_poll room)) = record { expects = tt; agrees = decide_all Kept (refuse st) (interrupt_rules st room) _ (agreed, (agreed, (agreed, (agreed, tt)))) (λ _. agreed) }
  goes (quiet (offer_reply bytes)) = offer_goes bytes
  goes (quiet (set_status status)) = record { expects = tt; agrees = decide_all Kept (refuse st) (thermostat_rules st) _ (agreed, tt) (λ _. agreed) }
  goes (quiet front_panel) = record { expects = tt; agrees = decide_all Kept (refuse st) (thermostat_rules st) _ (agreed, tt) (λ _. agreed) }
  goes (quiet bus_suspend) = record { expects = tt; agrees = agreed }

-- ** a run

module _ (u : Device) (r : Reader) (c : Call) (stored : Stored u) (sound : is_sound u ≡ true) where
  abbrev pub Steps : ℕ → Result → Type 0
  Steps P q = Expects P r c q.answer × Agreed P (seen q.unit) (after_call P r c q.answer)

  own : Agreed (packet_size u.state) (seen u) r → Steps (packet_size u.state) (step u c)
  own a = subst (Steps (packet_size u.state)) (sym (step_sound u c sound)) (let k = goes u r stored (sound_of _ sound) a c in (k.expects, k.agrees))

  pub steps : (P : ℕ) → Agreed P (seen u) r → Steps P (step u c)
  steps P a = subst (λ (p : ℕ). Agreed p (seen u) r → Steps p (step u c)) a.size own a

pub reads : (P : ℕ) (u : Device) (r : Reader) (calls : List Call) → Stored u → is_sound u ≡ true → Agreed P (seen u) r → Reading P r (trace step u calls)
unfolding trace
reads P u r [] stored sound agreed = tt
reads P u r (c ∷ cs) stored sound agreed =
    let k = steps u r c stored sound P agreed in (k.0, reads P (step u c).unit _ cs (keeps_stored u c stored) (keeps_sound u c sound) k.1)

-- ** where it starts

line_starts : (P : ℕ) (reply : ℕ) (t : InTransfer) (unsent : List ℕ) → Phase reply t → Line P t unsent (line_of P t unsent)
line_starts P reply t unsent p =
    pick_all (Line P t unsent) (t.phase =ᵇ CLOSED) _ _ (λ e. eqb-true _ _ e)
    (λ n. pick_all (Line P t unsent) (t.phase =ᵇ ASKED) _ _ (λ e. record { phase = eqb-true _ _ e; tag = refl; most = most p (eqb-true _ _ e); stops = refl; char = λ _. refl })
    (λ m. pick_all (Line P t unsent) (t.phase =ᵇ SENDING) _ _ (λ e. (eqb-true _ _ e, refl))
    (λ k. last p (eqb-false t.phase CLOSED n) (eqb-false t.phase ASKED m) (eqb-false t.phase SENDING k))))
  where
    most : Phase reply t → t.phase ≡ ASKED → t.asked ≡ min t.asked STORE
    most (is_closed e z i) f = absurd (omega arith)
    most (is_asked e a) f = let k = a.most in omega arith
    most (is_sending e a) f = absurd (omega arith)
    most (is_owed_lem e z i) f = absurd (omega arith)

    last : Phase reply t → Not (t.phase ≡ CLOSED) → Not (t.phase ≡ ASKED) → Not (t.phase ≡ SENDING) → t.phase ≡ OWED
    last (is_closed e z i) n m k = absurd (n e)
    last (is_asked e a) n m k = absurd (m e)
    last (is_sending e a) n m k = absurd (k e)
    last (is_owed_lem e z i) n m k = e

pub replies_read : RepliesRead step
replies_read u calls stored sound =
    reads (packet_size u.state) u (reader_of u) calls stored sound
    (record { size = refl; due = refl; unsent = refl; line = line_starts _ _ (in_of u.state).transfer (unsent_of u) (sound_of _ sound).inward.phase })

pub replies_read_ever : RepliesReadEver step
unfolding power_on made fresh
replies_read_ever setting calls =
    reads _ (power_on setting).unit unread calls (power_on_stored setting) (power_on_sound setting)
    (pick_all (λ (x : Result). Agreed (packet_size x.unit.state) (seen x.unit) unread) (is_size setting.packet) _ _
    (λ _. record { size = refl; due = refl; unsent = refl; line = refl }) (λ _. record { size = refl; due = refl; unsent = refl; line = refl }))
