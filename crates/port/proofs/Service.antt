-- The law of Interrupt-IN (Service): what one counts who sees calls and answers is what the unit holds, call by call, and so every packet is the one that waits.
-- Assumes nothing.
use Prim.Native.Nat.{ℕ, ◌+◌, ◌-◌, ◌/◌, ◌%◌, ◌≤◌}
use mathlib.Core.Path.{◌≡◌, refl, sym, ap, ◌∙◌, subst}
use mathlib.Core.Bool.{Bool, true, false, false≢true}
use mathlib.Core.List.{List, [], ◌∷◌}
use native.Mathlib.Omega.{arith}
use lib.ListN.{length}
use borrow.Author.Tests.{eq-eqb, ne_eqb, eqb-true}
use Rattle.std.specs.Prelude.{Option, Some, None, IfSome}
use Rattle.rules.specs.Answers.{refusing}
use Rattle.rules.specs.declared.refusal.Refusal.TheVariants as Refusal
use Rattle.rules.specs.Choice.{◌=ᵇ◌, ◌≠ᵇ◌, no, ◌and◌, pick, ◌⇒◌∣◌, first}
use Rattle.rules.specs.When.{Not}
use Rattle.rules.specs.Answers.{DONE, WRONG_SIZE, NO_ROW}
use Rattle.rules.proofs.Choice.{Each, pick_all, decide_all, decide_lines, at_true, at_false, ne_neb, is_no, not_no}
use Rattle.wire.specs.Setup.{read_setup}
use Rattle.wire.specs.When.{at, two_at, Column, rows, Matches, RowOf}
use Rattle.wire.specs.declared.types.Endpoint.TheVariants.{Out, In, Interrupt}
use Rattle.wire.specs.declared.types.Header.TheVariants.{Message, Request, Trigger}
use Rattle.wire.specs.declared.types.Row.{Row}
use Rattle.wire.specs.declared.types.Row.TheVariants.{InitiateAbortBulkOut, CheckAbortBulkOutStatus, InitiateAbortBulkIn, CheckAbortBulkInStatus}
use Rattle.wire.specs.declared.types.Row.TheVariants.{InitiateClear, CheckClearStatus, GetCapabilities}
use Rattle.wire.specs.declared.types.Row.TheVariants.{IndicatorPulse, ReadStatusByte, RenControl, GoToLocal, LocalLockout, ClearFeature, SetFeature, GetStatus}
use Rattle.wire.specs.declared.types.Setup.{Setup}
use Rattle.wire.specs.declared.types.Setup.TheVariants.{Configure, Asks}
use Rattle.wire.proofs.When.{setup_law}
use Rattle.wire.proofs.SetupLaws.{Tagged, InRange, setup_ranged}
use Rattle.port.specs.Parts.{is_size, on, is_open_out, is_open_in, is_owed, is_clear, out_of, in_of, interrupt_of}
use Rattle.port.specs.Parts.{is_configured, with_status, with_waiting, no_packet, fresh}
use Rattle.port.specs.Remote.{local_now}
use Rattle.port.specs.Answer.{Answer, Said, numbered, refuse}
use Rattle.port.specs.Out.{planned, accepted, out_plan, outcome, plain}
use Rattle.port.specs.In.{in_rules, poll}
use Rattle.port.specs.Interrupt.{asks_service, without_bit_6, is_waiting, notified, status_held, polled, status_queued, interrupt_rules, poll_interrupt}
use Rattle.port.specs.Rows.{Reaction, answering, abort_rules, out_tag, in_tag, initiate_abort_out, initiate_abort_in}
use Rattle.port.specs.Rows.{check_abort_out, check_abort_in, initiate_clear, check_clear, read_status, answer_row}
use Rattle.port.specs.Rows.{clearing, effected}
use Rattle.port.specs.Device.{Device, Result, is_sound, with_state, made, power_on}
use Rattle.port.specs.Calls.{refused, said, bulk_out, bulk_in, interrupt_in, setup_rules, asked, setup_outcome}
use Rattle.port.specs.Calls.{answered, setup, take_rules, taking, take_message, offer_rules, offer_plan, offer}
use Rattle.port.specs.Calls.{thermostat_rules, status_set, set_status_byte, returned, panel, reset_by_bus, suspend}
use Rattle.port.specs.Step.{in_poll, interrupt_poll, offer_reply, set_status, front_panel, bus_suspend, SetupPacket}
use Rattle.port.specs.Step.{Call, setup_packet, out_packet, take_into, bus_reset, quiet, quietly, soundly, step}
use Rattle.port.specs.Trace.{trace}
use Rattle.port.specs.Service.{Watch, unwatched, none, behind, after_status, reads_status, after_request, watch_call}
use Rattle.port.specs.Service.{watched, StatusAnswered, Tells, Watching, watch_of, StatusTold, StatusToldEver}
use Rattle.port.specs.declared.types.InterruptIn.{InterruptIn}
use Rattle.port.specs.declared.types.Split.{Split}
use Rattle.port.specs.declared.types.Split.TheVariants.{None, AbortOut, AbortIn, Clear}
use Rattle.port.specs.declared.types.State.{State}
use Rattle.port.specs.declared.types.Plan.{Plan}
use Rattle.port.specs.declared.types.Outcome.{Outcome}
use Rattle.port.specs.declared.types.Outcome.TheVariants.{Keep, Halt, Data, Accept}
use Rattle.port.specs.Answer.{SetupOutcome}
use Rattle.std.specs.Prelude.{Err}
use Rattle.std.specs.Prelude.{Ok}
use Rattle.port.proofs.Calls.{step_sound, keeps_sound, power_on_sound, row_done}
use Rattle.port.proofs.Readers.{find, ◌▹◌}

-- ** the endpoint, as one sees it who counts

abbrev seen : InterruptIn → Watch
seen i = record { held = i.status; next = pick (i.waiting.notify1 ≠ᵇ 0) (i.waiting.notify1 ∷ i.waiting.notify2 ∷ []) [] }

waits : (i : InterruptIn) → is_waiting i ≡ true → (seen i).next ≡ i.waiting.notify1 ∷ i.waiting.notify2 ∷ []
waits i e = at_true _ _ _ e

rests : (i : InterruptIn) → is_waiting i ≡ false → (seen i).next ≡ []
rests i e = at_false _ _ _ e

-- bit 6 is 64
cleared : (status : ℕ) → asks_service status ≡ true → without_bit_6 status ≡ status - 64
cleared status e = let h : status / 64 % 2 ≡ 1 = eqb-true _ _ e in omega arith

notified_seen : (i : InterruptIn) → is_waiting i ≡ false → seen (notified i) ≡ behind i.status
unfolding notified behind no ◌≠ᵇ◌ pick
notified_seen i w =
    by (asks_service i.status) refl
  where
    by : (t : Bool) → asks_service i.status ≡ t
        → seen (pick t (record { status = without_bit_6 i.status; waiting = record { notify1 = 0x81; notify2 = i.status }; halted = i.halted }) i)
        ≡ pick t (record { held = i.status - 64; next = 0x81 ∷ i.status ∷ [] }) (record { held = i.status; next = [] })
    by true e = ap {B = Watch} (λ (n : ℕ). record { held = n; next = 0x81 ∷ i.status ∷ [] }) (cleared i.status e)
    by false e = ap {B = Watch} (λ (l : List ℕ). record { held = i.status; next = l }) (rests i w)

held_seen : (i : InterruptIn) (status : ℕ) → seen (status_held i status) ≡ after_status (seen i) status
unfolding status_held after_status
held_seen i status =
    pick_all (λ (j : InterruptIn). seen j ≡ pick (none (seen i).next) (behind status) (record { held = status; next = (seen i).next })) (is_waiting i) _ _
    (λ e. sym (at_false _ _ _ (ap none (waits i e))))
    (λ e. notified_seen (with_status i status) e ∙ sym (at_true _ _ _ (ap none (rests i e))))

polled_seen : (i : InterruptIn) → seen (polled i) ≡ behind i.status
unfolding polled no ◌≠ᵇ◌
polled_seen i = notified_seen (with_waiting i no_packet) refl

queued_seen : (i : InterruptIn) (tag : ℕ) → tag ≤ 127 → seen (status_queued i tag) ≡ record { held = i.status; next = (0x80 + tag) ∷ i.status ∷ [] }
unfolding status_queued
queued_seen i tag high =
    let e : 128 + tag % 128 ≡ 128 + tag = omega arith in
    ap {B = Watch} (λ (l : List ℕ). record { held = i.status; next = l }) (at_true _ _ _ (ne_neb (128 + tag % 128) 0 (λ z. omega arith)) ∙ ap {B = List ℕ} (λ (n : ℕ). n ∷ i.status ∷ []) e)

-- ** a setup packet, by the row that its bytes match

module _ (w : Watch) (bytes : List ℕ) where
  abbrev by_row : Row → Watch
  by_row (InitiateAbortBulkOut tag) = w
  by_row CheckAbortBulkOutStatus = w
  by_row (InitiateAbortBulkIn tag) = w
  by_row CheckAbortBulkInStatus = w
  by_row InitiateClear = w
  by_row CheckClearStatus = w
  by_row GetCapabilities = w
  by_row IndicatorPulse = w
  by_row (ReadStatusByte tag) = pick (at bytes 0 =ᵇ 0x01) (record { held = w.held; next = (0x80 + tag) ∷ w.held ∷ [] }) w
  by_row (RenControl ren) = w
  by_row GoToLocal = w
  by_row LocalLockout = w
  by_row (ClearFeature endpoint) = w
  by_row (SetFeature endpoint) = w
  by_row (GetStatus endpoint) = w

  abbrev by_setup : Setup → Watch
  by_setup (Configure value) = unwatched
  by_setup (Asks row) = by_row row

  -- READ_STATUS_BYTE, with this tag
  abbrev Reads : ℕ → Setup → Type 0
  Reads tag (Configure value) = ⊥
  Reads tag (Asks row) = row ≡ ReadStatusByte tag

  abbrev by_bytes : ℕ → ℕ → ℕ → Watch
  by_bytes type request tag =
      first
      (type =ᵇ 0x00 ⇒ unwatched ∣
      (type =ᵇ 0xA1 and request =ᵇ 128) and at bytes 0 =ᵇ 0x01 ⇒ record { held = w.held; next = (0x80 + tag) ∷ w.held ∷ [] } ∣ [])
      w

  -- so it is with a row, whose wValue is v and the low byte of it b
  abbrev GoesBy : Column × (ℕ → Setup) → Type 0
  GoesBy c = (v b : ℕ) → v ≤ c.0.high → (v ≤ 255 → b ≡ v) → by_bytes c.0.type c.0.request b ≡ by_setup (c.1 v)

  abbrev ReadsBy : Column × (ℕ → Setup) → Type 0
  ReadsBy c = (c.0.type =ᵇ 0xA1 and c.0.request =ᵇ 128) ≡ true → (v b : ℕ) → v ≤ c.0.high → (v ≤ 255 → b ≡ v) → Reads b (c.1 v)

  abbrev Told : Column × (ℕ → Setup) → Type 0
  Told c = GoesBy c × ReadsBy c

  all_told : Each Told rows
  unfolding pick ◌and◌
  all_told =
      (same, never) ▹ (same, never) ▹ (same, never) ▹ (same, never) ▹ (same, never) ▹ (same, never) ▹ (same, never) ▹ (same, never) ▹ (
        λ v b h e. ap (λ (n : ℕ). pick (at bytes 0 =ᵇ 0x01) (record { held = w.held; next = (0x80 + n) ∷ w.held ∷ [] }) w) (e (omega arith)),
        λ _ v b h e. ap ReadStatusByte (sym (e (omega arith))),
      ) ▹
      (same, never) ▹ (same, never) ▹ (same, never) ▹ (same, never) ▹ (same, never) ▹ (same, never) ▹ (same, never) ▹ (same, never) ▹
      (same, never) ▹ (same, never) ▹ (same, never) ▹ (same, never) ▹ (same, never) ▹ tt
    where
      same : {x : Watch} {high : ℕ} → (v b : ℕ) → v ≤ high → (v ≤ 255 → b ≡ v) → x ≡ x
      same v b h e = refl

      never : {A : Type 0} → false ≡ true → A
      never f = absurd (false≢true f)

  module _ (s : List ℕ) (x : Setup) (m : Matches s rows x) where
    pub matched : (after_request w s bytes ≡ by_setup x) × (reads_status s ≡ true → Reads (at s 2) x)
    unfolding after_request
    matched =
        let f = find s Told rows x all_told m in
        let t = f.fits.type in
        let q = f.fits.request in
        let h = f.fits.high in
        let low : two_at s 2 ≤ 255 → at s 2 ≡ two_at s 2 = λ l. omega arith in (
          (λ i. by_bytes (t i) (q i) (at s 2)) ∙ f.holds.0 (two_at s 2) (at s 2) h low ∙ ap by_setup (sym f.asks),
          λ e. subst (Reads (at s 2)) (sym f.asks) (f.holds.1 ((λ i. (sym t i =ᵇ 0xA1) and (sym q i =ᵇ 128)) ∙ e) (two_at s 2) (at s 2) h low),
        )

-- ** a call

-- a plan leaves the endpoint as it was
planned_stays : (st : State) (x : Outcome) → interrupt_of (planned st x).state ≡ interrupt_of st
unfolding planned accepted
planned_stays st (Keep n) = refl
planned_stays st (Halt n) = refl
planned_stays st (Data count) = refl
planned_stays st (Accept (Message tag size end) count) = refl
planned_stays st (Accept (Request tag size enabled term) count) = refl
planned_stays st (Accept (Trigger tag) count) = refl

module _ (u : Device) where
  abbrev st : State
  st = u.state

  abbrev i : InterruptIn
  i = interrupt_of st

  abbrev w : Watch
  w = watch_of u

  record Goes (c : Call) (q : Result) : Type 0 where
    tells : Tells w c q.answer
    moves : watch_of q.unit ≡ watched w c q.answer

  -- answered with another number than 0, the unit as it was
  refuses : (c : Call) (n : ℕ) → Not (n ≡ 0) → Tells w c (numbered n) → Goes c (refused u n)
  unfolding watched
  refuses c n z t = record { tells = t; moves = sym (at_false _ _ _ (ne_eqb n 0 z)) }

  -- answered 0
  goes_to : (c : Call) (v : Device) (a : Answer) → a.verdict.number ≡ 0 → Tells w c a → watch_of v ≡ watch_call w c a.bytes → Goes c (record { unit = v; answer = a })
  unfolding watched
  goes_to c v a z t e = record { tells = t; moves = e ∙ sym (at_true _ _ _ (eq-eqb _ 0 z)) }

  -- ** setup rows

  abbrev Stays : Reaction → Type 0
  Stays r = interrupt_of (effected st r.effect) ≡ i

  abbrev seen_after : Reaction → Watch
  seen_after r = seen (interrupt_of (effected st r.effect))

  split_stays : (r : Split → Reaction) → Stays (r None) → ((n : ℕ) → Stays (r (AbortOut n))) → ((n : ℕ) → Stays (r (AbortIn n))) → Stays (r Clear) → (s : Split) → Stays (r s)
  split_stays r a b c d None = a
  split_stays r a b c d (AbortOut n) = b n
  split_stays r a b c d (AbortIn n) = c n
  split_stays r a b c d Clear = d

  row_moves : (row : Row) → ((tag : ℕ) → row ≡ ReadStatusByte tag → tag ≤ 127) → seen_after (answer_row st row) ≡ by_row w (answer_row st row).answer.bytes row
  unfolding answer_row initiate_abort_out initiate_abort_in check_abort_out check_abort_in initiate_clear check_clear read_status effected local_now clearing pick
  row_moves (InitiateAbortBulkOut tag) t =
      ap seen (decide_all Stays (λ status. answering (status ∷ out_tag (out_of st) ∷ [])) (abort_rules st.split (is_open_out (out_of st)) (out_tag (out_of st)) tag) _ (refl, (refl, (refl, tt)))
      (λ _. refl))
  row_moves CheckAbortBulkOutStatus t = ap seen (split_stays check_abort_out refl (λ _. refl) (λ _. refl) refl st.split)
  row_moves (InitiateAbortBulkIn tag) t =
      ap seen (decide_all Stays (λ status. answering (status ∷ in_tag (in_of st) ∷ [])) (abort_rules st.split (is_open_in (in_of st)) (in_tag (in_of st)) tag) _ (refl, (refl, (refl, tt))) (λ _. refl))
  row_moves CheckAbortBulkInStatus t =
      ap seen (split_stays (check_abort_in (in_of st)) refl (λ _. refl) (λ _. pick_all Stays (is_owed (in_of st)) _ _ (λ _. refl) (λ _. refl)) refl st.split)
  row_moves InitiateClear t = ap seen (pick_all Stays (is_clear st.split) _ _ (λ _. refl) (λ _. refl))
  row_moves CheckClearStatus t = ap seen (pick_all Stays (no (is_clear st.split)) _ _ (λ _. refl) (λ _. pick_all Stays (is_owed (in_of st)) _ _ (λ _. refl) (λ _. refl)))
  row_moves GetCapabilities t = refl
  row_moves IndicatorPulse t = refl
  row_moves (ReadStatusByte tag) t =
      pick_all (λ (r : Reaction). seen_after r ≡ by_row w r.answer.bytes (ReadStatusByte tag)) (is_waiting i) _ _ (λ _. refl) (λ _. queued_seen i tag (t tag refl))
  row_moves (RenControl ren) t = ap seen (pick_all (λ (s : State). interrupt_of s ≡ i) (on ren) _ _ (λ _. refl) (λ _. refl))
  row_moves GoToLocal t = refl
  row_moves LocalLockout t = refl
  row_moves (ClearFeature Out) t = refl
  row_moves (ClearFeature In) t = refl
  row_moves (ClearFeature Interrupt) t = refl
  row_moves (SetFeature Out) t = refl
  row_moves (SetFeature In) t = refl
  row_moves (SetFeature Interrupt) t = refl
  row_moves (GetStatus endpoint) t = refl

  -- what READ_STATUS_BYTE answers
  row_answers : (s : List ℕ) (row : Row) → row ≡ ReadStatusByte (at s 2) → StatusAnswered w s (answer_row st row).answer.bytes
  unfolding answer_row read_status
  row_answers s row e =
      subst (λ (r : Row). StatusAnswered w s (answer_row st r).answer.bytes) (sym e)
      (pick_all (λ (r : Reaction). StatusAnswered w s r.answer.bytes) (is_waiting i) _ _
      (λ e. ap {B = List ℕ} (λ (n : ℕ). n ∷ at s 2 ∷ 0x00 ∷ []) (sym (at_false _ _ _ (ap none (waits i e)))))
      (λ e. ap {B = List ℕ} (λ (n : ℕ). n ∷ at s 2 ∷ 0x00 ∷ []) (sym (at_true _ _ _ (ap none (rests i e))))))

  module _ (p : SetupPacket) where
    abbrev c : Call
    c = setup_packet p

    denied : (n : ℕ) → Not (n ≡ 0) → Goes c (refused u n)
    denied n z = refuses c n z (λ e. absurd (z e))

    row_goes : (row : Row) → Matches p.packet rows (Asks row) → InRange (Asks row) → Goes c (answered u (Ok (Asks row)))
    unfolding answered
    row_goes row m k =
        let a = (answer_row st row).answer in
        let f = matched w a.bytes p.packet (Asks row) m in
        goes_to c (with_state u (effected st (answer_row st row).effect)) a (row_done st row)
        (λ _ e. row_answers p.packet row (f.1 e)) (row_moves row (λ tag e. (subst Tagged e k).1) ∙ sym f.0)

    served : (x : Setup) → Matches p.packet rows x → InRange x → Goes c (answered u (asked st (Some x)))
    unfolding asked answered made fresh no ◌≠ᵇ◌ pick
    served (Configure value) m k =
        let f = matched w [] p.packet (Configure value) m in
        goes_to c _ (numbered DONE) refl (λ _ e. absurd (f.1 e)) (sym f.0)
    served (Asks row) m k =
        pick_all (λ (x : SetupOutcome). Goes c (answered u x)) (is_configured st) (Ok (Asks row)) (Err Refusal.UnknownRow)
        (λ _. row_goes row m k)
        (λ _. denied NO_ROW (λ e. omega arith))

    row_read : (x : Option Setup) → RowOf p.packet x → IfSome x InRange → Goes c (answered u (asked st x))
    unfolding asked answered
    row_read (Some x) m k = served x m k
    row_read None _ _ = denied NO_ROW (λ e. omega arith)

    setup_goes : Goes c (setup u p.packet p.room)
    unfolding setup setup_outcome answered asked
    setup_goes =
        decide_all (λ (x : SetupOutcome). Goes c (answered u x)) Err (setup_rules (length p.packet) p.room) _ (denied WRONG_SIZE (λ e. omega arith), tt)
        (λ _. row_read (read_setup p.packet) (setup_law p.packet) (setup_ranged p.packet))

  -- ** the other calls

  -- nothing is told of it, and the endpoint stays
  module _ (c : Call) (tells : (a : Answer) → Tells w c a) (stays : (bytes : List ℕ) → watch_call w c bytes ≡ w) where
    still : (v : Device) (a : Answer) → interrupt_of v.state ≡ i → Goes c (record { unit = v; answer = a })
    unfolding watched
    still v a e = record { tells = tells a; moves = ap seen e ∙ sym (pick_all (λ (x : Watch). x ≡ w) (a.verdict.number =ᵇ 0) _ _ (λ _. stays a.bytes) (λ _. refl)) }

  poll_goes : (room : ℕ) → Goes (quiet (interrupt_poll room)) (interrupt_in u room)
  unfolding interrupt_in poll_interrupt
  poll_goes room =
      decide_lines (λ (r : Said). Goes c (said u r)) (refuse st) (interrupt_rules st room) _ (
        λ _. refuses c 2 (λ e. omega arith) (λ e. absurd (omega arith), λ e. absurd (omega arith)),
        (
          λ _. refuses c 3 (λ e. omega arith) (λ e. absurd (omega arith), λ e. absurd (omega arith)),
          (
            λ _. refuses c 4 (λ e. omega arith) (λ e. absurd (omega arith), λ e. absurd (omega arith)),
            (λ n. refuses c 5 (λ e. omega arith) (λ e. absurd (omega arith), λ _. rests i (is_no _ n)), tt),
          ),
        ),
      )
      (λ n.
      let is = not_no _ n.1.1.1.0 in
      goes_to c _ _ refl ((λ _. (λ e. none_not (sym (waits i is) ∙ e), sym (waits i is))), λ e. absurd (omega arith)) (polled_seen i))
    where
      c : Call
      c = quiet (interrupt_poll room)

      none_not : {a b : ℕ} → ◌≡◌ {A = List ℕ} (a ∷ b ∷ []) [] → ⊥
      none_not e = let z : ◌≡◌ {A = ℕ} 0 1 = cc in omega arith

  abbrev Kept : Said → Type 0
  Kept r = interrupt_of r.state ≡ i

  goes : (c : Call) → Goes c (soundly u c)
  unfolding soundly quietly bulk_out out_plan bulk_in poll take_message taking offer offer_plan set_status_byte status_set panel returned reset_by_bus suspend local_now made fresh no ◌≠ᵇ◌ pick
  goes (setup_packet p) = setup_goes p
  goes (out_packet s) = still (out_packet s) (λ _. tt) (λ _. refl) _ _ (planned_stays st (outcome st s))
  goes (take_into room) = still _ (λ _. tt) (λ _. refl) _ _ (decide_all Kept (refuse st) (take_rules st room) _ (refl, (refl, (refl, tt))) (λ _. refl))
  goes bus_reset = goes_to bus_reset _ (numbered DONE) refl tt refl
  goes (quiet (in_poll room)) = still _ (λ _. tt) (λ _. refl) _ _ (decide_all Kept (refuse st) (in_rules st room) _ (refl, (refl, (refl, (refl, tt)))) (λ _. refl))
  goes (quiet (interrupt_poll room)) = poll_goes room
  goes (quiet (offer_reply bytes)) =
      still _ (λ _. tt) (λ _. refl) _ _
      (decide_all (λ (p : Plan). interrupt_of p.state ≡ i) (λ k. plain st (refusing k)) (offer_rules st (length bytes)) _ (refl, (refl, (refl, tt))) (λ _. refl))
  goes (quiet (set_status status)) =
      decide_all (λ (r : Said). Goes (quiet (set_status status)) (said u r)) (refuse st) (thermostat_rules st) _ (refuses _ 2 (λ e. omega arith) tt, tt)
      (λ _. goes_to (quiet (set_status status)) _ _ refl tt (held_seen i status))
  goes (quiet front_panel) = still _ (λ _. tt) (λ _. refl) _ _ (decide_all Kept (refuse st) (thermostat_rules st) _ (refl, tt) (λ _. refl))
  goes (quiet bus_suspend) = still _ (λ _. tt) (λ _. refl) _ _ refl

-- ** a run

-- what one counts is what the unit holds, and every answer is told as it says
pub told_step : (u : Device) (c : Call) → is_sound u ≡ true → Tells (watch_of u) c (step u c).answer × (watch_of (step u c).unit ≡ watched (watch_of u) c (step u c).answer)
told_step u c e = subst (λ (q : Result). Tells (watch_of u) c q.answer × (watch_of q.unit ≡ watched (watch_of u) c q.answer)) (sym (step_sound u c e)) (let k = goes u c in (k.tells, k.moves))

pub status_told : StatusTold step
unfolding trace
status_told u [] e = tt
status_told u (c ∷ cs) e =
    let k = told_step u c e in (k.0, subst (λ (w : Watch). Watching w (trace step (step u c).unit cs)) k.1 (status_told (step u c).unit cs (keeps_sound u c e)))

pub status_told_ever : StatusToldEver step
unfolding power_on made fresh no ◌≠ᵇ◌ pick
status_told_ever setting calls =
    subst (λ (w : Watch). Watching w (trace step (power_on setting).unit calls))
    (pick_all (λ (r : Result). watch_of r.unit ≡ unwatched) (is_size setting.packet) _ _ (λ _. refl) (λ _. refl))
    (status_told (power_on setting).unit calls (power_on_sound setting))
