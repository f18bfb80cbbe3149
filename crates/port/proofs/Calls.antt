-- The laws of single calls, proved of our step: soundness kept, an unsound unit refused, each call's own numbers, and what a refusal leaves.
-- Each call is taken apart once, by `way`: it refuses and leaves the unit, it halts Bulk-OUT, or it does what the rules say; the laws read that off.
-- Assumes nothing.
use Prim.Native.Nat.{ℕ, ◌+◌, ◌-◌, ◌≤◌, min}
use mathlib.Core.Path.{◌≡◌, refl, sym, ap, ◌∙◌, subst}
use mathlib.Core.Bool.{Bool, true, false, cond, true≢false}
use mathlib.Core.List.{List, [], ◌∷◌}
use mathlib.Core.Logic.{inl, inr, ⊎_elim}
use native.Mathlib.Omega.{arith}
use lib.ListN.{length, drop, length-replicate, length-drop}
use lib.Dec.{T, eqb}
use lib.Seq.{paste, paste-zero, length-paste}
use borrow.Author.Tests.{ne_eqb, eqb-true, eqb-false, ltb-false}
use Rattle.std.specs.Prelude.{Option, Some, None, IfSome}
use Rattle.rules.specs.Choice.{◌=ᵇ◌, pick, decide}
use Rattle.rules.specs.Answers.{DONE, UNSOUND, UNCONFIGURED, WRONG_SIZE, HALTED, WAIT, NOT_IN_FOURS, SHORT_HEADER, BAD_TAG, UNKNOWN_MSGID, RESERVED}
use Rattle.rules.specs.Answers.{WRONG_LENGTH, TOO_LONG, OUT_OF_TURN, NO_ROW, NOT_NOW, unchanged, out_halted, leaves, only, refusing}
use Rattle.rules.proofs.Choice.{pick_all, decide_all, at_true, at_false, no_true, not_no, none_left, none_right, eq_neb, or_left, not_both, decide_lines}
use Rattle.wire.specs.Bytes.{byte}
use Rattle.rules.specs.Flags.{OFF}
use Rattle.wire.specs.Header.{HEADER}
use Rattle.wire.specs.Setup.{bRequest, matches, to_device, read_setup}
use Rattle.wire.specs.declared.types.Header.{Header}
use Rattle.wire.specs.declared.types.Header.TheVariants.{Message, Request, Trigger}
use Rattle.wire.specs.declared.types.Row.{Row}
use Rattle.wire.specs.declared.types.Row.TheVariants.{InitiateAbortBulkOut, CheckAbortBulkOutStatus, InitiateAbortBulkIn, CheckAbortBulkInStatus}
use Rattle.wire.specs.declared.types.Row.TheVariants.{InitiateClear, CheckClearStatus, GetCapabilities, IndicatorPulse, ReadStatusByte}
use Rattle.wire.specs.declared.types.Row.TheVariants.{RenControl, GoToLocal, LocalLockout, ClearFeature, SetFeature, GetStatus}
use Rattle.wire.specs.declared.types.Setup.{Setup}
use Rattle.wire.specs.declared.types.Setup.TheVariants.{Configure, Asks}
use Rattle.wire.proofs.SetupLaws.{InRange, setup_ranged}
use Rattle.port.specs.Parts.{STORE, FULL_SPEED, is_size, CLOSED, OWED, is_owed, is_open_out, is_open_in, has_reply}
use Rattle.port.specs.Parts.{is_clear, port_of, out_of, in_of, interrupt_of, packet_size, is_configured, halted_out}
use Rattle.port.specs.Answer.{Said, numbered, refuse}
use Rattle.port.specs.Out.{plain, planned, accepted, out_plan, data_length}
use Rattle.port.specs.In.{nothing_to_send, in_rules, poll}
use Rattle.port.specs.Interrupt.{is_waiting, interrupt_rules, poll_interrupt}
use Rattle.port.specs.Rows.{Reaction, answering, abort_rules, out_tag, in_tag, initiate_abort_out, initiate_abort_in}
use Rattle.port.specs.Rows.{check_abort_out, check_abort_in, initiate_clear, check_clear, read_status, answer_row}
use Rattle.port.specs.Device.{Device, Result, is_sound, with_state, unsent_of, zeroed, made, power_on}
use Rattle.port.specs.Calls.{refused, said, with_message, bulk_out, bulk_in, interrupt_in, setup_rules, asked, setup_outcome}
use Rattle.port.specs.Calls.{answered, setup, take_rules, taking, take_message, offer_rules, offer_plan, with_reply, offer}
use Rattle.port.specs.Calls.{thermostat_rules, status_set, set_status_byte, returned, panel, reset_by_bus, suspend}
use Rattle.port.specs.Step.{in_poll, interrupt_poll, offer_reply, set_status, front_panel, bus_suspend, SetupPacket}
use Rattle.port.specs.Step.{Call, setup_packet, out_packet, take_into, bus_reset, quiet, quietly, soundly, step}
use Rattle.port.specs.Lists.{bulk, faults, Kind, setups, outs, polls, interrupts, takes, offers, statuses, panels, resets, suspends, kind_of, own, own_list}
use Rattle.port.specs.Laws.{OneOf, Stored, PowerOnSound, PowerOnAnswers, KeepsSound, KeepsStored, UnsoundRefused}
use Rattle.port.specs.Laws.{OnlyUnsound, OwnNumbers, LeftAs, LeavesTable, Zeroed, Zeroes}
use Rattle.port.specs.declared.types.Setting.{Setting}
use Rattle.port.specs.declared.types.Split.{Split}
use Rattle.port.specs.declared.types.Split.TheVariants.{None, AbortOut, AbortIn, Clear}
use Rattle.port.specs.declared.types.State.{State}
use Rattle.port.specs.declared.types.Plan.{Plan}
use Rattle.port.specs.declared.types.Outcome.{Outcome}
use Rattle.port.specs.declared.types.Outcome.TheVariants.{Keep, Halt, Data, Accept}
use Rattle.port.specs.Answer.{SetupOutcome}
use Rattle.std.specs.Prelude.{Err}
use Rattle.port.proofs.Soundness.{Sound, sound_of, sound_to}
use Rattle.port.proofs.Ways.{Continues, Heads, outcome_ways}
use Rattle.port.proofs.KeepsOut.{cases, fresh_sound, halted_sound, data_sound, accept_sound}
use Rattle.port.proofs.KeepsInterrupt.{held_interrupt, polled_interrupt}
use Rattle.port.proofs.KeepsIn.{packet_sound_lem, with_interrupt_lem, row_sound, local_sound, remote_sound, released_sound, offered_sound}

-- ** power-on

pub power_on_sound : PowerOnSound
unfolding power_on made
power_on_sound setting =
    pick_all (λ (r : Result). is_sound r.unit ≡ true) (is_size setting.packet) _ _
    (λ e. sound_to _ (fresh_sound setting OFF e (omega arith)))
    (λ _. sound_to _ (fresh_sound (record { packet = FULL_SPEED }) OFF (size_64) (omega arith)))
  where
    size_64 : is_size FULL_SPEED ≡ true
    size_64 = or_left _ _ refl

pub power_on_answers : PowerOnAnswers
unfolding power_on
power_on_answers setting =
    ⊎_elim (λ e. inl (e, at_true _ _ _ e)) (λ e. inr (e, at_false _ _ _ e)) (cases (is_size setting.packet))

-- ** an unsound unit

-- a plan that stores nothing is a refusal, of a packet and of a reply
pub unplanned : (u : Device) (s : List ℕ) (n : ℕ) → with_message u s (plain u.state (only n)) ≡ refused u n
unplanned u s n = ap (λ (m : List ℕ). record { unit = record { message = m; reply = u.reply; state = u.state }; answer = numbered n })
    (sym (paste-zero u.message (out_of u.state).message.held s))

pub kept : (u : Device) (s : List ℕ) (n : ℕ) → with_message u s (planned u.state (Keep n)) ≡ refused u n
unfolding planned
kept u s n = unplanned u s n

pub unstored : (u : Device) (bytes : List ℕ) (n : ℕ) → with_reply u bytes (plain u.state (only n)) ≡ refused u n
unstored u bytes n = ap (λ (m : List ℕ). record { unit = record { message = u.message; reply = m; state = u.state }; answer = numbered n }) (sym (paste-zero u.reply 0 bytes))

pub unsound_refused : UnsoundRefused step
unfolding step
unsound_refused u c e = at_false _ _ _ e

-- and a sound one does what its call says
pub step_sound : (u : Device) (c : Call) → is_sound u ≡ true → step u c ≡ soundly u c
unfolding step
step_sound u c e = at_true _ _ _ e

-- ** the ways that a call can go

pub data Way (u : Device) (c : Call) : Result → Type 0 where
  refuses : (n : ℕ) → OneOf n (own_list c) → leaves n ≡ unchanged → (n ≡ UNSOUND → is_sound u ≡ false) → Way u c (refused u n)
  halts : (n : ℕ) → OneOf n (own_list c) → leaves n ≡ out_halted → (n ≡ UNSOUND → ⊥) → Sound u.state → Way u c (refused (with_state u (halted_out u.state)) n)
  does : (r : Result) → r.answer.verdict.number ≡ DONE → Sound r.unit.state → (Stored u → Stored r.unit) → Way u c r

-- membership, as a test that computes
abbrev elem : ℕ → List ℕ → Bool
elem n [] = false
elem n (m ∷ ms) = cond (eqb n m) true (elem n ms)

one : (n : ℕ) (ns : List ℕ) → T (elem n ns) → OneOf n ns
one n [] h = h
one n (m ∷ ms) h = by (eqb n m) refl h (one n ms)
  where
    by : (t : Bool) → eqb n m ≡ t → T (cond t true (elem n ms)) → (T (elem n ms) → OneOf n ms) → OneOf n (m ∷ ms)
    by true e k next = inl (eqb-true n m e)
    by false e k next = inr (next k)

-- a result that leaves the stores alone
stays : (u : Device) (st : State) → Stored u → Stored (with_state u st)
stays u st h = record { message = h.message; reply = h.reply }

zeroed_stored : (setting : Setting) (configured : ℕ) → Stored (made setting configured)
unfolding made zeroed
zeroed_stored setting configured = record { message = length-replicate {A = ℕ} STORE 0; reply = length-replicate {A = ℕ} STORE 0 }

pub power_on_stored : (setting : Setting) → Stored (power_on setting).unit
unfolding power_on
power_on_stored setting = pick_all (λ (r : Result). Stored r.unit) (is_size setting.packet) _ _ (λ _. zeroed_stored _ OFF) (λ _. zeroed_stored _ OFF)

-- 1 stands in every list
unsound_own : (k : Kind) → OneOf UNSOUND (own k)
unfolding own
unsound_own setups = inl refl
unsound_own outs = inl refl
unsound_own polls = inl refl
unsound_own interrupts = inl refl
unsound_own takes = inl refl
unsound_own offers = inl refl
unsound_own statuses = inl refl
unsound_own panels = inl refl
unsound_own resets = inl refl
unsound_own suspends = inl refl

-- a line of a list of rules that keeps
keeps : (u : Device) (c : Call) (n : ℕ) → OneOf n (own_list c) → leaves n ≡ unchanged → (n ≡ UNSOUND → ⊥) → Way u c (refused u n)
keeps u c n o l e = refuses n o l (λ z. absurd (e z))

abbrev Zero : Reaction → Type 0
Zero r = r.answer.verdict.number ≡ DONE

-- every row that is served is answered 0
pub row_done : (st : State) (row : Row) → (answer_row st row).answer.verdict.number ≡ DONE
unfolding answer_row initiate_abort_out initiate_abort_in check_abort_out check_abort_in initiate_clear check_clear read_status
row_done st (InitiateAbortBulkOut tag) =
    decide_all Zero (λ statuses. answering (statuses ∷ out_tag (out_of st) ∷ [])) (abort_rules st.split (is_open_out (out_of st)) (out_tag (out_of st)) tag) _ (refl, (refl, (refl, tt))) (λ _. refl)
row_done st CheckAbortBulkOutStatus = by st.split
  where
    by : (s : Split) → (check_abort_out s).answer.verdict.number ≡ DONE
    by None = refl
    by (AbortOut count) = refl
    by (AbortIn count) = refl
    by Clear = refl
row_done st (InitiateAbortBulkIn tag) =
    decide_all Zero (λ statuses. answering (statuses ∷ in_tag (in_of st) ∷ [])) (abort_rules st.split (is_open_in (in_of st)) (in_tag (in_of st)) tag) _ (refl, (refl, (refl, tt))) (λ _. refl)
row_done st CheckAbortBulkInStatus = by st.split
  where
    by : (s : Split) → (check_abort_in (in_of st) s).answer.verdict.number ≡ DONE
    by None = refl
    by (AbortOut count) = refl
    by (AbortIn count) = pick_all Zero (is_owed (in_of st)) _ _ (λ _. refl) (λ _. refl)
    by Clear = refl
row_done st InitiateClear = pick_all Zero (is_clear st.split) _ _ (λ _. refl) (λ _. refl)
row_done st CheckClearStatus = pick_all Zero _ _ _ (λ _. refl) (λ _. pick_all Zero (is_owed (in_of st)) _ _ (λ _. refl) (λ _. refl))
row_done st GetCapabilities = refl
row_done st IndicatorPulse = refl
row_done st (ReadStatusByte tag) = pick_all Zero (is_waiting (interrupt_of st)) _ _ (λ _. refl) (λ _. refl)
row_done st (RenControl ren) = refl
row_done st GoToLocal = refl
row_done st LocalLockout = refl
row_done st (ClearFeature endpoint) = refl
row_done st (SetFeature endpoint) = refl
row_done st (GetStatus endpoint) = refl

module _ (u : Device) (h : Sound u.state) where
  setup_way : (s : List ℕ) (room : ℕ) (c : Call) → kind_of c ≡ setups → Way u c (setup u s room)
  unfolding setup setup_outcome answered asked own leaves made
  setup_way s room c k =
      decide_lines (λ (x : SetupOutcome). Way u c (answered u x)) Err (setup_rules (length s) room) _
      (λ _. keeps u c WRONG_SIZE (rw k (inr (inl refl))) refl (λ e. omega arith), tt)
      (λ _. by (read_setup s) (setup_ranged s))
    where
      no_row : Way u c (refused u NO_ROW)
      no_row = keeps u c NO_ROW (rw k (inr (inr (inl refl)))) refl (λ e. omega arith)

      by : (x : Option Setup) → IfSome x InRange → Way u c (answered u (asked u.state x))
      by (Some (Configure value)) k = does _ refl (fresh_sound (port_of u.state).setting value h.port.size k) (λ _. zeroed_stored (port_of u.state).setting value)
      by (Some (Asks row)) k = pick_all (λ (x : SetupOutcome). Way u c (answered u x)) (is_configured u.state) _ _
          (λ _. does _ (row_done u.state row) (row_sound u.state h row k) (stays u _)) (λ _. no_row)
      by None k = no_row

  -- ** Bulk-OUT

  -- the store keeps its length, whatever is put into it
  put_stored : (s : List ℕ) (from count : ℕ) (st : State) → ((count ≡ 0 → ⊥) → (out_of u.state).message.held + count ≤ STORE) → from + count ≤ length s → Stored u
      → Stored (record { message = paste u.message (out_of u.state).message.held (drop from s) count; reply = u.reply; state = st })
  put_stored s from count st room fits h = record {
    message = ⊎_elim
        (λ e. let z = eqb-true count 0 e in
        ap length
        (sym (subst (λ (n : ℕ). u.message ≡ paste u.message (out_of u.state).message.held (drop from s) n) (sym z)
        (paste-zero u.message (out_of u.state).message.held (drop from s)))) ∙ h.message)
        (λ e. let r = room (eqb-false count 0 e) in length-paste u.message (out_of u.state).message.held (drop from s) count (let l = h.message in omega arith)
        (let l = length-drop from s in omega arith) ∙ h.message)
        (cases (count =ᵇ 0));
    reply = h.reply;
  }

  -- a plan that halts does nothing else
  pub halted : (s : List ℕ) (n : ℕ) → with_message u s (planned u.state (Halt n)) ≡ refused (with_state u (halted_out u.state)) n
  unfolding planned
  halted s n = ap (λ (m : List ℕ). record { unit = record { message = m; reply = u.reply; state = halted_out u.state }; answer = numbered n })
      (sym (paste-zero u.message (out_of u.state).message.held s))

  module _ (s : List ℕ) where
    abbrev packet : Call
    packet = out_packet s

    Q : Outcome → Type 0
    Q x = Way u packet (with_message u s (planned u.state x))

    keep_way : (n : ℕ) → Way u packet (refused u n) → Q (Keep n)
    unfolding Q
    keep_way n w = subst (Way u packet) (sym (kept u s n)) w

    stays_way : (n : ℕ) → T (elem n (bulk faults)) → leaves n ≡ unchanged → (n ≡ UNSOUND → ⊥) → Q (Keep n)
    unfolding own
    stays_way n o l e = keep_way n (keeps u packet n (one n (bulk faults) o) l e)

    halt_way : (n : ℕ) → T (elem n (bulk faults)) → leaves n ≡ out_halted → (n ≡ UNSOUND → ⊥) → Q (Halt n)
    unfolding Q own
    halt_way n o l e = subst (Way u packet) (sym (halted s n)) (halts n (one n (bulk faults) o) l e h)

    data_way : Continues u.state s → Q (Data (min (out_of u.state).transfer.left (length s)))
    unfolding Q planned
    data_way c =
        does _ refl (data_sound u.state s h c) (put_stored s 0 (min (out_of u.state).transfer.left (length s)) _
        (λ _. ⊎_elim (λ w. let r = w.1.room in omega arith) (λ w. absurd (c.is_open w.0)) h.out) (omega arith))

    head_way : (x : Header) → Heads u.state s x → Q (Accept x (min (data_length x) (length s - HEADER)))
    unfolding Q planned accepted
    head_way (Message tag size end) c =
        let room : (out_of u.state).message.held + size ≤ STORE = ltb-false _ _ c.none.1.0 in
        let long = c.reads.0 in
        does _ refl (accept_sound u.state s h (Message tag size end) c) (put_stored s HEADER (min size (length s - HEADER)) _ (λ _. omega arith) (omega arith))
    head_way (Request tag size enabled term) c = does _ refl (accept_sound u.state s h (Request tag size enabled term) c) (put_stored s 0 0 _ (λ e. absurd (e refl)) (omega arith))
    head_way (Trigger tag) c = does _ refl (accept_sound u.state s h (Trigger tag) c) (put_stored s 0 0 _ (λ e. absurd (e refl)) (omega arith))

    out_way : Way u packet (bulk_out u s)
    unfolding bulk_out out_plan Q own leaves
    out_way = outcome_ways u.state s Q (record {
      keeps = (
        λ _. stays_way UNCONFIGURED tt refl (λ e. omega arith),
        (
          λ _. stays_way WRONG_SIZE tt refl (λ e. omega arith),
          (
            λ _. stays_way HALTED tt refl (λ e. omega arith),
            (λ _. stays_way WAIT tt refl (λ e. omega arith), tt),
          ),
        ),
      );
      empty = λ _. keep_way DONE (does _ refl h (λ stored. stored));
      halts = λ _. (
        halt_way NOT_IN_FOURS tt refl (λ e. omega arith),
        (
          halt_way SHORT_HEADER tt refl (λ e. omega arith),
          (
            halt_way BAD_TAG tt refl (λ e. omega arith),
            (
              halt_way UNKNOWN_MSGID tt refl (λ e. omega arith),
              (
                halt_way RESERVED tt refl (λ e. omega arith),
                (
                  halt_way OUT_OF_TURN tt refl (λ e. omega arith),
                  (
                    halt_way TOO_LONG tt refl (λ e. omega arith),
                    (halt_way WRONG_LENGTH tt refl (λ e. omega arith), tt),
                  ),
                ),
              ),
            ),
          ),
        ),
      );
      continues = data_way;
      heads = head_way;
    })

  -- ** Bulk-IN

  in_way : (room : ℕ) → Way u (quiet (in_poll room)) (bulk_in u room)
  unfolding bulk_in poll own leaves
  in_way room =
      decide_lines (λ (r : Said). Way u c (said u r)) (refuse u.state) (in_rules u.state room) _ (
        λ _. k UNCONFIGURED tt refl (λ e. omega arith),
        (
          λ _. k WRONG_SIZE tt refl (λ e. omega arith),
          (
            λ _. k HALTED tt refl (λ e. omega arith),
            (λ _. k WAIT tt refl (λ e. omega arith), tt),
          ),
        ),
      )
      (λ n. does _ refl (packet_sound_lem u.state h (packet_size u.state) (unsent_of u) (open_now n.1.1.1.0)) (stays u _))
    where
      c : Call
      c = quiet (in_poll room)

      k : (n : ℕ) → T (elem n (bulk [])) → leaves n ≡ unchanged → (n ≡ UNSOUND → ⊥) → Way u (quiet (in_poll room)) (refused u n)
      k n o l e = keeps u (quiet (in_poll room)) n (one n (bulk []) o) l e

      -- with a packet to send the transfer is open
      open_now : nothing_to_send (in_of u.state) ≡ false → (in_of u.state).transfer.phase ≡ CLOSED → ⊥
      open_now n z = true≢false (sym (or_left _ _ (no_true _ (eq_neb _ _ z))) ∙ not_both _ _ n (no_true _ (ne_eqb (in_of u.state).transfer.phase OWED (λ e. omega arith))))

  -- ** Interrupt-IN

  interrupt_way : (room : ℕ) → Way u (quiet (interrupt_poll room)) (interrupt_in u room)
  unfolding interrupt_in poll_interrupt own leaves
  interrupt_way room =
      decide_lines (λ (r : Said). Way u c (said u r)) (refuse u.state) (interrupt_rules u.state room) _ (
        λ _. k UNCONFIGURED tt refl (λ e. omega arith),
        (
          λ _. k WRONG_SIZE tt refl (λ e. omega arith),
          (
            λ _. k HALTED tt refl (λ e. omega arith),
            (λ _. k WAIT tt refl (λ e. omega arith), tt),
          ),
        ),
      )
      (λ _. does _ refl (with_interrupt_lem u.state h _ (polled_interrupt _ h.interrupt)) (stays u _))
    where
      c : Call
      c = quiet (interrupt_poll room)

      k : (n : ℕ) → T (elem n (bulk [])) → leaves n ≡ unchanged → (n ≡ UNSOUND → ⊥) → Way u (quiet (interrupt_poll room)) (refused u n)
      k n o l e = keeps u (quiet (interrupt_poll room)) n (one n (bulk []) o) l e

  -- ** the thermostat's calls

  take_way : (room : ℕ) → Way u (take_into room) (take_message u room)
  unfolding take_message taking own leaves
  take_way room =
      let c = take_into room in
      decide_lines (λ (r : Said). Way u c (said u r)) (refuse u.state) (take_rules u.state room) _ (
        λ _. keeps u c UNCONFIGURED (one UNCONFIGURED (own_list c) tt) refl (λ e. omega arith),
        (
          λ _. keeps u c NOT_NOW (one NOT_NOW (own_list c) tt) refl (λ e. omega arith),
          (λ _. keeps u c WRONG_SIZE (one WRONG_SIZE (own_list c) tt) refl (λ e. omega arith), tt),
        ),
      )
      (λ n. does _ refl (released_sound u.state h (eqb-true _ _ (not_no _ n.1.0))) (stays u _))

  offer_way : (bytes : List ℕ) → Way u (quiet (offer_reply bytes)) (offer u bytes)
  unfolding offer offer_plan own leaves
  offer_way bytes =
      let c = quiet (offer_reply bytes) in
      decide_lines P (λ r. plain u.state (refusing r)) (offer_rules u.state (length bytes)) _ (
        λ _. k UNCONFIGURED (keeps u c UNCONFIGURED (one UNCONFIGURED (own_list c) tt) refl (λ e. omega arith)),
        (
          λ _. k WRONG_SIZE (keeps u c WRONG_SIZE (one WRONG_SIZE (own_list c) tt) refl (λ e. omega arith)),
          (λ _. k NOT_NOW (keeps u c NOT_NOW (one NOT_NOW (own_list c) tt) refl (λ e. omega arith)), tt),
        ),
      )
      (λ n.
      let fits : length bytes ≤ STORE = ltb-false _ _ (none_right (length bytes =ᵇ 0) _ n.1.0) in
      does _ refl (offered_sound u.state h (length bytes) fits (none_left _ _ n.1.1.0) (none_right (has_reply (in_of u.state)) _ n.1.1.0))
      (λ stored. record { message = stored.message; reply = length-paste u.reply 0 bytes (length bytes) (let l = stored.reply in omega arith) (omega arith) ∙ stored.reply }))
    where
      P : Plan → Type 0
      P plan = Way u (quiet (offer_reply bytes)) (with_reply u bytes plan)

      k : (n : ℕ) → Way u (quiet (offer_reply bytes)) (refused u n) → P (plain u.state (only n))
      k n w = subst (Way u (quiet (offer_reply bytes))) (sym (unstored u bytes n)) w

  thermostat_way : (c : Call) (r : Said) → OneOf UNCONFIGURED (own_list c) → Way u c (said u r) → Way u c (said u (decide (refuse u.state) (thermostat_rules u.state) r))
  unfolding leaves
  thermostat_way c r o w = decide_lines (λ (q : Said). Way u c (said u q)) (refuse u.state) (thermostat_rules u.state) _ (λ _. keeps u c UNCONFIGURED o refl (λ e. omega arith), tt) (λ _. w)

  sound_way : (c : Call) → Way u c (soundly u c)
  unfolding soundly quietly own set_status_byte status_set panel returned reset_by_bus suspend made
  sound_way (setup_packet p) = setup_way p.packet p.room (setup_packet p) refl
  sound_way (out_packet s) = out_way s
  sound_way (take_into room) = take_way room
  sound_way bus_reset = does _ refl (fresh_sound (port_of u.state).setting OFF h.port.size (omega arith)) (λ _. zeroed_stored (port_of u.state).setting OFF)
  sound_way (quiet (in_poll room)) = in_way room
  sound_way (quiet (interrupt_poll room)) = interrupt_way room
  sound_way (quiet (offer_reply bytes)) = offer_way bytes
  sound_way (quiet (set_status value)) = thermostat_way (quiet (set_status value)) _ (inr (inl refl)) (does _ refl (with_interrupt_lem u.state h _ (held_interrupt _ h.interrupt value)) (stays u _))
  sound_way (quiet front_panel) = thermostat_way (quiet front_panel) _ (inr (inl refl)) (does _ refl (remote_sound u.state h _) (stays u _))
  sound_way (quiet bus_suspend) = does _ refl (local_sound u.state h) (stays u _)

pub way : (u : Device) (c : Call) → Way u c (step u c)
unfolding step leaves
way u c = pick_all (Way u c) (is_sound u) _ _ (λ e. sound_way u (sound_of _ e) c) (λ e. refuses UNSOUND (unsound_own (kind_of c)) refl (λ _. e))

-- ** the laws

pub keeps_sound : KeepsSound step
keeps_sound u c h = by (step u c) (way u c)
  where
    by : (r : Result) → Way u c r → is_sound r.unit ≡ true
    by r (refuses n o l e) = h
    by r (halts n o l e s) = sound_to _ (halted_sound u.state s)
    by r (does q z s t) = sound_to _ s

pub keeps_stored : KeepsStored step
keeps_stored u c h = by (step u c) (way u c)
  where
    by : (r : Result) → Way u c r → Stored r.unit
    by r (refuses n o l e) = h
    by r (halts n o l e s) = stays u (halted_out u.state) h
    by r (does q z s t) = t h

pub only_unsound : OnlyUnsound step
only_unsound u c h = by (step u c) (way u c)
  where
    by : (r : Result) → Way u c r → r.answer.verdict.number ≡ UNSOUND → ⊥
    by r (refuses n o l e) z = true≢false (sym h ∙ e z)
    by r (halts n o l e s) z = e z
    by r (does q z' s t) z = omega arith

pub own_numbers : OwnNumbers step
own_numbers u c = by (step u c) (way u c)
  where
    by : (r : Result) → Way u c r → OneOf r.answer.verdict.number (DONE ∷ own_list c)
    by r (refuses n o l e) = inr o
    by r (halts n o l e s) = inr o
    by r (does q z s t) = inl z

pub leaves_table : LeavesTable step
leaves_table u c = by (step u c) (way u c)
  where
    by : (r : Result) → Way u c r → (r.answer.verdict.number ≡ DONE → ⊥) → LeftAs (leaves r.answer.verdict.number) u r
    by r (refuses n o l e) z = rw l refl
    by r (halts n o l e s) z = rw l refl
    by r (does q z' s t) z = absurd (z z')

-- ** power-on, SET_CONFIGURATION and reset

-- a packet of request type 0 is no other row's
abbrev is_of_device : Option Setup → Type 0
is_of_device (Some (Configure value)) = Unit {0}
is_of_device (Some (Asks row)) = ⊥
is_of_device None = Unit {0}

of_device : (s : List ℕ) → byte s 0 ≡ 0 → is_of_device (read_setup s)
unfolding read_setup to_device pick
of_device s e = rw e (pick_all is_of_device (bRequest s =ᵇ 9) _ _ (λ _. pick_all is_of_device (matches s 0 1 0 0) _ _ (λ _. tt) (λ _. tt)) (λ _. tt))

-- SET_CONFIGURATION and reset, answered 0, leave a unit that is made anew
module _ (P : Device → Type 0) (anew : (setting : Setting) (configured : ℕ) → P (made setting configured)) where
  abbrev Anew : Result → Type 0
  Anew r = r.answer.verdict.number ≡ DONE → P r.unit

  pub configures_anew : (u : Device) (p : SetupPacket) → byte p.packet 0 ≡ 0 → Anew (step u (setup_packet p))
  unfolding step soundly setup setup_outcome answered asked
  configures_anew u p e =
      pick_all Anew (is_sound u) _ _
      (λ _. decide_all (λ (x : SetupOutcome). Anew (answered u x)) Err (setup_rules (length p.packet) p.room) _ (λ z. absurd (omega arith), tt)
      (λ _. by (read_setup p.packet) (of_device p.packet e)))
      (λ _ z. absurd (omega arith))
    where
      by : (x : Option Setup) → is_of_device x → Anew (answered u (asked u.state x))
      by (Some (Configure value)) k z = anew _ value
      by (Some (Asks row)) k z = absurd k
      by None k z = absurd (omega arith)

  pub resets_anew : (u : Device) → Anew (step u bus_reset)
  unfolding step soundly reset_by_bus
  resets_anew u = pick_all Anew (is_sound u) _ _ (λ _ _. anew _ OFF) (λ _ z. absurd (omega arith))

made_zeroed : (setting : Setting) (configured : ℕ) → Zeroed (made setting configured)
unfolding made zeroed
made_zeroed setting configured = (refl, refl)

pub zeroes : Zeroes step
unfolding power_on
zeroes = record {
  power_on_lem = λ setting. pick_all (λ (r : Result). Zeroed r.unit) (is_size setting.packet) _ _ (λ _. made_zeroed _ _) (λ _. made_zeroed _ _);
  configured = λ u value control. configures_anew Zeroed made_zeroed u _ refl;
  reset = resets_anew Zeroed made_zeroed;
}
