-- SUCCESS is reached: INITIATE_CLEAR leaves a clear in progress, CHECK_CLEAR_STATUS answers SUCCESS where no packet is owed, and the one
-- poll takes the packet that is, or CLEAR_FEATURE on 0x82 ends it. The survivors stay.
-- Assumes nothing.
use Prim.Native.Nat.{ℕ, ◌≤◌}
use mathlib.Core.Path.{◌≡◌, refl, sym, ap, ◌∙◌, subst}
use mathlib.Core.Bool.{true, false, true≢false}
use mathlib.Core.List.{List, []}
use mathlib.Core.Logic.{inl, inr, ⊎_elim}
use native.Mathlib.Omega.{arith}
use lib.ListN.{length}
use borrow.Author.Tests.{ne_eqb, le-ltb}
use Rattle.std.specs.Prelude.{Option, Some}
use Rattle.rules.specs.Choice.{◌=ᵇ◌, no}
use Rattle.rules.proofs.Choice.{decide_all, decide_none, at_true, at_false, pick_all, no_false, or_none, and_left, eq_neb}
use Rattle.wire.specs.Setup.{SETUP, CONTROL, read_setup}
use Rattle.wire.specs.declared.types.Endpoint.TheVariants.{In}
use Rattle.wire.specs.declared.types.Row.{Row}
use Rattle.wire.specs.declared.types.Row.TheVariants.{InitiateClear, CheckClearStatus, ClearFeature}
use Rattle.wire.specs.declared.types.Setup.{Setup}
use Rattle.wire.specs.declared.types.Setup.TheVariants.{Asks}
use Rattle.port.specs.Parts.{ASKED, is_open_in, is_owed, is_clear, in_of, packet_size, is_configured, with_in, with_in_halted, shut}
use Rattle.port.specs.Answer.{SetupOutcome}
use Rattle.std.specs.Prelude.{Err}
use Rattle.port.specs.declared.types.Effect.TheVariants.{ClearsHalt}
use Rattle.port.specs.Answer.{Said, refuse}
use Rattle.port.specs.In.{Packet, in_rules, sends, fixed, started, gone, send, next_packet, poll}
use Rattle.port.specs.Survivors.{Survivors, survivors}
use Rattle.port.specs.Rows.{Reaction, reacts, reacted, initiate_clear, check_clear, answer_row, clearing, clear_feature_in, effected}
use Rattle.port.specs.Device.{Device, Result, is_sound, with_state, unsent_of}
use Rattle.port.specs.Calls.{said, setup_rules, asked, setup_outcome, answered, setup, bulk_in}
use Rattle.port.specs.Step.{in_poll, quiet, setup_of, quietly, soundly, step}
use Rattle.port.specs.Laws.{INITIATE_CLEAR, CHECK_CLEAR_STATUS, CLEAR_FEATURE_IN, success, Reached, Attends, Ready}
use Rattle.port.specs.Laws.{ClearReached, ClearReachedPolled, ReachedByFeature, ClearReachedHalted, Survive}
use Rattle.port.specs.declared.types.BulkIn.{BulkIn}
use Rattle.port.specs.declared.types.State.{State}
use Rattle.port.proofs.KeepsOut.{cases}
use Rattle.port.proofs.Opened.{computed}
use Rattle.port.proofs.Calls.{step_sound, keeps_sound}

read_initiate : read_setup INITIATE_CLEAR ≡ Some (Asks InitiateClear)
unfolding computed
read_initiate = refl

read_check : read_setup CHECK_CLEAR_STATUS ≡ Some (Asks CheckClearStatus)
unfolding computed
read_check = refl

read_feature : read_setup CLEAR_FEATURE_IN ≡ Some (Asks (ClearFeature In))
unfolding computed
read_feature = refl

shut_unowed : (b : BulkIn) → is_owed (shut b) ≡ false
unfolding shut
shut_unowed b = refl

-- the state after INITIATE_CLEAR
abbrev initiated_state : State → State
initiated_state st = effected st (initiate_clear st.split).effect

initiate_keeps : (st : State) → (is_configured (initiated_state st) ≡ is_configured st) × ((in_of (initiated_state st)).halted ≡ (in_of st).halted)
    × (packet_size (initiated_state st) ≡ packet_size st) × (is_clear (initiated_state st).split ≡ true)
unfolding initiate_clear effected clearing
initiate_keeps st =
    pick_all
    (λ (x : Reaction). let s = effected st x.effect in (is_configured s ≡ is_configured st) × ((in_of s).halted ≡ (in_of st).halted) × (packet_size s ≡ packet_size st) × (is_clear s.split ≡ true))
    (is_clear st.split) _ _
    (λ e. (refl, refl, refl, e))
    (λ _. (refl, pick_all (λ (b : BulkIn). b.halted ≡ (in_of st).halted) (is_open_in (in_of st)) _ _ (λ _. refl) (λ _. refl), refl, refl))

module _ (u : Device) (control : ℕ) (h : Attends u control) where
  -- a sound, configured unit serves every row
  row_served : (s : List ℕ) (row : Row) → length s ≡ SETUP → read_setup s ≡ Some (Asks row) → step u (setup_of s control) ≡ said u (reacted u.state (answer_row u.state row))
  unfolding soundly setup setup_outcome answered asked
  row_served s row l e =
      step_sound u (setup_of s control) h.sound
      ∙ ap (answered u)
      (decide_none Err (setup_rules (length s) control) _ (or_none _ _ (eq_neb _ _ l) (le-ltb control CONTROL h.control_fits), tt)
      ∙ ap (asked u.state) e
      ∙ at_true (is_configured u.state) _ _ h.configured)

  -- with the packet not owed, CHECK answers SUCCESS
  succeeds : is_clear u.state.split ≡ true → is_owed (in_of u.state) ≡ false → (step u (setup_of CHECK_CLEAR_STATUS control)).answer ≡ success
  unfolding answer_row check_clear
  succeeds c o =
      ap (λ (r : Result). r.answer) (row_served CHECK_CLEAR_STATUS CheckClearStatus refl read_check)
      ∙ ap (λ (r : Reaction). r.answer) (at_false _ _ _ (no_false _ c) ∙ at_false _ _ _ o)

  initiated : step u (setup_of INITIATE_CLEAR control) ≡ said u (reacted u.state (initiate_clear u.state.split))
  unfolding answer_row
  initiated = row_served INITIATE_CLEAR InitiateClear refl read_initiate

  -- INITIATE_CLEAR, also one that comes during a clear, leaves a clear in progress on a unit that attends
  begun : Attends (with_state u (initiated_state u.state)) control
  begun = record {
    sound = subst (λ (r : Result). is_sound r.unit ≡ true) initiated (keeps_sound u (setup_of INITIATE_CLEAR control) h.sound);
    configured = (initiate_keeps u.state).0 ∙ h.configured;
    control_fits = h.control_fits;
  }

  -- CLEAR_FEATURE on 0x82 ends the owed packet
  featured : step u (setup_of CLEAR_FEATURE_IN control) ≡ said u (reacted u.state (reacts (ClearsHalt In) []))
  unfolding answer_row
  featured = row_served CLEAR_FEATURE_IN (ClearFeature In) refl read_feature

feature_unowed : (b : BulkIn) → is_owed (clear_feature_in b) ≡ false
unfolding clear_feature_in shut
feature_unowed b = pick_all (λ (c : BulkIn). is_owed c ≡ false) (is_owed b) _ _ (λ _. refl) (λ o. pick_all (λ (c : BulkIn). is_owed c ≡ false) (is_open_in b) _ _ (λ _. refl) (λ _. o))

module _ (u : Device) (control : ℕ) (h : Attends u control) where
  by_feature : is_clear u.state.split ≡ true → ReachedByFeature step u control
  unfolding effected
  by_feature c =
      let e = featured u control h in
      subst (λ (r : Result). (step r.unit (setup_of CHECK_CLEAR_STATUS control)).answer ≡ success) (sym e)
      (succeeds (with_state u (with_in u.state (clear_feature_in (in_of u.state)))) control
      (record { sound = subst (λ (r : Result). is_sound r.unit ≡ true) e (keeps_sound u (setup_of CLEAR_FEATURE_IN control) h.sound); configured = h.configured; control_fits = h.control_fits })
      c (feature_unowed (in_of u.state)))

pub clear_reached_halted : ClearReachedHalted step
clear_reached_halted u control h = (
  subst (λ (r : Result). ReachedByFeature step r.unit control) (sym (initiated u control h)) (by_feature _ control (begun u control h) (initiate_keeps u.state).3),
  by_feature u control h,
)

module _ (u : Device) (control room : ℕ) (h : Ready u control room) where
  -- the owed packet, polled, closes the transfer
  polled : is_owed (in_of u.state) ≡ true → step u (quiet (in_poll room)) ≡ said u (sends u.state (record { side = shut (in_of u.state); bytes = [] }))
  unfolding soundly quietly bulk_in poll next_packet
  polled o =
      step_sound u (quiet (in_poll room)) h.attends.sound
      ∙ ap (said u)
      (decide_none (refuse u.state) (in_rules u.state room) _
      (no_false _ h.attends.configured, (le-ltb _ _ h.room_fits, (ne_eqb (in_of u.state).halted 1 (λ e. let z = h.running in omega arith), (and_left _ _ (no_false _ o), tt))))
      ∙ ap (sends u.state) (at_true _ _ _ o))

  -- the unit after the poll attends too, and owes nothing
  after_poll_lem : is_owed (in_of u.state) ≡ true → is_clear u.state.split ≡ true → (step (step u (quiet (in_poll room))).unit (setup_of CHECK_CLEAR_STATUS control)).answer ≡ success
  after_poll_lem o c =
      let e = polled o in
      subst (λ (r : Result). (step r.unit (setup_of CHECK_CLEAR_STATUS control)).answer ≡ success) (sym e)
      (succeeds (with_state u (with_in u.state (shut (in_of u.state)))) control
      (record {
        sound = subst (λ (r : Result). is_sound r.unit ≡ true) e (keeps_sound u (quiet (in_poll room)) h.attends.sound);
        configured = h.attends.configured;
        control_fits = h.attends.control_fits;
      })
      c (shut_unowed (in_of u.state)))

  reached : is_clear u.state.split ≡ true → Reached step u control room
  reached c = ⊎_elim (λ o. inr (after_poll_lem o c)) (λ o. inl (succeeds u control h.attends c o)) (cases (is_owed (in_of u.state)))

-- a poll owes nothing and leaves the clear
abbrev Polled : State → State → Type 0
Polled st s = (is_configured s ≡ is_configured st) × (is_clear s.split ≡ is_clear st.split) × (is_owed (in_of s) ≡ false)

poll_leaves : (st : State) (x : List ℕ) (room : ℕ) → is_owed (in_of st) ≡ false → Polled st (poll st x room).state
unfolding poll next_packet send gone shut
poll_leaves st x room o =
    let q : Polled st st = (refl, refl, o) in
    decide_all (λ (r : Said). Polled st r.state) (refuse st) (in_rules st room) _ (q, (q, (q, (q, tt))))
    (λ _. pick_all (λ (p : Packet). Polled st (with_in st p.side)) (is_owed (in_of st)) _ _ (λ e. absurd (true≢false (sym e ∙ o)))
    (λ _. pick_all (λ (b : BulkIn). Polled st (with_in st b)) _ _ _ (λ _. (refl, refl, refl)) (λ _. (refl, refl, refl))))

module _ (u : Device) (control room : ℕ) (h : Ready u control room) where
  by_poll : is_clear u.state.split ≡ true → (step (step u (quiet (in_poll room))).unit (setup_of CHECK_CLEAR_STATUS control)).answer ≡ success
  unfolding soundly quietly bulk_in
  by_poll c = ⊎_elim (λ o. after_poll_lem u control room h o c) unowed (cases (is_owed (in_of u.state)))
    where
      unowed : is_owed (in_of u.state) ≡ false → (step (step u (quiet (in_poll room))).unit (setup_of CHECK_CLEAR_STATUS control)).answer ≡ success
      unowed o =
          let e = step_sound u (quiet (in_poll room)) h.attends.sound in
          let k = poll_leaves u.state (unsent_of u) room o in
          subst (λ (r : Result). (step r.unit (setup_of CHECK_CLEAR_STATUS control)).answer ≡ success) (sym e)
          (succeeds _ control (record {
            sound = subst (λ (r : Result). is_sound r.unit ≡ true) e (keeps_sound u (quiet (in_poll room)) h.attends.sound);
            configured = k.0 ∙ h.attends.configured;
            control_fits = h.attends.control_fits;
          }) (k.1 ∙ c) k.2)

-- INITIATE_CLEAR leaves a unit that is ready
ready_begun : (u : Device) (control room : ℕ) → Ready u control room → Ready (with_state u (initiated_state u.state)) control room
ready_begun u control room h =
    let k = initiate_keeps u.state in
    record { attends = begun u control h.attends; running = k.1 ∙ h.running; room_fits = subst (λ (p : ℕ). p ≤ room) (sym k.2) h.room_fits }

pub clear_reached_polled : ClearReachedPolled step
clear_reached_polled u control room h =
    subst (λ (r : Result). (step (step r.unit (quiet (in_poll room))).unit (setup_of CHECK_CLEAR_STATUS control)).answer ≡ success) (sym (initiated u control h.attends))
    (by_poll _ control room (ready_begun u control room h) (initiate_keeps u.state).3)

pub clear_reached : ClearReached step
clear_reached u control room h = (
  subst (λ (r : Result). Reached step r.unit control room) (sym (initiated u control h.attends)) (reached _ control room (ready_begun u control room h) (initiate_keeps u.state).3),
  reached u control room h,
)

-- ** the survivors

abbrev Kept : State → State → Type 0
Kept st s = survivors s ≡ survivors st

initiate_survive : (st : State) → Kept st (initiated_state st)
unfolding initiate_clear effected clearing
initiate_survive st =
    pick_all (λ (r : Reaction). Kept st (effected st r.effect)) (is_clear st.split) _ _ (λ _. refl)
    (λ _. pick_all (λ (b : BulkIn). Kept st (with_in st b)) (is_open_in (in_of st)) _ _ (λ _. refl) (λ _. refl))

check_survive : (st : State) → Kept st (effected st (check_clear (in_of st) st.split).effect)
unfolding check_clear effected
check_survive st =
    pick_all (λ (r : Reaction). Kept st (effected st r.effect)) (no (is_clear st.split)) _ _ (λ _. refl)
    (λ _. pick_all (λ (r : Reaction). Kept st (effected st r.effect)) (is_owed (in_of st)) _ _ (λ _. refl) (λ _. refl))

packet_survive : (st : State) (p : ℕ) (x : List ℕ) → Kept st (with_in st (next_packet p (in_of st) x).side)
unfolding next_packet send shut gone started fixed
packet_survive st p x =
    pick_all (λ (r : Packet). Kept st (with_in st r.side)) (is_owed (in_of st)) _ _ (λ _. refl)
    (λ _. pick_all (λ (b : BulkIn). Kept st (with_in st b)) _ _ _ (λ _. ap over begun_halted) (λ _. ap over begun_halted))
  where
    over : ℕ → Survivors
    over halted = survivors (with_in st (with_in_halted (in_of st) halted))

    begun_halted : (started (in_of st) x).halted ≡ (in_of st).halted
    begun_halted = pick_all (λ (b : BulkIn). b.halted ≡ (in_of st).halted) ((in_of st).transfer.phase =ᵇ ASKED) _ _ (λ _. refl) (λ _. refl)

poll_survive : (st : State) (x : List ℕ) (room : ℕ) → Kept st (poll st x room).state
unfolding poll
poll_survive st x room =
    decide_all (λ (r : Said). Kept st r.state) (refuse st) (in_rules st room) _ (refl, (refl, (refl, (refl, tt)))) (λ _. packet_survive st (packet_size st) x)

-- a row that keeps them, asked for on any unit
asked_survive : (s : List ℕ) (row : Row) → read_setup s ≡ Some (Asks row) → ((st : State) → Kept st (effected st (answer_row st row).effect))
    → (u : Device) (control : ℕ) → Kept u.state (step u (setup_of s control)).unit.state
unfolding step soundly setup setup_outcome answered asked
asked_survive s row e keeps u control =
    pick_all Q (is_sound u) _ _
    (λ _. decide_all (λ (x : SetupOutcome). Q (answered u x)) Err (setup_rules (length s) control) _ (refl, tt)
    (λ _. subst (λ (x : Option Setup). Q (answered u (asked u.state x))) (sym e)
    (pick_all (λ (x : SetupOutcome). Q (answered u x)) (is_configured u.state) _ _ (λ _. keeps u.state) (λ _. refl))))
    (λ _. refl)
  where
    Q : Result → Type 0
    Q r = Kept u.state r.unit.state

pub survive : Survive step
unfolding step soundly quietly bulk_in answer_row
survive u control room = (
  asked_survive INITIATE_CLEAR InitiateClear read_initiate initiate_survive u control,
  pick_all (λ (r : Result). Kept u.state r.unit.state) (is_sound u) _ _ (λ _. poll_survive u.state (unsent_of u) room) (λ _. refl),
  asked_survive CHECK_CLEAR_STATUS CheckClearStatus read_check check_survive u control,
)
