-- Clean after a fault: the state that CHECK_CLEAR_STATUS leaves with SUCCESS is that of the fresh unit in all that counts, and what counts decides
-- every later answer.
-- Assumes nothing.
use Prim.Native.Nat.{ℕ, ◌≤◌}
use mathlib.Core.Path.{◌≡◌, refl, sym, ap, ◌∙◌, subst}
use mathlib.Core.Bool.{true, false}
use mathlib.Core.List.{List, [], ◌∷◌}
use mathlib.Core.Logic.{⊎_elim}
use native.Mathlib.Omega.{arith}
use lib.ListN.{length, take, drop, length-replicate}
use borrow.Author.Tests.{eqb-true, eqb-false, le-ltb, ltb-false}
use Rattle.std.specs.Prelude.{Option, Some}
use Rattle.rules.specs.Choice.{no, pick, ◌≠ᵇ◌}
use Rattle.rules.specs.Answers.{DONE}
use Rattle.rules.proofs.Choice.{at_true, pick_all, decide_lines, decide_none, not_no, none_right, or_none, eq_neb}
use Rattle.rules.specs.Flags.{OFF, ON}
use Rattle.wire.specs.Setup.{SETUP, CONTROL, read_setup}
use Rattle.wire.specs.declared.types.Endpoint.TheVariants.{Out}
use Rattle.wire.specs.declared.types.Row.TheVariants.{CheckClearStatus, SetFeature}
use Rattle.wire.specs.declared.types.Setup.{Setup}
use Rattle.wire.specs.declared.types.Setup.TheVariants.{Configure, Asks}
use Rattle.port.specs.Parts.{STORE, CLOSED, OWED, is_size, is_owed, is_clear, packet_size, port_of, out_of, in_of, interrupt_of}
use Rattle.port.specs.Parts.{is_configured, transfer_in, closed_in, with_split, empty_out, empty_in, fresh, broken, halted_out}
use Rattle.port.specs.Sound.{sound}
use Rattle.port.specs.Rows.{Reaction, answering, check_clear, answer_row, effected, reacted}
use Rattle.port.specs.Device.{Device, Result, is_sound, with_state, zeroed, made, power_on}
use Rattle.port.specs.Calls.{refused, said, setup_rules, asked, setup_outcome, answered, setup}
use Rattle.port.specs.Step.{Call, setup_of, soundly, step, run, after}
use Rattle.port.specs.Live.{Live, live, alive, at_front}
use Rattle.port.specs.Survivors.{survivors}
use Rattle.port.specs.Laws.{Stored, CHECK_CLEAR_STATUS, Succeeds}
use Rattle.port.specs.declared.types.Setting.{Setting}
use Rattle.port.specs.declared.types.Split.TheVariants.{None}
use Rattle.port.specs.Answer.{SetupOutcome}
use Rattle.std.specs.Prelude.{Err}
use Rattle.port.specs.declared.types.State.{State}
use Rattle.port.proofs.Opened.{computed}
use Rattle.port.proofs.Soundness.{Sound, ClearSound, Phase, is_closed, is_asked, is_sending, is_owed_lem, sound_of, sound_to}
use Rattle.port.proofs.KeepsOut.{fresh_sound}
use Rattle.port.proofs.KeepsIn.{clears}
use Rattle.port.proofs.Calls.{power_on_sound, power_on_stored, step_sound, keeps_sound, keeps_stored}
use Rattle.port.proofs.Alive.{alive_sound}
use Rattle.port_twins.proofs.Agree.{live_agrees}
use Rattle.claims.specs.Fresh.{SET_CONFIGURATION_1, SET_FEATURE_OUT, halted, resumed, fresh_unit}
use Rattle.claims.specs.Claims.{CleanAfterFault, CleanAfterAnyFault}

-- ** what counts decides every later answer

pub same_run : (later : List Call) (u v : Device) → Stored u → Stored v → is_sound u ≡ true → is_sound v ≡ true → live u ≡ live v
    → (run step u later ≡ run step v later) × (live (after step u later) ≡ live (after step v later))
unfolding run after
same_run [] u v su sv hu hv e = (refl, e)
same_run (c ∷ later) u v su sv hu hv e =
    let a = live_agrees u v c su sv hu hv e in
    let r = same_run later (step u c).unit (step v c).unit (keeps_stored u c su) (keeps_stored v c sv) (keeps_sound u c hu) (keeps_sound v c hv) a.1 in
    (λ i. a.0 i ∷ r.0 i, r.1)

-- ** the fresh unit, as its calls make it

pub serves : (u : Device) (s : List ℕ) (control : ℕ) (x : Option Setup) → is_sound u ≡ true → length s ≡ SETUP → CONTROL ≤ control → read_setup s ≡ x → step u (setup_of s control) ≡ answered u
    (asked u.state x)
unfolding soundly setup setup_outcome
serves u s control x h long fits reads =
    step_sound u (setup_of s control) h
    ∙ ap (answered u) (decide_none Err (setup_rules (length s) control) _ (or_none _ _ (eq_neb _ _ long) (le-ltb control CONTROL fits), tt) ∙ ap (asked u.state) reads)

read_configure : read_setup SET_CONFIGURATION_1 ≡ Some (Configure 1)
unfolding computed
read_configure = refl

read_halt : read_setup SET_FEATURE_OUT ≡ Some (Asks (SetFeature Out))
unfolding computed
read_halt = refl

read_check : read_setup CHECK_CLEAR_STATUS ≡ Some (Asks CheckClearStatus)
unfolding computed
read_check = refl

module _ (p : ℕ) (size : is_size p ≡ true) where
  abbrev setting : Setting
  setting = record { packet = p }

  on_now : (power_on setting).unit ≡ made setting OFF
  unfolding power_on
  on_now = ap (λ (r : Result). r.unit) (at_true _ _ _ size)

  configured_now : (step (made setting OFF) (setup_of SET_CONFIGURATION_1 CONTROL)).unit ≡ made setting ON
  unfolding made answered asked fresh
  configured_now =
      ap (λ (r : Result). r.unit) (serves (made setting OFF) SET_CONFIGURATION_1 CONTROL (Some (Configure 1)) (sound_to _ (fresh_sound setting OFF size (omega arith))) refl
      (omega arith) read_configure)

  halted_now : (step (made setting ON) (setup_of SET_FEATURE_OUT CONTROL)).unit ≡ with_state (made setting ON) (halted_out (fresh setting ON))
  unfolding made answered asked answer_row effected fresh pick
  halted_now = ap (λ (r : Result). r.unit) (serves (made setting ON) SET_FEATURE_OUT CONTROL (Some (Asks (SetFeature Out))) (sound_to _ (fresh_sound setting ON size (omega arith))) refl
      (omega arith) read_halt)

  pub halted_is : halted p ≡ with_state (made setting ON) (halted_out (fresh setting ON))
  unfolding halted after
  halted_is =
      ap (λ (u : Device). (step (step u (setup_of SET_CONFIGURATION_1 CONTROL)).unit (setup_of SET_FEATURE_OUT CONTROL)).unit) on_now
      ∙ ap (λ (u : Device). (step u (setup_of SET_FEATURE_OUT CONTROL)).unit) configured_now
      ∙ halted_now

-- ** what CHECK_CLEAR_STATUS leaves with SUCCESS

pub record Cleared (u : Device) (control : ℕ) (r : Result) : Type 0 where
  pub fits : CONTROL ≤ control
  pub unit : r.unit ≡ with_state u (with_split u.state None)
  pub configured : is_configured u.state ≡ true
  pub in_clear : is_clear u.state.split ≡ true
  pub unowed : is_owed (in_of u.state) ≡ false

module _ (u : Device) (control : ℕ) where
  abbrev Then : Result → Type 0
  Then r = Succeeds r.answer → Cleared u control r

  -- a number other than 0, and a status other than SUCCESS, are not that answer
  numbered : (n : ℕ) → (n ≡ DONE → ⊥) → Then (refused u n)
  numbered n k e = absurd (k e.number)

  abbrev RowThen : Reaction → Type 0
  RowThen r = Then (said u (reacted u.state r))

  statused : (status rest : ℕ) → (status ≡ 1 → ⊥) → RowThen (answering (status ∷ rest ∷ []))
  statused status rest k e = absurd (k e.status)

  row_then : CONTROL ≤ control → is_configured u.state ≡ true → RowThen (check_clear (in_of u.state) u.state.split)
  unfolding check_clear effected
  row_then fits c =
      pick_all RowThen (no (is_clear u.state.split)) _ _ (λ _. statused _ _ (λ e. omega arith))
      (λ k. pick_all RowThen (is_owed (in_of u.state)) _ _ (λ _. statused _ _ (λ e. omega arith))
      (λ o _. record { fits = fits; unit = refl; configured = c; in_clear = not_no _ k; unowed = o }))

  abbrev OutThen : SetupOutcome → Type 0
  OutThen x = Then (answered u x)

  asked_then : CONTROL ≤ control → OutThen (asked u.state (Some (Asks CheckClearStatus)))
  unfolding answered asked answer_row
  asked_then fits = pick_all OutThen (is_configured u.state) _ _ (row_then fits) (λ _. numbered _ (λ e. omega arith))

  pub cleared : Then (step u (setup_of CHECK_CLEAR_STATUS control))
  unfolding step soundly setup setup_outcome answered
  cleared =
      pick_all Then (is_sound u) _ _
      (λ _. decide_lines OutThen Err (setup_rules (length CHECK_CLEAR_STATUS) control) _ (λ _. numbered _ (λ e. omega arith), tt)
      (λ n. subst (λ (x : Option Setup). OutThen (asked u.state x)) (sym read_check) (asked_then (ltb-false control CONTROL (none_right (length CHECK_CLEAR_STATUS ≠ᵇ SETUP) _ n.0)))))
      (λ _. numbered _ (λ e. omega arith))

-- ** it is the fresh unit in all that counts

alive_is : (d : Device) → sound (alive (live d)).state ≡ true → sound (live d).state ≡ true
unfolding alive
alive_is d e = e

module _ (u : Device) (control : ℕ) (h : Sound u.state) (r : Result) (c : Cleared u control r) where
  k : ClearSound (out_of u.state) (in_of u.state)
  k = clears u.state h c.in_clear

  pub out_is : out_of u.state ≡ empty_out ON 0
  out_is = ⊎_elim
      (λ w. let e = k.halted in let f = w.1.running in absurd (omega arith))
      (λ w.
      let unlike : ((out_of u.state).message.ready ≡ 1 → ⊥) = λ e. w.1.whole e k.held in
      let flag = w.1.ready in
      let ready : (out_of u.state).message.ready ≡ 0 = omega arith in
      λ i. record { message = record { held = k.held i; ready = ready i }; transfer = record { left = w.0 i; got = w.1.got i; end = w.1.end i }; halted = k.halted i; recent = k.no_out_tag i })
      h.out

  in_is : at_front (in_of u.state) ≡ empty_in closed_in (in_of u.state).halted 0
  in_is = by h.inward.phase
    where
      closed : (in_of u.state).transfer.phase ≡ OWED → ⊥
      closed = eqb-false _ _ c.unowed

      neither : (n : ℕ) → (in_of u.state).transfer.phase ≡ n → (n ≡ CLOSED → ⊥) → (n ≡ OWED → ⊥) → ⊥
      neither n e f g = ⊎_elim (λ t. f (sym e ∙ t)) (λ t. g (sym e ∙ t)) k.phase

      by : Phase (in_of u.state).reply.unsent (in_of u.state).transfer → at_front (in_of u.state) ≡ empty_in closed_in (in_of u.state).halted 0
      by (is_closed e t i') = λ i. record {
        reply = record { at = 0; unsent = k.unsent i };
        transfer = transfer_in (e i) (t i) (i'.asked i) (i'.enabled i) (i'.term i) (i'.left i) (i'.sent i);
        halted = (in_of u.state).halted;
        recent = k.no_in_tag i;
      }
      by (is_asked e a) = absurd (neither _ e (λ f. omega arith) (λ f. omega arith))
      by (is_sending e a) = absurd (neither _ e (λ f. omega arith) (λ f. omega arith))
      by (is_owed_lem e t i') = absurd (closed e)

  -- the fresh unit, with its calls carried out
  abbrev made_fresh : Device
  made_fresh = resumed (survivors u.state) (with_state (made (port_of u.state).setting ON) (halted_out (fresh (port_of u.state).setting ON)))

  to_made : live (with_state u (with_split u.state None)) ≡ live made_fresh
  unfolding live made fresh broken pick
  to_made = λ i. record {
    state = record {
      small = record {
        port = record { setting = (port_of u.state).setting; configured = eqb-true (port_of u.state).configured 1 c.configured i; ren = (port_of u.state).ren };
        bulkout = out_is i;
        bulkin = in_is i;
        interrupt = interrupt_of u.state;
      };
      split = None;
      remote = u.state.remote;
    };
    message = take (k.held i) u.message;
    reply = take (k.unsent i) (drop (in_of u.state).reply.at u.reply);
  }

  pub counts_alike : live (with_state u (with_split u.state None)) ≡ live (fresh_unit (packet_size u.state) (survivors u.state))
  counts_alike = to_made ∙ ap (λ (d : Device). live (resumed (survivors u.state) d)) (sym (halted_is (packet_size u.state) h.port.size))

  -- and it is a unit: its stores have their length, and it is sound
  made_stored : Stored made_fresh
  unfolding made zeroed
  made_stored = record { message = length-replicate {A = ℕ} STORE 0; reply = length-replicate {A = ℕ} STORE 0 }

  pub fresh_stored : Stored (fresh_unit (packet_size u.state) (survivors u.state))
  fresh_stored = subst (λ (d : Device). Stored (resumed (survivors u.state) d)) (sym (halted_is (packet_size u.state) h.port.size)) made_stored

  -- what counts of a state is sound where the state is, and the fresh unit is what counts of it
  made_live : (live made_fresh).state ≡ made_fresh.state
  unfolding live made fresh
  made_live = refl

  pub fresh_sound_too : Stored u → is_sound (with_state u (with_split u.state None)) ≡ true → is_sound (fresh_unit (packet_size u.state) (survivors u.state)) ≡ true
  fresh_sound_too stored e =
      subst (λ (d : Device). is_sound (resumed (survivors u.state) d) ≡ true) (sym (halted_is (packet_size u.state) h.port.size))
      (subst (λ (st : State). sound st ≡ true) (ap (λ (l : Live). l.state) to_made ∙ made_live)
      (live_sound (with_state u (with_split u.state None)) (record { message = stored.message; reply = stored.reply }) (sound_of _ e)))
    where
      live_sound : (d : Device) → Stored d → Sound d.state → sound (live d).state ≡ true
      live_sound d st q = alive_is d (sound_to _ (alive_sound d st q))

-- THE THEOREM
pub clean_after_fault : CleanAfterFault step
clean_after_fault u control later stored e answered-success =
    let c = cleared u control answered-success in
    let h = sound_of _ e in
    let v = (step u (setup_of CHECK_CLEAR_STATUS control)).unit in
    let w = fresh_unit (packet_size u.state) (survivors u.state) in
    let sound-v = keeps_sound u (setup_of CHECK_CLEAR_STATUS control) e in
    let sound-w = fresh_sound_too u control h _ c stored (subst (λ (d : Device). is_sound d ≡ true) c.unit sound-v) in
    same_run later v w (keeps_stored u (setup_of CHECK_CLEAR_STATUS control) stored) (fresh_stored u control h _ c) sound-v sound-w (ap live c.unit ∙ counts_alike u control h _ c)

-- from power-on
kept_long : (calls : List Call) (u : Device) → Stored u → is_sound u ≡ true → Stored (after step u calls) × (is_sound (after step u calls) ≡ true)
unfolding after
kept_long [] u s h = (s, h)
kept_long (c ∷ calls) u s h = kept_long calls (step u c).unit (keeps_stored u c s) (keeps_sound u c h)

pub clean_after_any_fault : CleanAfterAnyFault step
clean_after_any_fault setting before later control e =
    let q = kept_long before (power_on setting).unit (power_on_stored setting) (power_on_sound setting) in
    clean_after_fault (after step (power_on setting).unit before) control later q.0 q.1 e
