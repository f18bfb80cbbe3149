-- A setup packet tells the light to pulse just where it is INDICATOR_PULSE, and tells nothing else.
-- Assumes nothing.
use Prim.Native.Nat.{ℕ, ◌+◌, ◌*◌, ◌≤◌}
use mathlib.Core.Path.{◌≡◌, refl, sym, ap, ◌∙◌, subst}
use mathlib.Core.Bool.{true}
use mathlib.Core.List.{List, [], ◌∷◌}
use mathlib.Core.Logic.{◌⊎◌, inl, inr, ⊎_elim}
use native.Mathlib.Omega.{arith}
use lib.ListN.{length, take, drop}
use Rattle.std.specs.Prelude.{Option, Some, None}
use Rattle.rules.specs.declared.refusal.Refusal.{Refusal}
use Rattle.rules.specs.Answers.{number_of}
use Rattle.rules.specs.Choice.{◌≠ᵇ◌, no}
use Rattle.rules.specs.When.{Not}
use Rattle.rules.proofs.Choice.{pick_all, decide_all, decide_lines, none_left, neb_eq}
use Rattle.wire.specs.Setup.{SETUP, read_setup}
use Rattle.wire.specs.When.{at, Column, rows, Fits, Matches, RowOf}
use Rattle.wire.specs.declared.types.Row.{Row}
use Rattle.wire.specs.declared.types.Row.TheVariants.{InitiateAbortBulkOut, CheckAbortBulkOutStatus, InitiateAbortBulkIn, CheckAbortBulkInStatus}
use Rattle.wire.specs.declared.types.Row.TheVariants.{InitiateClear, CheckClearStatus, GetCapabilities, IndicatorPulse, ReadStatusByte}
use Rattle.wire.specs.declared.types.Row.TheVariants.{RenControl, GoToLocal, LocalLockout, ClearFeature, SetFeature, GetStatus}
use Rattle.wire.specs.declared.types.Setup.{Setup}
use Rattle.wire.specs.declared.types.Setup.TheVariants.{Configure, Asks}
use Rattle.wire.proofs.When.{setup_law}
use Rattle.port.specs.Parts.{is_open_out, is_open_in, is_owed, is_clear, out_of, in_of, interrupt_of, is_configured}
use Rattle.port.specs.Interrupt.{is_waiting}
use Rattle.port.specs.Rows.{Reaction, answering, abort_rules, out_tag, in_tag, initiate_abort_out, initiate_abort_in}
use Rattle.port.specs.Rows.{check_abort_out, check_abort_in, initiate_clear, check_clear, read_status, answer_row}
use Rattle.port.specs.Device.{Device, Result, is_sound}
use Rattle.port.specs.Calls.{setup_rules, asked, setup_outcome, answered, setup}
use Rattle.port.specs.Step.{SetupPacket, setup_packet, soundly, step}
use Rattle.port.specs.declared.types.Split.{Split}
use Rattle.port.specs.declared.types.Split.TheVariants.{None, AbortOut, AbortIn, Clear}
use Rattle.port.specs.Answer.{SetupOutcome}
use Rattle.std.specs.Prelude.{Err}
use Rattle.port.specs.declared.types.State.{State}
use Rattle.port.proofs.Opened.{computed}
use Rattle.port.proofs.Calls.{step_sound}
use Rattle.claims.specs.Acted.{Pulsing, Acts}

-- ** the row that pulses

abbrev pulse : Row → ℕ
pulse (InitiateAbortBulkOut tag) = 0
pulse CheckAbortBulkOutStatus = 0
pulse (InitiateAbortBulkIn tag) = 0
pulse CheckAbortBulkInStatus = 0
pulse InitiateClear = 0
pulse CheckClearStatus = 0
pulse GetCapabilities = 0
pulse IndicatorPulse = 2
pulse (ReadStatusByte tag) = 0
pulse (RenControl ren) = 0
pulse GoToLocal = 0
pulse LocalLockout = 0
pulse (ClearFeature endpoint) = 0
pulse (SetFeature endpoint) = 0
pulse (GetStatus endpoint) = 0

none_or_pulse : (row : Row) → (pulse row ≡ 0) ⊎ (pulse row ≡ 2)
none_or_pulse (InitiateAbortBulkOut tag) = inl refl
none_or_pulse CheckAbortBulkOutStatus = inl refl
none_or_pulse (InitiateAbortBulkIn tag) = inl refl
none_or_pulse CheckAbortBulkInStatus = inl refl
none_or_pulse InitiateClear = inl refl
none_or_pulse CheckClearStatus = inl refl
none_or_pulse GetCapabilities = inl refl
none_or_pulse IndicatorPulse = inr refl
none_or_pulse (ReadStatusByte tag) = inl refl
none_or_pulse (RenControl ren) = inl refl
none_or_pulse GoToLocal = inl refl
none_or_pulse LocalLockout = inl refl
none_or_pulse (ClearFeature endpoint) = inl refl
none_or_pulse (SetFeature endpoint) = inl refl
none_or_pulse (GetStatus endpoint) = inl refl

abbrev pulse_of : Setup → ℕ
pulse_of (Configure value) = 0
pulse_of (Asks row) = pulse row

-- none of a packet that matches no row
abbrev pulse_in : Option Setup → ℕ
pulse_in (Some x) = pulse_of x
pulse_in None = 0

-- rows that do not
abbrev Calm : List (Column × (ℕ → Setup)) → Type 0
Calm [] = Unit {0}
Calm (r ∷ rs) = ((value : ℕ) → pulse_of (r.1 value) ≡ 0) × Calm rs

calm : (s : List ℕ) (x : Setup) (rs : List (Column × (ℕ → Setup))) → Calm rs → Matches s rs x → pulse_of x ≡ 0
calm s x [] c m = absurd m
calm s x (r ∷ rs) c (inl k) = ap pulse_of k.1 ∙ c.0 _
calm s x (r ∷ rs) c (inr m) = calm s x rs c.1 m

-- of the rows of the table it is the eighth
abbrev PULSE : Column
PULSE = record { type = 0xA1; request = 64; low = 0; high = 0; index = 0; size = 1 }

only_pulse : (s : List ℕ) (x : Setup) → Matches s rows x → pulse_of x ≡ 2 → Fits PULSE s
only_pulse s x m e = by m
  where
    other : pulse_of x ≡ 0 → ⊥
    other z = omega arith

    row : (rs : List (Column × (ℕ → Setup))) → Calm rs → Matches s rs x → Fits PULSE s
    row rs c m = absurd (other (calm s x rs c m))

    by : Matches s rows x → Fits PULSE s
    by (inl k) = row (take 1 rows) ((λ _. refl), tt) (inl k)
    by (inr (inl k)) = row (take 1 (drop 1 rows)) ((λ _. refl), tt) (inl k)
    by (inr (inr (inl k))) = row (take 1 (drop 2 rows)) ((λ _. refl), tt) (inl k)
    by (inr (inr (inr (inl k)))) = row (take 1 (drop 3 rows)) ((λ _. refl), tt) (inl k)
    by (inr (inr (inr (inr (inl k))))) = row (take 1 (drop 4 rows)) ((λ _. refl), tt) (inl k)
    by (inr (inr (inr (inr (inr (inl k)))))) = row (take 1 (drop 5 rows)) ((λ _. refl), tt) (inl k)
    by (inr (inr (inr (inr (inr (inr (inl k))))))) = row (take 1 (drop 6 rows)) ((λ _. refl), tt) (inl k)
    by (inr (inr (inr (inr (inr (inr (inr (inl k)))))))) = k.0
    by (inr (inr (inr (inr (inr (inr (inr (inr m)))))))) =
        row (drop 8 rows) (
          (λ _. refl),
          (
            (λ _. refl),
            (
              (λ _. refl),
              ((λ _. refl), ((λ _. refl), ((λ _. refl), ((λ _. refl), ((λ _. refl), ((λ _. refl), ((λ _. refl), ((λ _. refl), ((λ _. refl), ((λ _. refl), ((λ _. refl), tt))))))))))),
            ),
          ),
        ) m

eight : (s : List ℕ) → length s ≡ 8 → s ≡ at s 0 ∷ at s 1 ∷ at s 2 ∷ at s 3 ∷ at s 4 ∷ at s 5 ∷ at s 6 ∷ at s 7 ∷ []
eight (a ∷ b ∷ c ∷ d ∷ e ∷ f ∷ g ∷ h ∷ []) n = refl
eight [] n = absurd (omega arith)
eight (a ∷ []) n = absurd (omega arith)
eight (a ∷ b ∷ []) n = absurd (omega arith)
eight (a ∷ b ∷ c ∷ []) n = absurd (omega arith)
eight (a ∷ b ∷ c ∷ d ∷ []) n = absurd (omega arith)
eight (a ∷ b ∷ c ∷ d ∷ e ∷ []) n = absurd (omega arith)
eight (a ∷ b ∷ c ∷ d ∷ e ∷ f ∷ []) n = absurd (omega arith)
eight (a ∷ b ∷ c ∷ d ∷ e ∷ f ∷ g ∷ []) n = absurd (omega arith)
eight (a ∷ b ∷ c ∷ d ∷ e ∷ f ∷ g ∷ h ∷ i ∷ s) n = absurd (omega arith)

-- the eight bytes that are read as INDICATOR_PULSE
pulse_bytes : (p : SetupPacket) (x : Setup) → read_setup p.packet ≡ Some x → pulse_of x ≡ 2 → length p.packet ≡ 8 → Pulsing (setup_packet p)
pulse_bytes p x reads e long =
    let s = p.packet in
    let f = only_pulse s x (subst (RowOf s) reads (setup_law s)) e in
    let value = f.high in
    let index = f.index in
    let size = f.size in
    eight s long
    ∙ (λ i. f.type i ∷ f.request i ∷ low (at s 2) (at s 3) value i ∷ high (at s 2) (at s 3) value i ∷ low (at s 4) (at s 5) (le_of index) i ∷ high (at s 4) (at s 5) (le_of index) i ∷ one
    (at s 6) (at s 7) size i ∷ none_above (at s 6) (at s 7) size i ∷ [])
  where
    low : (a b : ℕ) → a + 256 * b ≤ 0 → a ≡ 0
    low a b l = omega arith

    high : (a b : ℕ) → a + 256 * b ≤ 0 → b ≡ 0
    high a b l = omega arith

    le_of : {n : ℕ} → n ≡ 0 → n ≤ 0
    le_of e = omega arith

    one : (a b : ℕ) → a + 256 * b ≡ 1 → a ≡ 1
    one a b l = omega arith

    none_above : (a b : ℕ) → a + 256 * b ≡ 1 → b ≡ 0
    none_above a b l = omega arith

read_pulse : read_setup (0xA1 ∷ 64 ∷ 0 ∷ 0 ∷ 0 ∷ 0 ∷ 1 ∷ 0 ∷ []) ≡ Some (Asks IndicatorPulse)
unfolding computed
read_pulse = refl

-- ** what the rows tell

module _ (st : State) where
  abbrev Says : Row → Reaction → Type 0
  Says row r = (r.answer.verdict.number ≡ 0) × (r.answer.verdict.tells ≡ pulse row)

  row_tells : (row : Row) → Says row (answer_row st row)
  unfolding answer_row initiate_abort_out initiate_abort_in check_abort_out check_abort_in initiate_clear check_clear read_status
  row_tells (InitiateAbortBulkOut tag) =
      decide_all (Says (InitiateAbortBulkOut tag)) (λ status. answering (status ∷ out_tag (out_of st) ∷ [])) (abort_rules st.split (is_open_out (out_of st)) (out_tag (out_of st)) tag) _
      ((refl, refl), ((refl, refl), ((refl, refl), tt))) (λ _. (refl, refl))
  row_tells CheckAbortBulkOutStatus = by st.split
    where
      by : (s : Split) → Says CheckAbortBulkOutStatus (check_abort_out s)
      by None = (refl, refl)
      by (AbortOut count) = (refl, refl)
      by (AbortIn count) = (refl, refl)
      by Clear = (refl, refl)
  row_tells (InitiateAbortBulkIn tag) =
      decide_all (Says (InitiateAbortBulkIn tag)) (λ status. answering (status ∷ in_tag (in_of st) ∷ [])) (abort_rules st.split (is_open_in (in_of st)) (in_tag (in_of st)) tag) _
      ((refl, refl), ((refl, refl), ((refl, refl), tt))) (λ _. (refl, refl))
  row_tells CheckAbortBulkInStatus = by st.split
    where
      by : (s : Split) → Says CheckAbortBulkInStatus (check_abort_in (in_of st) s)
      by None = (refl, refl)
      by (AbortOut count) = (refl, refl)
      by (AbortIn count) = pick_all (Says CheckAbortBulkInStatus) (is_owed (in_of st)) _ _ (λ _. (refl, refl)) (λ _. (refl, refl))
      by Clear = (refl, refl)
  row_tells InitiateClear = pick_all (Says InitiateClear) (is_clear st.split) _ _ (λ _. (refl, refl)) (λ _. (refl, refl))
  row_tells CheckClearStatus =
      pick_all (Says CheckClearStatus) (no (is_clear st.split)) _ _ (λ _. (refl, refl)) (λ _. pick_all (Says CheckClearStatus) (is_owed (in_of st)) _ _ (λ _. (refl, refl)) (λ _. (refl, refl)))
  row_tells GetCapabilities = (refl, refl)
  row_tells IndicatorPulse = (refl, refl)
  row_tells (ReadStatusByte tag) = pick_all (Says (ReadStatusByte tag)) (is_waiting (interrupt_of st)) _ _ (λ _. (refl, refl)) (λ _. (refl, refl))
  row_tells (RenControl ren) = (refl, refl)
  row_tells GoToLocal = (refl, refl)
  row_tells LocalLockout = (refl, refl)
  row_tells (ClearFeature endpoint) = (refl, refl)
  row_tells (SetFeature endpoint) = (refl, refl)
  row_tells (GetStatus endpoint) = (refl, refl)

-- ** a setup packet

module _ (u : Device) (due : ℕ) (p : SetupPacket) where
  abbrev Then : SetupOutcome → Type 0
  Then x = Acts due (setup_packet p) (answered u x).answer

  denied : (k : Refusal) → Not (number_of k ≡ 0) → Then (Err k)
  unfolding answered
  denied k n =
      record {
        tells = omega arith;
        triggered = λ z. absurd (omega arith);
        triggers = λ z. absurd z;
        pulsed = λ z. absurd (omega arith);
        pulses = λ _ z. absurd
            (n z);
        refused = λ _. (refl, refl);
      }

  asked_acts : (x : Option Setup) → read_setup p.packet ≡ x → length p.packet ≡ 8 → Then (asked u.state x)
  unfolding answered asked
  asked_acts (Some (Configure value)) reads long = record {
    tells = omega arith;
    triggered = λ z. absurd (omega arith);
    triggers = λ z. absurd z;
    pulsed = λ z. absurd (omega arith);
    pulses = λ z _. let a : ◌≡◌ {A = ℕ} 0 2 = ap pulse_in (sym reads ∙ ap read_setup z ∙ read_pulse) in absurd (omega arith);
    refused = λ n. absurd (n refl);
  }
  asked_acts (Some (Asks row)) reads long =
      let t = row_tells u.state row in
      pick_all Then (is_configured u.state) _ _
      (λ _. record {
        tells = ⊎_elim (λ k. omega arith) (λ k. omega arith) (none_or_pulse row);
        triggered = λ z. absurd (⊎_elim (λ k. omega arith) (λ k. omega arith) (none_or_pulse row));
        triggers = λ z. absurd z;
        pulsed = λ z. (pulse_bytes p (Asks row) reads (sym t.1 ∙ z) long, t.0);
        pulses = λ z _. t.1 ∙ ap pulse_in (sym reads ∙ ap read_setup z ∙ read_pulse);
        refused = λ n. absurd (n t.0);
      })
      (λ _. denied Refusal.UnknownRow (λ z. omega arith))
  asked_acts None reads long = denied Refusal.UnknownRow (λ z. omega arith)

  pub setup_acts : is_sound u ≡ true → Acts due (setup_packet p) (step u (setup_packet p)).answer
  unfolding soundly setup setup_outcome answered
  setup_acts sound =
      subst (λ (r : Result). Acts due (setup_packet p) r.answer) (sym (step_sound u (setup_packet p) sound))
      (decide_lines Then Err (setup_rules (length p.packet) p.room) _ (λ _. denied Refusal.WrongSize (λ z. omega arith), tt)
      (λ n. asked_acts (read_setup p.packet) refl (neb_eq _ _ (none_left (length p.packet ≠ᵇ SETUP) _ n.0))))
