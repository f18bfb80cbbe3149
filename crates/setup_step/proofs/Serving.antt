-- A setup packet as a whole: no answer is longer than the control buffer has to be, and what passes the gate has the sizes.
-- Assumes nothing.
use Prim.Native.Nat.{ℕ, ◌≤◌}
use mathlib.Core.Path.{◌≡◌, refl, ap, ◌∙◌}
use mathlib.Core.List.{List, [], ◌∷◌}
use native.Mathlib.Omega.{arith}
use lib.ListN.{length, drop, replicate, length-append}
use lib.Seq.{paste, take_at}
use borrow.Author.Tests.{ltb-false}
use Rattle.std.specs.Prelude.{Option, Some, None}
use Rattle.rules.specs.Choice.{◌<ᵇ◌, ◌≠ᵇ◌, gate}
use Rattle.rules.specs.declared.refusal.Refusal.{Refusal}
use Rattle.rules.proofs.Choice.{neb_eq, none_left, none_right, none_of, pick_all, decide_all, refuses, passes}
use Rattle.wire.specs.Bytes.{bytes4, into}
use Rattle.wire.specs.Setup.{SETUP, CONTROL, read_setup}
use Rattle.wire.specs.declared.types.Row.{Row}
use Rattle.wire.specs.declared.types.Row.TheVariants.{InitiateAbortBulkOut, CheckAbortBulkOutStatus, InitiateAbortBulkIn, CheckAbortBulkInStatus}
use Rattle.wire.specs.declared.types.Row.TheVariants.{InitiateClear, CheckClearStatus, GetCapabilities, IndicatorPulse, ReadStatusByte}
use Rattle.wire.specs.declared.types.Row.TheVariants.{RenControl, GoToLocal, LocalLockout, ClearFeature, SetFeature, GetStatus}
use Rattle.wire.specs.declared.types.Setup.{Setup}
use Rattle.wire.specs.declared.types.Setup.TheVariants.{Configure, Asks}
use Rattle.wire.proofs.Fronts.{front_pasted}
use Rattle.port.specs.Parts.{is_open_out, is_open_in, is_owed, is_clear, out_of, in_of, interrupt_of, is_configured}
use Rattle.port.specs.Interrupt.{is_waiting}
use Rattle.port.specs.Rows.{Reaction, answering, abort_rules, out_tag, in_tag, initiate_abort_out, initiate_abort_in}
use Rattle.port.specs.Rows.{check_abort_out, check_abort_in, initiate_clear, check_clear, read_status, answer_row}
use Rattle.port.specs.Calls.{setup_rules, asked, setup_outcome}
use Rattle.port.specs.declared.types.Split.{Split}
use Rattle.port.specs.declared.types.Split.TheVariants.{None, AbortOut, AbortIn, Clear}
use Rattle.port.specs.Answer.{SetupOutcome}
use Rattle.std.specs.Prelude.{Result, Ok, Err}
use Rattle.port.specs.declared.types.State.{State}

-- ** no answer is longer than 24 bytes

abbrev Short : Reaction → Type 0
Short r = length r.answer.bytes ≤ CONTROL

check_out_short : (split : Split) → Short (check_abort_out split)
unfolding check_abort_out bytes4
check_out_short None = omega arith
check_out_short (AbortOut count) = omega arith
check_out_short (AbortIn count) = omega arith
check_out_short Clear = omega arith

module _ (st : State) where
  check_in_short : (split : Split) → Short (check_abort_in (in_of st) split)
  unfolding check_abort_in bytes4
  check_in_short None = omega arith
  check_in_short (AbortOut count) = omega arith
  check_in_short (AbortIn count) = pick_all Short (is_owed (in_of st)) _ _ (λ _. omega arith) (λ _. omega arith)
  check_in_short Clear = omega arith

  pub row_short : (row : Row) → Short (answer_row st row)
  unfolding answer_row initiate_abort_out initiate_abort_in initiate_clear check_clear read_status
  row_short (InitiateAbortBulkOut tag) =
      decide_all Short (λ (status : ℕ). answering (status ∷ out_tag (out_of st) ∷ [])) (abort_rules st.split (is_open_out (out_of st)) (out_tag (out_of st)) tag) _
      (omega arith, (omega arith, (omega arith, tt))) (λ _. omega arith)
  row_short CheckAbortBulkOutStatus = check_out_short st.split
  row_short (InitiateAbortBulkIn tag) =
      decide_all Short (λ (status : ℕ). answering (status ∷ in_tag (in_of st) ∷ [])) (abort_rules st.split (is_open_in (in_of st)) (in_tag (in_of st)) tag) _
      (omega arith, (omega arith, (omega arith, tt))) (λ _. omega arith)
  row_short CheckAbortBulkInStatus = check_in_short st.split
  row_short InitiateClear = pick_all Short (is_clear st.split) _ _ (λ _. omega arith) (λ _. omega arith)
  row_short CheckClearStatus = pick_all Short _ _ _ (λ _. omega arith) (λ _. pick_all Short (is_owed (in_of st)) _ _ (λ _. omega arith) (λ _. omega arith))
  row_short GetCapabilities = omega arith
  row_short IndicatorPulse = omega arith
  row_short (ReadStatusByte tag) = pick_all Short (is_waiting (interrupt_of st)) _ _ (λ _. omega arith) (λ _. omega arith)
  row_short (RenControl ren) = omega arith
  row_short GoToLocal = omega arith
  row_short LocalLockout = omega arith
  row_short (ClearFeature endpoint) = omega arith
  row_short (SetFeature endpoint) = omega arith
  row_short (GetStatus endpoint) = omega arith

-- and an answer is in the array that it is handed on in
pub whole : (bytes : List ℕ) → length bytes ≤ length (into bytes (replicate CONTROL 0))
whole bytes = omega (arith, length-append bytes (drop (length bytes) (replicate CONTROL 0)))

-- copied from there, it is what an answer leaves in the lent buffer
pub copied : (b bytes : List ℕ) → paste b 0 (into bytes (replicate CONTROL 0)) (length bytes) ≡ into bytes b
copied b bytes =
    front_pasted b (into bytes (replicate CONTROL 0)) (length bytes) (whole bytes)
    ∙ ap (λ (l : List ℕ). into l b) (take_at bytes (drop (length bytes) (replicate CONTROL 0)) (length bytes) refl)

-- ** the two ways of a setup packet

module _ (st : State) (s : List ℕ) (room : ℕ) (told : Result (Unit {0}) Refusal) (is : told ≡ gate (setup_rules (length s) room)) where
  pub setup_denied : (r : Refusal) → told ≡ Err r → Err r ≡ setup_outcome st s room
  unfolding setup_outcome
  setup_denied r e = refuses Err (setup_rules (length s) room) _ told is r e

  pub setup_asked : told ≡ Ok tt → asked st (read_setup s) ≡ setup_outcome st s room
  unfolding setup_outcome
  setup_asked e = passes Err (setup_rules (length s) room) _ told is e

  pub setup_long : told ≡ Ok tt → length s ≡ SETUP
  setup_long e = neb_eq _ _ (none_left (length s ≠ᵇ SETUP) (room <ᵇ CONTROL) (none_of (setup_rules (length s) room) told is e).0)

-- a row is answered only into a buffer that is long enough
abbrev Roomy : ℕ → SetupOutcome → Type 0
Roomy room (Err n) = Unit {0}
Roomy room (Ok (Configure value)) = Unit {0}
Roomy room (Ok (Asks row)) = CONTROL ≤ room

asked_roomy : (st : State) (x : Option Setup) (room : ℕ) → CONTROL ≤ room → Roomy room (asked st x)
unfolding asked
asked_roomy st (Some (Configure value)) room e = tt
asked_roomy st (Some (Asks row)) room e = pick_all (Roomy room) (is_configured st) _ _ (λ _. e) (λ _. tt)
asked_roomy st None room e = tt

outcome_roomy : (st : State) (s : List ℕ) (room : ℕ) → Roomy room (setup_outcome st s room)
unfolding setup_outcome
outcome_roomy st s room =
    decide_all (Roomy room) Err (setup_rules (length s) room) _ (tt, tt) (λ n. asked_roomy st (read_setup s) room (ltb-false room CONTROL (none_right (length s ≠ᵇ SETUP) _ n.0)))

pub answers_roomy : (st : State) (s : List ℕ) (room : ℕ) (row : Row) → Ok (Asks row) ≡ setup_outcome st s room → CONTROL ≤ room
answers_roomy st s room row e = rw (← e) at (outcome_roomy st s room)
