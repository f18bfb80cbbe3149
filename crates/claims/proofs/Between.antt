-- What a packet and a take are decided by, and what leaves it: every row that is no break, and every call that brings, takes and breaks no message.
-- Assumes nothing.
use Prim.Native.Nat.{ℕ}
use mathlib.Core.Path.{◌≡◌, refl}
use mathlib.Core.Bool.{Bool, false, true≢false}
use mathlib.Core.List.{List, [], ◌∷◌}
use lib.ListN.{length}
use Rattle.rules.specs.Answers.{refusing}
use Rattle.rules.specs.Choice.{no}
use Rattle.rules.specs.Answers.{DONE}
use Rattle.rules.proofs.Choice.{pick_all, decide_all}
use Rattle.wire.specs.declared.types.Endpoint.TheVariants.{Out, In, Interrupt}
use Rattle.wire.specs.declared.types.Row.{Row}
use Rattle.wire.specs.declared.types.Row.TheVariants.{InitiateAbortBulkOut, CheckAbortBulkOutStatus, InitiateAbortBulkIn, CheckAbortBulkInStatus}
use Rattle.wire.specs.declared.types.Row.TheVariants.{InitiateClear, CheckClearStatus, GetCapabilities, IndicatorPulse, ReadStatusByte}
use Rattle.wire.specs.declared.types.Row.TheVariants.{RenControl, GoToLocal, LocalLockout, ClearFeature, SetFeature, GetStatus}
use Rattle.port.specs.Parts.{on, is_open_out, is_open_in, is_owed, is_clear, packet_size, out_of, in_of, interrupt_of, is_configured}
use Rattle.port.specs.Remote.{local_now}
use Rattle.port.specs.Answer.{Said, refuse}
use Rattle.port.specs.Out.{plain}
use Rattle.port.specs.In.{in_rules, poll}
use Rattle.port.specs.Interrupt.{is_waiting, interrupt_rules, poll_interrupt}
use Rattle.port.specs.Rows.{Reaction, answering, abort_rules, out_tag, in_tag, initiate_abort_out, initiate_abort_in, check_abort_out}
use Rattle.port.specs.Rows.{check_abort_in, initiate_clear, check_clear, read_status, answer_row, effected}
use Rattle.port.specs.Device.{Device, with_state}
use Rattle.port.specs.Calls.{bulk_in, interrupt_in, offer_rules, offer_plan, with_reply, offer, thermostat_rules, status_set, set_status_byte, returned, panel, suspend}
use Rattle.port.specs.Step.{Quiet, in_poll, interrupt_poll, offer_reply, set_status, front_panel, bus_suspend, quietly}
use Rattle.port.specs.Breaks.{breaks_row}
use Rattle.port.specs.declared.types.BulkOut.{BulkOut}
use Rattle.port.specs.declared.types.Split.{Split}
use Rattle.port.specs.declared.types.Split.TheVariants.{None, AbortOut, AbortIn, Clear}
use Rattle.port.specs.declared.types.State.{State}
use Rattle.port.specs.declared.types.Plan.{Plan}

-- what a packet and a take are decided by, but for soundness
pub record Face : Type 0 where
  pub out : BulkOut
  pub message : List ℕ
  pub size : ℕ
  pub configured : Bool

abbrev pub face : Device → Face
face u = record { out = out_of u.state; message = u.message; size = packet_size u.state; configured = is_configured u.state }

module _ (u : Device) where
  abbrev Kept : Device → Type 0
  Kept v = face v ≡ face u

  abbrev st : State
  st = u.state

  -- a row is answered 0, and where that is no break it leaves the face
  abbrev Stays : (List ℕ → Bool) → Reaction → Type 0
  Stays breaks r = (r.answer.verdict.number ≡ DONE) × (breaks r.answer.bytes ≡ false → Kept (with_state u (effected st r.effect)))

  abbrev Calm : Reaction → Type 0
  Calm r = Stays (λ _. false) r

  pub row_kept : (row : Row) → Stays (breaks_row row) (answer_row st row)
  unfolding answer_row initiate_abort_out initiate_abort_in check_abort_out check_abort_in initiate_clear check_clear read_status effected local_now
  row_kept (InitiateAbortBulkOut tag) =
      decide_all (Stays (breaks_row (InitiateAbortBulkOut tag))) (λ status. answering (status ∷ out_tag (out_of st) ∷ [])) (abort_rules st.split (is_open_out (out_of st)) (out_tag (out_of st)) tag) _
      ((refl, λ _. refl), ((refl, λ _. refl), ((refl, λ _. refl), tt)))
      (λ _. (refl, λ e. absurd (true≢false e)))
  row_kept CheckAbortBulkOutStatus = by st.split
    where
      by : (s : Split) → Calm (check_abort_out s)
      by None = (refl, λ _. refl)
      by (AbortOut count) = (refl, λ _. refl)
      by (AbortIn count) = (refl, λ _. refl)
      by Clear = (refl, λ _. refl)
  row_kept (InitiateAbortBulkIn tag) =
      decide_all Calm (λ status. answering (status ∷ in_tag (in_of st) ∷ [])) (abort_rules st.split (is_open_in (in_of st)) (in_tag (in_of st)) tag) _
      ((refl, λ _. refl), ((refl, λ _. refl), ((refl, λ _. refl), tt))) (λ _. (refl, λ _. refl))
  row_kept CheckAbortBulkInStatus = by st.split
    where
      by : (s : Split) → Calm (check_abort_in (in_of st) s)
      by None = (refl, λ _. refl)
      by (AbortOut count) = (refl, λ _. refl)
      by (AbortIn count) = pick_all Calm (is_owed (in_of st)) _ _ (λ _. (refl, λ _. refl)) (λ _. (refl, λ _. refl))
      by Clear = (refl, λ _. refl)
  row_kept InitiateClear = pick_all (Stays (breaks_row InitiateClear)) (is_clear st.split) _ _ (λ _. (refl, λ _. refl)) (λ _. (refl, λ e. absurd (true≢false e)))
  row_kept CheckClearStatus = pick_all Calm (no (is_clear st.split)) _ _ (λ _. (refl, λ _. refl)) (λ _. pick_all Calm (is_owed (in_of st)) _ _ (λ _. (refl, λ _. refl)) (λ _. (refl, λ _. refl)))
  row_kept GetCapabilities = (refl, λ _. refl)
  row_kept IndicatorPulse = (refl, λ _. refl)
  row_kept (ReadStatusByte tag) = pick_all Calm (is_waiting (interrupt_of st)) _ _ (λ _. (refl, λ _. refl)) (λ _. (refl, λ _. refl))
  row_kept (RenControl ren) = (refl, λ _. pick_all (λ (s : State). Kept (with_state u s)) (on ren) _ _ (λ _. refl) (λ _. refl))
  row_kept GoToLocal = (refl, λ _. refl)
  row_kept LocalLockout = (refl, λ _. refl)
  row_kept (ClearFeature Out) = (refl, λ e. absurd (true≢false e))
  row_kept (ClearFeature In) = (refl, λ _. refl)
  row_kept (ClearFeature Interrupt) = (refl, λ _. refl)
  row_kept (SetFeature Out) = (refl, λ e. absurd (true≢false e))
  row_kept (SetFeature In) = (refl, λ _. refl)
  row_kept (SetFeature Interrupt) = (refl, λ _. refl)
  row_kept (GetStatus endpoint) = (refl, λ _. refl)

  abbrev SaidKept : Said → Type 0
  SaidKept r = Kept (with_state u r.state)

  -- a call that brings, takes and breaks no message
  pub quiet_kept : (q : Quiet) → Kept (quietly u q).unit
  unfolding quietly bulk_in poll interrupt_in poll_interrupt offer offer_plan set_status_byte status_set panel returned suspend local_now
  quiet_kept (in_poll room) = decide_all SaidKept (refuse st) (in_rules st room) _ (refl, (refl, (refl, (refl, tt)))) (λ _. refl)
  quiet_kept (interrupt_poll room) = decide_all SaidKept (refuse st) (interrupt_rules st room) _ (refl, (refl, (refl, (refl, tt)))) (λ _. refl)
  quiet_kept (offer_reply bytes) = decide_all (λ (p : Plan). Kept (with_reply u bytes p).unit) (λ k. plain st (refusing k)) (offer_rules st (length bytes)) _ (refl, (refl, (refl, tt))) (λ _. refl)
  quiet_kept (set_status status) = decide_all SaidKept (refuse st) (thermostat_rules st) _ (refl, tt) (λ _. refl)
  quiet_kept front_panel = decide_all SaidKept (refuse st) (thermostat_rules st) _ (refl, tt) (λ _. refl)
  quiet_kept bus_suspend = refl
