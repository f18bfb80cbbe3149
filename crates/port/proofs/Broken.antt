-- A break drops the open OUT transfer and the unfinished message, at once.
-- Assumes nothing.
use Prim.Native.Nat.{ℕ}
use mathlib.Core.Path.{◌≡◌, refl, sym, ap, ◌∙◌, subst}
use mathlib.Core.Bool.{Bool, true, false, false≢true}
use mathlib.Core.List.{List, [], ◌∷◌}
use native.Mathlib.Omega.{arith}
use borrow.Author.Tests.{eqb-true, ne_eqb}
use lib.ListN.{length}
use Rattle.std.specs.Prelude.{Option, Some, None}
use Rattle.rules.specs.Choice.{◌=ᵇ◌, ◌and◌}
use Rattle.rules.specs.Answers.{DONE, UNSOUND, WRONG_SIZE, NO_ROW, SUCCESS, SPLIT_IN_PROGRESS, Leaves, as_ruled, unchanged, out_halted, leaves}
use Rattle.rules.proofs.Choice.{pick_all, decide_all, eq_neb, and_left, and_right, both_right}
use Rattle.wire.specs.Bytes.{byte}
use Rattle.rules.specs.Flags.{OFF, ON}
use Rattle.wire.specs.Setup.{read_setup}
use Rattle.wire.specs.declared.types.Endpoint.TheVariants.{Out, In, Interrupt}
use Rattle.wire.specs.declared.types.Row.{Row}
use Rattle.wire.specs.declared.types.Row.TheVariants.{InitiateAbortBulkOut, CheckAbortBulkOutStatus, InitiateAbortBulkIn, CheckAbortBulkInStatus}
use Rattle.wire.specs.declared.types.Row.TheVariants.{InitiateClear, CheckClearStatus, GetCapabilities, IndicatorPulse, ReadStatusByte}
use Rattle.wire.specs.declared.types.Row.TheVariants.{RenControl, GoToLocal, LocalLockout, ClearFeature, SetFeature, GetStatus}
use Rattle.wire.specs.declared.types.Setup.{Setup}
use Rattle.wire.specs.declared.types.Setup.TheVariants.{Configure, Asks}
use Rattle.port.specs.Parts.{on, is_open_out, unfinished, is_clear, out_of, is_configured, closed_out, broken, fresh, empty_out}
use Rattle.port.specs.Rows.{Reaction, answering, reacts, abort_rules, out_tag, initiate_abort_out}
use Rattle.port.specs.Rows.{initiate_clear, clearing, clear_feature_out, answer_row, effected}
use Rattle.port.specs.Device.{Device, Result, is_sound, made}
use Rattle.port.specs.Calls.{refused, setup_rules, asked, setup_outcome, answered, setup, reset_by_bus}
use Rattle.port.specs.Step.{setup_packet, out_packet, take_into, bus_reset, quiet, soundly, step}
use Rattle.port.specs.Breaks.{halting, breaks_row, breaks_setup, is_break}
use Rattle.port.specs.Laws.{LeftAs, BreakDrops}
use Rattle.port.specs.declared.types.OutMessage.{OutMessage}
use Rattle.port.specs.declared.types.BulkOut.{BulkOut}
use Rattle.port.specs.declared.types.Effect.TheVariants.{AbortsOut, Clears}
use Rattle.port.specs.Answer.{SetupOutcome}
use Rattle.std.specs.Prelude.{Err}
use Rattle.port.specs.declared.types.State.{State}
use Rattle.port.proofs.Calls.{leaves_table}

-- nothing is open, and nothing is unfinished
abbrev Dropped : BulkOut → Type 0
Dropped o = (is_open_out o ≡ false) × (unfinished o ≡ false)

empty_dropped : (halted recent : ℕ) → Dropped (empty_out halted recent)
empty_dropped halted recent = (eq_neb _ _ refl, and_right _ _ (eq_neb _ _ refl))

broken_dropped : (halted : ℕ) (o : BulkOut) → Dropped (broken halted o)
unfolding broken
broken_dropped halted o = (
  eq_neb _ _ refl,
  pick_all (λ (m : OutMessage). unfinished (record { message = m; transfer = closed_out; halted = halted; recent = o.recent }) ≡ false) (on o.message.ready) _ _
      (λ e. and_left _ _ (ne_eqb o.message.ready OFF (λ z. let r = eqb-true o.message.ready ON e in omega arith)))
      (λ _. and_right _ _ (eq_neb _ _ refl)),
)

-- what a reaction drops if its answer is a break
abbrev Drops : State → (List ℕ → Bool) → Reaction → Type 0
Drops st breaks r = breaks r.answer.bytes ≡ true → Dropped (out_of (effected st r.effect))

abbrev succeeded : List ℕ → Bool
succeeded bytes = byte bytes 0 =ᵇ SUCCESS

row_drops : (st : State) (row : Row) → breaks_row row (answer_row st row).answer.bytes ≡ true → Dropped (out_of (effected st (answer_row st row).effect))
unfolding answer_row initiate_abort_out initiate_clear effected clearing clear_feature_out
row_drops st (InitiateAbortBulkOut tag) =
    decide_all (Drops st succeeded) (λ status. answering (status ∷ out_tag (out_of st) ∷ [])) (abort_rules st.split (is_open_out (out_of st)) (out_tag (out_of st)) tag)
    (reacts AbortsOut (SUCCESS ∷ out_tag (out_of st) ∷ []))
    (λ e. absurd (false≢true e), (λ e. absurd (false≢true e), (λ e. absurd (false≢true e), tt)))
    (λ _ _. broken_dropped ON (out_of st))
row_drops st CheckAbortBulkOutStatus = λ e. absurd (false≢true e)
row_drops st (InitiateAbortBulkIn tag) = λ e. absurd (false≢true e)
row_drops st CheckAbortBulkInStatus = λ e. absurd (false≢true e)
row_drops st InitiateClear =
    pick_all (Drops st succeeded) (is_clear st.split) (answering (SPLIT_IN_PROGRESS ∷ [])) (reacts Clears (SUCCESS ∷ [])) (λ _ e. absurd (false≢true e)) (λ _ _. empty_dropped ON 0)
row_drops st CheckClearStatus = λ e. absurd (false≢true e)
row_drops st GetCapabilities = λ e. absurd (false≢true e)
row_drops st IndicatorPulse = λ e. absurd (false≢true e)
row_drops st (ReadStatusByte tag) = λ e. absurd (false≢true e)
row_drops st (RenControl ren) = λ e. absurd (false≢true e)
row_drops st GoToLocal = λ e. absurd (false≢true e)
row_drops st LocalLockout = λ e. absurd (false≢true e)
row_drops st (ClearFeature Out) = λ _. broken_dropped _ (out_of st)
row_drops st (ClearFeature In) = λ e. absurd (false≢true e)
row_drops st (ClearFeature Interrupt) = λ e. absurd (false≢true e)
row_drops st (SetFeature Out) = λ _. broken_dropped ON (out_of st)
row_drops st (SetFeature In) = λ e. absurd (false≢true e)
row_drops st (SetFeature Interrupt) = λ e. absurd (false≢true e)
row_drops st (GetStatus endpoint) = λ e. absurd (false≢true e)

-- a refusal of setup is no break
abbrev SetupDrops : Option Setup → Result → Type 0
SetupDrops x r = (r.answer.verdict.number =ᵇ DONE and breaks_setup x r.answer.bytes) ≡ true → Dropped (out_of r.unit.state)

refusal : (u : Device) (x : Option Setup) (n : ℕ) → (n =ᵇ DONE) ≡ false → SetupDrops x (refused u n)
refusal u x n e b = absurd (false≢true (sym (and_left _ _ e) ∙ b))

setup_drops : (u : Device) (x : Option Setup) → SetupDrops x (answered u (asked u.state x))
unfolding answered asked made fresh
setup_drops u (Some (Configure value)) = λ _. empty_dropped OFF 0
setup_drops u (Some (Asks row)) =
    pick_all (λ (x : SetupOutcome). SetupDrops (Some (Asks row)) (answered u x)) (is_configured u.state) _ _
    (λ _ b. row_drops u.state row (both_right _ _ b))
    (λ _. refusal u (Some (Asks row)) NO_ROW refl)
setup_drops u None = refusal u None NO_ROW refl

-- a number that halts leaves a halted unit
halt_drops : (u : Device) (r : Result) (l : Leaves) → LeftAs l u r → halting l ≡ true → Dropped (out_of r.unit.state)
halt_drops u r as_ruled k e = absurd k
halt_drops u r unchanged k e = absurd (false≢true e)
halt_drops u r out_halted k e = subst (λ (q : Result). Dropped (out_of q.unit.state)) (sym k) (broken_dropped ON (out_of u.state))

halt_number : (n : ℕ) → halting (leaves n) ≡ true → n ≡ DONE → ⊥
unfolding leaves
halt_number n e z = false≢true (sym (ap (λ (m : ℕ). halting (leaves m)) z) ∙ e)

pub break_drops : BreakDrops step
unfolding is_break step soundly setup setup_outcome answered reset_by_bus made fresh
break_drops u (setup_packet p) h = pick_all (SetupDrops (read_setup p.packet)) (is_sound u) _ _ (λ _. served) (λ _. refusal u (read_setup p.packet) UNSOUND refl)
  where
    served : SetupDrops (read_setup p.packet) (soundly u (setup_packet p))
    served = decide_all (λ (x : SetupOutcome). SetupDrops (read_setup p.packet) (answered u x)) Err (setup_rules (length p.packet) p.room) _
        (refusal u (read_setup p.packet) WRONG_SIZE refl, tt) (λ _. setup_drops u (read_setup p.packet))
break_drops u (out_packet s) h = λ e. halt_drops u (step u (out_packet s)) (leaves (step u (out_packet s)).answer.verdict.number) (leaves_table u (out_packet s) (halt_number _ e)) e
break_drops u (take_into room) h = λ e. absurd (false≢true e)
break_drops u bus_reset h = pick_all (λ (r : Result). (r.answer.verdict.number =ᵇ DONE) ≡ true → Dropped (out_of r.unit.state)) (is_sound u) _ _ (λ _ _. reset) (λ _ e. absurd (false≢true e))
  where
    reset : Dropped (out_of (soundly u bus_reset).unit.state)
    reset = empty_dropped OFF 0
break_drops u (quiet q) h = λ e. absurd (false≢true e)
