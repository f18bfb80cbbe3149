-- READ_STATUS_BYTE, by whether a packet waits.
-- Assumes nothing.
use Prim.Native.Nat.{ℕ}
use mathlib.Core.Path.{◌≡◌, refl, ap, ◌∙◌}
use mathlib.Core.Bool.{true, false}
use mathlib.Core.List.{[], ◌∷◌}
use Rattle.rules.specs.Answers.{SUCCESS, INTERRUPT_IN_BUSY}
use Rattle.rules.proofs.Choice.{pick_true, pick_false, tests}
use Rattle.port.specs.Interrupt.{is_waiting}
use Rattle.port.specs.Rows.{answering, reacts, read_status}
use Rattle.port.specs.declared.types.InterruptIn.{InterruptIn}
use Rattle.port.specs.declared.types.Effect.TheVariants.{Queues}
use Rattle.setup_splits.specs.Control.{control_of}
use Rattle.setup_splits.specs.declared.types.Control.{Control}

module _ (x : Control) (i : InterruptIn) (tag : ℕ) where
  pub read_busy : is_waiting i ≡ true → x ≡ control_of (answering (INTERRUPT_IN_BUSY ∷ tag ∷ 0 ∷ [])) → x ≡ control_of (read_status i tag)
  unfolding read_status
  read_busy e f = f ∙ ap control_of (pick_true _ _ _ _ e refl)

  pub read_queued : is_waiting i ≡ false → x ≡ control_of (reacts (Queues tag) (SUCCESS ∷ tag ∷ 0 ∷ [])) → x ≡ control_of (read_status i tag)
  unfolding read_status
  read_queued e f = f ∙ ap control_of (pick_false _ _ _ _ e refl)

pub ruleset status_rows = (read_busy, read_queued, tests)
