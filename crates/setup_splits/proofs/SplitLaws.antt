-- What a row of an abort or a clear comes to, a law for each way that its code takes.
-- Assumes nothing.
use Prim.Native.Nat.{ℕ}
use mathlib.Core.Path.{◌≡◌, refl, ap, ◌∙◌}
use mathlib.Core.Bool.{Bool, true, false}
use mathlib.Core.List.{[], ◌∷◌}
use Rattle.std.specs.Prelude.{Result, Ok, Err}
use Rattle.rules.specs.Choice.{gate, decide}
use Rattle.rules.specs.Answers.{SUCCESS, PENDING, SPLIT_NOT_IN_PROGRESS, SPLIT_IN_PROGRESS}
use Rattle.rules.proofs.Choice.{no_true, no_false, pick_true, pick_false, refuses, passes, tests}
use Rattle.wire.specs.Header.{D0}
use Rattle.port.specs.Parts.{is_owed, is_clear}
use Rattle.port.specs.Rows.{Reaction, answering, reacts, abort_rules}
use Rattle.port.specs.Rows.{abort_status, abort_ends, check_abort_in, initiate_clear, check_clear}
use Rattle.port.specs.declared.types.BulkIn.{BulkIn}
use Rattle.port.specs.declared.types.Effect.{Effect}
use Rattle.port.specs.declared.types.Effect.TheVariants.{Clears, EndsSplit}
use Rattle.port.specs.declared.types.Split.{Split}
use Rattle.port.specs.declared.types.Split.TheVariants.{AbortIn}
use Rattle.setup_splits.specs.Control.{control_of}
use Rattle.setup_splits.specs.declared.types.Control.{Control}

via : (x : Control) {r q : Reaction} → r ≡ q → x ≡ control_of r → x ≡ control_of q
via x e f = f ∙ ap control_of e

module _ (x : Control) (b : BulkIn) where
  -- CHECK of an abort-IN
  pub abort_pending : (count : ℕ) → is_owed b ≡ true → x ≡ control_of (answering (abort_status PENDING D0 0)) → x ≡ control_of (check_abort_in b (AbortIn count))
  unfolding check_abort_in
  abort_pending count e = via x (pick_true _ _ _ _ e refl)

  pub abort_ended : (count : ℕ) → is_owed b ≡ false → x ≡ control_of (abort_ends count) → x ≡ control_of (check_abort_in b (AbortIn count))
  unfolding check_abort_in
  abort_ended count e = via x (pick_false _ _ _ _ e refl)

  module _ (split : Split) where
    -- CHECK_CLEAR_STATUS
    pub clear_pending : is_clear split ≡ true → is_owed b ≡ true → x ≡ control_of (answering (PENDING ∷ D0 ∷ [])) → x ≡ control_of (check_clear b split)
    unfolding check_clear
    clear_pending e f = via x (pick_false _ _ _ _ (no_false _ e) (pick_true _ _ _ _ f refl))

    pub clear_done : is_clear split ≡ true → is_owed b ≡ false → x ≡ control_of (reacts EndsSplit (SUCCESS ∷ 0 ∷ [])) → x ≡ control_of (check_clear b split)
    unfolding check_clear
    clear_done e f = via x (pick_false _ _ _ _ (no_false _ e) (pick_false _ _ _ _ f refl))

    pub clear_wrong : is_clear split ≡ false → x ≡ control_of (answering (SPLIT_NOT_IN_PROGRESS ∷ 0 ∷ [])) → x ≡ control_of (check_clear b split)
    unfolding check_clear
    clear_wrong e = via x (pick_true _ _ _ _ (no_true _ e) refl)

-- INITIATE_CLEAR
module _ (x : Control) (split : Split) where
  pub clear_busy : is_clear split ≡ true → x ≡ control_of (answering (SPLIT_IN_PROGRESS ∷ [])) → x ≡ control_of (initiate_clear split)
  unfolding initiate_clear
  clear_busy e = via x (pick_true _ _ _ _ e refl)

  pub clear_begins : is_clear split ≡ false → x ≡ control_of (reacts Clears (SUCCESS ∷ [])) → x ≡ control_of (initiate_clear split)
  unfolding initiate_clear
  clear_begins e = via x (pick_false _ _ _ _ e refl)

pub ruleset splits = (abort_pending, abort_ended, clear_pending, clear_done, clear_wrong, clear_busy, clear_begins, tests)

-- INITIATE_ABORT
module _ (x : Control) (split : Split) (is_open : Bool) (own tag : ℕ) (effect : Effect) (told : Result (Unit {0}) ℕ) (is : told ≡ gate (abort_rules split is_open own tag)) where
  abbrev decision : Reaction
  decision = decide (λ status. answering (status ∷ own ∷ [])) (abort_rules split is_open own tag) (reacts effect (SUCCESS ∷ own ∷ []))

  pub abort_refused : (status : ℕ) → told ≡ Err status → x ≡ control_of (answering (status ∷ own ∷ [])) → x ≡ control_of decision
  abort_refused status e = via x (refuses (λ (n : ℕ). answering (n ∷ own ∷ [])) (abort_rules split is_open own tag) _ told is status e)

  pub abort_begins : told ≡ Ok tt → x ≡ control_of (reacts effect (SUCCESS ∷ own ∷ [])) → x ≡ control_of decision
  abort_begins e = via x (passes (λ (n : ℕ). answering (n ∷ own ∷ [])) (abort_rules split is_open own tag) _ told is e)
