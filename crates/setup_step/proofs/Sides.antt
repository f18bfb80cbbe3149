-- What a row does to the side of an endpoint, a law for each way that the code takes.
-- Assumes nothing.
use mathlib.Core.Path.{◌≡◌, refl, ap, sym}
use mathlib.Core.Bool.{true, false}
use Prim.Native.Nat.{ℕ}
use Rattle.rules.proofs.Choice.{at_true, at_false, pick_true, pick_false}
use Rattle.rules.specs.Flags.{OFF}
use Rattle.port.specs.Parts.{is_open_in, is_owed, keeps_halt, closed_in, empty_in, with_in_halted, broken, shut}
use Rattle.port.specs.Rows.{clear_feature_out, clear_feature_in}
use Rattle.port.specs.declared.types.BulkIn.{BulkIn}
use Rattle.port.specs.declared.types.BulkOut.{BulkOut}
use Rattle.port.specs.declared.types.Split.{Split}

module _ (split : Split) (o : BulkOut) where
  pub halt_stays : keeps_halt split ≡ true → broken o.halted o ≡ clear_feature_out split o
  unfolding clear_feature_out
  halt_stays e = ap (λ (halted : ℕ). broken halted o) (sym (at_true (keeps_halt split) _ _ e))

  pub halt_ends : keeps_halt split ≡ false → broken OFF o ≡ clear_feature_out split o
  unfolding clear_feature_out
  halt_ends e = ap (λ (halted : ℕ). broken halted o) (sym (at_false (keeps_halt split) _ _ e))

module _ (b : BulkIn) where
  pub owed_ends : is_owed b ≡ true → shut (with_in_halted b OFF) ≡ clear_feature_in b
  unfolding clear_feature_in
  owed_ends e = pick_true _ _ _ _ e refl

  pub open_drops : is_owed b ≡ false → is_open_in b ≡ true → empty_in closed_in OFF b.recent ≡ clear_feature_in b
  unfolding clear_feature_in
  open_drops e f = pick_false _ _ _ _ e (pick_true _ _ _ _ f refl)

  pub closed_keeps : is_owed b ≡ false → is_open_in b ≡ false → with_in_halted b OFF ≡ clear_feature_in b
  unfolding clear_feature_in
  closed_keeps e f = pick_false _ _ _ _ e (pick_false _ _ _ _ f refl)
