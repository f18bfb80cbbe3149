-- The place that a test finds is the one that the library's search finds.
-- Assumes nothing.
use Prim.Native.Nat.{ℕ, suc, ◌+◌, ◌≤◌, zero-le, suc-le-suc}
use mathlib.Core.Path.{◌≡◌, refl}
use mathlib.Core.Bool.{Bool, true, false, cond, not}
use mathlib.Core.List.{List, [], ◌∷◌}
use native.Mathlib.Omega.{arith}
use lib.Dec.{ltb}
use lib.ListN.{length}
use borrow.Author.Tests.{ltb-false}
use Rattle.std.specs.Prelude.{Option, Some, None}
use Rattle.std.specs.List.{position_or_len}
use Rattle.std.specs.Option.{unwrap_or}
use Rattle.rules.specs.Choice.{pick}
use Rattle.rules.proofs.Choice.{pick_all}
use Rattle.text_words.specs.Text.{place}

module _ (t : ℕ → Bool) where
  pub place_le : (s : List ℕ) → place t s ≤ length s
  place_le [] = zero-le
  place_le (b ∷ s) = pick_all (λ (n : ℕ). n ≤ suc (length s)) (t b) _ _ (λ _. zero-le) (λ _. suc-le-suc (place_le s))

  place_is : (s : List ℕ) → position_or_len t s ≡ place t s
  unfolding pick
  place_is [] = refl
  place_is (b ∷ s) = by (t b) (place_is s)
    where
      by : (v : Bool) → position_or_len t s ≡ place t s → cond (not v) (1 + position_or_len t s) 0 ≡ pick v 0 (suc (place t s))
      by true e = refl
      by false e = omega (arith, e)

  pub place_found : (s : List ℕ) (r : Option ℕ) → r ≡ cond (ltb (position_or_len t s) (length s)) (Some (position_or_len t s)) None
      → unwrap_or r (length s) ≡ place t s
  place_found s r e = rw (e, place_is s) (by (ltb (place t s) (length s)) (ltb-false (place t s) (length s)))
    where
      by : (v : Bool) → (v ≡ false → length s ≤ place t s) → unwrap_or (cond v (Some (place t s)) None) (length s) ≡ place t s
      by true h = refl
      by false h = omega (arith, h refl, place_le s)
