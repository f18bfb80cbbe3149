-- What the library's searches find, by the tests of the definitions: `u` is a test, and `t` the library's of which it is the opposite.
-- Assumes nothing.
use Prim.Native.Nat.{ℕ, zero, suc}
use Prim.Native.Nat.compare
use mathlib.Core.Path.{◌≡◌, refl}
use mathlib.Core.Bool.{Bool, true, false, cond, not, ◌&&◌}
use mathlib.Core.List.{List, [], ◌∷◌}
use native.Mathlib.Omega.{arith}
use lib.ListN.{length, get_or}
use borrow.Author.Tests.{lt-ltb}
use Rattle.std.specs.Prelude.{Some, None}
use Rattle.std.specs.List.{list_all, find}
use Rattle.rules.specs.Choice.{no, pick, ◌<ᵇ◌}
use Rattle.text_words.specs.Text.{place, has, found}

module _ (t u : ℕ → Bool) (opposite : (b : ℕ) → u b ≡ no (t b)) where
  pub all_or_has : (s : List ℕ) → list_all t s ≡ no (has u s)
  unfolding no pick
  all_or_has [] = refl
  all_or_has (b ∷ s) = rw (opposite b) (by (t b) (all_or_has s))
    where
      by : (v : Bool) → list_all t s ≡ no (has u s) → (v && list_all t s) ≡ no (pick (no v) zero (suc (place u s)) <ᵇ suc (length s))
      by true e = rw compare.suc-suc e
      by false e = rw (lt-ltb 0 (suc (length s)) (omega arith)) refl

  pub find_or_none : (s : List ℕ) → find (λ b. not (t b)) s ≡ found u s
  unfolding no pick
  find_or_none [] = refl
  find_or_none (b ∷ s) = rw (opposite b) (by (t b) (find_or_none s))
    where
      n : Bool → ℕ
      n v = pick (no v) zero (suc (place u s))

      by : (v : Bool) → find (λ b. not (t b)) s ≡ found u s → cond (not v) (Some b) (find (λ b. not (t b)) s) ≡ pick (n v <ᵇ suc (length s)) (Some (get_or (b ∷ s) (n v) 0)) None
      by true e = rw compare.suc-suc e
      by false e = rw (lt-ltb 0 (suc (length s)) (omega arith)) refl

-- what such a search found tells whether there is a byte, and which
pub some_found : (t : Bool) (x y : ℕ) → Some x ≡ pick t (Some y) None → (t ≡ true) × (x ≡ y)
unfolding pick
some_found true x y e = (refl, cc)
some_found false x y e = absurd cc

pub none_found : (t : Bool) (y : ℕ) → None ≡ pick t (Some y) None → t ≡ false
unfolding pick
none_found true y e = absurd cc
none_found false y e = refl
