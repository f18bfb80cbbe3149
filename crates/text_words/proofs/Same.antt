-- Two texts are the same where the library's `==` says so.
-- Assumes nothing.
use Prim.Native.Nat.{ℕ}
use mathlib.Core.Path.{◌≡◌, refl, sym, ◌∙◌}
use mathlib.Core.Bool.{Bool, true, false, ◌&&◌}
use mathlib.Core.List.{List, [], ◌∷◌}
use lib.Dec.{eqb}
use lib.Pointwise.{pointwise}
use Rattle.std.proofs.lemmas.Slice.Eq.{bytes_eq-Decides}
use Rattle.rules.specs.Choice.{pick}
use Rattle.text_words.specs.Text.{same}

both : (t u : Bool) → pick t u false ≡ (t && u)
unfolding pick
both true u = refl
both false u = refl

pub same_is : (a b : List ℕ) → same a b ≡ pointwise eqb a b
same_is [] [] = refl
same_is [] (y ∷ b) = refl
same_is (x ∷ a) [] = refl
same_is (x ∷ a) (y ∷ b) = rw (← same_is a b) (both (eqb x y) (same a b))

-- texts that are the same are equal
pub same_equal : (a b : List ℕ) → same a b ≡ true → a ≡ b
same_equal a b e = (bytes_eq-Decides a b).0 (sym (same_is a b) ∙ e)
