-- `text_words::numbers::readable` meets its contract.
use Prim.Native.Nat.{ℕ, ◌%◌}
use mathlib.Core.Path.{◌≡◌, sym, ap, ◌∙◌}
use mathlib.Core.Bool.{Bool, true, false}
use mathlib.Core.List.{List, [], ◌∷◌}
use lib.Dec.{eqb}
use lib.ListN.{length}
use lib.Pointwise.{pointwise}
use Rattle.std.proofs.Common.{Option, Some, None, Ok, Err}
use Rattle.rules.proofs.Choice.{at_true, at_false, ne_neb, eq_neb}
use Rattle.text_words.specs.Text.{is_no_hex_digit, found}
use Rattle.text_words.specs.Numbers.{readable}
use Rattle.text_words.specs.declared.numbers.HexError.TheVariants.{NotHex, Odd}
use Rattle.text_words.proofs.Found.{some_found, none_found}
use Rattle.text_words.proofs.Same.{same_is}
use Rattle.text_words.proofs.numbers.readable.Goals as goal

module _ (w dash : List ℕ) (dash-is : dash ≡ 45 ∷ []) (t : Bool) (t-is : t ≡ pointwise eqb w dash) where
  is : (v : Bool) → t ≡ v → pointwise eqb w (45 ∷ []) ≡ v
  is v e = rw dash-is at (sym t-is ∙ e)

  none : t ≡ true → Ok tt ≡ readable w
  unfolding readable
  none e = sym (at_true _ _ _ (same_is w (45 ∷ []) ∙ is true e))

  module _ (e : t ≡ false) (o : Option ℕ) (o-is : o ≡ found is_no_hex_digit w) where
    strange : (b : ℕ) → o ≡ Some b → Err (NotHex b) ≡ readable w
    unfolding readable
    strange b f =
        let g = some_found _ _ _ (sym f ∙ o-is) in
        sym (at_false _ _ _ (same_is w (45 ∷ []) ∙ is false e) ∙ at_true _ _ _ g.0 ∙ ap (λ (n : ℕ). Err (NotHex n)) (sym g.1))

    module _ (f : o ≡ None) where
      odd : (length w % 2 ≡ 0 → ⊥) → Err Odd ≡ readable w
      unfolding readable
      odd h = sym (at_false _ _ _ (same_is w (45 ∷ []) ∙ is false e) ∙ at_false _ _ _ (none_found _ _ (sym f ∙ o-is)) ∙ at_true _ _ _ (ne_neb (length w % 2) 0 h))

      even : length w % 2 ≡ 0 → Ok tt ≡ readable w
      unfolding readable
      even h = sym (at_false _ _ _ (same_is w (45 ∷ []) ∙ is false e) ∙ at_false _ _ _ (none_found _ _ (sym f ∙ o-is)) ∙ at_false _ _ _ (eq_neb (length w % 2) 0 h))

pub returns-then-eq : goal.returns-then-eq
returns-then-eq c = none c.args.word.now _ c.as_slice.ensures _ c.eq.ensures c.if-eq.true

pub returns-in-Some : goal.returns-in-Some
returns-in-Some c = strange c.args.word.now _ c.as_slice.ensures _ c.eq.ensures c.if-eq.false _ c.no_hex_digit.ensures _ c.in-Some.is

pub returns-then-word-ne0 : goal.returns-then-word-ne0
returns-then-word-ne0 c =
    odd c.args.word.now _ c.as_slice.ensures _ c.eq.ensures c.if-eq.false _ c.no_hex_digit.ensures c.in_default.is c.if-word-ne0.true

pub returns : goal.returns
returns c =
    even c.args.word.now _ c.as_slice.ensures _ c.eq.ensures c.if-eq.false _ c.no_hex_digit.ensures c.in_default.is c.if-word-ne0.false
