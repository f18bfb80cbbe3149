-- The bytes of a word in hex: pair by pair, and that a line's word loses none.
-- Assumes nothing.
use Prim.Native.Nat.{ℕ, ◌/◌, ◌≤◌, zero-le}
use mathlib.Core.Path.{◌≡◌, refl, sym, ap, subst, ◌∙◌}
use mathlib.Core.List.{List, [], ◌∷◌}
use native.Mathlib.Omega.{arith}
use lib.ListN.{length}
use lib.Seq.{take_all}
use Rattle.std.specs.Prelude.{Result, Ok, Err}
use Rattle.rules.proofs.Choice.{pick_all, pick_both}
use Rattle.text_put.specs.Text.{ascii}
use Rattle.text_words.specs.Numbers.{pairs, first_pairs, read_hex, readable, BYTES}
use Rattle.text_words.specs.declared.numbers.HexError.{HexError}
use Rattle.text_words.proofs.Same.{same_equal}

pub pairs_short : (w : List ℕ) → length (pairs w) ≤ length w / 2
pairs_short [] = zero-le
pairs_short (a ∷ []) = zero-le
pairs_short (a ∷ b ∷ w) = omega (arith, pairs_short w)

-- a word that is no longer than a line, of 4,096 bytes at most, loses none of its bytes
pub whole : (w s : List ℕ) → length w ≤ 4096 → read_hex w ≡ Ok s → s ≡ pairs w
unfolding read_hex
whole w s h =
    pick_all P _ _ _ (λ t e. let z : s ≡ [] = cc in rw (z, same_equal w (ascii "-") t) refl)
    (λ _. pick_all P _ _ _ (λ _ e. absurd cc) (λ _. pick_all P _ _ _ (λ _ e. absurd cc) (λ _ e.
    let z : first_pairs w ≡ s = cc in
    sym z ∙ take_all BYTES (pairs w) (omega (arith, pairs_short w)))))
  where
    P : Result (List ℕ) HexError → Type 0
    P r = r ≡ Ok s → s ≡ pairs w

-- ** a word is readable, and is then read as its pairs; or it is not, and is not read for the same reason

module _ (w : List ℕ) where
  abbrev Reads : Result (Unit {0}) HexError → Result (List ℕ) HexError → Type 0
  Reads (Ok _) r = Ok (first_pairs w) ≡ r
  Reads (Err e) r = Err e ≡ r

  alike : Reads (readable w) (read_hex w)
  unfolding readable read_hex
  alike =
      pick_both Reads _ _ _ _ _ (λ t. ap (λ (v : List ℕ). Ok (first_pairs v)) (same_equal w (ascii "-") t))
      (λ _. pick_both Reads _ _ _ _ _ (λ _. refl) (λ _. pick_both Reads _ _ _ _ _ (λ _. refl) (λ _. refl)))

pub reads : (w : List ℕ) (u : Unit {0}) → Ok u ≡ readable w → Ok (first_pairs w) ≡ read_hex w
reads w u e = subst (λ (x : Result (Unit {0}) HexError). Reads w x (read_hex w)) (sym e) (alike w)

pub refuses : (w : List ℕ) (e : HexError) → Err e ≡ readable w → Err e ≡ read_hex w
refuses w e h = subst (λ (x : Result (Unit {0}) HexError). Reads w x (read_hex w)) (sym h) (alike w)
