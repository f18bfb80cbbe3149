-- `text_words::numbers::pairs` meets its contract: what was put in, with the pairs of what is left, are the pairs.
use Prim.Native.Nat.{ℕ, zero, suc, ◌+◌, ◌*◌, ◌-◌, ◌≤◌, ◌<◌}
use mathlib.Core.Path.{◌≡◌, refl, sym, ap, ◌∙◌}
use mathlib.Core.List.{List, [], ◌∷◌, ◌++◌}
use native.Mathlib.Omega.{arith}
use lib.ListN.{length, get_or, take, drop, length-take, length-drop}
use lib.Seq.{take_all}
use Rattle.std.proofs.Common.{append_assoc, append-nil}
use Rattle.text_words.specs.Numbers.{nibble, pairs, BYTES}
use Rattle.text_words.proofs.numbers.pairs.Goals as goal

pair_off : (r : List ℕ) → 2 ≤ length r → pairs r ≡ (nibble (get_or r 0 0) * 16 + nibble (get_or r 1 0)) ∷ pairs (drop 2 r)
pair_off [] h = absurd (omega arith)
pair_off (a ∷ []) h = absurd (omega arith)
pair_off (a ∷ b ∷ r) h = refl

no_pair : (r : List ℕ) → length r < 2 → pairs r ≡ []
no_pair [] h = refl
no_pair (a ∷ []) h = refl
no_pair (a ∷ b ∷ r) h = absurd (omega arith)

take_more : (n : ℕ) (xs ys : List ℕ) → take n (take n xs ++ ys) ≡ take n (xs ++ ys)
take_more zero xs ys = refl
take_more (suc n) [] ys = refl
take_more (suc n) (x ∷ xs) ys = ap (λ (s : List ℕ). x ∷ s) (take_more n xs ys)

module _ (r xs s : List ℕ) (so_far : take BYTES (xs ++ pairs r) ≡ s) where
  one_more : 2 ≤ length r → (b : ℕ) → b ≡ nibble (get_or r 0 0) * 16 + nibble (get_or r 1 0) → (new : List ℕ) → new ≡ take BYTES (xs ++ b ∷ [])
      → (length new ≤ BYTES) × (take BYTES (new ++ pairs (take (length r - 2) (drop 2 r))) ≡ s)
  one_more h b b_is new new_is = (
    omega (arith, ap length new_is, length-take BYTES (xs ++ b ∷ [])),
    rw (new_is, take_all (length r - 2) (drop 2 r) (omega (arith, length-drop 2 r)))
        (take_more BYTES (xs ++ b ∷ []) (pairs (drop 2 r))
        ∙ ap (λ (x : List ℕ). take BYTES x) (append_assoc xs (b ∷ []) (pairs (drop 2 r)))
        ∙ rw (b_is, ← pair_off r h) so_far),
  )

  all_in : length r < 2 → length xs ≤ BYTES → xs ≡ s
  all_in h k = sym (take_all BYTES xs k) ∙ ap (λ (x : List ℕ). take BYTES x) (sym (append-nil xs)) ∙ rw (no_pair r h) at so_far

pub loop-rest-preserved : goal.loop-rest-preserved
loop-rest-preserved c =
    let l = c.loop-rest in
    one_more l.rest.now l.bytes _ l.invariant.1 c.in-len2-up.len_at_least _ (rw (c.nibble.ensures.0, c.nibble-in-len2-up.ensures.0) refl) _ c.push.ensures

pub returns : goal.returns
returns c =
    let l = c.loop-rest in
    all_in l.rest.now l.bytes _ l.invariant.1 c.in_default.len_below l.invariant.0
