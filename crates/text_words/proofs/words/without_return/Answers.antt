-- `text_words::words::without_return` meets its contract: an empty line has no last byte.
use Prim.Native.Nat.{ℕ, suc, ◌+◌, ◌-◌}
use mathlib.Core.Path.{◌≡◌, refl, sym, ap, ◌∙◌}
use mathlib.Core.Bool.{Bool, true, false, ◌&&◌}
use mathlib.Core.List.{List, [], ◌∷◌}
use native.Mathlib.Omega.{arith}
use lib.Dec.{eqb}
use lib.ListN.{length, get_or, take, drop, drop_of_length-le}
use lib.Pointwise.{pointwise}
use lib.Seq.{drop-cons}
use denote.Bor.{Bor}
use Rattle.std.specs.Prelude.{Option, Some, None}
use Rattle.std.specs.Option.{MatchOption, unwrap_or}
use Rattle.rules.proofs.Choice.{at_true, at_false}
use Rattle.text_words.specs.Words.{without_return}
use Rattle.text_words.proofs.words.without_return.Goals as goal

alone : (t : Bool) → (t && true) ≡ t
alone true = refl
alone false = refl

abbrev ends : List ℕ → Bool
ends s = pointwise eqb (drop (length s - 1) s) (13 ∷ [])

last_at : (s : List ℕ) (i : ℕ) → i + 1 ≡ length s → pointwise eqb (drop i s) (13 ∷ []) ≡ eqb (get_or s i 0) 13
last_at s i h = rw (drop-cons s i 0 (omega arith), drop_of_length-le s {i = suc i} (omega arith)) (alone _)

-- what stands at the end is the last byte
last : (s : List ℕ) → ends s ≡ eqb (get_or s (length s - 1) 0) 13
last [] = refl
last (b ∷ s) = last_at (b ∷ s) (length (b ∷ s) - 1) (omega arith)

cut : (line : Bor (List ℕ)) (r : Option (Bor (List ℕ)))
    → MatchOption r (ends line.now ≡ false) (λ x. (ends line.now ≡ true) × (x.now ≡ take (length line.now - 1) line.now) × (length x.now + 1 ≡ length line.now))
    → (unwrap_or r line).now ≡ without_return line.now
unfolding without_return
cut line None h = sym (at_false _ _ _ (sym (last line.now) ∙ h))
cut line (Some x) h = h.1 ∙ sym (at_true _ _ _ (sym (last line.now) ∙ h.0))

pub returns : goal.returns
returns c = ap (λ (x : Bor (List ℕ)). x.now) c.unwrap_or.ensures ∙ cut c.args.line _ c.strip_suffix.ensures.cases
