-- A text that has a newline is cut at the first; of one that has none all is left.
-- Assumes nothing.
use Prim.Native.Nat.{ℕ, suc, ◌≤◌, ◌<◌}
use Prim.Native.Char.{code}
use mathlib.Core.Path.{◌≡◌, refl, ap}
use mathlib.Core.Bool.{Bool, true, false}
use mathlib.Core.List.{List, [], ◌∷◌}
use native.Mathlib.Omega.{arith}
use lib.ListN.{length, take, drop}
use Rattle.rules.specs.Choice.{pick}
use Rattle.text_words.specs.Text.{is_byte, place}
use Rattle.text_words.specs.Cut.{Cut, new_line, longer, cut}

abbrev pub newline : ℕ → Bool
newline = is_byte (code "\n")

-- a line, and what is cut behind it
abbrev pub line_then : List ℕ → Cut → Cut
line_then line c = record { lines = line ∷ c.lines; rest = c.rest }

abbrev pub FirstLine : List ℕ → Type 0
FirstLine s = place newline s < length s → cut s ≡ line_then (take (place newline s) s) (cut (drop (suc (place newline s)) s))

pub first_line : (s : List ℕ) → FirstLine s
unfolding cut pick
first_line [] h = absurd (omega arith)
first_line (b ∷ s) h = by (newline b) (first_line s) h
  where
    by : (v : Bool) → FirstLine s → pick v 0 (suc (place newline s)) < suc (length s)
        → pick v (new_line (cut s)) (longer b (cut s).lines (cut s).rest)
        ≡ line_then (take (pick v 0 (suc (place newline s))) (b ∷ s)) (cut (drop (suc (pick v 0 (suc (place newline s)))) (b ∷ s)))
    by true below k = refl
    by false below k = ap (λ (c : Cut). longer b c.lines c.rest) (below (omega arith))

abbrev pub NoLine : List ℕ → Type 0
NoLine s = length s ≤ place newline s → cut s ≡ record { lines = []; rest = s }

pub no_line : (s : List ℕ) → NoLine s
unfolding cut pick
no_line [] h = refl
no_line (b ∷ s) h = by (newline b) (no_line s) h
  where
    by : (v : Bool) → NoLine s → suc (length s) ≤ pick v 0 (suc (place newline s))
        → pick v (new_line (cut s)) (longer b (cut s).lines (cut s).rest) ≡ record { lines = []; rest = b ∷ s }
    by true below k = absurd (omega arith)
    by false below k = ap (λ (c : Cut). longer b c.lines c.rest) (below (omega arith))
