-- The words of a line are no longer than the line.
-- Assumes nothing.
use Prim.Native.Nat.{ℕ, zero, suc, ◌≤◌}
use mathlib.Core.Bool.{Bool}
use mathlib.Core.List.{List}
use native.Mathlib.Omega.{arith}
use lib.ListN.{length, length-take, length-drop}
use Rattle.rules.proofs.Choice.{pick_all}
use Rattle.text_words.specs.Text.{is_byte, is_blank, is_solid, place, before, since}
use Rattle.text_words.specs.Words.{without_return, said, behind, word}

module _ (t : ℕ → Bool) (s : List ℕ) where
  before_short : length (before t s) ≤ length s
  before_short = omega (arith, length-take (place t s) s)

  since_short : length (since t s) ≤ length s
  since_short = omega (arith, length-drop (place t s) s)

within_text : (n : ℕ) (s : List ℕ) → length (word n s) ≤ length s
within_text zero s = omega (arith, before_short is_blank (since is_solid s), since_short is_solid s)
within_text (suc n) s = omega (arith, within_text n (behind s), since_short is_blank (since is_solid s), since_short is_solid s)

without_short : (line : List ℕ) → length (without_return line) ≤ length line
unfolding without_return
without_short line = pick_all (λ (x : List ℕ). length x ≤ length line) _ _ _ (λ _. omega (arith, length-take {A = ℕ})) (λ _. omega arith)

said_short : (line : List ℕ) → length (said line) ≤ length line
unfolding said
said_short line = omega (arith, before_short (is_byte 35) (without_return line), without_short line)

pub word_short : (n : ℕ) (line : List ℕ) → length (word n (said line)) ≤ length line
word_short n line = omega (arith, within_text n (said line), said_short line)
