-- `text_words::words::nth_word` meets its contract: the words of what is left are the later ones of the text.
use Prim.Native.Nat.{ℕ, ◌+◌}
use mathlib.Core.Path.{◌≡◌}
use Rattle.text_words.specs.Words.{word}
use Rattle.text_words.proofs.words.nth_word.Given as goal

abbrev pub invariant-loop : goal.invariant-loop
invariant-loop l = (k : ℕ) → word k l.rest ≡ word (l.counter + k) l.text
