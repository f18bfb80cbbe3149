-- `text_words::numbers::pairs` meets its contract: what was put in, with the pairs of what is left, are the pairs.
use Prim.Native.Nat.{◌≤◌}
use mathlib.Core.Path.{◌≡◌}
use mathlib.Core.List.{◌++◌}
use lib.ListN.{length, take}
use Rattle.text_words.specs.Numbers.{pairs, first_pairs, BYTES}
use Rattle.text_words.proofs.numbers.pairs.Given as goal

abbrev pub invariant-loop-rest : goal.invariant-loop-rest
invariant-loop-rest l = (length l.bytes ≤ BYTES) × (take BYTES (l.bytes ++ pairs l.rest) ≡ first_pairs l.word)

abbrev pub decreases-loop-rest : goal.decreases-loop-rest
decreases-loop-rest l = length l.rest
