-- `text_words::numbers::number` meets its contract: what was read, with what is left, is the number, and it only grows.
use Prim.Native.Nat.{◌≤◌}
use mathlib.Core.Path.{◌≡◌}
use lib.ListN.{drop}
use Rattle.text_words.specs.Numbers.{number, number_from}
use Rattle.text_words.proofs.numbers.number.Given as goal

abbrev pub invariant-loop-digit : goal.invariant-loop-digit
invariant-loop-digit l = (l.n ≤ l.most) × (number l.word ≡ number_from l.n (drop l.digit-index l.word))
