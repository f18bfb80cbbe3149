-- Bytes that are as they were filled, and those behind an answer.
-- Assumes nothing.
use Prim.Native.Nat.{ℕ, ◌≤◌, ◌<◌}
use mathlib.Core.Path.{◌≡◌, refl}
use mathlib.Core.Bool.{Bool, true, false, ◌&&◌}
use mathlib.Core.List.{List, [], ◌∷◌}
use lib.Dec.{eqb}
use lib.ListN.{length, drop}
use borrow.Author.Rules.{part_to_end}
use borrow.Author.Tests.{le-leb, lt-leb}
use Rattle.std.specs.List.{list_all}
use Rattle.rules.specs.Choice.{◌and◌}
use Rattle.rules.proofs.Choice.{and_left}
use Rattle.text_answers.specs.Answer.{FILL, filled, filled_behind}

same : (a b c : Bool) → b ≡ c → (a and b) ≡ (a && c)
unfolding ◌and◌
same true b c e = e
same false b c e = refl

pub filled_all : (bytes : List ℕ) → filled bytes ≡ list_all (λ (b : ℕ). eqb b FILL) bytes
unfolding filled
filled_all [] = refl
filled_all (b ∷ bytes) = same (eqb b FILL) _ _ (filled_all bytes)

module _ (buffer : List ℕ) (len : ℕ) where
  pub behind_within : len ≤ length buffer → filled_behind buffer len ≡ filled (drop len buffer)
  unfolding filled_behind ◌and◌
  behind_within h = rw (le-leb len (length buffer) h)

  pub behind_beyond : length buffer < len → filled_behind buffer len ≡ false
  unfolding filled_behind
  behind_beyond h = and_left _ _ (lt-leb len (length buffer) h)

pub ruleset behind = (part_to_end, behind_within, behind_beyond)
