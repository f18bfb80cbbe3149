-- Bytes that move down in one buffer: what the library's copy leaves is the part of the buffer over its start.
-- Assumes nothing.
use Prim.Native.Nat.{ℕ, zero, suc, ◌+◌}
use mathlib.Core.Path.{◌≡◌, refl, ap, ◌∙◌}
use mathlib.Core.List.{List, [], ◌∷◌, ◌++◌}
use native.Mathlib.Nat.{zero-add}
use lib.ListN.{length, take, drop}
use lib.Seq.{slice, paste}
use Rattle.wire.specs.Bytes.{into}

start : (from end : ℕ) (l : List ℕ) → take (length (slice from end l)) (drop from l) ≡ slice from end l
start zero zero l = refl
start zero (suc end) [] = refl
start zero (suc end) (b ∷ l) = ap (λ (x : List ℕ). b ∷ x) (start zero end l)
start (suc from) zero l = refl
start (suc from) (suc end) [] = refl
start (suc from) (suc end) (b ∷ l) = start from end l

-- all of them
pub moved : (from end : ℕ) (l : List ℕ) → paste l 0 (drop from l) (length (slice from end l)) ≡ into (slice from end l) l
moved from end l = ap (λ (x : List ℕ). x ++ drop (0 + length (slice from end l)) l) (start from end l) ∙ rw zero-add refl
