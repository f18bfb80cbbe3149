-- A copy to the front of a lent buffer is what an answer leaves there.
-- Assumes nothing.
use Prim.Native.Nat.{ℕ, ◌≤◌, min}
use mathlib.Core.Path.{◌≡◌, sym, ap, ◌∙◌}
use mathlib.Core.List.{List, ◌++◌}
use native.Mathlib.Omega.{arith}
use native.Mathlib.Nat.{zero-add}
use lib.ListN.{length, take, drop, length-take}
use lib.Seq.{paste}
use Rattle.wire.specs.Bytes.{into}

pub front_pasted : (b s : List ℕ) (n : ℕ) → n ≤ length s → paste b 0 s n ≡ into (take n s) b
front_pasted b s n e = ap (λ (k : ℕ). take n s ++ drop k b) (zero-add n ∙ sym (length-take n s ∙ shorter))
  where
    shorter : min n (length s) ≡ n
    shorter = omega arith
