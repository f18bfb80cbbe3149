-- `wire_code::copies::copy_in` meets its contract: after j turns dst is `paste` of the first j bytes.
use Prim.Native.Nat.{◌+◌, ◌<◌}
use mathlib.Core.Path.{◌≡◌, refl}
use native.Mathlib.Omega.{arith}
use native.Mathlib.Numerals.{add-one}
use lib.ListN.{length, drop, length-set, length-drop}
use lib.Seq.{paste-suc, get_or-drop}
use Rattle.wire_code.proofs.copies.copy_in.Goals as goal

pub loop-j-preserved : goal.loop-j-preserved
loop-j-preserved c =
    let a = c.args in
    let l = c.loop-j in
    let h₁ : a.at + l.j < length a.dst.now = omega arith in
    let h₂ : l.j < length (drop a.from a.s.now) = simp length-drop (omega arith) in (
      rw (l.invariant.0, add-one, ← get_or-drop a.from a.s.now l.j 0) (paste-suc a.dst.now a.at _ l.j 0 h₁ h₂),
      simp length-set l.invariant.1,
    )
