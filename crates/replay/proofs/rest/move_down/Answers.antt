-- `replay::rest::move_down` meets its contract.
use mathlib.Core.Path.{◌≡◌, sym, ap, ◌∙◌}
use Prim.Native.Nat.{◌-◌}
use native.Mathlib.Omega.{arith}
use lib.ListN.{length, drop, length-drop, length-take}
use lib.Seq.{paste, paste-zero, slice}
use Rattle.replay.proofs.Moving.{moved}
use Rattle.replay.proofs.rest.move_down.Goals as goal

pub returns-then-filled-from : goal.returns-then-filled-from
returns-then-filled-from c =
    let a = c.args in
    let l = a.input.now in
    let none : length (slice a.from a.end l) ≡ 0 = simp (length-drop, length-take) (omega arith) in
    (sym (paste-zero l 0 (drop a.from l)) ∙ ap (paste l 0 (drop a.from l)) (sym none) ∙ moved a.from a.end l, sym none)

pub returns : goal.returns
returns c =
    let a = c.args in
    let l = a.input.now in
    let all : c.min-filled.result - a.from ≡ length (slice a.from a.end l) = simp (length-drop, length-take) (omega arith) in
    (c.copy_within.ensures.after ∙ ap (paste l 0 (drop a.from l)) all ∙ moved a.from a.end l, all)
