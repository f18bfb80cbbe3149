use Prim.Native.Nat.{ℕ}
use mathlib.Core.Path.{ap, ◌∙◌}
use native.Mathlib.Omega.{arith}
use lib.ListN.{drop, replicate, length-drop}
use lib.Seq.{length-take-le}
use Rattle.c_bytes.specs.Layout.{PORT_AT}
use Rattle.c_promise.proofs.Made.{made_of}
use Rattle.c_promise.proofs.make.make.Goals as goal

pub returns : goal.returns
returns c =
    let a = c.args in
    made_of (drop PORT_AT a.u.now) (omega (arith, length-drop PORT_AT a.u.now)) a.setting a.configured _ _
    (c.fill.ensures.after (λ y e. e) ∙ ap (λ (n : ℕ). replicate n 0) (length-take-le PORT_AT a.u.now (omega arith)))
    (rw c.fresh.ensures at c.put_state.ensures)
