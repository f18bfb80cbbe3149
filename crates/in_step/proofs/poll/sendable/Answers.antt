use Prim.Native.Nat.{◌+◌, ◌-◌, min}
use mathlib.Core.Path.{◌≡◌, ◌∙◌}
use native.Mathlib.Omega.{arith}
use Rattle.in_step.proofs.PollLaws.{sendable_term, sendable_plain}
use Rattle.in_step.proofs.poll.sendable.Goals as goal

pub returns-then-b-eq1 : goal.returns-then-b-eq1
returns-then-b-eq1 c =
    let a = c.args in
    let r = c.requires in
    let e : c.from-at.result + c.from-most.result - c.from-at.result ≡ min a.b.transfer.asked a.b.reply.unsent = omega (arith, c.from-most.ensures, c.min.ensures) in
    rw c.from-at.ensures at (rw e at c.up_to.ensures) ∙ sendable_term a.b a.reply.now (omega arith) c.if-b-eq1.true

pub returns-else-b-eq1 : goal.returns-else-b-eq1
returns-else-b-eq1 c = let a = c.args in let r = c.requires in c.from-most.ensures ∙ c.min.ensures ∙ sendable_plain a.b a.reply.now (omega arith) c.if-b-eq1.false
