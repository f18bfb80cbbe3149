use native.Mathlib.Omega.{arith}
use Rattle.port.specs.Device.{unsent_in}
use Rattle.in_step.proofs.PollLaws.{term_last, term_not_last, term_off}
use Rattle.in_step.proofs.poll.term_mark.Goals as goal
use Rattle.in_step.proofs.poll.term_mark.Goals.{else-b-eq1-via-then-b-eq1+else-reply-last, else-b-eq1-via-else-b-eq1}

pub returns-then-reply-last : goal.returns-then-reply-last
returns-then-reply-last c =
    let a = c.args in
    let p = c.requires in
    let r = p.2 in
    (term_last a.b a.reply.now (omega arith) a.n p.0 p.1 c.if-b-eq1.true (rw c.from.ensures at c.if-reply-last.true), omega arith)

pub returns-else-b-eq1 : goal.returns-else-b-eq1
returns-else-b-eq1 c =
    let a = c.args in
    let p = c.requires in
    let r = p.2 in (
      elim c.else-b-eq1.branch [
        | else-b-eq1-via-then-b-eq1+else-reply-last w ↦ term_not_last a.b a.reply.now (omega arith) a.n p.0 p.1 (rw c.from.ensures at w.if-reply-last.false)
        | else-b-eq1-via-else-b-eq1 w ↦ term_off a.b (unsent_in a.b a.reply.now) a.n w.if-b-eq1.false
      ],
      omega arith,
    )
