use Rattle.in_step.proofs.PollLaws.{next_cuts}
use native.Mathlib.Omega.{arith}
use Rattle.in_step.proofs.poll.packet.Goals as goal

pub returns-else-b-eq-ASKED : goal.returns-else-b-eq-ASKED
returns-else-b-eq-ASKED c =
    let a = c.args in
    let p = c.requires in
    let n = c.if-b-eq-ASKED.false in
    let g = p.sending n in
    let e = c.put_data.ensures in
    next_cuts a.p a.b a.reply.now a.buf.now _ _ (let r = g.reply in omega arith) n g.left e.0 e.1
