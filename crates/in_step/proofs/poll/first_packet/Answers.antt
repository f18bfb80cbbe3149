use Rattle.in_step.proofs.PollLaws.{sendable_some, first_cuts}
use Rattle.port.specs.In.{fixed}
use native.Mathlib.Omega.{arith}
use Rattle.in_step.proofs.poll.first_packet.Goals as goal

pub term_mark-requires : goal.term_mark-requires
term_mark-requires c =
    let a = c.args in
    let p = c.requires in
    let r = p.1.reply in
    let some = sendable_some a.b a.reply.now (omega arith) p.1.asked p.1.unsent in
    rw c.sendable-n.ensures (omega arith, omega arith, omega arith)

pub returns : goal.returns
unfolding fixed
returns c =
    let a = c.args in
    let p = c.requires in
    let r = p.1.reply in
    let e = rw (c.carrying-started.ensures, c.sending_in.ensures, c.sendable-n.ensures) at c.put_data.ensures in
    let w = rw (c.end_mark.ensures.0, c.term_mark.ensures.0) at c.write_header.ensures in
    first_cuts a.p a.b a.reply.now a.buf.now _ _ (omega arith) _ _ p.0 p.2.0 c.sendable-n.ensures w e.0 e.1
