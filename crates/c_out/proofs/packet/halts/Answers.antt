use Rattle.c_out.proofs.Ways.{halted}
use Rattle.c_out.proofs.packet.halts.Goals as goal

pub returns : goal.returns
returns c =
    let a = c.args in
    halted a.u.now a.s.now _ _ a.number c.requires
    (rw (c.broken.ensures, c.out_of-o.ensures) at c.put_out.ensures) c.numbered.ensures
