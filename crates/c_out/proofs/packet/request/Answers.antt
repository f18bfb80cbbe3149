use Rattle.c_out.proofs.Ways.{request_done}
use Rattle.c_out.proofs.packet.request.Goals as goal

pub returns : goal.returns
returns c =
    let a = c.args in
    request_done a.u.now a.s.now _ _ a.tag a.size a.enabled a.term a.count c.requires _ _ c.put_byte.ensures
    (rw c.requested-after.ensures at c.put.ensures) c.put_byte-2.ensures c.done.ensures
