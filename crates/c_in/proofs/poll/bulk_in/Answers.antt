use Rattle.c_in.proofs.Polled.{poll_kept, poll_fits, poll_done}
use mathlib.Core.List.{[]}
use mathlib.Core.Path.{refl}
use Rattle.c_in.proofs.poll.bulk_in.Goals as goal

pub returns-in-Err : goal.returns-in-Err
returns-in-Err c = let a = c.args in poll_kept a.u.now a.b.now _ c.gate.ensures [] [] _ _ c.in-Err.is c.refused.ensures

pub cut-packet-requires : goal.cut-packet-requires
cut-packet-requires c = let a = c.args in rw (c.from.ensures, c.part_of-p.ensures, c.in_of.ensures) (poll_fits a.u.now a.b.now _ c.gate.ensures c.in_default.is)

pub returns : goal.returns
returns c =
    let a = c.args in
    poll_done a.u.now a.b.now _ c.gate.ensures _ _ _ c.in_default.is _
    (rw (c.from.ensures, c.part_of-p.ensures, c.in_of.ensures) at c.cut-packet.ensures) _
    c.put.ensures c.put-2.ensures (rw c.only.ensures refl)
