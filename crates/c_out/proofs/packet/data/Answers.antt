use Rattle.c_out.proofs.Ways.{data_fits, data_done}
use native.Mathlib.Omega.{arith}
use Rattle.c_out.proofs.packet.data.Goals as goal

pub absorbed-after-requires : goal.absorbed-after-requires
absorbed-after-requires c = let a = c.args in rw c.out_of-o.ensures (data_fits a.u.now a.s.now a.count c.requires).0

pub copy_in-requires : goal.copy_in-requires
copy_in-requires c =
    let a = c.args in
    let f = data_fits a.u.now a.s.now a.count c.requires in
    let w = rw c.out_of-o.ensures at c.from.ensures in
    let l = c.requires.lent.long in
    (omega (arith, f.0.0, f.0.1), omega (arith, f.1))

pub returns : goal.returns
returns c =
    let a = c.args in
    let o = c.out_of-o.ensures in
    let x = rw o at c.absorbed-after.ensures in
    data_done a.u.now a.s.now _ _ a.count c.requires _ _ (rw (c.from.ensures, o) at c.copy_in.ensures)
    (rw x at c.put.ensures) (rw x at c.put-2.ensures) c.done.ensures
