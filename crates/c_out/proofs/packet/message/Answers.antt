use Rattle.c_out.proofs.Ways.{message_fits, message_done}
use native.Mathlib.Omega.{arith}
use borrow.Author.Rules.{rules}
use Rattle.c_out.proofs.packet.message.Goals as goal

pub overflow_cast-size : goal.overflow_cast-size
overflow_cast-size c =
    let a = c.args in
    let f = message_fits a.u.now a.s.now a.tag a.size a.end a.count c.requires in let k = f.0.1 in search rules

pub absorbed-after-requires : goal.absorbed-after-requires
absorbed-after-requires c =
    let a = c.args in
    rw (c.opened.ensures, c.out_of-o.ensures) (message_fits a.u.now a.s.now a.tag a.size a.end a.count c.requires).0

pub copy_in-requires : goal.copy_in-requires
copy_in-requires c =
    let a = c.args in
    let f = message_fits a.u.now a.s.now a.tag a.size a.end a.count c.requires in
    let w = rw c.out_of-o.ensures at c.from.ensures in
    let l = c.requires.lent.long in
    (omega (arith, f.0.0, f.0.1), omega (arith, f.1))

pub returns : goal.returns
returns c =
    let a = c.args in
    let o = c.out_of-o.ensures in
    let x = rw (c.opened.ensures, o) at c.absorbed-after.ensures in
    message_done a.u.now a.s.now _ _ a.tag a.size a.end a.count c.requires _ _ _ _ (rw (c.from.ensures, o) at c.copy_in.ensures)
    (rw x at c.put.ensures) (rw x at c.put-2.ensures) c.put_byte.ensures
    (rw (c.headed.ensures, c.part_of-p.ensures, c.part_of-r.ensures) at c.put-3.ensures) c.done.ensures
