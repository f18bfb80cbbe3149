use Rattle.c_in.proofs.Interrupted.{interrupt_kept, interrupt_room, interrupt_done}
use mathlib.Core.List.{[]}
use mathlib.Core.Path.{refl}
use Rattle.c_in.proofs.interrupt.interrupt_in.Goals as goal

pub returns-in-Err : goal.returns-in-Err
returns-in-Err c = let a = c.args in interrupt_kept a.u.now a.b.now _ c.gate.ensures [] [] _ _ c.in-Err.is c.refused.ensures

pub write_notify-requires : goal.write_notify-requires
write_notify-requires c = let a = c.args in interrupt_room a.u.now a.b.now _ c.gate.ensures c.in_default.is

pub returns : goal.returns
returns c =
    let a = c.args in
    interrupt_done a.u.now a.b.now _ c.gate.ensures _ _ _ c.in_default.is _ _ c.part_of-i.ensures
    c.polled.ensures c.write_notify.ensures c.put.ensures (rw c.only.ensures refl)
