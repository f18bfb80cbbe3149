use Rattle.c_thermostat.proofs.Ways.{take_kept, take_room, take_given}
use mathlib.Core.List.{[]}
use mathlib.Core.Path.{refl}
use native.Mathlib.Omega.{arith}
use Rattle.c_thermostat.proofs.take.Goals as goal

pub returns-in-Err : goal.returns-in-Err
returns-in-Err c = let a = c.args in take_kept a.u.now _ [] _ a.b.now [] c.taking.ensures _ c.in-Err.is c.refused.ensures

pub copy_in-requires : goal.copy_in-requires
copy_in-requires c =
    let a = c.args in
    let is = c.taking.ensures in
    let l = is.lent.long in
    let r = take_room a.u.now _ [] (record { verdict = record { number = 0; tells = 0 }; len = 0 }) a.b.now [] is c.in_default.is in
    let w = rw c.out_of.ensures at c.from-len.ensures in
    (omega arith, omega arith)

pub returns : goal.returns
returns c =
    let a = c.args in
    let w = rw c.out_of.ensures at c.from-len.ensures in
    take_given a.u.now _ _ _ a.b.now _ c.taking.ensures c.in_default.is (rw w at c.copy_in.ensures)
    (rw c.no_message.ensures at c.put.ensures) (rw (c.only.ensures, w) refl)
