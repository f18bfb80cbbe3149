use Rattle.c_thermostat.proofs.Ways.{offer_kept, offer_room, offer_given}
use mathlib.Core.List.{[]}
use native.Mathlib.Omega.{arith}
use borrow.Author.Rules.{rules}
use Rattle.c_thermostat.proofs.offer.Goals as goal

pub returns-in-Err : goal.returns-in-Err
returns-in-Err c = let a = c.args in offer_kept a.u.now _ [] _ a.bytes.now c.offering.ensures _ c.in-Err.is c.refused.ensures

pub copy_in-requires : goal.copy_in-requires
copy_in-requires c =
    let a = c.args in
    let is = c.offering.ensures in
    let l = is.lent.long in
    let r = offer_room a.u.now _ [] (record { verdict = record { number = 0; tells = 0 }; len = 0 }) a.bytes.now is c.in_default.is in (omega arith, omega arith)

pub overflow_cast-n : goal.overflow_cast-n
overflow_cast-n c =
    let a = c.args in
    let r = offer_room a.u.now _ [] (record { verdict = record { number = 0; tells = 0 }; len = 0 }) a.bytes.now c.offering.ensures c.in_default.is in
    search rules

pub returns : goal.returns
returns c = let a = c.args in offer_given a.u.now _ _ _ a.bytes.now c.offering.ensures c.in_default.is _ c.copy_in.ensures c.put.ensures c.done.ensures
