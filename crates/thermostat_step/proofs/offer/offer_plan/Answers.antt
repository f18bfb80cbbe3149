use Prim.Native.Nat.{◌≤◌}
use native.Mathlib.Omega.{arith}
use Rattle.thermostat_step.proofs.MessageLaws.{offer_refused, offer_done, offer_fits}
use Rattle.thermostat_step.proofs.offer.offer_plan.Goals as goal

pub returns-in-Err : goal.returns-in-Err
returns-in-Err c = rw (c.plain.ensures, c.from.ensures) (offer_refused _ _ _ c.offer_gate.ensures _ c.in-Err.is, omega arith, omega arith)

pub overflow_cast-n : goal.overflow_cast-n
overflow_cast-n c = let a = c.args in let e : a.n ≤ 1024 = offer_fits a.st _ a.n c.offer_gate.ensures c.in_default.is in omega arith

pub returns : goal.returns
returns c =
    let a = c.args in (
      rw (c.only.ensures, c.with_in.ensures, c.offered.ensures) (offer_done a.st _ a.n c.offer_gate.ensures c.in_default.is),
      omega arith,
      offer_fits a.st _ a.n c.offer_gate.ensures c.in_default.is,
    )
