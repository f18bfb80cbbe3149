use Rattle.c_bus.proofs.Ways.{bus_refused, suspend_done}
use Rattle.port.specs.Step.{quiet, bus_suspend}
use mathlib.Core.List.{[]}
use Rattle.c_bus.proofs.suspend.Goals as goal

pub returns-in-Err : goal.returns-in-Err
returns-in-Err c = bus_refused c.args.u.now _ c.sound_state.ensures [] _ (quiet bus_suspend) _ c.in-Err.is c.refused.ensures

pub returns-in-Ok : goal.returns-in-Ok
returns-in-Ok c = suspend_done c.args.u.now _ c.sound_state.ensures _ _ _ c.in-Ok.is _ (rw c.with_ren.ensures at c.put.ensures) c.put-in-Ok.ensures c.done.ensures
