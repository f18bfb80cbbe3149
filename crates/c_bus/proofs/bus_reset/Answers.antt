use Rattle.c_bus.proofs.Ways.{bus_refused, reset_done}
use Rattle.port.specs.Step.{bus_reset}
use mathlib.Core.List.{[]}
use Rattle.c_bus.proofs.bus_reset.Goals as goal

pub returns-in-Err : goal.returns-in-Err
returns-in-Err c = bus_refused c.args.u.now _ c.sound_state.ensures [] _ bus_reset _ c.in-Err.is c.refused.ensures

pub returns-in-Ok : goal.returns-in-Ok
returns-in-Ok c = reset_done c.args.u.now _ c.sound_state.ensures _ _ _ c.in-Ok.is c.make.ensures c.done.ensures
