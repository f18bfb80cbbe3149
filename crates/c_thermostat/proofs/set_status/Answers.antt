use Rattle.c_thermostat.proofs.Ways.{status_refused, status_done}
use mathlib.Core.List.{[]}
use Rattle.c_thermostat.proofs.set_status.Goals as goal

pub returns-in-Err : goal.returns-in-Err
returns-in-Err c = status_refused c.args.u.now _ [] _ c.setting.ensures _ _ c.in-Err.is c.refused.ensures

pub returns : goal.returns
returns c =
    status_done c.args.u.now _ _ _ c.setting.ensures _ c.in_default.is
    (rw (c.status_held.ensures, c.part_of-i.ensures) at c.put.ensures) c.done.ensures
