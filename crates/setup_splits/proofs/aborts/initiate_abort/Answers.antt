use Rattle.setup_splits.proofs.SplitLaws.{abort_refused, abort_begins}
use Rattle.setup_splits.proofs.aborts.initiate_abort.Goals as goal

pub returns-in-Ok : goal.returns-in-Ok
returns-in-Ok c = abort_begins _ _ _ _ _ _ _ c.abort_gate.ensures c.in-Ok.is c.reacts.ensures

pub returns-in-Err : goal.returns-in-Err
returns-in-Err c = abort_refused _ _ _ _ _ _ _ c.abort_gate.ensures _ c.in-Err.is c.reacts-in-Err.ensures
