-- `unit_inplace::poll::poll_in_place` meets its contract: the step, written back to the unit.
use Rattle.unit_inplace.proofs.AtExit.{polled}
use Rattle.unit_inplace.proofs.poll.poll_in_place.Goals as goal

pub returns : goal.returns
returns c = polled c.args.u.now c.args.b.now c.poll_step-given.new.b c.poll_step-given.result c.poll_step-given.ensures
