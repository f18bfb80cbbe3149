-- `unit_inplace::packet::packet_in_place` meets its contract: the step, written back to the unit.
use Rattle.unit_inplace.proofs.AtExit.{altered}
use Rattle.unit_inplace.proofs.packet.packet_in_place.Goals as goal

pub returns : goal.returns
returns c = altered c.args.u.now c.args.s.now c.packet_step-plan.result c.packet_step-plan.new.message c.packet_step-plan.ensures.0 c.packet_step-plan.ensures.1
