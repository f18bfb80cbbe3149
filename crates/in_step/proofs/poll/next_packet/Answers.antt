use Rattle.in_step.proofs.PollLaws.{owed_cuts, open_cuts}
use Rattle.in_step.proofs.poll.next_packet.Goals as goal

pub returns-then-b-eq-OWED : goal.returns-then-b-eq-OWED
returns-then-b-eq-OWED c = rw c.shut.ensures (owed_cuts _ _ _ _ c.if-b-eq-OWED.true)

pub returns-else-b-eq-OWED : goal.returns-else-b-eq-OWED
returns-else-b-eq-OWED c = open_cuts _ _ _ _ _ _ c.if-b-eq-OWED.false c.packet.ensures
