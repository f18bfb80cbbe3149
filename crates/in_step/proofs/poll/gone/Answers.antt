use Rattle.port.specs.In.{gone}
use Rattle.in_step.proofs.poll.gone.Goals as goal

pub returns : goal.returns
unfolding gone
returns c = rw (c.carrying.ensures, c.sending_in.ensures)
