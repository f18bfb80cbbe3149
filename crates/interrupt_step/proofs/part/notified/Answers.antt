use Rattle.rules.proofs.Choice.{picks}
use Rattle.port.specs.Interrupt.{notified}
use Rattle.interrupt_step.proofs.part.notified.Goals as goal

pub returns-then-asks_service : goal.returns-then-asks_service
unfolding notified
returns-then-asks_service c = rw (c.with_waiting.ensures, c.with_status.ensures, c.without_bit_6.ensures) (search picks depth 8)

pub returns : goal.returns
unfolding notified
returns c = search picks depth 8
