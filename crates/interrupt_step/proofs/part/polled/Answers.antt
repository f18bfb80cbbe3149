use mathlib.Core.Path.{ap, ◌∙◌}
use Rattle.port.specs.Interrupt.{notified, polled}
use Rattle.interrupt_step.proofs.part.polled.Goals as goal

pub returns : goal.returns
unfolding polled
returns c = rw (← c.no_packet.ensures) (c.notified.ensures ∙ ap notified c.with_waiting-emptied.ensures)
