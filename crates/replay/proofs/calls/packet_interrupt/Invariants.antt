-- `replay::calls::packet_interrupt` polls Interrupt-IN.
use Rattle.replay.specs.Played.{polling_interrupt}
use Rattle.replay.proofs.calls.packet_interrupt.Given as goal

abbrev pub ghost-lend : goal.ghost-lend
ghost-lend a = polling_interrupt
