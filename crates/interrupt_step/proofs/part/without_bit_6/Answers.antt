use Rattle.port.proofs.Bits.{bit_6_off}
use Rattle.interrupt_step.proofs.part.without_bit_6.Goals as goal

pub returns : goal.returns
returns c = bit_6_off c.args.status c.ranges.status.fits
