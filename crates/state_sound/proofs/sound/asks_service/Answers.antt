use Rattle.rules.specs.Choice.{no, ◌≠ᵇ◌}
use Rattle.port.proofs.Bits.{bit_6_on}
use Rattle.state_sound.proofs.sound.asks_service.Goals as goal

pub returns : goal.returns
unfolding no ◌≠ᵇ◌
returns c = bit_6_on c.args.status
