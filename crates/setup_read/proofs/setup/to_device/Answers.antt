use native.Mathlib.Omega.{arith}
use Rattle.rules.proofs.Choice.{picks}
use Rattle.wire.proofs.SetupLaws.{tag_row}
use Rattle.wire.specs.declared.types.Setup.TheVariants.{Configure}
use Rattle.wire.specs.Setup.{to_device}
use Rattle.setup_read.proofs.setup.to_device.Goals as goal

pub returns-in-9 : goal.returns-in-9
unfolding to_device
returns-in-9 c = rw (c.asked_where.ensures, c.matches.ensures, tag_row c.args.s.now 0 1 0 0 Configure (omega arith)) (search picks depth 10)
