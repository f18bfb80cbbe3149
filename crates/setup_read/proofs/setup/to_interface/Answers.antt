use native.Mathlib.Omega.{arith}
use Rattle.rules.proofs.Choice.{picks}
use Rattle.wire.proofs.SetupLaws.{tag_row}
use Rattle.wire.specs.declared.types.Setup.TheVariants.{Asks}
use Rattle.wire.specs.declared.types.Row.TheVariants.{ReadStatusByte, RenControl}
use Rattle.wire.specs.Setup.{to_interface}
use Rattle.setup_read.proofs.setup.to_interface.Goals as goal

pub returns-in-128 : goal.returns-in-128
unfolding to_interface
returns-in-128 c =
    rw (c.row-in-128.ensures, c.matches-in-128.ensures, tag_row c.args.s.now 2 127 0 3 (λ n. Asks (ReadStatusByte n)) (omega arith))
    (search picks depth 20)

pub returns-in-160 : goal.returns-in-160
unfolding to_interface
returns-in-160 c =
    rw (c.row-in-160.ensures, c.matches-in-160.ensures, tag_row c.args.s.now 0 1 0 1 (λ n. Asks (RenControl n)) (omega arith))
    (search picks depth 20)
