use native.Mathlib.Omega.{arith}
use Rattle.rules.proofs.Choice.{picks}
use Rattle.wire.proofs.SetupLaws.{tag_row}
use Rattle.wire.specs.declared.types.Setup.TheVariants.{Asks}
use Rattle.wire.specs.declared.types.Row.TheVariants.{InitiateAbortBulkOut, InitiateAbortBulkIn}
use Rattle.wire.specs.Setup.{to_endpoint}
use Rattle.setup_read.proofs.setup.to_endpoint.Goals as goal

pub returns-in-1 : goal.returns-in-1
unfolding to_endpoint
returns-in-1 c =
    rw (c.row.ensures, c.matches.ensures, tag_row c.args.s.now 1 255 1 2 (λ n. Asks (InitiateAbortBulkOut n)) (omega arith)) (search picks depth 14)

pub returns-in-3 : goal.returns-in-3
unfolding to_endpoint
returns-in-3 c =
    rw (c.row-in-3.ensures, c.matches-in-3.ensures, tag_row c.args.s.now 1 255 0x82 2 (λ n. Asks (InitiateAbortBulkIn n)) (omega arith))
    (search picks depth 14)
