use Rattle.std.proofs.Common.{◌≡◌, refl}
use Rattle.rules.proofs.Choice.{picks, pick_all}
use Rattle.std.specs.Prelude.{Option, None}
use Rattle.wire.specs.declared.types.Setup.{Setup}
use Rattle.wire.specs.Setup.{to_status}
use Rattle.wire.specs.declared.types.Row.TheVariants.{GetStatus}
use Rattle.setup_read.proofs.setup.to_status.Goals as goal

pub returns-in_err-endpoint : goal.returns-in_err-endpoint
unfolding to_status
returns-in_err-endpoint c =
    rw c.from_residual.ensures (pick_all (λ (x : Option Setup). None ≡ x) _ _ _ (λ _. c.in_err-endpoint.ensures GetStatus) (λ _. refl))

pub returns-in-0 : goal.returns-in-0
unfolding to_status
returns-in-0 c = rw (c.in_ok-endpoint.ensures GetStatus) (search picks depth 8)
