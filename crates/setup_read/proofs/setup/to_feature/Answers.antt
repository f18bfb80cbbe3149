use Rattle.std.proofs.Common.{◌≡◌, refl}
use Rattle.rules.proofs.Choice.{picks, pick_all}
use Rattle.std.specs.Prelude.{Option, None}
use Rattle.wire.specs.declared.types.Setup.{Setup}
use Rattle.wire.specs.Setup.{to_feature}
use Rattle.wire.specs.declared.types.Row.TheVariants.{ClearFeature, SetFeature}
use Rattle.setup_read.proofs.setup.to_feature.Goals as goal

pub returns-in_err-endpoint : goal.returns-in_err-endpoint
unfolding to_feature
returns-in_err-endpoint c =
    rw c.from_residual.ensures
    (pick_all (λ (x : Option Setup). None ≡ x) _ _ _ (λ _. c.in_err-endpoint.ensures ClearFeature)
    (λ _. pick_all (λ (x : Option Setup). None ≡ x) _ _ _ (λ _. c.in_err-endpoint.ensures SetFeature) (λ _. refl)))

pub returns-in-1 : goal.returns-in-1
unfolding to_feature
returns-in-1 c = rw (c.in_ok-endpoint.ensures ClearFeature) (search picks depth 8)

pub returns-in-3 : goal.returns-in-3
unfolding to_feature
returns-in-3 c = rw (c.in_ok-endpoint.ensures SetFeature) (search picks depth 8)
