use Rattle.port.specs.Calls.{bulk_in}
use Rattle.port.specs.Device.{unsent_of}
use Rattle.port.specs.In.{poll}
use Rattle.port.specs.Step.{in_poll, quiet, quietly, soundly}
use Rattle.unit.proofs.Steps.{handed}
use Rattle.unit.specs.Promise.{device_of}
use lib.ListN.{length}
use mathlib.Core.Path.{refl}
use Rattle.unit.proofs.types.Unit.bulk_in.Goals as goal

pub returns : goal.returns
unfolding soundly quietly bulk_in
returns c =
    let a = c.args in
    let d = device_of a.self in
    let n = length a.b.now in
    rw c.told.ensures (handed d (quiet (in_poll n)) (poll d.state (unsent_of d) n) refl _ _ _
    (rw c.state-st.ensures at c.poll_step-given.ensures))
