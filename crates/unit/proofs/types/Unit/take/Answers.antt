use Rattle.port.specs.Calls.{taking, take_message}
use Rattle.port.specs.Device.{held_of}
use Rattle.port.specs.Step.{take_into, soundly}
use Rattle.unit.proofs.Steps.{handed}
use Rattle.unit.specs.Promise.{device_of}
use lib.ListN.{length}
use mathlib.Core.Path.{refl}
use Rattle.unit.proofs.types.Unit.take.Goals as goal

pub returns : goal.returns
unfolding soundly take_message
returns c =
    let a = c.args in
    let d = device_of a.self in
    let n = length a.b.now in
    rw c.told.ensures (handed d (take_into n) (taking d.state (held_of d) n) refl _ _ _
    (rw c.state-st.ensures at c.take_step-given.ensures))
