use Rattle.port.specs.Calls.{interrupt_in}
use Rattle.port.specs.Interrupt.{poll_interrupt}
use Rattle.port.specs.Step.{interrupt_poll, quiet, quietly, soundly}
use Rattle.unit.proofs.Steps.{handed}
use Rattle.unit.specs.Promise.{device_of}
use lib.ListN.{length}
use mathlib.Core.Path.{refl}
use Rattle.unit.proofs.types.Unit.interrupt_in.Goals as goal

pub returns : goal.returns
unfolding soundly quietly interrupt_in
returns c =
    let a = c.args in
    let d = device_of a.self in
    let n = length a.b.now in
    rw c.told.ensures (handed d (quiet (interrupt_poll n)) (poll_interrupt d.state n) refl _ _ _
    (rw c.state.ensures at c.interrupt_step-given.ensures))
