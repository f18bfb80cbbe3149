use Rattle.port.specs.Calls.{set_status_byte, status_set}
use Rattle.port.specs.Step.{set_status, quiet, quietly, soundly}
use Rattle.unit.proofs.Steps.{moved}
use Rattle.unit.specs.Promise.{device_of}
use mathlib.Core.Path.{refl, ◌∙◌}
use Rattle.unit.proofs.types.Unit.set_status.Goals as goal

pub returns : goal.returns
unfolding soundly quietly set_status_byte
returns c =
    let a = c.args in
    c.done.ensures ∙ moved (device_of a.self) (quiet (set_status a.status)) (status_set (device_of a.self).state a.status) refl _
    (rw c.state.ensures at c.status_set-given.ensures)
