use Rattle.port.specs.Calls.{panel, returned}
use Rattle.port.specs.Step.{front_panel, quiet, quietly, soundly}
use Rattle.unit.proofs.Steps.{moved}
use Rattle.unit.specs.Promise.{device_of}
use mathlib.Core.Path.{refl, ◌∙◌}
use Rattle.unit.proofs.types.Unit.panel.Goals as goal

pub returns : goal.returns
unfolding soundly quietly panel
returns c =
    c.done.ensures ∙ moved (device_of c.args.self) (quiet front_panel) (returned (device_of c.args.self).state) refl _
    (rw c.state.ensures at c.returned-given.ensures)
