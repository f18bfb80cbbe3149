use Rattle.port.specs.Answer.{says}
use Rattle.port.specs.Calls.{suspend}
use Rattle.port.specs.Remote.{local_now}
use Rattle.port.specs.Step.{bus_suspend, quiet, quietly, soundly}
use Rattle.unit.proofs.Steps.{moved}
use Rattle.unit.specs.Promise.{device_of}
use mathlib.Core.List.{[]}
use mathlib.Core.Path.{refl, ◌∙◌}
use Rattle.unit.proofs.types.Unit.suspend.Goals as goal

pub returns : goal.returns
unfolding soundly quietly suspend
returns c =
    let d = device_of c.args.self in
    c.done.ensures ∙ moved d (quiet bus_suspend) (says (local_now d.state) []) refl _ (rw c.state.ensures at c.suspended-given.ensures)
