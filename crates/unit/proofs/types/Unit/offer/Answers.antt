use Rattle.unit.proofs.Steps.{stored}
use mathlib.Core.Path.{◌∙◌}
use Rattle.unit.proofs.types.Unit.offer.Goals as goal

pub returns : goal.returns
returns c =
    let a = c.args in
    let e = rw c.state-st.ensures at c.offer_step-plan.ensures in c.done.ensures ∙ stored a.self a.bytes.now _ _ e.0 e.1
