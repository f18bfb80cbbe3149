use Rattle.unit.proofs.Steps.{stepped}
use mathlib.Core.Path.{◌∙◌}
use Rattle.unit.proofs.types.Unit.bulk_out.Goals as goal

pub returns : goal.returns
returns c =
    let a = c.args in
    let e = rw c.state-st.ensures at c.packet_step-plan.ensures in c.done.ensures ∙ stepped a.self a.s.now _ _ e.0 e.1
