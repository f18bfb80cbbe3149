use Rattle.unit.proofs.Steps.{setup_denied, setup_renewed, setup_answered, setup_roomy}
use Rattle.unit.specs.Promise.{device_of}
use Rattle.unit.proofs.types.Unit.setup.Goals as goal

pub row_step-requires : goal.row_step-requires
row_step-requires c = let a = c.args in setup_roomy (device_of a.self) a.s.now a.b.now _ (rw c.state-st.ensures at c.decided.ensures) _ (rw c.in-Ok-Asks.field-0-is at c.in-Ok-Asks.is)

pub returns-in-Err : goal.returns-in-Err
returns-in-Err c =
    let a = c.args in rw c.from.ensures (setup_denied (device_of a.self) a.s.now a.b.now _ (rw c.state-st.ensures at c.decided.ensures) _ c.in-Err.is)

pub returns-in-Ok-Configure : goal.returns-in-Ok-Configure
returns-in-Ok-Configure c =
    let a = c.args in
    rw (c.only.ensures, c.made.ensures, c.state-st.ensures)
    (setup_renewed (device_of a.self) a.s.now a.b.now _ (rw c.state-st.ensures at c.decided.ensures) _ (rw c.in-Ok-Configure.field-0-is at c.in-Ok-Configure.is))

pub returns-in-Ok-Asks : goal.returns-in-Ok-Asks
returns-in-Ok-Asks c =
    let a = c.args in
    rw c.told.ensures (setup_answered (device_of a.self) a.s.now a.b.now _ (rw c.state-st.ensures at c.decided.ensures) _ (rw c.in-Ok-Asks.field-0-is at c.in-Ok-Asks.is) _
    _ (rw c.state-st.ensures at c.row_step.ensures))
