use Rattle.unit.proofs.types.Unit.told.Goals as goal

pub returns : goal.returns
returns c = rw c.with_state.ensures
