use Rattle.unit.proofs.types.Unit.done.Goals as goal

pub returns : goal.returns
returns c = rw c.with_state.ensures
