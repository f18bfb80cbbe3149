use Rattle.c_setup.proofs.Ways.{denied}
use mathlib.Core.List.{[]}
use Rattle.c_setup.proofs.setup.setup.Goals as goal

pub renews-requires : goal.renews-requires
renews-requires c = rw (c.in-Ok-Configure.is, c.in-Ok-Configure.field-0-is) at c.outcome_of.ensures

pub answers-requires : goal.answers-requires
answers-requires c = rw (c.in-Ok-Asks.is, c.in-Ok-Asks.field-0-is) at c.outcome_of.ensures

pub returns-in-Err : goal.returns-in-Err
returns-in-Err c = let a = c.args in denied a.u.now a.s.now a.b.now [] [] _ _ (rw c.in-Err.is at c.outcome_of.ensures) c.refused.ensures
