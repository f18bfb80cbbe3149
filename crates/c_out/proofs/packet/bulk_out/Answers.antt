use Rattle.c_out.proofs.Ways.{kept_out}
use mathlib.Core.List.{[]}
use Rattle.c_out.proofs.packet.bulk_out.Goals as goal

pub halts-requires : goal.halts-requires
halts-requires c = rw c.in-Halt.is at c.outcome_of.ensures

pub data-requires : goal.data-requires
data-requires c = rw c.in-Data.is at c.outcome_of.ensures

pub accepts-requires : goal.accepts-requires
accepts-requires c = rw c.in-Accept.is at c.outcome_of.ensures

pub returns-in-Keep : goal.returns-in-Keep
returns-in-Keep c = let a = c.args in kept_out a.u.now a.s.now [] _ _ (rw c.in-Keep.is at c.outcome_of.ensures) c.numbered.ensures
