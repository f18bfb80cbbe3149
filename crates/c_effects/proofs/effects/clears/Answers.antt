use Rattle.c_effects.proofs.Written.{clears}
use Rattle.c_effects.proofs.effects.clears.Goals as goal

pub returns : goal.returns
returns c =
    clears c.args.u.now _ _ _ (rw c.empty_out.ensures at c.put_out.ensures)
    (rw (c.cleared_in.ensures, c.in_of-b.ensures) at c.put_in.ensures) c.put.ensures
