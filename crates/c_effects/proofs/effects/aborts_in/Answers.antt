use Rattle.c_effects.proofs.Written.{aborts_in}
use Rattle.c_effects.proofs.effects.aborts_in.Goals as goal

pub returns : goal.returns
returns c =
    let o = c.in_of-b.ensures in
    aborts_in c.args.u.now _ _ (rw (c.owing.ensures, o) at c.put_in.ensures) (rw o at c.put.ensures)
