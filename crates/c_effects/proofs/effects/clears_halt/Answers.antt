use Rattle.c_effects.proofs.Written.{clears_in}
use Rattle.c_effects.proofs.effects.clears_halt.Goals as goal

pub returns-in-In : goal.returns-in-In
returns-in-In c =
    rw c.in-In.is (clears_in c.args.u.now _
    (rw (c.clear_feature_in.ensures, c.in_of-b.ensures) at c.put_in.ensures))
