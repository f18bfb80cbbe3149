use Rattle.c_setup.proofs.Ways.{renewed}
use mathlib.Core.Path.{refl}
use Rattle.c_setup.proofs.setup.renews.Goals as goal

pub returns : goal.returns
returns c =
    let a = c.args in
    renewed a.u.now a.s.now a.b.now _ _ _ a.value c.requires
    (rw c.part_of-p.ensures at c.make.ensures) refl c.done.ensures
