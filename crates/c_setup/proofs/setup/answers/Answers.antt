use Rattle.c_setup.proofs.Ways.{roomy, replied}
use mathlib.Core.List.{[]}
use mathlib.Core.Path.{refl}
use Rattle.c_setup.proofs.setup.answers.Goals as goal

pub reply-r-requires : goal.reply-r-requires
reply-r-requires c =
    let a = c.args in
    roomy a.u.now a.s.now a.b.now [] [] (record { verdict = record { number = 0; tells = 0 }; len = 0 }) a.row c.requires

pub returns : goal.returns
returns c =
    let a = c.args in
    let e = rw c.state_of.ensures at c.reply-r.ensures in
    replied a.u.now a.s.now a.b.now _ _ _ a.row c.requires _ e.0 e.1 c.put_effect.ensures refl
