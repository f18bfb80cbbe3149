use native.Mathlib.Omega.{arith}
use Rattle.std.proofs.lemmas.Result.{err_from_is_err_and}
use Rattle.setup_step.proofs.Serving.{setup_denied, setup_asked, setup_long}
use Rattle.setup_step.proofs.serve.setup_outcome.Goals as goal

pub returns-in_err-setup_gate : goal.returns-in_err-setup_gate
returns-in_err-setup_gate c =
    let p = err_from_is_err_and c.from_residual.result c.from_residual.ensures.1 in
    rw (p.1, p.2) (setup_denied _ _ _ _ c.setup_gate.ensures _ c.in_err-setup_gate.was)

pub read_setup-requires : goal.read_setup-requires
read_setup-requires c = let a = c.args in omega (arith, setup_long a.st a.s.now a.room _ c.setup_gate.ensures c.in_ok-setup_gate.was)

pub returns : goal.returns
returns c = rw (c.asked.ensures, c.read_setup.ensures) (setup_asked _ _ _ _ c.setup_gate.ensures c.in_ok-setup_gate.was)
