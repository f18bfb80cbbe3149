use mathlib.Core.Path.{refl}
use Rattle.std.specs.Prelude.{Err}
use Rattle.std.proofs.lemmas.Result.{err_from_is_err_and}
use Rattle.rules.specs.Choice.{gate}
use Rattle.port.specs.Calls.{offer_rules}
use Rattle.c_promise.proofs.Called.{by_state, by_none}
use Rattle.c_thermostat.proofs.offering.Goals as goal

pub returns-in_err-sound_state : goal.returns-in_err-sound_state
returns-in_err-sound_state c =
    let p = err_from_is_err_and c.from_residual.result c.from_residual.ensures.1 in
    by_none c.sound_state.ensures Err refl _ c.in_err-sound_state.was _ (rw (p.1, p.2) refl)

pub returns : goal.returns
returns c = by_state c.sound_state.ensures (λ st. gate (offer_rules st c.args.n)) refl _ c.in_ok-sound_state.was _ c.offer_gate.ensures
