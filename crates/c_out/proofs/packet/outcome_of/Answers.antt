use mathlib.Core.Path.{refl, ap}
use Rattle.port.specs.Out.{keep_of, outcome}
use Rattle.port.specs.declared.types.Outcome.TheVariants.{Keep}
use Rattle.c_promise.proofs.Called.{by_state, by_none}
use Rattle.c_out.proofs.packet.outcome_of.Goals as goal

pub returns-in-Err : goal.returns-in-Err
returns-in-Err c = by_none c.sound_state.ensures keep_of refl _ c.in-Err.is _ (ap Keep c.number.ensures)

pub returns-in-Ok : goal.returns-in-Ok
returns-in-Ok c = by_state c.sound_state.ensures (λ st. outcome st c.args.s.now) refl _ c.in-Ok.is _ c.outcome.ensures
