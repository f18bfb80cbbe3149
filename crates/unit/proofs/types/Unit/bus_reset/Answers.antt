use Rattle.unit.proofs.Steps.{reset_done, reset_refused}
use Rattle.unit.specs.Promise.{device_of}
use mathlib.Core.Path.{sym, ◌∙◌}
use Rattle.unit.proofs.types.Unit.bus_reset.Goals as goal

pub returns-then-sound : goal.returns-then-sound
returns-then-sound c =
    rw (c.only.ensures, c.made.ensures, c.state-st.ensures)
    (reset_done (device_of c.args.self) (sym (rw c.state-st.ensures at c.sound.ensures) ∙ c.if-sound.true))

pub returns : goal.returns
returns c =
    rw c.from.ensures (reset_refused (device_of c.args.self)
    (sym (rw c.state-st.ensures at c.sound.ensures) ∙ c.if-sound.false))
