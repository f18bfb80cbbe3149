use mathlib.Core.Path.{sym, ap, ◌∙◌}
use Rattle.rules.proofs.Choice.{pick_true, pick_false}
use Rattle.port.specs.Interrupt.{notified, status_held}
use Rattle.interrupt_step.proofs.part.status_held.Goals as goal

pub returns-then-is_waiting : goal.returns-then-is_waiting
unfolding status_held
returns-then-is_waiting c = pick_true _ _ _ _ (sym c.is_waiting.ensures ∙ c.if-is_waiting.true) c.with_status-held.ensures

pub returns : goal.returns
unfolding status_held
returns c =
    pick_false _ _ _ _ (sym c.is_waiting.ensures ∙ c.if-is_waiting.false)
    (c.notified.ensures ∙ ap notified c.with_status-held.ensures)
