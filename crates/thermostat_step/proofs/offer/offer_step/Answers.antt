use mathlib.Core.Path.{sym, ◌∙◌}
use lib.Seq.{paste-zero}
use Rattle.rules.proofs.Choice.{pick_true, pick_false}
use Rattle.thermostat_step.proofs.offer.offer_step.Goals as goal

pub returns-then-not-sound : goal.returns-then-not-sound
returns-then-not-sound c =
    let a = c.args in (
      pick_false _ _ _ _ (sym c.sound.ensures ∙ c.if-not-sound.true) (rw (c.plain.ensures, c.from.ensures)),
      rw c.plain.ensures (paste-zero a.reply.now 0 a.bytes.now),
    )

pub returns : goal.returns
returns c = (pick_true _ _ _ _ (sym c.sound.ensures ∙ c.if-not-sound.false) c.offer_plan-plan.ensures.0, c.copy_in.ensures)
