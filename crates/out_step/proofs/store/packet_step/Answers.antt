use mathlib.Core.Path.{sym, ◌∙◌}
use native.Mathlib.Omega.{arith}
use lib.Seq.{paste-zero}
use Rattle.rules.proofs.Choice.{pick_true, pick_false}
use Rattle.port.specs.Out.{out_plan}
use Rattle.out_step.proofs.Packets.{outcome_can, planned_room, nothing_pasted}
use Rattle.out_step.proofs.store.packet_step.Goals as goal

pub returns-then-not-sound : goal.returns-then-not-sound
returns-then-not-sound c =
    let a = c.args in (
      pick_false _ _ _ _ (sym c.sound.ensures ∙ c.if-not-sound.true) (rw (c.plain.ensures, c.from.ensures)),
      rw c.plain.ensures (paste-zero a.message.now a.st.small.bulkout.message.held a.s.now),
    )

pub planned-plan-requires : goal.planned-plan-requires
planned-plan-requires c = rw c.outcome.ensures (outcome_can _ _ (sym c.sound.ensures ∙ c.if-not-sound.false))

pub copy_in-requires : goal.copy_in-requires
copy_in-requires c =
    let r = planned_room _ _ _ _ (sym c.sound.ensures ∙ c.if-not-sound.false) c.planned-plan.ensures c.outcome.ensures in
    let long = c.told-message in
    (rw c.from-held.ensures (omega (arith, r.1 c.if-plan-ne0.true, long)), r.0)

pub returns-then-plan-ne0 : goal.returns-then-plan-ne0
unfolding out_plan
returns-then-plan-ne0 c =
    (pick_true _ _ _ _ (sym c.sound.ensures ∙ c.if-not-sound.false) (rw (c.planned-plan.ensures, c.outcome.ensures)), rw c.from-held.ensures at c.copy_in.ensures)

pub returns-else-plan-ne0 : goal.returns-else-plan-ne0
unfolding out_plan
returns-else-plan-ne0 c =
    let a = c.args in (
      pick_true _ _ _ _ (sym c.sound.ensures ∙ c.if-not-sound.false) (rw (c.planned-plan.ensures, c.outcome.ensures)),
      nothing_pasted a.message.now a.st.small.bulkout.message.held _ _ c.if-plan-ne0.false,
    )
