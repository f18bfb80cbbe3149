use mathlib.Core.Path.{refl, sym, ◌∙◌}
use native.Mathlib.Omega.{arith}
use borrow.Author.Tests.{eq-eqb, ne_eqb}
use Rattle.rules.proofs.Choice.{pick_true, pick_false}
use Rattle.in_step.proofs.poll.end_mark.Goals as goal

pub returns-then-n-from : goal.returns-then-n-from
returns-then-n-from c = (pick_true _ _ _ _ (eq-eqb _ _ (c.if-n-from.true ∙ c.from.ensures)) refl, omega arith)

pub returns-else-n-from : goal.returns-else-n-from
returns-else-n-from c = (pick_false _ _ _ _ (ne_eqb _ _ (λ e. c.if-n-from.false (e ∙ sym c.from.ensures))) refl, omega arith)
