use Rattle.c_bus.proofs.Ways.{powered, unpowered}
use mathlib.Core.Path.{sym, ◌∙◌}
use Rattle.c_bus.proofs.power_on.Goals as goal

pub returns-then-is_size : goal.returns-then-is_size
returns-then-is_size c =
    powered c.args.packet _ _ (sym c.is_size.ensures ∙ c.if-is_size.true)
    c.make.ensures c.done.ensures

pub returns : goal.returns
returns c =
    unpowered c.args.packet _ _
    (sym c.is_size.ensures ∙ c.if-is_size.false) c.make-2.ensures c.refused.ensures
