-- `c_effects::effects::put_effect` meets its contract: what is carried out on the first bytes is the effect on all, which are a unit's alone.
use mathlib.Core.Path.{subst}
use Prim.Native.Nat.{ℕ}
use mathlib.Core.List.{List}
use Rattle.c_effects.specs.Does.{Does}
use Rattle.c_effects.proofs.Written.{past_unit}
use Rattle.c_effects.proofs.effects.put_effect.Goals as goal

pub returns-in-Some : goal.returns-in-Some
returns-in-Some c = past_unit _ _ _ (subst (λ (v : List ℕ). Does v c.args.effect c.carry_out.new.u) c.in-Some.ensures.cases.same c.carry_out.ensures)
