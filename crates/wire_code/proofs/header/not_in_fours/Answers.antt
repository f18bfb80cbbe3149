use mathlib.Core.Path.{ap}
use Prim.Native.Nat.{ℕ}
use lib.ListN.{length}
use lib.Bits.{and_mask}
use Rattle.rules.specs.Choice.{◌≠ᵇ◌}
use Rattle.wire_code.proofs.header.not_in_fours.Goals as goal

pub returns : goal.returns
unfolding ◌≠ᵇ◌
returns c = ap (λ (r : ℕ). r ≠ᵇ 0) (and_mask (length c.args.s.now) 2)
