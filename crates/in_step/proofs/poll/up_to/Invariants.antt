-- After each turn no byte that is counted is the TermChar.
use Prim.Native.Nat.{◌+◌}
use mathlib.Core.Path.{◌≡◌}
use lib.ListN.{drop}
use Rattle.port.specs.In.{up_to}
use Rattle.in_step.proofs.poll.up_to.Given as goal

abbrev pub invariant-loop-b : goal.invariant-loop-b
invariant-loop-b l = (l.n ≡ l.b-index) × (up_to l.char l.s ≡ l.b-index + up_to l.char (drop l.b-index l.s))
