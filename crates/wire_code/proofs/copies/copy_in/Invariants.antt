-- `wire_code::copies::copy_in` meets its contract: after j turns dst is `paste` of the first j bytes.
use mathlib.Core.Path.{◌≡◌}
use lib.ListN.{length, drop}
use lib.Seq.{paste}
use Rattle.wire_code.proofs.copies.copy_in.Given as goal

abbrev pub invariant-loop-j : goal.invariant-loop-j
invariant-loop-j l = (l.dst ≡ paste l.initial.dst l.at (drop l.from l.s) l.j) × (length l.dst ≡ length l.initial.dst)
