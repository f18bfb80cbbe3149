use native.Mathlib.Omega.{arith}
use Rattle.in_step.proofs.PollLaws.{up_step, up_stop}
use Rattle.in_step.proofs.poll.up_to.Goals as goal

pub returns-then-b-char : goal.returns-then-b-char
returns-then-b-char c = let l = c.loop-b in let h = up_stop c.args.char c.args.s.now l.b-index (omega arith) c.if-b-char.true in omega (arith, l.invariant.1)

pub loop-b-preserved : goal.loop-b-preserved
loop-b-preserved c = let l = c.loop-b in let h = up_step c.args.char c.args.s.now l.b-index (omega arith) c.if-b-char.false in (omega arith, omega (arith, l.invariant.1))
