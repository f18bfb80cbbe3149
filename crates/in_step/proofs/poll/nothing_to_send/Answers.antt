use Rattle.in_step.proofs.PollLaws.{owed_goes, closed_waits, sending_goes, asked_waits}
use native.Mathlib.Omega.{arith}
use Rattle.in_step.proofs.poll.nothing_to_send.Goals as goal

pub returns-in-3 : goal.returns-in-3
returns-in-3 c = owed_goes c.args.b c.in-3.is

pub returns-in-0 : goal.returns-in-0
returns-in-0 c = let i = c.in-0.is in closed_waits c.args.b (λ e. omega arith) i

pub returns-in-2 : goal.returns-in-2
returns-in-2 c = let i = c.in-2.is in sending_goes c.args.b (λ e. omega arith) i

pub returns-in_default : goal.returns-in_default
returns-in_default c = let d = c.in_default in asked_waits c.args.b (λ e. omega arith) (λ e. omega arith) (λ e. omega arith)
