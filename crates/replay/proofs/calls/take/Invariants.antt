-- `replay::calls::take` takes the message.
use Rattle.replay.specs.Played.{taking}
use Rattle.replay.proofs.calls.take.Given as goal

abbrev pub ghost-lend : goal.ghost-lend
ghost-lend a = taking
