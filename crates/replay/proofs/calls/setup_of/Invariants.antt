-- `replay::calls::setup_of` makes a setup packet of the bytes that its closure holds.
use Rattle.replay.specs.Played.{setting_up}
use Rattle.replay.proofs.calls.setup_of.Given as goal

abbrev pub ghost-lend : goal.ghost-lend
ghost-lend a = setting_up a.call.0.now
