-- `replay::calls::packet_in` polls Bulk-IN.
use Rattle.replay.specs.Played.{polling}
use Rattle.replay.proofs.calls.packet_in.Given as goal

abbrev pub ghost-lend : goal.ghost-lend
ghost-lend a = polling
