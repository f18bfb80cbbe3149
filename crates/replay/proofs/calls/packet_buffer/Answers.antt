-- `replay::calls::packet_buffer` meets its contract.
use Rattle.unit.specs.Promise.{device_of}
use Rattle.replay.proofs.Rooms.{poll_room}
use Rattle.replay.proofs.calls.packet_buffer.Goals as goal

pub returns-clause-means : goal.returns-clause-means
returns-clause-means c = poll_room (device_of c.args.unit.now) _ (rw (c.min.ensures, c.from.ensures))
