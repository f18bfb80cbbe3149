-- `replay::feed::Feed::make_room` meets its contract.
use Rattle.rules.proofs.Choice.{told_lt}
use Rattle.replay.proofs.Feeding.{made_room}
use Rattle.replay.proofs.feed.Feed.make_room.Goals as goal

pub returns-then-room-lt-ROOM-clause-stands : goal.returns-then-room-lt-ROOM-clause-stands
returns-then-room-lt-ROOM-clause-stands c = made_room _ _ _ _ (told_lt _ _ _ c.room.ensures c.if-room-lt-ROOM.true) c.write_out.ensures
