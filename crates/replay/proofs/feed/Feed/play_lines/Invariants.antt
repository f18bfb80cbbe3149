-- `replay::feed::Feed::play_lines` meets its contract. Each turn passes a line with its newline, and what is left to play, by the feed after it, leads
-- to the same.
use lib.ListN.{length}
use Rattle.replay.proofs.Feeding.{ToPlay}
use Rattle.replay.proofs.feed.Feed.play_lines.Given as goal

abbrev pub invariant-loop-rest : goal.invariant-loop-rest
invariant-loop-rest l = ToPlay l.initial.self l.self l.text l.initial.page l.page l.rest

abbrev pub decreases-loop-rest : goal.decreases-loop-rest
decreases-loop-rest l = length l.rest
