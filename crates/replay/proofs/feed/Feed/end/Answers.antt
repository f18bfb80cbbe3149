-- `replay::feed::Feed::end` meets its contract.
use mathlib.Core.Path.{refl}
use Rattle.replay.specs.Feed.{standing}
use Rattle.replay.proofs.Feeding.{stands_answered}
use Rattle.replay.proofs.feed.Feed.end.Goals as goal

pub returns : goal.returns
returns c =
    let a = c.args in
    let put = c.line_ended-self in
    let answered = stands_answered (standing a.self.now a.page.now) a.line.now a.page.now put.new.page put.result refl put.ensures in
    record { stands = cc answered; buffer = cc put.ensures.text.1; rest = refl }
