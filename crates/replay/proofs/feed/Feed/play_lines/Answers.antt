-- `replay::feed::Feed::play_lines` meets its contract. Each turn passes a line with its newline, and what is left to play, by the feed after it, leads
-- to the same.
use Prim.Native.Nat.{ℕ, ◌-◌, ◌≤◌, ◌<◌}
use mathlib.Core.Path.{◌≡◌, refl, ap, ◌∙◌}
use mathlib.Core.List.{List}
use native.Mathlib.Omega.{arith}
use borrow.Author.Rules.{rules}
use Rattle.rules.proofs.Choice.{tests}
use lib.ListN.{length, take, drop, length-take, length-drop}
use Rattle.text_words.specs.Text.{place, since}
use Rattle.text_words.proofs.Cut.{newline}
use Rattle.replay.proofs.Feeding.{one_played, none_to_play}
use Rattle.replay.proofs.feed.Feed.play_lines.Goals as goal

less : (left s : List ℕ) → s ≡ since newline left → 1 ≤ length s → length (take (length s - 1) (drop 1 s)) < length left
less left s k m =
    let long : length s ≡ length left - place newline left = ap length k ∙ length-drop (place newline left) left in
    rw (length-take, length-drop) (omega arith)

pub loop-rest-smaller : goal.loop-rest-smaller
loop-rest-smaller c = less _ _ (c.split.ensures.back newline (λ b r k. search (rules, tests))) c.in_default-len1-up.len_at_least

pub loop-rest-preserved : goal.loop-rest-preserved
loop-rest-preserved c =
    let split = c.split.ensures in
    one_played _ _ _ _ _ _ c.loop-rest.invariant _ _ _ _ _ (split.front newline (λ b r k. search (rules, tests))) (split.back newline (λ b r k. search (rules, tests)))
    c.in_default-len1-up.len_at_least refl c.end_with_room.ensures

pub returns : goal.returns
returns c =
    none_to_play _ _ _ _ _ _ c.loop-rest.invariant _ (c.split.ensures.back newline (λ b r k. search (rules, tests))) c.in_default.len_below
