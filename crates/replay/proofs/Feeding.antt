-- The laws of a feed: a line that is played leaves fewer to play, and answers that are written out move nothing else.
-- Assumes nothing.
use Prim.Native.Nat.{ℕ, suc, ◌+◌, ◌-◌, ◌≤◌, ◌<◌}
use mathlib.Core.Path.{◌≡◌, sym, ap, ◌∙◌}
use mathlib.Core.Bool.{true, false}
use mathlib.Core.List.{List, []}
use native.Mathlib.Omega.{arith}
use native.Mathlib.Numerals.{add-one}
use lib.ListN.{length, take, drop, length-drop}
use lib.Seq.{take_all, drop-drop}
use Rattle.rules.proofs.Choice.{at_true}
use Rattle.port.specs.Device.{Device}
use Rattle.text_put.specs.Text as Text
use Rattle.text_put.specs.Text.{typed}
use Rattle.text_put.specs.Pages.{page_of, SameBuffer}
use Rattle.text_put.specs.declared.Page.{Page}
use Rattle.text_words.specs.Text.{place, before, since}
use Rattle.text_words.specs.Cut.{Cut, cut}
use Rattle.text_words.proofs.Cut.{newline, line_then, first_line, no_line}
use Rattle.unit.specs.Promise.{device_of}
use Rattle.unit.specs.declared.types.Unit.{Unit}
use Rattle.replay.specs.Played.{Puts}
use Rattle.replay.specs.Feed.{Standing, standing, ended, answered_line, Ends, Writes, written_out, is_nearly_full, with_room}
use Rattle.replay.specs.Feed.{Passes, after_lines, Plays}
use Rattle.replay.specs.declared.feed.Feed.{Feed}

-- ** a line

pub stands_answered : (s : Standing) (line : List ℕ) (p q : Page) (r : Unit) → page_of p ≡ s.output → Puts (ended s.skipping s.unit line) p q r
    → record { unit = device_of r; skipping = false; output = page_of q } ≡ answered_line s line
unfolding answered_line
stands_answered s line p q r e h =
    ap (λ (u : Device). record { unit = u; skipping = false; output = page_of q }) h.unit
    ∙ ap (λ (o : Text.Page). record { unit = (ended s.skipping s.unit line).unit; skipping = false; output = o })
    (h.text.0 ∙ ap (λ (o : Text.Page). typed o (ended s.skipping s.unit line).text) e)

-- the answers were written out
stands_written : {f w : Feed} {before after : Page} → Writes f before after w → standing w after ≡ written_out (standing f before)
stands_written {f = f} {w = w} {after = after} h =
    ap (λ (x : Feed). standing x after) h.rest ∙ ap (λ (o : Text.Page). record { unit = device_of f.unit; skipping = f.skipping; output = o }) h.output

-- before a line the answers are written out where there is no room for one more
pub made_room : (f w : Feed) (before after : Page) → is_nearly_full (page_of before) ≡ true → Writes f before after w
    → standing w after ≡ with_room (standing f before)
made_room f w before after n h = stands_written h ∙ sym (at_true _ _ _ n)

-- and then it is answered
pub passed : {f w r : Feed} {line : List ℕ} {before free after : Page} → standing w free ≡ with_room (standing f before) → SameBuffer before free
    → w.held ≡ f.held → Ends w line free after r → Passes f line before after r
passed {line = line} e b k h = record {
  stands = h.stands ∙ ap (λ (s : Standing). answered_line s line) e;
  buffer = h.buffer ∙ b;
  held = ap (λ (x : Feed). x.held) h.rest ∙ k;
}

-- ** all lines

-- of what is left the same is to be played as of all, by a feed that has played what stands before it
pub record ToPlay (f₀ f : Feed) (text : List ℕ) (p₀ p : Page) (left : List ℕ) : Type 0 where
  pub stands : after_lines (standing f p) (cut left).lines ≡ after_lines (standing f₀ p₀) (cut text).lines
  pub buffer : SameBuffer p₀ p
  pub held : f.held ≡ f₀.held
  pub rest : (cut left).rest ≡ (cut text).rest
  pub fits : length left ≤ length text
  pub place : drop (length text - length left) text ≡ left

module _ (f₀ f : Feed) (text : List ℕ) (p₀ p : Page) (left : List ℕ) (l : ToPlay f₀ f text p₀ p left) where
  -- a line and its newline
  pub one_played : (r : Feed) (after : Page) (line s behind : List ℕ) → line ≡ before newline left → s ≡ since newline left → 1 ≤ length s
      → behind ≡ take (length s - 1) (drop 1 s) → Passes f line p after r → ToPlay f₀ r text p₀ after behind
  unfolding after_lines
  one_played r after line s behind e k m b h =
      let n = place newline left in
      let d = length text - length left in
      let long : length s ≡ length left - n = ap length k ∙ length-drop n left in
      let whole : length (drop 1 s) ≤ length s - 1 = rw length-drop (omega arith) in
      let is : behind ≡ drop (suc n) left = b ∙ take_all (length s - 1) (drop 1 s) whole ∙ ap (drop 1) k ∙ drop-drop 1 n left ∙ ap (λ (j : ℕ). drop j left) (add-one n) in
      let count : length behind ≡ length left - suc n = ap length is ∙ length-drop (suc n) left in
      let first : cut left ≡ line_then line (cut behind) = rw (e, is) (first_line left (omega arith)) in
      let fits = l.fits in
      let moved : d + suc n ≡ length text - length behind = omega arith in
      record {
        stands = ap (λ (x : Standing). after_lines x (cut behind).lines) h.stands ∙ ap (λ (c : Cut). after_lines (standing f p) c.lines) (sym first) ∙ l.stands;
        buffer = h.buffer ∙ l.buffer;
        held = h.held ∙ l.held;
        rest = ap (λ (c : Cut). c.rest) (sym first) ∙ l.rest;
        fits = omega arith;
        place = ap (λ (j : ℕ). drop j text) (sym moved) ∙ sym (drop-drop (suc n) d text) ∙ ap (drop (suc n)) l.place ∙ sym is;
      }

  -- no newline is left
  pub none_to_play : (s : List ℕ) → s ≡ since newline left → length s < 1
      → Plays f₀ text p₀ p (record { unit = f.unit; played = length text - length left; held = f.held; skipping = f.skipping; going = f.going })
  unfolding after_lines
  none_to_play s k m =
      let long : length s ≡ length left - place newline left = ap length k ∙ length-drop (place newline left) left in
      let all : cut left ≡ record { lines = []; rest = left } = no_line left (omega arith) in
      record {
        stands = ap (λ (c : Cut). after_lines (standing f p) c.lines) (sym all) ∙ l.stands;
        buffer = l.buffer;
        held = l.held;
        rest = l.place ∙ ap (λ (c : Cut). c.rest) (sym all) ∙ l.rest;
      }
