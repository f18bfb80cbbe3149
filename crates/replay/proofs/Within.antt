-- The place of the page never goes past the end of its buffer. `main` makes the page at the start (text_put: `new`), `serve_within` asks for a
-- place within, and by the laws here each promise of what it calls keeps it within.
-- Assumes nothing.
use mathlib.Core.Path.{◌≡◌, sym, subst}
use mathlib.Core.List.{List, [], ◌∷◌}
use Prim.Native.Nat.{ℕ}
use native.Mathlib.Omega.{arith}
use Rattle.rules.proofs.Choice.{pick_all}
use Rattle.text_put.specs.Text.{Within}
use Rattle.text_put.specs.Pages.{page_of}
use Rattle.text_put.specs.declared.Page.{Page}
use Rattle.text_put.proofs.Text.{typed_within}
use Rattle.text_put.proofs.Pages.{start_within, types_within}
use Rattle.text_words.specs.Cut.{cut}
use Rattle.unit.specs.declared.types.Unit.{Unit}
use Rattle.replay.specs.Play.{After}
use Rattle.replay.specs.Played.{Puts}
use Rattle.replay.specs.Feed.{Standing, standing, ended, answered_line, Ends, Writes, written_out, is_nearly_full, with_room}
use Rattle.replay.specs.Feed.{Passes, after_lines, Plays, PlaysOut, EndsOut}
use Rattle.replay.specs.declared.feed.Feed.{Feed}

pub puts_within : {a : After} {p q : Page} {r : Unit} → Puts a p q r → Within (page_of p) → Within (page_of q)
puts_within {a = a} {p = p} {q = q} h w = types_within p a.text q h.text w

pub writes_within : {f r : Feed} {before after : Page} → Writes f before after r → Within (page_of after)
writes_within {before = before} {after = after} h = start_within after before.out.now h.output

stands_within : (f : Feed) (p : Page) (s : Standing) → standing f p ≡ s → Within s.output → Within (page_of p)
stands_within f p s e w = subst (λ (x : Standing). Within x.output) (sym e) w

room_within : (s : Standing) → Within s.output → Within (with_room s).output
room_within s w = pick_all (λ (x : Standing). Within x.output) (is_nearly_full s.output) _ _ (λ _. omega arith) (λ _. w)

answered_within : (s : Standing) (line : List ℕ) → Within s.output → Within (answered_line s line).output
unfolding answered_line
answered_within s line w = typed_within s.output (ended s.skipping s.unit line).text w

lines_within : (s : Standing) (lines : List (List ℕ)) → Within s.output → Within (after_lines s lines).output
unfolding after_lines
lines_within s [] w = w
lines_within s (line ∷ lines) w = lines_within (answered_line (with_room s) line) lines (answered_within (with_room s) line (room_within s w))

-- of `make_room`
pub made_room_within : (f r : Feed) (before after : Page) → standing r after ≡ with_room (standing f before) → Within (page_of before) → Within (page_of after)
made_room_within f r before after e w = stands_within r after (with_room (standing f before)) e (room_within (standing f before) w)

module _ {f r : Feed} {text : List ℕ} {before after : Page} where
  pub ends_within : Ends f text before after r → Within (page_of before) → Within (page_of after)
  ends_within h w = stands_within r after (answered_line (standing f before) text) h.stands (answered_within (standing f before) text w)

  pub passes_within : Passes f text before after r → Within (page_of before) → Within (page_of after)
  passes_within h w =
      let s = with_room (standing f before) in
      stands_within r after (answered_line s text) h.stands (answered_within s text (room_within (standing f before) w))

  pub plays_within : Plays f text before after r → Within (page_of before) → Within (page_of after)
  plays_within h w = stands_within r after (after_lines (standing f before) (cut text).lines) h.stands (lines_within (standing f before) (cut text).lines w)

  pub plays_out_within : PlaysOut f text before after r → Within (page_of after)
  plays_out_within h = stands_within r after (written_out (after_lines (standing f before) (cut text).lines)) h.stands (omega arith)

  pub ends_out_within : EndsOut f text before after r → Within (page_of after)
  ends_out_within h = stands_within r after (written_out (answered_line (standing f before) text)) h.stands (omega arith)
