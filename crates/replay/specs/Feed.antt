-- What was read, cut into lines, each played when it has come to its end; and the part of a line that waits for its end.
-- Assumes nothing.
use Rattle.std.specs.Prelude.{ℕ, ◌-◌, ◌≡◌, Bool, true, false, List, [], ◌∷◌, length, drop}
use Rattle.std.proofs.Math.Seq.{slice}
use Rattle.rules.specs.Choice.{◌<ᵇ◌, pick}
use Rattle.wire.specs.Bytes.{into}
use Rattle.port.specs.Parts.{FULL_SPEED}
use Rattle.port.specs.Device.{Device, power_on}
use Rattle.text_put.specs.Text as Text
use Rattle.text_put.specs.Text.{typed}
use Rattle.text_put.specs.Pages.{page_of, SameBuffer}
use Rattle.text_put.specs.declared.Page.{Page}
use Rattle.text_words.specs.Cut.{cut}
use Rattle.text_lines.specs.Lines.{LONGEST}
use Rattle.text_answers.specs.Wrong.{too_long_text}
use Rattle.unit.specs.Promise.{device_of, unit_of}
use Rattle.replay.specs.Play.{After, as_it_was, played}
use Rattle.replay.specs.declared.feed.Feed.{Feed}

-- before the first line: a unit for packets of 64 bytes
abbrev pub first_feed : Feed
first_feed = record {
  unit = unit_of (power_on (record { packet = FULL_SPEED })).unit;
  played = 0;
  held = 0;
  skipping = false;
  going = true;
}

-- ** what lines leave

-- the unit, whether a line that is still to end is skipped, and the page of the answers
pub record Standing : Type 0 where
  pub unit : Device
  pub skipping : Bool
  pub output : Text.Page

abbrev pub standing : Feed → Page → Standing
standing f p = record { unit = device_of f.unit; skipping = f.skipping; output = page_of p }

-- ** a line that has come to its end

-- of one that was too long to keep nothing is known but that
unfoldable pub ended : Bool → Device → List ℕ → After
ended skipping u line = pick skipping (as_it_was u too_long_text) (played u line)

-- its answer is put behind those that are there
unfoldable pub answered_line : Standing → List ℕ → Standing
answered_line s line =
    let a = ended s.skipping s.unit line in
    record { unit = a.unit; skipping = false; output = typed s.output a.text }

-- and all else stays
pub record Ends (f : Feed) (line : List ℕ) (before after : Page) (r : Feed) : Type 0 where
  pub stands : standing r after ≡ answered_line (standing f before) line
  pub buffer : SameBuffer before after
  pub rest : r ≡ record { unit = r.unit; played = f.played; held = f.held; skipping = r.skipping; going = f.going }

-- ** answers that are written out

-- the page is free again
abbrev pub emptied : Text.Page → Text.Page
emptied p = (p.0, 0)

-- whether it could be written is not known beforehand
pub record Writes (f : Feed) (before after : Page) (r : Feed) : Type 0 where
  pub output : page_of after ≡ emptied (page_of before)
  pub buffer : SameBuffer before after
  pub rest : r ≡ record { unit = f.unit; played = f.played; held = f.held; skipping = f.skipping; going = r.going }

abbrev pub written_out : Standing → Standing
written_out s = record { unit = s.unit; skipping = s.skipping; output = emptied s.output }

-- what is to be free before a line is played: more than any answer takes
abbrev pub ROOM : ℕ
ROOM = 8192

abbrev pub is_nearly_full : Text.Page → Bool
is_nearly_full p = length p.0 - p.1 <ᵇ ROOM

-- a page that is nearly full is written out before a line is played
abbrev pub with_room : Standing → Standing
with_room s = pick (is_nearly_full s.output) (written_out s) s

pub record Passes (f : Feed) (line : List ℕ) (before after : Page) (r : Feed) : Type 0 where
  pub stands : standing r after ≡ answered_line (with_room (standing f before)) line
  pub buffer : SameBuffer before after
  pub held : r.held ≡ f.held

-- ** all lines of what was read

unfoldable pub after_lines : Standing → List (List ℕ) → Standing
after_lines s [] = s
after_lines s (line ∷ lines) = after_lines (answered_line (with_room s) line) lines

-- each line is played and answered, in order and once, and from `played` on stands what has no end yet
pub record Plays (f : Feed) (text : List ℕ) (before after : Page) (r : Feed) : Type 0 where
  pub stands : standing r after ≡ after_lines (standing f before) (cut text).lines
  pub buffer : SameBuffer before after
  pub held : r.held ≡ f.held
  pub rest : drop r.played text ≡ (cut text).rest

-- the same, with the answers written out; and of the last line, which no newline ends
pub record PlaysOut (f : Feed) (text : List ℕ) (before after : Page) (r : Feed) : Type 0 where
  pub stands : standing r after ≡ written_out (after_lines (standing f before) (cut text).lines)
  pub buffer : SameBuffer before after
  pub held : r.held ≡ f.held
  pub rest : drop r.played text ≡ (cut text).rest

pub record EndsOut (f : Feed) (line : List ℕ) (before after : Page) (r : Feed) : Type 0 where
  pub stands : standing r after ≡ written_out (answered_line (standing f before) line)
  pub buffer : SameBuffer before after
  pub stops : r.going ≡ false

-- ** the part of a line that waits for its end

-- the bytes from `from` up to `end`, at the start of the input
abbrev pub moved_down : ℕ → ℕ → List ℕ → List ℕ
moved_down from end input = into (slice from end input) input

abbrev pub rest_length : Feed → ℕ → List ℕ → ℕ
rest_length f end input = length (slice f.played end input)

-- it is held, or, where it is too long, skipped
abbrev pub holds : Feed → ℕ → Feed
holds f n =
    pick (LONGEST <ᵇ n)
    (record { unit = f.unit; played = f.played; held = 0; skipping = true; going = f.going })
    (record { unit = f.unit; played = f.played; held = n; skipping = f.skipping; going = f.going })
