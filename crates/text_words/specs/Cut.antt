-- A text cut into lines.
-- Assumes nothing.
use Rattle.std.specs.Prelude.{ℕ, List, [], ◌∷◌}
use Prim.Native.Char.{code}
use Rattle.rules.specs.Choice.{pick}
use Rattle.text_words.specs.Text.{is_byte}

-- the lines of a text that have come to their end, without their newlines; and what is left behind the last of them
pub record Cut : Type 0 where
  pub lines : List (List ℕ)
  pub rest : List ℕ

-- a newline in front: a line that has no byte
abbrev pub new_line : Cut → Cut
new_line c = record { lines = [] ∷ c.lines; rest = c.rest }

-- a byte in front: of the first line, or of what is left where no line has come to its end
abbrev pub longer : ℕ → List (List ℕ) → List ℕ → Cut
longer b [] rest = record { lines = []; rest = b ∷ rest }
longer b (line ∷ lines) rest = record { lines = (b ∷ line) ∷ lines; rest = rest }

unfoldable pub cut : List ℕ → Cut
cut [] = record { lines = []; rest = [] }
cut (b ∷ s) = pick (is_byte (code "\n") b) (new_line (cut s)) (longer b (cut s).lines (cut s).rest)
