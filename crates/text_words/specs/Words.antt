-- What a line says, and its words: "Words are parted by blanks or tabs, # starts a comment, a CR before the newline is dropped" (vectors/README.md).
-- Assumes nothing.
use Rattle.std.specs.Prelude.{ℕ, zero, suc, ◌-◌, Bool, List, length, get_or, take}
use Prim.Native.Char.{code}
use Rattle.rules.specs.Choice.{◌=ᵇ◌, pick}
use Rattle.text_words.specs.Text.{is_byte, is_blank, is_solid, before, since}

-- the line without a CR at its end
unfoldable pub without_return : List ℕ → List ℕ
without_return line = pick (get_or line (length line - 1) 0 =ᵇ code "\r") (take (length line - 1) line) line

-- what a line says: all before its comment
unfoldable pub said : List ℕ → List ℕ
said line = before (is_byte (code "#")) (without_return line)

-- ** words, by their bytes

-- a text's first word, and what stands behind it
abbrev pub first_word : List ℕ → List ℕ
first_word s = before is_blank (since is_solid s)

abbrev pub behind : List ℕ → List ℕ
behind s = since is_blank (since is_solid s)

-- word n of a text, counted from 0; a word that is missing is empty
abbrev pub word : ℕ → List ℕ → List ℕ
word zero s = first_word s
word (suc n) s = word n (behind s)

abbrev pub is_missing : List ℕ → Bool
is_missing w = length w =ᵇ 0
