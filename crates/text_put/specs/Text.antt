-- Text, and what becomes of a lent buffer that it is put into. A text is a list of bytes. The laws are in proofs/Text.antt.
-- Assumes nothing.
use Rattle.std.specs.Prelude.{ℕ, ◌+◌, ◌≤◌, List, [], ◌∷◌, ◌++◌, length, set}
use Prim.Native.Char.{code}
use Prim.Native.String.{String, [] as []ˢ, ◌∷◌ as ◌∷ˢ◌}
use Rattle.rules.specs.Choice.{◌<ᵇ◌, pick}

infixl 10 ◌then◌
-- the bytes of a text that is written out here: the codes of its characters, which are ASCII
abbrev pub ascii : String → List ℕ
ascii []ˢ = []
ascii (c ∷ˢ s) = code c ∷ ascii s

-- a text, and another behind it
unfoldable pub ◌then◌ : List ℕ → List ℕ → List ℕ
s then t = s ++ t

-- bytes of which each is written as a text of its own
unfoldable pub spelled : (ℕ → List ℕ) → List ℕ → List ℕ
spelled f [] = []
spelled f (b ∷ bytes) = f b ++ spelled f bytes

-- a lent buffer, and the place where the next byte goes
abbrev pub Page : Type 0
Page = List ℕ × ℕ

-- the place is in the buffer, or right behind it
abbrev pub Within : Page → Type 0
Within p = p.1 ≤ length p.0

-- a byte stands at the place, and the next place is one further; where it does not fit it is left out
unfoldable pub typed_byte : Page → ℕ → Page
typed_byte p b = pick (p.1 <ᵇ length p.0) (set p.0 p.1 b, p.1 + 1) p

-- a text is put byte by byte
unfoldable pub typed : Page → List ℕ → Page
typed p [] = p
typed p (b ∷ text) = typed (typed_byte p b) text
