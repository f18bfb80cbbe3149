-- Text as bytes, and what a test on bytes finds in it.
-- Assumes nothing.
use Rattle.std.specs.Prelude.{◌≡◌, ℕ, zero, suc, Bool, true, false, List, [], ◌∷◌, length, get_or, take, drop, Option, Some, None}
use Prim.Native.Char.{Char, code}
use Prim.Native.String.{String}
use Rattle.rules.specs.Choice.{◌=ᵇ◌, ◌≤ᵇ◌, ◌<ᵇ◌, no, ◌or◌, ◌and◌, pick}
use Rattle.text_put.specs.Text.{ascii}

infix 50 ◌is◌ ◌from◌to◌
-- two texts are the same
abbrev pub same : List ℕ → List ℕ → Bool
same [] [] = true
same [] (y ∷ b) = false
same (x ∷ a) [] = false
same (x ∷ a) (y ∷ b) = pick (x =ᵇ y) (same a b) false

abbrev pub ◌is◌ : List ℕ → String → Bool
s is t = same s (ascii t)

-- ** tests on a byte

abbrev pub is_byte : ℕ → ℕ → Bool
is_byte c b = b =ᵇ c

abbrev pub ◌from◌to◌ : ℕ → Char → Char → Bool
b from c to d = code c ≤ᵇ b and b ≤ᵇ code d

unfoldable pub is_blank : ℕ → Bool
is_blank b = b =ᵇ code " " or b =ᵇ code "\t"

unfoldable pub is_digit : ℕ → Bool
is_digit b = b from "0" to "9"

-- a hex digit, "in either case"
unfoldable pub is_hex_digit : ℕ → Bool
is_hex_digit b = b from "0" to "9" or b from "a" to "f" or b from "A" to "F"

abbrev pub is_solid : ℕ → Bool
is_solid b = no (is_blank b)

abbrev pub is_no_digit : ℕ → Bool
is_no_digit b = no (is_digit b)

abbrev pub is_no_hex_digit : ℕ → Bool
is_no_hex_digit b = no (is_hex_digit b)

-- what code answers of each byte is what the test says
abbrev pub Tells : (ℕ → Bool) → (ℕ → Bool → Type 0) → Type 0
Tells t answers = (b : ℕ) (r : Bool) → answers b r → r ≡ t b

-- ** what a test finds

-- the place of the first byte that passes; the end where none does
abbrev pub place : (ℕ → Bool) → List ℕ → ℕ
place t [] = zero
place t (b ∷ s) = pick (t b) zero (suc (place t s))

-- all before that byte, and all from it on
abbrev pub before : (ℕ → Bool) → List ℕ → List ℕ
before t s = take (place t s) s

abbrev pub since : (ℕ → Bool) → List ℕ → List ℕ
since t s = drop (place t s) s

-- whether there is one, and which it is
abbrev pub has : (ℕ → Bool) → List ℕ → Bool
has t s = place t s <ᵇ length s

abbrev pub first_of : (ℕ → Bool) → List ℕ → ℕ
first_of t s = get_or s (place t s) 0

-- the same where there may be none
abbrev pub found : (ℕ → Bool) → List ℕ → Option ℕ
found t s = pick (has t s) (Some (first_of t s)) None
