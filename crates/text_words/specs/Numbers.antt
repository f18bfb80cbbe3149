-- The number that a word of decimal digits is, and the bytes that a word of hex digits is.
-- Assumes nothing.
use Rattle.std.specs.Prelude.{ℕ, ◌+◌, ◌-◌, ◌*◌, ◌%◌, List, [], ◌∷◌, length, take, Result, Ok, Err}
use Prim.Native.Char.{code}
use Rattle.rules.specs.Choice.{◌≠ᵇ◌, ◌<ᵇ◌, pick, ◌⇒◌∣◌, first}
use Rattle.text_words.specs.Text.{◌is◌, ◌from◌to◌, is_no_digit, is_no_hex_digit, has, first_of}
use Rattle.text_words.specs.declared.numbers.DecimalError.{DecimalError}
use Rattle.text_words.specs.declared.numbers.DecimalError.TheVariants.{NotDecimal, Above}
use Rattle.text_words.specs.declared.numbers.HexError.{HexError}
use Rattle.text_words.specs.declared.numbers.HexError.TheVariants.{NotHex, Odd}

-- ** decimal

-- the number that digits are behind those of n, the most significant first
abbrev pub number_from : ℕ → List ℕ → ℕ
number_from n [] = n
number_from n (d ∷ s) = number_from (n * 10 + (d - code "0")) s

abbrev pub number : List ℕ → ℕ
number w = number_from 0 w

abbrev pub at_most : ℕ → ℕ → Result ℕ DecimalError
at_most most n = pick (most <ᵇ n) (Err (Above most)) (Ok n)

-- the number of a word, which is to be at most `most`
unfoldable pub read_decimal : ℕ → List ℕ → Result ℕ DecimalError
read_decimal most w = pick (has is_no_digit w) (Err NotDecimal) (at_most most (number w))

-- ** hex

-- the number of a hex digit; 0 where it is none
unfoldable pub nibble : ℕ → ℕ
nibble b =
    first
    (b from "0" to "9" ⇒ b - code "0" ∣
    b from "a" to "f" ⇒ b - code "a" + 10 ∣
    b from "A" to "F" ⇒ b - code "A" + 10 ∣ [])
    0

-- the bytes of pairs of digits
abbrev pub pairs : List ℕ → List ℕ
pairs [] = []
pairs (a ∷ []) = []
pairs (a ∷ b ∷ w) = (nibble a * 16 + nibble b) ∷ pairs w

-- the most bytes of a word: a word of a line has no more (proofs/Hex.antt)
abbrev pub BYTES : ℕ
BYTES = 2048

abbrev pub first_pairs : List ℕ → List ℕ
first_pairs w = take BYTES (pairs w)

-- the bytes of a word, or its first byte that is no hex digit, or that their number is odd; "- stands for no bytes"
unfoldable pub read_hex : List ℕ → Result (List ℕ) HexError
read_hex w =
    first
    (w is "-" ⇒ Ok [] ∣
    has is_no_hex_digit w ⇒ Err (NotHex (first_of is_no_hex_digit w)) ∣
    length w % 2 ≠ᵇ 0 ⇒ Err Odd ∣ [])
    (Ok (first_pairs w))

-- whether a word is bytes, and no more: what is wrong with it otherwise. proofs/Hex.antt has that `read_hex` says the same
unfoldable pub readable : List ℕ → Result (Unit {0}) HexError
readable w =
    first
    (w is "-" ⇒ Ok tt ∣
    has is_no_hex_digit w ⇒ Err (NotHex (first_of is_no_hex_digit w)) ∣
    length w % 2 ≠ᵇ 0 ⇒ Err Odd ∣ [])
    (Ok tt)
