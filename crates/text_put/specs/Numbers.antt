-- Numbers and bytes as text. Assumes nothing.
use Rattle.std.specs.Prelude.{ℕ, ◌+◌, ◌-◌, ◌/◌, ◌%◌, List, [], ◌∷◌, length, drop}
use Rattle.rules.specs.Choice.{◌=ᵇ◌, ◌<ᵇ◌, pick, first, ◌⇒◌∣◌}
use Rattle.text_put.specs.Text.{ascii, spelled}

-- the digit of a number below 16, in lower case: 48 is `0`, and 97 is `a`
unfoldable pub digit_of : ℕ → ℕ
digit_of n = pick (n <ᵇ 10) (48 + n) (97 + (n - 10))

-- the five digits of a number below 100,000
abbrev pub five_digits : ℕ → List ℕ
five_digits n = digit_of (n / 10000 % 10) ∷ digit_of (n / 1000 % 10) ∷ digit_of (n / 100 % 10) ∷ digit_of (n / 10 % 10) ∷ digit_of (n % 10) ∷ []

-- how many of them are zeros in front, which are not written
unfoldable pub zeros_in_front : ℕ → ℕ
zeros_in_front n = first (n <ᵇ 10 ⇒ 4 ∣ n <ᵇ 100 ⇒ 3 ∣ n <ᵇ 1000 ⇒ 2 ∣ n <ᵇ 10000 ⇒ 1 ∣ []) 0

-- a number below 100,000 in decimal
abbrev pub decimal_text : ℕ → List ℕ
decimal_text n = drop (zeros_in_front n) (five_digits n)

-- a byte as two hex digits
abbrev pub pair_text : ℕ → List ℕ
pair_text b = digit_of (b / 16) ∷ digit_of (b % 16) ∷ []

-- bytes in hex, or `-` where there are none
unfoldable pub hex_text : List ℕ → List ℕ
hex_text bytes = pick (length bytes =ᵇ 0) (ascii "-") (spelled pair_text bytes)
