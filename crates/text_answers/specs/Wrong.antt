-- The text of the answers to lines that cannot be read: `? ` and what is wrong, in words. Assumes nothing.
use Rattle.std.specs.Prelude.{ℕ, List, [], ◌∷◌, length, take}
use Rattle.rules.specs.Choice.{◌<ᵇ◌, ◌≤ᵇ◌, pick, first, ◌⇒◌∣◌}
use Rattle.text_put.specs.Text.{ascii, ◌then◌, spelled}
use Rattle.text_put.specs.Numbers.{decimal_text}

-- ** a word that is shown

-- the most bytes of a word that are shown
abbrev pub SHOWN : ℕ
SHOWN = 24

-- a byte as it is shown: what is no ASCII that can be printed, from 32, the blank, to 126, `~`, is a question mark
unfoldable pub shown_byte : ℕ → List ℕ
shown_byte b = first (b <ᵇ 32 ⇒ ascii "?" ∣ 126 <ᵇ b ⇒ ascii "?" ∣ []) (b ∷ [])

-- a word in quotes, cut where it is long
unfoldable pub quoted_text : List ℕ → List ℕ
quoted_text word =
    pick (length word ≤ᵇ SHOWN)
    (ascii "`" then spelled shown_byte word then ascii "`")
    (ascii "`" then spelled shown_byte (take SHOWN word) then ascii "..`")

-- ** what is wrong

-- a word, and what is wrong with it
unfoldable pub wrong_text : List ℕ → List ℕ → List ℕ
wrong_text word wrong = ascii "? " then quoted_text word then wrong then ascii "\n"

abbrev pub too_long_text : List ℕ
too_long_text = ascii "? the line has over 4096 bytes and was skipped\n"

abbrev pub unknown_name_text : List ℕ → List ℕ
unknown_name_text word = wrong_text word (ascii " is no call: use power, setup, out, in, in3, take, offer, status, local, reset, suspend, state or more")

abbrev pub too_few_words_text : List ℕ → List ℕ
too_few_words_text word = wrong_text word (ascii " needs a word behind it")

abbrev pub too_many_words_text : List ℕ → List ℕ
too_many_words_text word = wrong_text word (ascii " is a word too many")

abbrev pub no_status_text : List ℕ → List ℕ
no_status_text word = wrong_text word (ascii " is no status byte: give two hex digits")

abbrev pub no_decimal_text : List ℕ → List ℕ
no_decimal_text word = wrong_text word (ascii " is no decimal number")

-- a number that is too large, with the largest that can be read
unfoldable pub too_large_text : List ℕ → ℕ → List ℕ
too_large_text word most = ascii "? " then quoted_text word then ascii " is too large: give at most " then decimal_text most then ascii "\n"

abbrev pub no_hex_digit_text : ℕ → List ℕ
no_hex_digit_text byte = wrong_text (byte ∷ []) (ascii " is no hex digit: give pairs of them, or - for no bytes")

abbrev pub odd_hex_text : List ℕ → List ℕ
odd_hex_text word = wrong_text word (ascii " has an odd number of hex digits")
