-- What a word gives: a packet size, a buffer's length, bytes or a status byte; or why it cannot be read.
-- Assumes nothing.
use Rattle.std.specs.Prelude.{ℕ, List, length, get_or, Option, Some, None, Result, Ok, Err}
use Rattle.rules.specs.Choice.{◌=ᵇ◌, pick}
use Rattle.text_words.specs.Words.{is_missing}
use Rattle.text_words.specs.Numbers.{read_decimal, read_hex}
use Rattle.text_words.specs.declared.numbers.DecimalError.{DecimalError}
use Rattle.text_words.specs.declared.numbers.DecimalError.TheVariants.{NotDecimal, Above as TooLarge}
use Rattle.text_words.specs.declared.numbers.HexError.{HexError}
use Rattle.text_words.specs.declared.numbers.HexError.TheVariants.{NotHex, Odd}
use Rattle.text_lines.specs.declared.given.Unread.{Unread}
use Rattle.text_lines.specs.declared.given.Unread.TheVariants.{NoDecimal, Above, NoHexDigit, OddDigits, NoStatus}

-- ** why a word cannot be read

abbrev pub no_decimal : DecimalError → Unread
no_decimal NotDecimal = NoDecimal
no_decimal (TooLarge most) = Above most

abbrev pub no_hex : HexError → Unread
no_hex (NotHex b) = NoHexDigit b
no_hex Odd = OddDigits

-- what was read, or why it was not, by its error
abbrev pub or_why : {A E : Type 0} → (E → Unread) → Result A E → Result A Unread
or_why why (Ok x) = Ok x
or_why why (Err e) = Err (why e)

-- ** what a word gives

-- a packet size, of two bytes
abbrev pub LARGEST_SIZE : ℕ
LARGEST_SIZE = 65535

unfoldable pub size_of : List ℕ → Result ℕ Unread
size_of w = or_why no_decimal (read_decimal LARGEST_SIZE w)

-- a buffer's length, "2,048 at most", or none where the word is missing
abbrev pub LARGEST_BUFFER : ℕ
LARGEST_BUFFER = 2048

abbrev pub length_read : Result ℕ DecimalError → Result (Option ℕ) Unread
length_read (Ok n) = Ok (Some n)
length_read (Err e) = Err (no_decimal e)

unfoldable pub length_of : List ℕ → Result (Option ℕ) Unread
length_of w = pick (is_missing w) (Ok None) (length_read (read_decimal LARGEST_BUFFER w))

-- bytes
unfoldable pub given_by : List ℕ → Result (List ℕ) Unread
given_by w = or_why no_hex (read_hex w)

-- a status byte: one byte
abbrev pub byte_read : Result (List ℕ) HexError → Result ℕ Unread
byte_read (Ok s) = pick (length s =ᵇ 1) (Ok (get_or s 0 0)) (Err NoStatus)
byte_read (Err e) = Err (no_hex e)

unfoldable pub status_of : List ℕ → Result ℕ Unread
status_of w = byte_read (read_hex w)
