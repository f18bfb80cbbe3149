-- Lines and words, worked out.
-- Assumes nothing.
use mathlib.Core.Path.{◌≡◌, refl}
use mathlib.Core.List.{[], ◌∷◌}
use Rattle.std.specs.Prelude.{Ok, Err}
use Rattle.rules.specs.Choice.{no, ◌≠ᵇ◌, ◌or◌, ◌and◌, pick}
use Rattle.text_put.specs.Text.{ascii}
use Rattle.text_words.specs.Text.{is_blank, is_digit, is_hex_digit}
use Rattle.text_words.specs.Words.{without_return, said, word}
use Rattle.text_words.specs.Numbers.{read_decimal, nibble, read_hex}
use Rattle.text_words.specs.declared.numbers.DecimalError.TheVariants.{NotDecimal, Above}
use Rattle.text_words.specs.declared.numbers.HexError.TheVariants.{NotHex, Odd}

a_comment : said (ascii "take 5 # five\r") ≡ ascii "take 5 "
unfolding pick without_return said
a_comment = refl

a_return : said (ascii "take 5\r") ≡ ascii "take 5"
unfolding pick without_return said
a_return = refl

parted : word 1 (ascii "  out\t 0102 ") ≡ ascii "0102"
unfolding pick no ◌or◌ is_blank
parted = refl

missing : word 2 (ascii "  out\t 0102 ") ≡ ascii ""
unfolding pick no ◌or◌ is_blank
missing = refl

sixty_four : read_decimal 65535 (ascii "064") ≡ Ok 64
unfolding pick no ◌and◌ is_digit read_decimal
sixty_four = refl

too_large : read_decimal 2048 (ascii "2049") ≡ Err (Above 2048)
unfolding pick no ◌and◌ is_digit read_decimal
too_large = refl

no_number : read_decimal 2048 (ascii "99999x") ≡ Err NotDecimal
unfolding pick no ◌and◌ is_digit read_decimal
no_number = refl

four_bytes_lem : read_hex (ascii "0aF0fe01") ≡ Ok (0x0a ∷ 0xf0 ∷ 0xfe ∷ 0x01 ∷ [])
unfolding pick no ◌≠ᵇ◌ ◌or◌ ◌and◌ is_hex_digit nibble read_hex
four_bytes_lem = refl

no_bytes : read_hex (ascii "-") ≡ Ok []
unfolding pick read_hex
no_bytes = refl

a_strange_byte : read_hex (ascii "0g-") ≡ Err (NotHex 103)
unfolding pick no ◌≠ᵇ◌ ◌or◌ ◌and◌ is_hex_digit read_hex
a_strange_byte = refl

one_over : read_hex (ascii "012") ≡ Err Odd
unfolding pick no ◌≠ᵇ◌ ◌or◌ ◌and◌ is_hex_digit read_hex
one_over = refl
