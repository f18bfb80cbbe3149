-- Lines, and what they mean.
-- Assumes nothing.
use mathlib.Core.Path.{◌≡◌, refl}
use mathlib.Core.List.{[], ◌∷◌}
use Rattle.rules.specs.Choice.{no, ◌≠ᵇ◌, ◌or◌, ◌and◌, pick}
use Rattle.text_put.specs.Text.{ascii}
use Rattle.text_words.specs.Text.{is_blank, is_digit, is_hex_digit}
use Rattle.text_words.specs.Words.{without_return, said}
use Rattle.text_words.specs.Numbers.{read_decimal, nibble, read_hex}
use Rattle.text_lines.specs.Given.{size_of, length_of, given_by, status_of}
use Rattle.text_lines.specs.Lines.{of_length, of_the_call, nothing, wrong, no_call, too_few, too_many, unread}
use Rattle.text_lines.specs.Lines.{setup, out, in_poll, take_into, status, suspend, name_of, meaning}
use Rattle.text_lines.specs.declared.given.Unread.TheVariants.{NoDecimal, Above, NoStatus}

takes_five : meaning (ascii "take 5") ≡ take_into (of_length 5)
unfolding pick no ◌or◌ ◌and◌ is_blank is_digit without_return said read_decimal length_of name_of meaning
takes_five = refl

goes_out : meaning (ascii " out 0102 # x\r") ≡ out (1 ∷ 2 ∷ [])
unfolding pick no ◌≠ᵇ◌ ◌or◌ ◌and◌ is_blank is_hex_digit without_return said nibble read_hex given_by name_of meaning
goes_out = refl

polls_no_number : meaning (ascii "in3 x") ≡ wrong (unread (ascii "x") NoDecimal)
unfolding pick no ◌or◌ ◌and◌ is_blank is_digit without_return said read_decimal length_of name_of meaning
polls_no_number = refl

sets_up : meaning (ascii "setup\t- 24") ≡ setup [] (of_length 24)
unfolding pick no ◌≠ᵇ◌ ◌or◌ ◌and◌ is_blank is_digit is_hex_digit without_return said read_decimal nibble read_hex given_by length_of name_of meaning
sets_up = refl

polls : meaning (ascii "in") ≡ in_poll of_the_call
unfolding pick no ◌or◌ is_blank without_return said length_of name_of meaning
polls = refl

too_large : meaning (ascii "power 65536") ≡ wrong (unread (ascii "65536") (Above 65535))
unfolding pick no ◌or◌ ◌and◌ is_blank is_digit without_return said read_decimal size_of name_of meaning
too_large = refl

one_byte : meaning (ascii "status aB") ≡ status 0xab
unfolding pick no ◌≠ᵇ◌ ◌or◌ ◌and◌ is_blank is_hex_digit without_return said nibble read_hex status_of name_of meaning
one_byte = refl

no_byte : meaning (ascii "status -") ≡ wrong (unread (ascii "-") NoStatus)
unfolding pick no ◌≠ᵇ◌ ◌or◌ ◌and◌ is_blank is_hex_digit without_return said nibble read_hex status_of name_of meaning
no_byte = refl

suspends : meaning (ascii "suspend") ≡ suspend
unfolding pick no ◌or◌ is_blank without_return said name_of meaning
suspends = refl

says_nothing : meaning (ascii " # state") ≡ nothing
unfolding pick no ◌or◌ is_blank without_return said name_of meaning
says_nothing = refl

no_name : meaning (ascii "In 5") ≡ wrong (no_call (ascii "In"))
unfolding pick no ◌or◌ is_blank without_return said name_of meaning
no_name = refl

needs_a_word : meaning (ascii "out # 01") ≡ wrong (too_few (ascii "out"))
unfolding pick no ◌or◌ is_blank without_return said name_of meaning
needs_a_word = refl

one_too_many : meaning (ascii "setup zz 24 x y") ≡ wrong (too_many (ascii "x"))
unfolding pick no ◌or◌ is_blank without_return said name_of meaning
one_too_many = refl
