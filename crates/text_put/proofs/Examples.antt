-- Texts as they come out. Assumes nothing.
use mathlib.Core.Path.{◌≡◌, refl}
use mathlib.Core.List.{[], ◌∷◌}
use Rattle.rules.specs.Choice.{pick}
use Rattle.text_put.specs.Text.{ascii, spelled, typed_byte, typed}
use Rattle.text_put.specs.Numbers.{digit_of, zeros_in_front, decimal_text, hex_text}

decimals : (decimal_text 0 ≡ ascii "0") × (decimal_text 10 ≡ ascii "10") × (decimal_text 907 ≡ ascii "907") × (decimal_text 1024 ≡ ascii "1024") × (decimal_text 65535 ≡ ascii "65535")
unfolding digit_of zeros_in_front pick
decimals = (refl, refl, refl, refl, refl)

hexes : (hex_text [] ≡ ascii "-") × (hex_text (0x2a ∷ 0x0d ∷ 0xff ∷ []) ≡ ascii "2a0dff")
unfolding digit_of hex_text spelled pick
hexes = (refl, refl)

-- three bytes are put where there is room for two
cut : typed (1 ∷ 2 ∷ 3 ∷ [], 1) (ascii "abc") ≡ (1 ∷ 97 ∷ 98 ∷ [], 3)
unfolding typed typed_byte pick
cut = refl
