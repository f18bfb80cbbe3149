-- The library's tests on digits are those of the definitions.
-- Assumes nothing.
use Prim.Native.Nat.{ℕ}
use mathlib.Core.Path.{◌≡◌, refl}
use mathlib.Core.Bool.{Bool, true, false, ◌&&◌, ◌||◌}
use lib.Dec.{leb}
use Rattle.std.specs.Char.{is_ascii_digit, is_ascii_hexdigit}
use Rattle.rules.specs.Choice.{no, ◌or◌, ◌and◌}
use Rattle.text_words.specs.Text.{is_digit, is_hex_digit, is_no_digit, is_no_hex_digit}

both : (a b : Bool) → (a && b) ≡ (a and b)
unfolding ◌and◌
both true b = refl
both false b = refl

any : (a b c : Bool) → ((a || b) || c) ≡ (a or (c or b))
unfolding ◌or◌
any true b c = refl
any false true true = refl
any false true false = refl
any false false true = refl
any false false false = refl

range : (l h b : ℕ) → (leb l b && leb b h) ≡ (leb l b and leb b h)
range l h b = both (leb l b) (leb b h)

pub no_digit : (b : ℕ) → is_no_digit b ≡ no (is_ascii_digit b)
unfolding is_digit
no_digit b = rw (range 48 57 b) refl

pub no_hex_digit : (b : ℕ) → is_no_hex_digit b ≡ no (is_ascii_hexdigit b)
unfolding is_hex_digit
no_hex_digit b = rw (any (leb 48 b && leb b 57) (leb 65 b && leb b 70) (leb 97 b && leb b 102), range 48 57 b, range 65 70 b, range 97 102 b) refl
