-- Numbers from bytes and to bytes, "least significant byte first" (01, from 000), and copies.
-- Assumes nothing.
use Rattle.std.specs.Prelude.{ℕ, zero, suc, ◌+◌, ◌*◌, ◌/◌, ◌%◌, Bool, true, false, List, [], ◌∷◌, ◌++◌, length, get_or, drop}
use Rattle.std.proofs.Math.Seq.{slice}

-- byte i of s
abbrev pub byte : List ℕ → ℕ → ℕ
byte s i = get_or s i 0

-- the number in two bytes from i on, and in four
abbrev pub number2 : List ℕ → ℕ → ℕ
number2 s i = byte s i + 256 * byte s (i + 1)

unfoldable pub number4 : List ℕ → ℕ → ℕ
number4 s i = number2 s i + 65536 * number2 s (i + 2)

-- the two bytes of a number, and the four
abbrev pub bytes2 : ℕ → List ℕ
bytes2 n = n % 256 ∷ n / 256 % 256 ∷ []

unfoldable pub bytes4 : ℕ → List ℕ
bytes4 n = bytes2 n ++ bytes2 (n / 65536)

-- every one of the bytes is 0
abbrev pub all_zero : List ℕ → Bool
all_zero [] = true
all_zero (zero ∷ s) = all_zero s
all_zero (suc n ∷ s) = false

-- the bytes from a up to, and not with, e are all 0
unfoldable pub zeros : List ℕ → ℕ → ℕ → Bool
zeros s a e = all_zero (slice a e s)

-- an answer's bytes in a lent buffer, whose bytes "past an answer's length stay as they were" (01)
abbrev pub into : List ℕ → List ℕ → List ℕ
into a b = a ++ drop (length a) b
