-- The bytes of a line's word are all that its digits are: a line has no room for more than are kept.
-- Assumes nothing.
use Prim.Native.Nat.{ℕ, ◌≤◌}
use mathlib.Core.Path.{◌≡◌}
use mathlib.Core.List.{List}
use native.Mathlib.Omega.{arith}
use lib.ListN.{length}
use Rattle.std.specs.Prelude.{Ok}
use Rattle.text_words.specs.Words.{said, word}
use Rattle.text_words.specs.Numbers.{pairs, read_hex}
use Rattle.text_words.proofs.Hex.{whole}
use Rattle.text_words.proofs.Shorter.{word_short}
use Rattle.text_lines.specs.Lines.{LONGEST}

pub whole_bytes : (line s : List ℕ) (n : ℕ) → length line ≤ LONGEST → read_hex (word n (said line)) ≡ Ok s → s ≡ pairs (word n (said line))
whole_bytes line s n h e = whole (word n (said line)) s (omega (arith, word_short n line)) e
