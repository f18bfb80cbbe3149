-- What the promises of the functions that read words give to whoever plays a call.
-- Assumes nothing.
use Prim.Native.Nat.{ℕ, ◌≤◌}
use mathlib.Core.Path.{◌≡◌}
use mathlib.Core.List.{List}
use native.Mathlib.Omega.{arith}
use borrow.Author.Tests.{ltb-false}
use Rattle.std.specs.Prelude.{Option, Some, Result, Ok}
use Rattle.rules.proofs.Choice.{pick_all}
use Rattle.text_words.specs.Numbers.{number, read_decimal}
use Rattle.text_words.specs.declared.numbers.DecimalError.{DecimalError}
use Rattle.text_lines.specs.Given.{LARGEST_BUFFER, length_read, length_of}
use Rattle.text_lines.specs.declared.given.Unread.{Unread}

-- a buffer's length that `given_length` gave is within the largest
pub length_fits : (w : List ℕ) (n : ℕ) → length_of w ≡ Ok (Some n) → n ≤ LARGEST_BUFFER
unfolding length_of read_decimal
length_fits w n =
    pick_all Q _ _ _ (λ _ e. absurd cc) (λ _. pick_all P _ _ _ (λ _ e. absurd cc) (λ _. pick_all P _ _ _ (λ _ e. absurd cc) (λ t e.
    let z : number w ≡ n = cc in
    omega (arith, ltb-false LARGEST_BUFFER (number w) t))))
  where
    Q : Result (Option ℕ) Unread → Type 0
    Q x = x ≡ Ok (Some n) → n ≤ LARGEST_BUFFER

    P : Result ℕ DecimalError → Type 0
    P r = length_read r ≡ Ok (Some n) → n ≤ LARGEST_BUFFER
