-- What a packet size is good for: all that the proofs ask of 64 and 512, in one place.
-- Assumes nothing.
use Prim.Native.Nat.{ℕ, ◌%◌, ◌≤◌, ◌<◌}
use mathlib.Core.Path.{◌≡◌, ap}
use mathlib.Core.Bool.{true}
use mathlib.Core.Logic.{⊎_elim}
use native.Mathlib.Omega.{arith}
use borrow.Author.Tests.{eqb-true}
use Rattle.rules.proofs.Choice.{either}
use Rattle.port.specs.Parts.{FULL_SPEED, HIGH_SPEED, is_size}

-- packets are in fours, hold a header with four bytes more, and their size has two bytes
pub record Size (p : ℕ) : Type 0 where
  pub fours : p % 4 ≡ 0
  pub least : 16 ≤ p
  pub most : p < 65536

pub size_of : (p : ℕ) → is_size p ≡ true → Size p
size_of p e =
    ⊎_elim
    (λ h. let f = eqb-true p FULL_SPEED h in record { fours = ap (λ (n : ℕ). n % 4) f; least = omega arith; most = omega arith })
    (λ h. let f = eqb-true p HIGH_SPEED h in record { fours = ap (λ (n : ℕ). n % 4) f; least = omega arith; most = omega arith })
    (either _ _ e)
