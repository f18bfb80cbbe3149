-- Four bytes and the number in them.
-- Assumes nothing.
use Prim.Native.Nat.{ℕ, ◌+◌, ◌*◌, ◌/◌, ◌%◌, ◌≤◌, ◌<◌}
use mathlib.Core.Path.{◌≡◌}
use native.Mathlib.Omega.{arith}

module _ (a b c d n : ℕ) (e : n ≡ a + 256 * b + 65536 * c + 16777216 * d) (a< : a < 256) (b< : b < 256) (c< : c < 256) (d< : d < 256) where
  pub first : n % 256 ≡ a
  first = omega arith

  pub second : n / 256 % 256 ≡ b
  second = omega arith

  pub third : n / 65536 % 256 ≡ c
  third = omega arith

  pub fourth : n / 16777216 % 256 ≡ d
  fourth = omega arith

-- the four bytes of a number that a store can hold
pub in_four : (n : ℕ) → n ≤ 1024 → n % 256 + 256 * (n / 256 % 256) + 65536 * (n / 65536 % 256) + 16777216 * (n / 16777216 % 256) ≡ n
in_four n l = omega arith
