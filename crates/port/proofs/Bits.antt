-- The bits of a status byte and of a tag: as the definitions count them, and as code masks them.
-- Assumes nothing.
use Prim.Native.Nat.{ℕ, zero, suc, ◌+◌, ◌*◌, ◌/◌, ◌%◌, ◌<◌}
use mathlib.Core.Path.{◌≡◌, refl, sym, ap, ap₂, ◌∙◌}
use native.Mathlib.Omega.{arith}
use lib.Bits.{bit_and, bit_or, and_mask, and_block, and_zero_r, or_block, or_zero_l}
use lib.Pow.{split}
use Rattle.rules.specs.Choice.{◌≠ᵇ◌, ◌=ᵇ◌}
use Rattle.port.specs.Interrupt.{TOP_BIT, asks_service, without_bit_6}

-- ** bit 6

bit_6 : (n : ℕ) → bit_and n 64 ≡ n / 64 % 2 * 64
bit_6 n =
    ap (λ (m : ℕ). bit_and m 64) (sym (split n 6)) ∙ and_block 6 (n / 64) 1 (n % 64) 0 (omega arith) (omega arith)
    ∙ ap₂ (λ (a b : ℕ). a * 64 + b) (and_mask (n / 64) 1) (and_zero_r (n % 64)) ∙ omega arith

is_one : (r : ℕ) → r < 2 → (r * 64 ≠ᵇ 0) ≡ (r =ᵇ 1)
unfolding ◌≠ᵇ◌
is_one zero h = refl
is_one (suc zero) h = refl
is_one (suc (suc r)) h = absurd (omega (arith, h))

pub bit_6_on : (status : ℕ) → (bit_and status 64 ≠ᵇ 0) ≡ asks_service status
bit_6_on status = ap (λ (m : ℕ). m ≠ᵇ 0) (bit_6 status) ∙ is_one (status / 64 % 2) (omega arith)

pub bit_6_off : (status : ℕ) → status < 256 → bit_and status 191 ≡ without_bit_6 status
bit_6_off n h =
    ap (λ (m : ℕ). bit_and m 191) (sym (split n 7)) ∙ and_block 7 (n / 128) 1 (n % 128) 63 (omega arith) (omega arith)
    ∙ ap₂ (λ (a b : ℕ). a * 128 + b) (and_mask (n / 128) 1) (and_mask (n % 128) 6) ∙ omega (arith, h)

-- ** the top bit over a tag

one_on : (b : ℕ) → b < 2 → bit_or 1 b ≡ 1
one_on zero h = refl
one_on (suc zero) h = refl
one_on (suc (suc b)) h = absurd (omega (arith, h))

pub top_bit_on : (tag : ℕ) → tag < 256 → bit_or TOP_BIT tag ≡ TOP_BIT + tag % TOP_BIT
top_bit_on n h =
    ap (bit_or 128) (sym (split n 7)) ∙ or_block 7 1 (n / 128) 0 (n % 128) (omega arith) (omega arith)
    ∙ ap₂ (λ (a b : ℕ). a * 128 + b) (one_on (n / 128) (omega (arith, h))) (or_zero_l (n % 128))
