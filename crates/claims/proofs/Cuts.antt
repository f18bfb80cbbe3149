-- Bytes cut into packets, and data with its alignment: what a packet of a transfer is, and what is left for the next.
-- Assumes nothing.
use Prim.Native.Nat.{ℕ, zero, suc, ◌+◌, ◌-◌, ◌%◌, ◌≤◌, ◌<◌}
use mathlib.Core.Path.{◌≡◌, refl, sym, ap, ap₂, ◌∙◌}
use mathlib.Core.List.{List, [], ◌∷◌, ◌++◌}
use native.Mathlib.Omega.{arith}
use lib.ListN.{length, take, drop, length-append, length-take, length-drop, drop_of_length-le}
use lib.Seq.{take_at, drop_at, take_all}
use Rattle.port.specs.When.{padded}
use Rattle.claims.specs.Command.{Aligns, cut_up, packets}

-- ** packets

-- any number of packets that is enough does
cut_enough : (m n size : ℕ) (s : List ℕ) → 1 ≤ size → length s ≤ m → length s ≤ n → cut_up m size s ≡ cut_up n size s
unfolding cut_up
cut_enough zero zero size s z e f = refl
cut_enough zero (suc n) size [] z e f = refl
cut_enough zero (suc n) size (b ∷ s) z e f = absurd (omega arith)
cut_enough (suc m) zero size [] z e f = refl
cut_enough (suc m) zero size (b ∷ s) z e f = absurd (omega arith)
cut_enough (suc m) (suc n) size [] z e f = refl
cut_enough (suc m) (suc n) size (b ∷ s) z e f =
    let l = length-drop size (b ∷ s) in ap (λ (r : List (List ℕ)). take size (b ∷ s) ∷ r) (cut_enough m n size (drop size (b ∷ s)) z (omega arith) (omega arith))

pub packets_none : (size : ℕ) → packets size [] ≡ []
unfolding cut_up
packets_none size = refl

-- a full packet, and those of what follows it
pub packets_full : (size : ℕ) (a b : List ℕ) → 1 ≤ size → length a ≡ size → packets size (a ++ b) ≡ a ∷ packets size b
unfolding cut_up
packets_full size [] b z e = absurd (omega arith)
packets_full size (x ∷ a) b z e =
    let l = length-append a b in
    ap₂ (λ (p : List ℕ) (r : List ℕ). p ∷ cut_up (length (a ++ b)) size r) (take_at (x ∷ a) b size e) (drop_at (x ∷ a) b size e)
    ∙ ap (λ (r : List (List ℕ)). (x ∷ a) ∷ r) (cut_enough (length (a ++ b)) (length b) size b z (omega arith) (omega arith))

-- a packet that has it all
pub packets_last : (size : ℕ) (a : List ℕ) → 1 ≤ length a → length a ≤ size → packets size a ≡ a ∷ []
unfolding cut_up
packets_last size [] z e = absurd (omega arith)
packets_last size (x ∷ a) z e =
    ap₂ (λ (p : List ℕ) (r : List ℕ). p ∷ cut_up (length a) size r) (take_all size (x ∷ a) e) (drop_of_length-le (x ∷ a) {i = size} e)
    ∙ ap (λ (r : List (List ℕ)). (x ∷ a) ∷ r) (cut_none (length a))
  where
    cut_none : (n : ℕ) → cut_up n size [] ≡ []
    cut_none zero = refl
    cut_none (suc n) = refl

-- ** data with its alignment

pub aligned_long : (d a : List ℕ) → Aligns a d → length (d ++ a) ≡ padded (length d)
aligned_long d a e = length-append d a ∙ ap (λ (k : ℕ). length d + k) e

-- whole fours at the front need none
module _ (d e a : List ℕ) (fours : length d % 4 ≡ 0) where
  same : (m n k : ℕ) → m % 4 ≡ 0 → k ≡ m + n → (4 - n % 4) % 4 ≡ (4 - k % 4) % 4
  same m n k f e = omega arith

  needs : (4 - length e % 4) % 4 ≡ (4 - length (d ++ e) % 4) % 4
  needs = same (length d) (length e) (length (d ++ e)) fours (length-append d e)

  pub aligns_both : Aligns a e → Aligns a (d ++ e)
  aligns_both k = k ∙ needs

  pub aligns_behind : Aligns a (d ++ e) → Aligns a e
  aligns_behind k = k ∙ sym needs

-- bytes of the right length are data, and as many behind it as align it
pub parted : (s : List ℕ) (n : ℕ) → length s ≡ padded n → (length (take n s) ≡ n) × Aligns (drop n s) (take n s)
parted s n e =
    let k = length-take n s in
    let l : length (take n s) ≡ n = omega arith in
    (l, pads (length s) n (length (take n s)) (length (drop n s)) e l (length-drop n s))
  where
    pads : (long n m left : ℕ) → long ≡ padded n → m ≡ n → left ≡ long - n → left ≡ (4 - m % 4) % 4
    pads long n m left e f g = omega arith

-- a full packet of a longer rest is data alone
pub fours_fit : (n q : ℕ) → q % 4 ≡ 0 → q < padded n → q < n
fours_fit n q e l = omega arith
