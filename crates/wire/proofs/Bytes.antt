-- Runs of bytes that are 0, from their first byte on.
-- Assumes nothing.
use Prim.Native.Nat.{ℕ, zero, suc, ◌≤◌, ◌<◌}
use mathlib.Core.Path.{◌≡◌, refl, sym, ap, ◌∙◌}
use mathlib.Core.Bool.{Bool, true, false}
use mathlib.Core.List.{List, ◌∷◌}
use mathlib.Core.Logic.{⊎_elim}
use native.Mathlib.Omega.{arith}
use lib.ListN.{length}
use lib.Seq.{slice, slice-cons, slice_empty}
use lib.Dec.{eqb}
use borrow.Author.Tests.{eq-eqb, ne_eqb}
use Rattle.rules.proofs.When.{equals, decided}
use Rattle.wire.specs.Bytes.{byte, number4, all_zero, zeros}

-- a run of no bytes is all 0
pub zeros_none : (s : List ℕ) (e : ℕ) → zeros s e e ≡ true
unfolding zeros
zeros_none s e = ap all_zero (slice_empty e s)

module _ (s : List ℕ) (i e : ℕ) (less : i < e) (within : e ≤ length s) where
  first_of : slice i e s ≡ byte s i ∷ slice (suc i) e s
  first_of = slice-cons i e s 0 less within

  -- one that begins with 0 is what follows that
  pub zeros_pass : byte s i ≡ 0 → zeros s (suc i) e ≡ zeros s i e
  unfolding zeros
  zeros_pass z = sym (ap all_zero (first_of ∙ ap (λ (b : ℕ). b ∷ slice (suc i) e s) z))

  -- and one that does not, is none
  pub zeros_stop : (byte s i ≡ 0 → ⊥) → zeros s i e ≡ false
  unfolding zeros
  zeros_stop n = ap all_zero first_of ∙ head_not (byte s i) (slice (suc i) e s) n
    where
      head_not : (b : ℕ) (t : List ℕ) → (b ≡ 0 → ⊥) → all_zero (b ∷ t) ≡ false
      head_not zero t h = absurd (h refl)
      head_not (suc b) t h = refl

  -- so where its first byte is not 0, the test of that byte says whether it is one
  pub zeros_here : (byte s i ≡ 0 → ⊥) → eqb (byte s i) 0 ≡ zeros s i e
  zeros_here n = ne_eqb _ 0 n ∙ sym (zeros_stop n)

-- and so it does in a run of one byte
pub zeros_one : (s : List ℕ) (i : ℕ) → i < length s → eqb (byte s i) 0 ≡ zeros s i (suc i)
zeros_one s i h =
    ⊎_elim (λ z. eq-eqb _ 0 z ∙ sym (zeros_none s (suc i)) ∙ zeros_pass s i (suc i) (omega arith) (omega arith) z) (zeros_here s i (suc i) (omega arith) (omega arith))
    (decided _ (equals (byte s i) 0))

-- four bytes of it at once, as the number in them: those at 4
module _ (s : List ℕ) (e : ℕ) (less : 8 ≤ e) (within : e ≤ length s) where
  pub four_pass : number4 s 4 ≡ 0 → zeros s 8 e ≡ zeros s 4 e
  unfolding number4
  four_pass z =
      zeros_pass s 7 e (omega arith) within (omega arith) ∙ zeros_pass s 6 e (omega arith) within (omega arith) ∙ zeros_pass s 5 e (omega arith) within (omega arith)
      ∙ zeros_pass s 4 e (omega arith) within (omega arith)

  pub four_stop : (number4 s 4 ≡ 0 → ⊥) → zeros s 4 e ≡ false
  unfolding number4
  four_stop n = from_4
    where
      from_7 : byte s 4 ≡ 0 → byte s 5 ≡ 0 → byte s 6 ≡ 0 → zeros s 7 e ≡ false
      from_7 a b c = zeros_stop s 7 e (omega arith) within (λ d. n (omega arith))

      from_6 : byte s 4 ≡ 0 → byte s 5 ≡ 0 → zeros s 6 e ≡ false
      from_6 a b = ⊎_elim (λ c. sym (zeros_pass s 6 e (omega arith) within c) ∙ from_7 a b c) (zeros_stop s 6 e (omega arith) within) (decided _ (equals (byte s 6) 0))

      from_5 : byte s 4 ≡ 0 → zeros s 5 e ≡ false
      from_5 a = ⊎_elim (λ b. sym (zeros_pass s 5 e (omega arith) within b) ∙ from_6 a b) (zeros_stop s 5 e (omega arith) within) (decided _ (equals (byte s 5) 0))

      from_4 : zeros s 4 e ≡ false
      from_4 = ⊎_elim (λ a. sym (zeros_pass s 4 e (omega arith) within a) ∙ from_5 a) (zeros_stop s 4 e (omega arith) within) (decided _ (equals (byte s 4) 0))

  pub four_here : (k : ℕ) → k ≡ number4 s 4 → (k ≡ 0 → ⊥) → eqb k 0 ≡ zeros s 4 e
  four_here k is n = ne_eqb k 0 n ∙ sym (four_stop (λ z. n (is ∙ z)))

  pub four_gone : (k : ℕ) → k ≡ number4 s 4 → k ≡ 0 → (t : Bool) → t ≡ zeros s 8 e → t ≡ zeros s 4 e
  four_gone k is z t h = h ∙ four_pass (sym is ∙ z)

pub ruleset zero_runs = (zeros_pass, zeros_here, zeros_one, four_here, four_gone)
