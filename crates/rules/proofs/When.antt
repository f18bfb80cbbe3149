-- From tests to conditions: a test that tells of its condition either way decides its line, `m when condition ∣ ..`, and so a list of rules
-- gives the number that the lines give.
-- Assumes nothing.
use Prim.Native.Nat.{ℕ, ◌<◌, ◌≤◌}
use mathlib.Core.Path.{◌≡◌, refl}
use mathlib.Core.Bool.{Bool, true, false}
use mathlib.Core.Logic.{◌⊎◌, inl, inr, ⊎_elim}
use native.Mathlib.Omega.{arith}
use borrow.Author.Tests.{eqb-true, eqb-false, ltb-true, ltb-false}
use Rattle.rules.specs.Choice.{◌=ᵇ◌, ◌≠ᵇ◌, ◌<ᵇ◌, no, ◌or◌, ◌and◌, pick}
use Rattle.rules.specs.When.{Not, ◌when◌∣◌}
use Rattle.rules.proofs.Choice.{pick_all, is_no, not_no, neb_ne, neb_eq, either, none_left, none_right, both_left, both_right, not_both}

-- ** a test tells of a condition

pub record Tells (t : Bool) (G : Type 0) : Type 0 where
  pub held : t ≡ true → G
  pub failed : t ≡ false → Not G

-- the same condition in other words
pub in_words : {t : Bool} {G H : Type 0} → (G → H) → (H → G) → Tells t G → Tells t H
in_words f g k = record { held = λ e. f (k.held e); failed = λ e h. k.failed e (g h) }

pub equals : (m n : ℕ) → Tells (m =ᵇ n) (m ≡ n)
equals m n = record { held = eqb-true m n; failed = eqb-false m n }

pub differs : (m n : ℕ) → Tells (m ≠ᵇ n) (Not (m ≡ n))
differs m n = record { held = neb_ne m n; failed = λ e d. d (neb_eq m n e) }

pub is_less : (m n : ℕ) → Tells (m <ᵇ n) (m < n)
is_less m n = record { held = ltb-true m n; failed = λ e l. let k : n ≤ m = ltb-false m n e in omega arith }

pub negated : {t : Bool} {G : Type 0} → Tells t G → Tells (no t) (Not G)
negated {t} k = record { held = λ e. k.failed (is_no t e); failed = λ e n. n (k.held (not_no t e)) }

pub one_of : {a b : Bool} {G H : Type 0} → Tells a G → Tells b H → Tells (a or b) (G ⊎ H)
one_of {a} {b} k l = record {
  held = λ e. ⊎_elim (λ h. inl (k.held h)) (λ h. inr (l.held h)) (either a b e);
  failed = λ e. ⊎_elim (k.failed (none_left a b e)) (l.failed (none_right a b e));
}

-- so the condition holds or does not, and holds where it cannot fail
pub decided : (t : Bool) {G : Type 0} → Tells t G → G ⊎ Not G
decided true k = inl (k.held refl)
decided false k = inr (k.failed refl)

pub sure : (t : Bool) {G : Type 0} → Tells t G → Not (Not G) → G
sure t k n = ⊎_elim (λ g. g) (λ f. absurd (n f)) (decided t k)

-- where the condition holds the test does
passes : (t : Bool) {G : Type 0} → Tells t G → G → t ≡ true
passes true k g = refl
passes false k g = absurd (k.failed refl g)

pub both_of : {a b : Bool} {G H : Type 0} → Tells a G → Tells b H → Tells (a and b) (G × H)
both_of {a} {b} k l = record {
  held = λ e. (k.held (both_left a b e), l.held (both_right a b e));
  failed = λ e h. l.failed (not_both a b e (passes a k h.0)) h.1;
}

-- ** a line

-- what is decided, `a`, has its number by these lines
pub record By {A : Type 0} (number : A → ℕ) (lines : A → ℕ → Type 0) (a : A) : Type 0 where
  pub told : lines a (number a)

-- what is made of it has the same
pub through : {A B : Type 0} {number : B → ℕ} {lines : B → ℕ → Type 0} (f : A → B) {a : A} → By (λ x. number (f x)) (λ x. lines (f x)) a → By number lines (f a)
through f k = record { told = k.told }

module _ {A : Type 0} {number : A → ℕ} {below : A → ℕ → Type 0} {m : ℕ} (a : A) {b : A} where
  -- the test's own line, and those below it
  pub line : {t : Bool} {G : Type 0} → Tells t G → number a ≡ m → (Not G → By number below b) → By number (λ x. m when G ∣ below x) (pick t a b)
  line {t} {G} k e h = record { told = pick_all (λ x. (m when G ∣ below x) (number x)) t a b (λ y. inl (e, k.held y)) (λ n. inr (k.failed n, (h (k.failed n)).told)) }

  -- a test that shares its line with those below it
  pub shared : {t : Bool} {G H : Type 0} → Tells t G → number a ≡ m → (Not G → By number (λ x. m when H ∣ below x) b) → By number (λ x. m when G ⊎ H ∣ below x) (pick t a b)
  shared {t} {G} {H} k e h =
      record {
        told = pick_all (λ x. (m when G ⊎ H ∣ below x) (number x)) t a b (λ y. inl (e, inl (k.held y)))
            (λ n. ⊎_elim (λ r. inl (r.0, inr r.1)) (λ r. inr (⊎_elim (k.failed n) r.0, r.1)) (h (k.failed n)).told);
      }

-- a line's condition in other words
pub line_in_words : {A : Type 0} {number : A → ℕ} {below : A → ℕ → Type 0} {m : ℕ} {a : A} {G H : Type 0} → (G → H) → (H → G)
    → By number (λ x. m when G ∣ below x) a → By number (λ x. m when H ∣ below x) a
line_in_words f g k = record { told = ⊎_elim (λ r. inl (r.0, f r.1)) (λ r. inr (λ h. r.0 (g h), r.1)) k.told }
