-- The laws of a choice. `picks` proves the choices that code makes: at each test of a chain it goes the way that the facts at hand
-- allow. `decide_all` and `decide_both` take a list of rules apart for a theorem: what holds of each refusal, and of what is left when
-- no test held, holds of the decision.
-- Assumes nothing.
use Prim.Native.Nat.{ℕ, ◌≤◌, ◌<◌}
use mathlib.Core.Path.{◌≡◌, refl, sym, ap, ◌∙◌}
use mathlib.Core.Bool.{Bool, true, false, not, true≢false, false≢true}
use mathlib.Core.List.{List, [], ◌∷◌}
use mathlib.Core.Logic.{◌⊎◌, inl, inr}
use lib.Dec.{ltb, eqb}
use borrow.Author.Tests.{lt-ltb, le-ltb, le-leb, lt-leb, eq-eqb, ne_eqb, eqb-true, eqb-false}
use Rattle.std.specs.Prelude.{Result, Ok, Err}
use Rattle.rules.specs.Choice.{no, ◌≠ᵇ◌, ◌or◌, ◌and◌, pick, decide, gate, all, named}

-- ** the value of a test from a fact

pub no_true : (t : Bool) → t ≡ false → no t ≡ true
unfolding no
no_true t e = rw e

pub no_false : (t : Bool) → t ≡ true → no t ≡ false
unfolding no
no_false t e = rw e

pub ne_neb : (m n : ℕ) → (m ≡ n → ⊥) → (m ≠ᵇ n) ≡ true
unfolding ◌≠ᵇ◌
ne_neb m n h = no_true _ (ne_eqb m n h)

pub eq_neb : (m n : ℕ) → m ≡ n → (m ≠ᵇ n) ≡ false
unfolding ◌≠ᵇ◌
eq_neb m n h = no_false _ (eq-eqb m n h)

pub or_left : (a b : Bool) → a ≡ true → (a or b) ≡ true
unfolding ◌or◌
or_left a b e = rw e

pub or_right : (a b : Bool) → b ≡ true → (a or b) ≡ true
unfolding ◌or◌
or_right true b e = refl
or_right false b e = e

pub or_none : (a b : Bool) → a ≡ false → b ≡ false → (a or b) ≡ false
unfolding ◌or◌
or_none a b e f = rw (e, f)

-- where the first does not hold, the second decides
pub or_false : (a b : Bool) → a ≡ false → (a or b) ≡ b
unfolding ◌or◌
or_false a b e = rw e

pub and_both : (a b : Bool) → a ≡ true → b ≡ true → (a and b) ≡ true
unfolding ◌and◌
and_both a b e f = rw (e, f)

pub and_left : (a b : Bool) → a ≡ false → (a and b) ≡ false
unfolding ◌and◌
and_left a b e = rw e

pub and_right : (a b : Bool) → b ≡ false → (a and b) ≡ false
unfolding ◌and◌
and_right true b e = e
and_right false b e = refl

-- the same by a number or a flag `k` that a call returned
pub told_true : (k t : Bool) → k ≡ t → k ≡ true → t ≡ true
told_true k t d e = sym d ∙ e

pub told_false : (k t : Bool) → k ≡ t → k ≡ false → t ≡ false
told_false k t d e = sym d ∙ e

pub told_eq : (k m n : ℕ) → k ≡ m → k ≡ n → eqb m n ≡ true
told_eq k m n d e = eq-eqb m n (sym d ∙ e)

pub told_ne : (k m n : ℕ) → k ≡ m → (k ≡ n → ⊥) → eqb m n ≡ false
told_ne k m n d e = ne_eqb m n (λ q. e (d ∙ q))

pub told_lt : (k m n : ℕ) → k ≡ m → k < n → ltb m n ≡ true
told_lt k m n d e = ap (λ (j : ℕ). ltb j n) (sym d) ∙ lt-ltb k n e

pub told_ge : (k m n : ℕ) → k ≡ m → n ≤ k → ltb m n ≡ false
told_ge k m n d e = ap (λ (j : ℕ). ltb j n) (sym d) ∙ le-ltb k n e

-- ** the fact from the value of a test

pub is_no : (t : Bool) → no t ≡ true → t ≡ false
unfolding no
is_no true e = absurd (false≢true e)
is_no false e = refl

pub not_no : (t : Bool) → no t ≡ false → t ≡ true
unfolding no
not_no true e = refl
not_no false e = absurd (true≢false e)

pub neb_ne : (m n : ℕ) → (m ≠ᵇ n) ≡ true → m ≡ n → ⊥
unfolding ◌≠ᵇ◌
neb_ne m n e = eqb-false m n (is_no (eqb m n) e)

pub neb_eq : (m n : ℕ) → (m ≠ᵇ n) ≡ false → m ≡ n
unfolding ◌≠ᵇ◌
neb_eq m n e = eqb-true m n (not_no (eqb m n) e)

pub none_left : (a b : Bool) → (a or b) ≡ false → a ≡ false
unfolding ◌or◌
none_left true b e = absurd (true≢false e)
none_left false b e = refl

pub none_right : (a b : Bool) → (a or b) ≡ false → b ≡ false
unfolding ◌or◌
none_right true b e = absurd (true≢false e)
none_right false b e = e

pub either : (a b : Bool) → (a or b) ≡ true → (a ≡ true) ⊎ (b ≡ true)
unfolding ◌or◌
either true b e = inl refl
either false b e = inr e

pub both_left : (a b : Bool) → (a and b) ≡ true → a ≡ true
unfolding ◌and◌
both_left true b e = refl
both_left false b e = absurd (false≢true e)

pub both_right : (a b : Bool) → (a and b) ≡ true → b ≡ true
unfolding ◌and◌
both_right true b e = e
both_right false b e = absurd (false≢true e)

pub not_both : (a b : Bool) → (a and b) ≡ false → a ≡ true → b ≡ false
unfolding ◌and◌
not_both true b e h = e
not_both false b e h = absurd (false≢true h)

-- ** one choice

module _ {A : Type 0} (x a b : A) where
  pub pick_true : (t : Bool) → t ≡ true → x ≡ a → x ≡ pick t a b
  unfolding pick
  pick_true t e h = rw e h

  pub pick_false : (t : Bool) → t ≡ false → x ≡ b → x ≡ pick t a b
  unfolding pick
  pick_false t e h = rw e h

  -- of a `match`: the number is the literal `k`, and so is not the literal `n`
  pub by_key : (k m n : ℕ) → m ≡ k → eqb k n ≡ false → x ≡ b → x ≡ pick (eqb m n) a b
  by_key k m n d e h = pick_false (eqb m n) (ap (λ (j : ℕ). eqb j n) d ∙ e) h

-- the last test of a list is the answer itself
pub pick_self : (k t : Bool) → k ≡ t → k ≡ pick t true false
unfolding pick
pick_self k true e = e
pick_self k false e = e

pub ruleset tests = (
  ne_neb,
  eq_neb,
  eq-eqb,
  ne_eqb,
  lt-ltb,
  le-ltb,
  le-leb,
  lt-leb,
  no_true,
  no_false,
  or_none,
  or_left,
  or_right,
  and_both,
  and_left,
  and_right,
  told_eq,
  told_ne,
  told_lt,
  told_ge,
  told_true,
  told_false,
)

pub ruleset picks = (pick_self, by_key, pick_true, pick_false, tests)

-- ** a test that code makes of tests: `||`, `&&` and `!`

pub or_then : (a b : Bool) → a ≡ true → true ≡ (a or b)
or_then a b e = sym (or_left a b e)

pub or_else : (x a b : Bool) → a ≡ false → x ≡ b → x ≡ (a or b)
or_else x a b e f = f ∙ sym (or_false a b e)

pub and_then : (x a b : Bool) → a ≡ true → x ≡ b → x ≡ (a and b)
unfolding ◌and◌
and_then x a b e f = rw e f

pub and_else : (x a b : Bool) → a ≡ false → x ≡ a → x ≡ (a and b)
and_else x a b e f = f ∙ e ∙ sym (and_left a b e)

pub not_no_lem : (a : Bool) → not a ≡ no a
unfolding no
not_no_lem true = refl
not_no_lem false = refl

pub not_neb : (m n : ℕ) → not (eqb m n) ≡ (m ≠ᵇ n)
unfolding ◌≠ᵇ◌
not_neb m n = not_no_lem (eqb m n)

pub ruleset bools = (not_neb, not_no_lem, or_then, or_else, and_then, and_else, tests)

-- what is made of a choice is a choice
pub pick_map : {A B : Type 0} (f : A → B) (t : Bool) (a b : A) → pick t (f a) (f b) ≡ f (pick t a b)
unfolding pick
pick_map f true a b = refl
pick_map f false a b = refl

pub at_true : {A : Type 0} (t : Bool) (a b : A) → t ≡ true → pick t a b ≡ a
unfolding pick
at_true t a b e = rw e

pub at_false : {A : Type 0} (t : Bool) (a b : A) → t ≡ false → pick t a b ≡ b
unfolding pick
at_false t a b e = rw e

-- what holds of each way holds of the choice
pub pick_all {κ} : {A : Type 0} (P : A → Type κ) (t : Bool) (a b : A) → (t ≡ true → P a) → (t ≡ false → P b) → P (pick t a b)
unfolding pick
pick_all P true a b f g = f refl
pick_all P false a b f g = g refl

-- the same for two choices by one test
pub pick_both {κ} : {A B : Type 0} (R : A → B → Type κ) (t : Bool) (a b : A) (v w : B) → (t ≡ true → R a v) → (t ≡ false → R b w) → R (pick t a b) (pick t v w)
unfolding pick
pick_both R true a b v w f g = f refl
pick_both R false a b v w f g = g refl

-- ** lists of rules

-- no test of the list held
abbrev pub NoneOf : {A : Type 0} → List (Bool × A) → Type 0
NoneOf [] = Unit {0}
NoneOf (r ∷ rs) = (r.0 ≡ false) × NoneOf rs

-- P of each thing that a list of rules can decide on
abbrev pub Each : {A : Type 0} → (A → Type 0) → List A → Type 0
Each P [] = Unit {0}
Each P (a ∷ rest) = P a × Each P rest

-- P of each line, where its test holds
abbrev pub EachLine : {A : Type 0} → (A → Type 0) → List (Bool × A) → Type 0
EachLine P [] = Unit {0}
EachLine P (r ∷ rs) = (r.0 ≡ true → P r.1) × EachLine P rs

pub decide_lines : {A B : Type 0} (P : B → Type 0) (f : A → B) (rs : List (Bool × A)) (z : B) → EachLine (λ (a : A). P (f a)) rs → (NoneOf rs → P z) → P (decide f rs z)
decide_lines P f [] z e h = h tt
decide_lines P f (r ∷ rs) z e h = pick_all P r.0 _ _ e.0 (λ n. decide_lines P f rs z e.1 (λ ns. h (n, ns)))

lines : {A : Type 0} (P : A → Type 0) (rs : List (Bool × A)) → Each P (named rs) → EachLine P rs
lines P [] h = tt
lines P (r ∷ rs) h = (λ _. h.0, lines P rs h.1)

pub decide_all : {A B : Type 0} (P : B → Type 0) (f : A → B) (rs : List (Bool × A)) (z : B) → Each (λ (a : A). P (f a)) (named rs) → (NoneOf rs → P z) → P (decide f rs z)
decide_all P f rs z e h = decide_lines P f rs z (lines (λ a. P (f a)) rs e) h

pub decide_both : {A B C : Type 0} (R : B → C → Type 0) (f : A → B) (g : A → C) (rs : List (Bool × A)) (z : B) (w : C)
    → ((a : A) → R (f a) (g a)) → (NoneOf rs → R z w) → R (decide f rs z) (decide g rs w)
decide_both R f g [] z w e h = h tt
decide_both R f g (r ∷ rs) z w e h = pick_both R r.0 _ _ _ _ (λ _. e r.1) (λ n. decide_both R f g rs z w e (λ ns. h (n, ns)))

-- a decision that none of the rules can have made
pub decide_none : {A B : Type 0} (f : A → B) (rs : List (Bool × A)) (z : B) → NoneOf rs → decide f rs z ≡ z
decide_none f [] z h = refl
decide_none f (r ∷ rs) z h = at_false r.0 _ _ h.0 ∙ decide_none f rs z h.1

-- what is decided, by what the gate says: what it is shut with, or what is behind it
module _ {A B : Type 0} (f : A → B) (rs : List (Bool × A)) (z : B) (x : Result (Unit {0}) A) (is : x ≡ gate rs) where
  abbrev Told : Result (Unit {0}) A → B → Type 0
  Told y d = ((a : A) → y ≡ Err a → f a ≡ d) × (y ≡ Ok tt → z ≡ d)

  told : Told (gate rs) (decide f rs z)
  told = decide_both Told Err f rs (Ok tt) z (λ a. (λ b e. sym (ap f (cc)), λ e. cc)) (λ _. (λ a e. cc, λ e. refl))

  pub refuses : (a : A) → x ≡ Err a → f a ≡ decide f rs z
  refuses a e = told.0 a (sym is ∙ e)

  pub passes : x ≡ Ok tt → z ≡ decide f rs z
  passes e = told.1 (sym is ∙ e)

-- and where it is open, no test held
pub none_of : {A : Type 0} (rs : List (Bool × A)) (x : Result (Unit {0}) A) → x ≡ gate rs → x ≡ Ok tt → NoneOf rs
none_of {A} rs x is e = decide_lines (λ (y : Result (Unit {0}) A). y ≡ Ok tt → NoneOf rs) Err rs (Ok tt) (shut rs) (λ ns _. ns) (sym is ∙ e)
  where
    shut : (ls : List (Bool × A)) → EachLine (λ (a : A). ◌≡◌ {A = Result (Unit {0}) A} (Err a) (Ok tt) → NoneOf rs) ls
    shut [] = tt
    shut (l ∷ ls) = (λ _ e. cc, shut ls)

-- ** lists of tests

abbrev pub AllOf : List Bool → Type 0
AllOf [] = Unit {0}
AllOf (t ∷ ts) = (t ≡ true) × AllOf ts

both_held : (t rest : Bool) → pick t rest false ≡ true → (t ≡ true) × (rest ≡ true)
unfolding pick
both_held true rest e = (refl, e)
both_held false rest e = absurd (false≢true e)

pub all_of : (ts : List Bool) → all ts ≡ true → AllOf ts
all_of [] e = tt
all_of (t ∷ ts) e = let h = both_held t (all ts) e in (h.0, all_of ts h.1)

pub of_all : (ts : List Bool) → AllOf ts → all ts ≡ true
of_all [] h = refl
of_all (t ∷ ts) h = at_true t _ _ h.0 ∙ of_all ts h.1
