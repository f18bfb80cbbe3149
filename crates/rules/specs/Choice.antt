-- How a rule is written down. "The first that applies decides" (01) is a list of lines `test ⇒ number`, read from the top.
-- Its laws are in proofs/Choice.antt. Assumes nothing.
use Rattle.std.specs.Prelude.{ℕ, Bool, true, false, List, [], ◌∷◌, Result, Ok, Err, ltb, leb, eqb}

infix 50 ◌=ᵇ◌ ◌≠ᵇ◌ ◌<ᵇ◌ ◌≤ᵇ◌
infixr 30 ◌and◌
infixr 25 ◌or◌
infixr 3 ◌&◌
infixr 2 ◌⇒◌∣◌
-- ** tests

abbrev pub ◌=ᵇ◌ : ℕ → ℕ → Bool
m =ᵇ n = eqb m n

abbrev pub ◌<ᵇ◌ : ℕ → ℕ → Bool
m <ᵇ n = ltb m n

abbrev pub ◌≤ᵇ◌ : ℕ → ℕ → Bool
m ≤ᵇ n = leb m n

unfoldable pub no : Bool → Bool
no true = false
no false = true

unfoldable pub ◌≠ᵇ◌ : ℕ → ℕ → Bool
unfolding no
m ≠ᵇ n = no (eqb m n)

unfoldable pub ◌or◌ : Bool → Bool → Bool
true or b = true
false or b = b

unfoldable pub ◌and◌ : Bool → Bool → Bool
true and b = b
false and b = false

-- ** choices

-- the first where the test holds, else the second
unfoldable pub pick : {A : Type 0} → Bool → A → A → A
pick true a b = a
pick false a b = b

-- a line of a list of rules, and the lines below it
abbrev pub ◌⇒◌∣◌ : {A : Type 0} → Bool → A → List (Bool × A) → List (Bool × A)
t ⇒ a ∣ rs = (t, a) ∷ rs

-- the first line whose test holds decides, by what `f` makes of it; where none holds, `z`
abbrev pub decide : {A B : Type 0} → (A → B) → List (Bool × A) → B → B
decide f [] z = z
decide f (r ∷ rs) z = pick r.0 (f r.1) (decide f rs z)

-- the same where a line holds the decision itself
abbrev pub first : {A : Type 0} → List (Bool × A) → A → A
first rs z = decide (λ a. a) rs z

-- a gate: shut by the first line whose test holds, with what it says; open where none does
abbrev pub gate : {A : Type 0} → List (Bool × A) → Result (Unit {0}) A
gate rs = decide Err rs (Ok tt)

-- a line of a list of tests, and the lines below it
abbrev pub ◌&◌ : Bool → List Bool → List Bool
t & ts = t ∷ ts

-- every test of a list holds
abbrev pub all : List Bool → Bool
all [] = true
all (t ∷ ts) = pick t (all ts) false

-- where the first holds, the second does too
abbrev pub implies : Bool → Bool → Bool
implies a b = no a or b

-- what a list of rules can decide on
abbrev pub named : {A : Type 0} → List (Bool × A) → List A
named [] = []
named (r ∷ rs) = r.1 ∷ named rs
