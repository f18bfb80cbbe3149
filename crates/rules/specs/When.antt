-- "The first that applies decides" (01) as a statement about a number: the numbers in their order, each with the condition that it is given for.
-- A condition is a type: it says nothing of the others, of their order, or of how a port finds out.
-- Assumes nothing.
use Rattle.std.specs.Prelude.{ℕ, ◌≡◌, ◌⊎◌}

infixr 2 ◌when◌∣◌
-- it does not hold
abbrev pub Not : Type 0 → Type 0
Not A = A → ⊥

-- `n` is `m` where the condition holds; else the lines below say what it is
abbrev pub ◌when◌∣◌ : ℕ → Type 0 → (ℕ → Type 0) → ℕ → Type 0
◌when◌∣◌ m given below n = ((n ≡ m) × given) ⊎ (Not given × below n)

-- where no condition holds it is 0
abbrev pub else_0 : ℕ → Type 0
else_0 n = n ≡ 0
