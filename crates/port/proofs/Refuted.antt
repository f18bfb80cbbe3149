-- The statement is refuted, by computation, of each idle unit: one answer of one row is not the paper's.
-- Assumes nothing.
use Prim.Native.Nat.{ℕ, ◌%◌}
use mathlib.Core.Path.{◌≡◌, ap}
use mathlib.Core.List.{List, []}
use native.Mathlib.Omega.{arith}
use lib.ListN.{length, get_or}
use Rattle.port.specs.Answer.{Answer, numbered}
use Rattle.port.specs.Cases.{cases, played, Cases}
use Rattle.port.specs.Idle.{constant, refusing, idling, doing_nothing, pretending, made_up}
use Rattle.port.proofs.Opened.{computed}

-- answer j of row i
abbrev at : ℕ → ℕ → List (List Answer) → Answer
at i j rows = get_or (get_or rows i []) j (numbered 0)

-- case a: SET_CONFIGURATION is answered with no bytes, and the message has six
pub no_constant_answer : (a : Answer) → Cases (constant a) → ⊥
unfolding computed cases played constant
no_constant_answer a e =
    let empty : length a.bytes ≡ 0 = ap (λ (rows : List (List Answer)). length (at 0 0 rows).bytes) e in
    let six : length a.bytes ≡ 6 = ap (λ (rows : List (List Answer)). length (at 0 2 rows).bytes) e in
    omega arith

pub no_refusing : (n : ℕ) → Cases (refusing n) → ⊥
no_refusing n e = no_constant_answer (numbered n) e

-- case a: there is nothing to take behind the packet; or the packet is answered as before SET_CONFIGURATION
pub no_idling : Cases idling → ⊥
unfolding computed cases played idling
no_idling e = let none : ◌≡◌ {A = ℕ} 16 0 = ap (λ (rows : List (List Answer)). (at 0 2 rows).verdict.number) e in omega arith

pub no_doing_nothing : Cases doing_nothing → ⊥
unfolding computed cases played doing_nothing
no_doing_nothing e = let two : ◌≡◌ {A = ℕ} 2 0 = ap (λ (rows : List (List Answer)). (at 0 1 rows).verdict.number) e in omega arith

-- case c: after the first header there is nothing to take yet
pub no_pretending : Cases pretending → ⊥
unfolding computed cases played pretending
no_pretending e = let none : ◌≡◌ {A = ℕ} 0 16 = ap (λ (rows : List (List Answer)). (at 2 2 rows).verdict.number) e in omega arith

-- case g and once more: 52 data bytes came, and then 116, so that no one count is right
pub no_made_up_count : (n : ℕ) → Cases (made_up n) → ⊥
unfolding computed cases played made_up
no_made_up_count n e =
    let one : n % 256 ≡ 0x34 = ap (λ (rows : List (List Answer)). get_or (at 9 3 rows).bytes 4 0) e in
    let two : n % 256 ≡ 0x74 = ap (λ (rows : List (List Answer)). get_or (at 10 4 rows).bytes 4 0) e in
    omega arith
