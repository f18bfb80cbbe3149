-- A Bulk-IN transfer as a reader has it (Reply): its packets one by one, and its data, which is the front of what is unsent.
-- Assumes nothing.
use Prim.Native.Nat.{ℕ, zero, suc, ◌-◌, ◌/◌, ◌≤◌, ◌<◌, min}
use mathlib.Core.Path.{◌≡◌, refl, sym, ap, ◌∙◌}
use mathlib.Core.List.{List, [], ◌∷◌}
use mathlib.Core.Logic.{⊎_elim}
use native.Mathlib.Nat.{sub-zero, zero-sub, suc-sub-suc, div-eq_of_lt, div-eq-sub-div}
use native.Mathlib.Numerals.{add-one}
use native.Mathlib.Omega.{arith}
use lib.ListN.{length, take, drop, get_or, length-take, length-drop}
use lib.Seq.{take_all, take-length, take-nil, get_or-take, take-take}
use borrow.Author.Tests.{ltb-true, ltb-false}
use Rattle.rules.specs.Choice.{◌=ᵇ◌, ◌<ᵇ◌, pick}
use Rattle.rules.proofs.Choice.{pick_all}
use Rattle.port.specs.Reply.{Asked, through, portion, last_of, cut_in, in_packets, sending, remaining}
use Rattle.port.proofs.KeepsOut.{cases}

-- ** parts of parts

pub drop_take : (m n : ℕ) (s : List ℕ) → drop m (take n s) ≡ take (n - m) (drop m s)
drop_take zero n s = ap (λ (k : ℕ). take k s) (sym (sub-zero n))
drop_take (suc m) zero s = ap (λ (k : ℕ). take k (drop (suc m) s)) (sym (zero-sub (suc m)))
drop_take (suc m) (suc n) [] = sym (take-nil (suc n - suc m))
drop_take (suc m) (suc n) (b ∷ s) = drop_take m n s ∙ ap (λ (k : ℕ). take k (drop m s)) (sym (suc-sub-suc n m))

-- ** packets

pub cut_last : (P : ℕ) (s : List ℕ) → length s < P → in_packets P s ≡ s ∷ []
unfolding in_packets
cut_last P s l = ap (λ (n : ℕ). cut_in n P s) (div-eq_of_lt l)

pub cut_more : (P : ℕ) (s : List ℕ) → 0 < P → P ≤ length s → in_packets P s ≡ take P s ∷ in_packets P (drop P s)
unfolding in_packets
cut_more P s z l =
    ap (λ (n : ℕ). cut_in n P s) (div-eq-sub-div z l ∙ add-one ((length s - P) / P)) ∙ ap (λ (n : ℕ). take P s ∷ cut_in (n / P) P (drop P s)) (sym (length-drop P s))

-- a transfer has a packet
pub some_packet : (P : ℕ) (s : List ℕ) → 0 < P → remaining (in_packets P s) ≡ sending (in_packets P s)
some_packet P s z =
    ⊎_elim (λ e. rw (cut_last P s (ltb-true _ _ e))) (λ e. rw (cut_more P s z (ltb-false _ _ e))) (cases (length s <ᵇ P))

-- ** data

-- it is the front of the other list
abbrev pub Front : List ℕ → List ℕ → Type 0
Front d s = d ≡ take (length d) s

through_front : (char : ℕ) (s : List ℕ) → Front (through char s) s
through_front char [] = take-length []
through_front char (b ∷ bs) = pick_all (λ (d : List ℕ). Front (b ∷ d) (b ∷ bs)) (b =ᵇ char) _ _ (λ _. refl) (λ _. ap (λ (l : List ℕ). b ∷ l) (through_front char bs))

-- so is a front of it
front_front : (m : ℕ) (d s : List ℕ) → Front d s → Front (take m d) s
front_front m d s f =
    ⊎_elim
    (λ e.
    let less : m < length d = ltb-true _ _ e in
    let long : length (take m d) ≡ m = let k = length-take m d in omega arith in
    ap (λ (l : List ℕ). take m l) f ∙ take-take m (length d) s (omega arith) ∙ ap (λ (n : ℕ). take n s) (sym long))
    (λ e. let all = take_all m d (ltb-false _ _ e) in all ∙ f ∙ ap (λ (l : List ℕ). take (length l) s) (sym all))
    (cases (m <ᵇ length d))

-- what a REQUEST lets go, but for its TransferSize
abbrev pub reach : Asked → List ℕ → List ℕ
reach a s = pick a.stops (through a.char s) s

pub reach_front : (a : Asked) (s : List ℕ) → Front (reach a s) s
reach_front a s = pick_all (λ (d : List ℕ). Front d s) a.stops _ _ (λ _. through_front a.char s) (λ _. sym (take-length s))

pub portion_front : (a : Asked) (s : List ℕ) → Front (portion a s) s
unfolding portion
portion_front a s = front_front a.most (reach a s) s (reach_front a s)

pub portion_long : (a : Asked) (s : List ℕ) → length (portion a s) ≡ min a.most (length (reach a s))
unfolding portion
portion_long a s = length-take a.most (reach a s)

reach_some : (a : Asked) (s : List ℕ) → 1 ≤ length s → 1 ≤ length (reach a s)
reach_some a [] l = absurd (omega arith)
reach_some a (b ∷ s) l = pick_all (λ (d : List ℕ). 1 ≤ length d) a.stops _ _ (λ _. omega arith) (λ _. l)

pub portion_some : (a : Asked) (s : List ℕ) → 1 ≤ a.most → 1 ≤ length s → 1 ≤ length (portion a s)
portion_some a s m l = let k = portion_long a s in let r = reach_some a s l in omega arith

-- ** the last byte

last_at : (b : ℕ) (d : List ℕ) → last_of b d ≡ get_or (b ∷ d) (length d) 0
last_at b [] = refl
last_at b (c ∷ d) = last_at c d

pub last_front : (d s : List ℕ) → Front d s → 1 ≤ length d → last_of 0 d ≡ get_or s (length d - 1) 0
last_front [] s f l = absurd (omega arith)
last_front (c ∷ d) s f l =
    last_at c d ∙ ap (λ (t : List ℕ). get_or t (length d) 0) f ∙ get_or-take (suc (length d)) s (length d) 0 (omega arith) ∙ ap (λ (n : ℕ). get_or s n 0) (omega arith)
