-- Copies into lists: into the first of two, into the second, over all of one, and pieces one behind the other.
-- Assumes nothing.
use Prim.Native.Nat.{ℕ, ◌+◌, ◌≤◌}
use mathlib.Core.Path.{◌≡◌, sym, ap, ◌∙◌}
use mathlib.Core.List.{List, [], ◌∷◌, ◌++◌, append_assoc, append-nil}
use native.Mathlib.Omega.{arith}
use native.Mathlib.Nat.{add_assoc}
use lib.ListN.{length, length-append, drop_of_length-le}
use lib.Seq.{paste, paste-zero, length-paste, take-append-le, drop-append-le, take-append-add, drop-append-add}
use lib.Seq.{take_all, drop-drop, take-paste, drop-paste}

pub paste_left : (x y : List ℕ) (at : ℕ) (s : List ℕ) (n : ℕ) → at + n ≤ length x → paste (x ++ y) at s n ≡ paste x at s n ++ y
paste_left x y at s n h = rw (take-append-le at x y (omega arith), drop-append-le (at + n) x y h) (simp append_assoc)

pub paste_right : (x y : List ℕ) (at : ℕ) (s : List ℕ) (n : ℕ) → paste (x ++ y) (length x + at) s n ≡ x ++ paste y at s n
paste_right x y at s n = rw (take-append-add, add_assoc (length x) at n, drop-append-add) (simp append_assoc)

pub paste_all : (x s : List ℕ) (n : ℕ) → length x ≡ n → length s ≡ n → paste x 0 s n ≡ s
paste_all x s n e d = rw (take_all n s (omega arith), drop_of_length-le x {i = 0 + n} (omega arith), append-nil)

-- one copy behind another
behind : (d : List ℕ) (at : ℕ) (s t : List ℕ) (m : ℕ) → at + length s ≤ length d → paste (paste d at s (length s)) (at + length s) t m ≡ paste d at (s ++ t) (length s + m)
behind d at s t m h =
    let n = length s in
    rw (
      ← drop-drop m (at + n) (paste d at s n),
      take-paste d at s n (omega arith) (omega arith),
      drop-paste d at s n (omega arith) (omega arith),
      drop-drop m (at + n) d,
      add_assoc at n m,
      take-append-add s t m,
      take_all n s (omega arith),
    )
    (simp append_assoc)

-- pieces, each behind the one before it, are one copy
abbrev pub joined : List (List ℕ) → List ℕ
joined [] = []
joined (s ∷ ss) = s ++ joined ss

pub data Pieces : List ℕ → ℕ → List (List ℕ) → List ℕ → Type 0 where
  none : {d : List ℕ} {at : ℕ} → Pieces d at [] d
  piece : {d : List ℕ} {at : ℕ} {s : List ℕ} {ss : List (List ℕ)} {v w : List ℕ} → v ≡ paste d at s (length s) → Pieces v (at + length s) ss w → Pieces d at (s ∷ ss) w

pub paste_pieces : (d : List ℕ) (at : ℕ) (ss : List (List ℕ)) (w : List ℕ) → Pieces d at ss w → at + length (joined ss) ≤ length d → w ≡ paste d at (joined ss) (length (joined ss))
paste_pieces d at [] w none h = paste-zero d at []
paste_pieces d at (s ∷ ss) w (piece {v = v} e p) h =
    let both = length-append s (joined ss) in
    let same : length v ≡ length d = ap length e ∙ length-paste d at s (length s) (omega arith) (omega arith) in
    paste_pieces v (at + length s) ss w p (omega arith)
    ∙ ap (λ (a : List ℕ). paste a (at + length s) (joined ss) (length (joined ss))) e
    ∙ behind d at s (joined ss) (length (joined ss)) (omega arith)
    ∙ ap (paste d at (s ++ joined ss)) (sym both)
