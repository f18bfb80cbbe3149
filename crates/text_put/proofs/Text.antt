-- The laws of putting text. `typing` follows a run of puts: what stands in front of the last text is put first, and the part that a
-- test chooses is the one that was put. `typed_fits` says in closed form what becomes of a buffer that has room.
-- Assumes nothing.
use Prim.Native.Nat.{ℕ, suc, ◌+◌, ◌≤◌, ◌<◌}
use mathlib.Core.Path.{◌≡◌, refl, sym, ap, ◌∙◌}
use mathlib.Core.List.{List, [], ◌∷◌, ◌++◌, append-nil, append_assoc}
use native.Mathlib.Omega.{arith}
use native.Mathlib.Numerals.{add-one}
use native.Mathlib.Nat.{add-zero}
use lib.ListN.{length, get_or, take, drop, set, length-set}
use lib.Seq.{take-suc, sets, sets-eq}
use borrow.Author.Tests.{lt-ltb, le-ltb, ltb-true}
use Rattle.rules.proofs.Choice.{at_true, at_false, pick_all, tests}
use Rattle.text_put.specs.Text.{Page, Within, typed_byte, typed, spelled, ◌then◌}

pub typed_append : (p : Page) (s t : List ℕ) → typed p (s ++ t) ≡ typed (typed p s) t
unfolding typed
typed_append p [] t = refl
typed_append p (b ∷ s) t = typed_append (typed_byte p b) s t

-- ** a run of puts

pub typed_none : (p : Page) → typed p [] ≡ p
unfolding typed
typed_none p = refl

-- what stands in front of the last text is put first
pub typed_then : (p : Page) (s t : List ℕ) → typed p (s then t) ≡ typed (typed p s) t
unfolding ◌then◌
typed_then p s t = typed_append p s t

pub ruleset typing = (typed_none, typed_then, at_true, at_false, tests)

-- ** one byte

pub typed_byte_lem : (b : List ℕ) (at x : ℕ) → at < length b → (set b at x, at + 1) ≡ typed (b, at) (x ∷ [])
unfolding typed typed_byte
typed_byte_lem b at x h = sym (at_true _ _ _ (lt-ltb at (length b) h))

pub typed_over : (b : List ℕ) (at x : ℕ) → length b ≤ at → (b, at) ≡ typed (b, at) (x ∷ [])
unfolding typed typed_byte
typed_over b at x h = sym (at_false _ _ _ (le-ltb at (length b) h))

-- ** a text put byte by byte

pub typed_more : (p : Page) (text : List ℕ) (i : ℕ) → i < length text → typed p (take (i + 1) text) ≡ typed (typed p (take i text)) (get_or text i 0 ∷ [])
typed_more p text i h = rw (add-one, take-suc text i 0) (typed_append p _ _)

spelled_append : (f : ℕ → List ℕ) (s : List ℕ) (b : ℕ) → spelled f (s ++ (b ∷ [])) ≡ spelled f s ++ f b
unfolding spelled
spelled_append f [] b = append-nil (f b)
spelled_append f (a ∷ s) b = ap (λ (t : List ℕ). f a ++ t) (spelled_append f s b) ∙ sym (append_assoc (f a) (spelled f s) (f b))

-- the same where each byte is written as a text of its own
pub spelled_none : (f : ℕ → List ℕ) (p : Page) → typed p (spelled f []) ≡ p
unfolding typed spelled
spelled_none f p = refl

pub spelled_more : (f : ℕ → List ℕ) (p : Page) (bytes : List ℕ) (i : ℕ) → i < length bytes
    → typed p (spelled f (take (i + 1) bytes)) ≡ typed (typed p (spelled f (take i bytes))) (f (get_or bytes i 0))
spelled_more f p bytes i h = rw (add-one, take-suc bytes i 0, spelled_append) (typed_append p _ _)

-- ** where there is room

typed_sets : (b : List ℕ) (at : ℕ) (text : List ℕ) → at + length text ≤ length b → typed (b, at) text ≡ (sets b at text, at + length text)
unfolding typed
typed_sets b at [] h = ap (λ (n : ℕ). (b, n)) (sym (add-zero at))
typed_sets b at (x ∷ text) h =
    let e : at + 1 + length text ≡ at + suc (length text) = omega arith in
    let room : at + 1 + length text ≤ length (set b at x) = rw length-set (omega arith) in
    ap (λ (q : Page). typed q text) (sym (typed_byte_lem b at x (omega arith)))
    ∙ typed_sets (set b at x) (at + 1) text room
    ∙ ap (λ (n : ℕ). (sets (set b at x) (at + 1) text, n)) e
    ∙ ap (λ (k : ℕ). (sets (set b at x) k text, at + suc (length text))) (add-one at)

-- the text stands from the place on, and every other byte is as it was
pub typed_fits : (b : List ℕ) (at : ℕ) (text : List ℕ) → at + length text ≤ length b
    → typed (b, at) text ≡ (take at b ++ text ++ drop (at + length text) b, at + length text)
typed_fits b at text h = typed_sets b at text h ∙ ap (λ (l : List ℕ). (l, at + length text)) (sets-eq text b at h)

-- ** a page that begins within its buffer stays within it

byte_within : (p : Page) (b : ℕ) → Within p → Within (typed_byte p b)
unfolding typed_byte
byte_within p b h = pick_all Within _ _ _ (λ e. let l = ltb-true _ _ e in rw length-set (omega arith)) (λ _. h)

pub typed_within : (p : Page) (text : List ℕ) → Within p → Within (typed p text)
unfolding typed
typed_within p [] h = h
typed_within p (b ∷ text) h = typed_within (typed_byte p b) text (byte_within p b h)
