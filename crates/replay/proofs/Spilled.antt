-- Nothing is spilled: since a call's promise fixes every byte of a lent buffer that was filled before it, the answer is the number, what is told and
-- the bytes, and never ends with the word for a byte that is changed and should not be.
-- Assumes nothing.
use Prim.Native.Nat.{ℕ, zero, suc, ◌≤◌}
use mathlib.Core.Path.{◌≡◌, refl, ap, ◌∙◌}
use mathlib.Core.Bool.{true}
use mathlib.Core.List.{List, [], ◌∷◌, ◌++◌}
use native.Mathlib.Omega.{arith}
use lib.ListN.{length, take, drop, replicate, length-append}
use lib.Seq.{length-take-le, take_at, drop_at}
use borrow.Author.Tests.{le-leb, eqb-false}
use Rattle.rules.specs.Choice.{◌and◌, pick, ◌=ᵇ◌}
use Rattle.rules.specs.Answers.{DONE, Leaves, as_ruled, unchanged, out_halted, leaves}
use Rattle.rules.proofs.Choice.{and_both, both_left, both_right, pick_both}
use Rattle.wire.specs.Bytes.{into}
use Rattle.port.specs.Answer.{Answer}
use Rattle.port.specs.Device.{Device, Result}
use Rattle.port.specs.Step.{Call, step}
use Rattle.port.specs.Laws.{LeftAs}
use Rattle.port.proofs.Calls.{leaves_table}
use Rattle.text_put.specs.Text.{ascii, ◌then◌}
use Rattle.text_put.specs.Numbers.{hex_text}
use Rattle.text_answers.specs.Answer.{FILL, filled, filled_behind, verdict_text, done_text, end_text, told_text}
use Rattle.unit.specs.Promise.{told_of, Tells}
use Rattle.unit.specs.declared.types.Told.{Told}
use Rattle.replay.specs.Play.{bytes_text, told}
use Rattle.replay.specs.Played.{shown}

-- ** a buffer that is filled, and parts of it

pub filled_fill : (n : ℕ) → filled (replicate n FILL) ≡ true
unfolding filled ◌and◌
filled_fill zero = refl
filled_fill (suc n) = filled_fill n

filled_take : (n : ℕ) (b : List ℕ) → filled b ≡ true → filled (take n b) ≡ true
unfolding filled
filled_take zero b e = refl
filled_take (suc n) [] e = refl
filled_take (suc n) (x ∷ b) e = and_both _ _ (both_left _ _ e) (filled_take n b (both_right _ _ e))

filled_drop : (n : ℕ) (b : List ℕ) → filled b ≡ true → filled (drop n b) ≡ true
unfolding filled
filled_drop zero b e = e
filled_drop (suc n) [] e = refl
filled_drop (suc n) (x ∷ b) e = filled_drop n b (both_right _ _ e)

-- behind bytes that went into it, it is as it was filled
filled_into : (s b : List ℕ) → filled b ≡ true → filled_behind (into s b) (length s) ≡ true
unfolding filled_behind
filled_into s b e =
    let rest = drop (length s) b in
    let fits : length s ≤ length (s ++ rest) = rw length-append (omega arith) in
    let untouched : filled (drop (length s) (s ++ rest)) ≡ true = rw (drop_at s rest (length s) refl) (filled_drop (length s) b e) in
    and_both _ _ (le-leb (length s) (length (s ++ rest)) fits) untouched

-- ** an answer

module _ (a : Answer) (b : List ℕ) (full : filled b ≡ true) (bare : (a.verdict.number ≡ DONE → ⊥) → a.bytes ≡ []) where
  done_shown : (verdict_text a.verdict then ascii " " then hex_text (take (length a.bytes) (into a.bytes b)) then end_text (filled_behind (into a.bytes b) (length a.bytes)))
      ≡ (verdict_text a.verdict then ascii " " then hex_text a.bytes then ascii "\n")
  unfolding end_text pick
  done_shown = rw (take_at a.bytes (drop (length a.bytes) b) (length a.bytes) refl, filled_into a.bytes b full) refl

  refused_shown : (a.verdict.number ≡ DONE → ⊥) → (verdict_text a.verdict then end_text (filled (into a.bytes b))) ≡ done_text a.verdict
  unfolding end_text pick done_text
  refused_shown n = rw (bare n, full) refl

  nothing_spilled : told_text a.verdict (length a.bytes) (into a.bytes b) ≡ bytes_text a
  unfolding told_text bytes_text
  nothing_spilled = pick_both ◌≡◌ (a.verdict.number =ᵇ DONE) _ _ _ _ (λ _. done_shown) (λ e. refused_shown (eqb-false _ _ e))

-- ** a call

-- a refusal writes no byte
refusal_bare : (u : Device) (c : Call) → ((step u c).answer.verdict.number ≡ DONE → ⊥) → (step u c).answer.bytes ≡ []
refusal_bare u c n = by (leaves (step u c).answer.verdict.number) (leaves_table u c n)
  where
    by : (l : Leaves) → LeftAs l u (step u c) → (step u c).answer.bytes ≡ []
    by as_ruled k = absurd k
    by unchanged k = ap (λ (r : Result). r.answer.bytes) k
    by out_halted k = ap (λ (r : Result). r.answer.bytes) k

step_shown : (u : Device) (c : Call) (b b' : List ℕ) (t : Told) → filled b ≡ true → Tells (step u c) b b' t → shown t b' ≡ told (step u c)
step_shown u c b b' t full h =
    let q = step u c in
    ap (λ (x : Told). shown x b') h.told
    ∙ ap (λ (x : List ℕ). shown (told_of q) x) h.buffer
    ∙ ap (λ (x : List ℕ). record { unit = q.unit; text = x }) (nothing_spilled q.answer b full (refusal_bare u c))

-- the same of a call that was lent the first n bytes of a buffer
pub lent_shown : (u : Device) (call : ℕ → Call) (b : List ℕ) (n : ℕ) (b' : List ℕ) (t : Told) → n ≤ length b → filled b ≡ true
    → Tells (step u (call (length (take n b)))) (take n b) b' t → shown t b' ≡ told (step u (call n))
lent_shown u call b n b' t fits full h =
    step_shown u (call (length (take n b))) (take n b) b' t (filled_take n b full) h ∙ ap (λ (k : ℕ). told (step u (call k))) (length-take-le n b fits)
