-- What an accepted packet leaves is a function of its bytes; for the first packet of those that are to come it is the unit that waits for the others.
-- Assumes nothing.
use Prim.Native.Nat.{ℕ, ◌+◌, ◌-◌, ◌≤◌, ◌<◌}
use mathlib.Core.Path.{◌≡◌, refl, sym, ap, ◌∙◌, subst}
use mathlib.Core.List.{List, [], ◌∷◌, ◌++◌, append-nil, append_assoc}
use mathlib.Core.Logic.{⊎_elim}
use native.Mathlib.Omega.{arith}
use lib.ListN.{length, take, drop, length-append, length-take}
use borrow.Author.Tests.{eqb-true, eqb-false, eq-eqb, ne_eqb, lt-ltb, le-ltb}
use Rattle.rules.specs.Choice.{◌=ᵇ◌, ◌<ᵇ◌, pick}
use Rattle.rules.specs.When.{Not}
use Rattle.rules.proofs.Choice.{at_true, at_false}
use Rattle.wire.specs.When.{at, four_at}
use Rattle.port.proofs.KeepsOut.{cases}
use Rattle.claims.specs.Command.{Piece, command, header, mark, sending}
use Rattle.claims.proofs.Digits.{in_four}
use Rattle.claims.proofs.Effects.{View, holds, Taken, empty, other, all_at_once, begins, ends, goes_on}
use Rattle.claims.proofs.Follows.{Follows, between}
use Rattle.claims.proofs.First.{Bit, all, some, First, an_empty, a_header, more}

-- of a transfer that lacks `left`, these bytes have come
abbrev landed : View → ℕ → ℕ → List ℕ → View
landed w left end r = pick (length r <ᵇ left) (holds w (w.held ++ r) (left - length r) end 0) (holds w (w.held ++ take left r) 0 0 end)

unfoldable pub landing : View → List ℕ → View
landing w s = pick (w.left =ᵇ 0) (pick (at s 0 =ᵇ 1) (landed w (four_at s 4) (at s 8) (drop 12 s)) w) (landed w w.left w.end s)

module _ (w : View) where
  landed_all : (left end : ℕ) (r : List ℕ) → left ≤ length r → landed w left end r ≡ holds w (w.held ++ take left r) 0 0 end
  landed_all left end r enough = at_false _ _ _ (le-ltb (length r) left enough)

  landed_some : (left end : ℕ) (r : List ℕ) → length r < left → landed w left end r ≡ holds w (w.held ++ r) (left - length r) end 0
  landed_some left end r less = at_true _ _ _ (lt-ltb (length r) left less)

  module _ (s : List ℕ) where
    at_header : w.left ≡ 0 → (tag size end : ℕ) (r : List ℕ) → size ≤ 1024 → s ≡ header tag size end ++ r → landing w s ≡ landed w size end r
    unfolding landing
    at_header closed tag size end r fits is =
        at_true _ _ _ (eq-eqb w.left 0 closed)
        ∙ at_true _ _ _ (eq-eqb (at s 0) 1 (ap (λ (l : List ℕ). at l 0) is))
        ∙ (λ i. landed w ((ap (λ (l : List ℕ). four_at l 4) is ∙ in_four size fits) i) (at (is i) 8) (drop 12 (is i)))

    at_other : w.left ≡ 0 → Not (at s 0 ≡ 1) → landing w s ≡ w
    unfolding landing
    at_other closed n = at_true _ _ _ (eq-eqb w.left 0 closed) ∙ at_false _ _ _ (ne_eqb (at s 0) 1 n)

    at_more : Not (w.left ≡ 0) → landing w s ≡ landed w w.left w.end s
    unfolding landing
    at_more n = at_false _ _ _ (ne_eqb w.left 0 n)

    -- any accepted packet
    pub taken_landing : (x : View) → Taken w s x → x ≡ landing w s
    taken_landing x (empty is closed e) = e ∙ sym (at_other closed (λ z. let k : ◌≡◌ {A = ℕ} 0 1 = ap (λ (l : List ℕ). at l 0) (sym is) ∙ z in omega arith))
    taken_landing x (other is closed none e) =
        e ∙ sym (at_other closed (⊎_elim (λ k z. let a : ◌≡◌ {A = ℕ} 2 1 = ap (λ (l : List ℕ). at l 0) (sym k.bytes) ∙ z in omega arith)
        (λ k z. let a : ◌≡◌ {A = ℕ} 128 1 = ap (λ (l : List ℕ). at l 0) (sym k.bytes) ∙ z in omega arith) is))
    taken_landing x (all_at_once o closed long fits e) =
        e ∙ sym (at_header closed o.tag o.size o.end (drop 12 s) (let k = o.room in omega arith) o.bytes ∙ landed_all o.size o.end (drop 12 s) (omega arith))
    taken_landing x (begins o closed full less e) =
        e ∙ sym (at_header closed o.tag o.size o.end (drop 12 s) (let k = o.room in omega arith) o.bytes ∙ landed_some o.size o.end (drop 12 s) less)
    taken_landing x (ends opened long fits e) = e ∙ sym (at_more opened ∙ landed_all w.left w.end s (omega arith))
    taken_landing x (goes_on opened full less e) = e ∙ sym (at_more opened ∙ landed_some w.left w.end s less)

-- ** how far a command is: packets `q` are to come, and with them the rest of `m`; or it is all here

pub data Stand (P : ℕ) (w : View) (q : List (List ℕ)) (m : List ℕ) : Type 0 where
  lacks : (t : List ℕ) → w.ready ≡ 0 → Follows P w.left w.end (length w.held) q t → w.held ++ t ≡ m → Stand P w q m
  has_all : w.ready ≡ 1 → q ≡ [] → w.held ≡ m → Stand P w q m

module _ (P : ℕ) (w : View) (q : List (List ℕ)) (m : List ℕ) where
  -- what is left to come of a transfer that is complete, by its mark
  marked_none : (end n : ℕ) (t : List ℕ) → end ≡ 1 → Follows P 0 end n q t → (q ≡ []) × (t ≡ [])
  unfolding sending
  marked_none end n t e f = by f.pieces (f.mark_is ∙ e) (between P n q t end f).0 (between P n q t end f).1
    where
      by : (ps : List Piece) → mark ps ≡ 1 → q ≡ sending P ps → t ≡ command ps → (q ≡ []) × (t ≡ [])
      by [] k a b = (a, b)
      by (p ∷ ps) k a b = absurd (omega arith)

  stand_all : (left end : ℕ) (d t t' : List ℕ) → end ≤ 1 → length d ≡ left → w.held ++ t ≡ m → t ≡ d ++ t' → Follows P 0 end (length w.held + left) q t'
      → Stand P (holds w (w.held ++ d) 0 0 end) q m
  stand_all left end d t t' flag long whole is f =
      let l = length-append w.held d in
      let parts : (w.held ++ d) ++ t' ≡ m = append_assoc w.held d t' ∙ ap (λ (r : List ℕ). w.held ++ r) (sym is) ∙ whole in
      ⊎_elim
      (λ e. let z : end ≡ 0 = eqb-true _ _ e in
      lacks t' z (subst (λ (k : ℕ). Follows P 0 0 k q t') (sym (l ∙ ap (λ (k : ℕ). length w.held + k) long)) (subst (λ (k : ℕ). Follows P 0 k (length w.held + left) q t') z f)) parts)
      (λ e. let n = eqb-false end 0 e in let z : end ≡ 1 = omega arith in let k = marked_none end _ t' z f in
      has_all z k.0 (sym (append-nil (w.held ++ d)) ∙ ap (λ (r : List ℕ). (w.held ++ d) ++ r) (sym k.1) ∙ parts))
      (cases (end =ᵇ 0))

  stand_some : (left end : ℕ) (r t t' : List ℕ) → w.held ++ t ≡ m → t ≡ r ++ t' → Follows P (left - length r) end (length w.held + length r) q t'
      → Stand P (holds w (w.held ++ r) (left - length r) end 0) q m
  stand_some left end r t t' whole is f =
      lacks t' refl (subst (λ (k : ℕ). Follows P (left - length r) end k q t') (sym (length-append w.held r)) f)
      (append_assoc w.held r t' ∙ ap (λ (l : List ℕ). w.held ++ l) (sym is) ∙ whole)

  stand_bit : (room left end : ℕ) (r t : List ℕ) → end ≤ 1 → w.held ++ t ≡ m → Bit P room left end (length w.held) r q t → Stand P (landed w left end r) q m
  stand_bit room left end r t flag whole (all t' long fits e f) =
      let k = length-take left r in
      subst (λ (v : View). Stand P v q m) (sym (landed_all w left end r (omega arith))) (stand_all left end (take left r) t t' flag (omega arith) whole e f)
  stand_bit room left end r t flag whole (some t' full less e f) = subst (λ (v : View). Stand P v q m) (sym (landed_some w left end r less)) (stand_some left end r t t' whole e f)

  -- behind the first of the packets that are to come
  pub stand_on : (s t : List ℕ) → w.end ≤ 1 → w.ready ≡ 0 → w.held ++ t ≡ m → First P w.left w.end (length w.held) s q t → Stand P (landing w s) q m
  stand_on s t flag unready whole (an_empty is closed f) =
      subst (λ (v : View). Stand P v q m) (sym (at_other w s closed (λ z. let k : ◌≡◌ {A = ℕ} 0 1 = ap (λ (l : List ℕ). at l 0) (sym is) ∙ z in omega arith))) (lacks t unready f whole)
  stand_on s t flag unready whole (a_header closed h) =
      subst (λ (v : View). Stand P v q m) (sym (at_header w s closed h.tag h.size h.end h.behind (let k = h.room in omega arith) h.bytes))
      (stand_bit (P - 12) h.size h.end h.behind t h.flag whole h.bit)
  stand_on s t flag unready whole (more opened b) = subst (λ (v : View). Stand P v q m) (sym (at_more w s opened)) (stand_bit P w.left w.end s t flag whole b)
