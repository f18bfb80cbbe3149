-- What is to come of a command that has begun, as packets and as data, and what a packet of it leaves to come.
-- Assumes nothing.
use Prim.Native.Nat.{ℕ, suc, ◌+◌, ◌-◌, ◌%◌, ◌≤◌, ◌<◌}
use mathlib.Core.Path.{◌≡◌, refl, sym, ap, ◌∙◌, subst}
use mathlib.Core.List.{List, [], ◌∷◌, ◌++◌, append_assoc}
use native.Mathlib.Omega.{arith}
use lib.ListN.{length, take, drop, length-append, take-append-drop}
use Rattle.port.specs.When.{padded}
use Rattle.claims.specs.Command.{Piece, command, Aligns, Good, header, transfer, packets, mark, sending}
use Rattle.claims.proofs.Cuts.{packets_none, packets_full, packets_last, aligns_both, parted}

pub nil : {A : Type 0} (l : List A) → length l ≡ 0 → l ≡ []
nil [] e = refl
nil (a ∷ l) e = absurd (omega arith)

-- with `n` bytes held, the open transfer lacks `left` and is marked by `end`: the packets `q` are to come, and with them the data `t`
pub record Follows (P left end n : ℕ) (q : List (List ℕ)) (t : List ℕ) : Type 0 where
  pub rest : List ℕ
  pub alignment : List ℕ
  pub pieces : List Piece
  pub lacking : length rest ≡ left
  pub aligns : Aligns alignment rest
  pub good : Good pieces
  pub mark_is : mark pieces ≡ end
  pub fits : n + length t ≤ 1024
  pub packets_are : q ≡ packets P (rest ++ alignment) ++ sending P pieces
  pub data_are : t ≡ rest ++ command pieces

-- nothing is to come
pub none_sent : (P : ℕ) → [] ≡ packets P [] ++ sending P []
unfolding sending
none_sent P = sym (ap (λ (l : List (List ℕ)). l ++ []) (packets_none P))

pub nothing_left : (P n : ℕ) → n ≤ 1024 → Follows P 0 1 n [] []
nothing_left P n e = record {
  rest = [];
  alignment = [];
  pieces = [];
  lacking = refl;
  aligns = refl;
  good = tt;
  mark_is = refl;
  fits = omega arith;
  packets_are = none_sent P;
  data_are = refl;
}

module _ (P n : ℕ) (q : List (List ℕ)) (t : List ℕ) where
  -- between transfers nothing of one is to come
  pub between : (end : ℕ) (f : Follows P 0 end n q t) → (q ≡ sending P f.pieces) × (t ≡ command f.pieces)
  between end f =
      let e = nil f.rest f.lacking in
      let a = nil f.alignment (f.aligns ∙ ap (λ (n : ℕ). (4 - n % 4) % 4) f.lacking) in (
        f.packets_are ∙ (λ i. packets P (e i ++ a i) ++ sending P f.pieces) ∙ ap (λ (l : List (List ℕ)). l ++ sending P f.pieces) (packets_none P),
        f.data_are ∙ ap (λ (r : List ℕ). r ++ command f.pieces) e,
      )

  -- an empty packet before the next transfer
  pub one_more_empty : Follows P 0 0 n q t → Follows P 0 0 n ([] ∷ q) t
  unfolding sending
  one_more_empty f = by f.pieces f.good f.mark_is (between 0 f).0 (between 0 f).1
    where
      by : (ps : List Piece) → Good ps → mark ps ≡ 0 → q ≡ sending P ps → t ≡ command ps → Follows P 0 0 n ([] ∷ q) t
      by [] g m e d = absurd (omega arith)
      by (p ∷ ps) g m e d = record {
        rest = [];
        alignment = [];
        pieces = record { empties = suc p.empties; tag = p.tag; bytes = p.bytes; alignment = p.alignment } ∷ ps;
        lacking = refl;
        aligns = refl;
        good = g;
        mark_is = refl;
        fits = f.fits;
        packets_are = ap (λ (l : List (List ℕ)). [] ∷ l) e ∙ sym (ap (λ (l : List (List ℕ)). l ++ ([] ∷ sending P (p ∷ ps))) (packets_none P));
        data_are = d;
      }

-- a header with all of its transfer behind it
pub header_whole : (P end n tag size : ℕ) (s r : List ℕ) (q : List (List ℕ)) (t : List ℕ) → 1 ≤ tag → tag ≤ 255 → 1 ≤ size → s ≡ header tag size end ++ r → length r ≡ padded size
    → length s ≤ P → Follows P 0 end (n + size) q t → Follows P 0 0 n (s ∷ q) (take size r ++ t)
unfolding sending
header_whole P end n tag size s r q t tag_some tag-Fits some is long fits f =
    let b = between P (n + size) q t end f in
    let l = length-append (take size r) t in
    let k = parted r size long in
    let piece : Piece = record { empties = 0; tag = tag; bytes = take size r; alignment = drop size r } in
    record {
      rest = [];
      alignment = [];
      pieces = piece ∷ f.pieces;
      lacking = refl;
      aligns = refl;
      good = (tag_some, tag-Fits, let e = k.0 in omega arith, k.1, f.good);
      mark_is = refl;
      fits = let e = k.0 in let h = f.fits in omega arith;
      packets_are = sym (
          ap (λ (l : List (List ℕ)). l ++ (packets P (transfer (mark f.pieces) piece) ++ sending P f.pieces)) (packets_none P)
          ∙ (λ i. packets P (header tag (k.0 i) (f.mark_is i) ++ take-append-drop size r i) ++ sending P f.pieces)
          ∙ ap (λ (r : List ℕ). packets P r ++ sending P f.pieces) (sym is)
          ∙ ap (λ (l : List (List ℕ)). l ++ sending P f.pieces) (packets_last P s (subst (λ (r : List ℕ). 1 ≤ length r) (sym is) (omega arith)) fits)
          ∙ ap (λ (l : List (List ℕ)). s ∷ l) (sym b.0)
          );
      data_are = ap (λ (l : List ℕ). take size r ++ l) b.1;
    }

-- a header with as much of it as there is room for
pub header_part : (P end n tag size : ℕ) (s d : List ℕ) (q : List (List ℕ)) (t : List ℕ) → 1 ≤ P → 1 ≤ tag → tag ≤ 255 → length d % 4 ≡ 0 → length d < size → s ≡ header tag size end ++ d
    → length s ≡ P → Follows P (size - length d) end (n + length d) q t → Follows P 0 0 n (s ∷ q) (d ++ t)
unfolding sending
header_part P end n tag size s d q t big tag_some tag-Fits fours less is full f =
    let l = length-append d t in
    let k = length-append d f.rest in
    let lacking = f.lacking in
    let whole : length (d ++ f.rest) ≡ size = omega arith in
    let piece : Piece = record { empties = 0; tag = tag; bytes = d ++ f.rest; alignment = f.alignment } in
    record {
      rest = [];
      alignment = [];
      pieces = piece ∷ f.pieces;
      lacking = refl;
      aligns = refl;
      good = (tag_some, tag-Fits, omega arith, aligns_both d f.rest f.alignment fours f.aligns, f.good);
      mark_is = refl;
      fits = let k = f.fits in omega arith;
      packets_are = sym (
          ap (λ (l : List (List ℕ)). l ++ (packets P (transfer (mark f.pieces) piece) ++ sending P f.pieces)) (packets_none P)
          ∙ (λ i. packets P (header tag (whole i) (f.mark_is i) ++ append_assoc d f.rest f.alignment i) ++ sending P f.pieces)
          ∙ ap (λ (r : List ℕ). packets P r ++ sending P f.pieces)
          (sym (append_assoc (header tag size end) d (f.rest ++ f.alignment)) ∙ ap (λ (r : List ℕ). r ++ (f.rest ++ f.alignment)) (sym is))
          ∙ ap (λ (l : List (List ℕ)). l ++ sending P f.pieces) (packets_full P s (f.rest ++ f.alignment) big full)
          ∙ ap (λ (l : List (List ℕ)). s ∷ l) (sym f.packets_are)
          );
      data_are = ap (λ (r : List ℕ). d ++ r) f.data_are ∙ sym (append_assoc d f.rest (command f.pieces));
    }

-- all that is left of a transfer
pub data_whole : (P left end n : ℕ) (s : List ℕ) (q : List (List ℕ)) (t : List ℕ) → 1 ≤ left → length s ≡ padded left → length s ≤ P → Follows P 0 end (n + left) q t
    → Follows P left end n (s ∷ q) (take left s ++ t)
data_whole P left end n s q t some long fits f =
    let b = between P (n + left) q t end f in
    let l = length-append (take left s) t in
    let k = parted s left long in
    record {
      rest = take left s;
      alignment = drop left s;
      pieces = f.pieces;
      lacking = k.0;
      aligns = k.1;
      good = f.good;
      mark_is = f.mark_is;
      fits = let e = k.0 in let h = f.fits in omega arith;
      packets_are = sym (
          ap (λ (r : List ℕ). packets P r ++ sending P f.pieces) (take-append-drop left s)
          ∙ ap (λ (l : List (List ℕ)). l ++ sending P f.pieces) (packets_last P s (omega arith) fits)
          ∙ ap (λ (l : List (List ℕ)). s ∷ l) (sym b.0)
          );
      data_are = ap (λ (r : List ℕ). take left s ++ r) b.1;
    }

-- as much of what is left as there is room for
pub data_part : (P left end n : ℕ) (s : List ℕ) (q : List (List ℕ)) (t : List ℕ) → 1 ≤ P → length s % 4 ≡ 0 → length s ≡ P → length s < left
    → Follows P (left - length s) end (n + length s) q t → Follows P left end n (s ∷ q) (s ++ t)
data_part P left end n s q t big fours full less f =
    let l = length-append s t in
    let k = length-append s f.rest in
    let lacking = f.lacking in
    record {
      rest = s ++ f.rest;
      alignment = f.alignment;
      pieces = f.pieces;
      lacking = omega arith;
      aligns = aligns_both s f.rest f.alignment fours f.aligns;
      good = f.good;
      mark_is = f.mark_is;
      fits = let k = f.fits in omega arith;
      packets_are = sym (
          ap (λ (r : List ℕ). packets P r ++ sending P f.pieces) (append_assoc s f.rest f.alignment)
          ∙ ap (λ (l : List (List ℕ)). l ++ sending P f.pieces) (packets_full P s (f.rest ++ f.alignment) big full)
          ∙ ap (λ (l : List (List ℕ)). s ∷ l) (sym f.packets_are)
          );
      data_are = ap (λ (r : List ℕ). s ++ r) f.data_are ∙ sym (append_assoc s f.rest (command f.pieces));
    }
