-- The first packet of those that are to come: an empty one, a header, or more of the open transfer; and what is to come behind it.
-- Assumes nothing.
use Prim.Native.Nat.{ℕ, zero, suc, ◌+◌, ◌-◌, ◌%◌, ◌≤◌, ◌<◌}
use mathlib.Core.Path.{◌≡◌, refl, sym, ap, ◌∙◌, subst}
use mathlib.Core.Bool.{true, false}
use mathlib.Core.List.{List, [], ◌∷◌, ◌++◌, append_assoc, nil≢cons, head-eq_of_cons-eq, tail-eq_of_cons-eq}
use mathlib.Core.Logic.{◌⊎◌, inl, inr, ⊎_elim}
use native.Mathlib.Omega.{arith}
use lib.ListN.{length, take, drop, replicate, length-append, length-take, length-drop, take-append-drop}
use lib.Seq.{take_at}
use borrow.Author.Tests.{ltb-true, ltb-false}
use Rattle.rules.specs.Choice.{◌<ᵇ◌}
use Rattle.rules.specs.When.{Not}
use Rattle.port.proofs.KeepsOut.{cases}
use Rattle.port.specs.When.{padded}
use Rattle.claims.specs.Command.{Piece, command, Aligns, Good, header, transfer, cut_up, packets, mark, sending}
use Rattle.claims.proofs.Cuts.{packets_none, packets_full, packets_last, aligned_long, aligns_behind, fours_fit}
use Rattle.claims.proofs.Follows.{nil, Follows, between}

-- what a packet has of a transfer that lacks `left`, where there is room for so much: all, with its alignment; or data alone, and the rest is to come
pub data Bit (P room left end n : ℕ) (r : List ℕ) (q : List (List ℕ)) (t : List ℕ) : Type 0 where
  all : (t' : List ℕ) → length r ≡ padded left → length r ≤ room → t ≡ take left r ++ t' → Follows P 0 end (n + left) q t' → Bit P room left end n r q t
  some : (t' : List ℕ) → length r ≡ room → length r < left → t ≡ r ++ t' → Follows P (left - length r) end (n + length r) q t' → Bit P room left end n r q t

pub record Heading (P n : ℕ) (s : List ℕ) (q : List (List ℕ)) (t : List ℕ) : Type 0 where
  pub tag : ℕ
  pub size : ℕ
  pub end : ℕ
  pub tag_some : 1 ≤ tag
  pub tag_fits : tag ≤ 255
  pub size_some : 1 ≤ size
  pub flag : end ≤ 1
  pub room : n + size ≤ 1024
  pub behind : List ℕ
  pub bytes : s ≡ header tag size end ++ behind
  pub bit : Bit P (P - 12) size end n behind q t

pub data First (P left end n : ℕ) (s : List ℕ) (q : List (List ℕ)) (t : List ℕ) : Type 0 where
  an_empty : s ≡ [] → left ≡ 0 → Follows P left end n q t → First P left end n s q t
  a_header : left ≡ 0 → Heading P n s q t → First P left end n s q t
  more : Not (left ≡ 0) → Bit P P left end n s q t → First P left end n s q t

-- ** a front, which is a header or nothing, and the data behind it, cut

module _ (P : ℕ) (front d a : List ℕ) (aligns : Aligns a d) (fours : P % 4 ≡ 0) (front-fours : length front % 4 ≡ 0) (short : length front < P) (any : 1 ≤ length d) where
  abbrev room : ℕ
  room = P - length front

  abbrev One : Type 0
  One = (length (front ++ (d ++ a)) ≤ P) × (packets P (front ++ (d ++ a)) ≡ (front ++ (d ++ a)) ∷ [])

  abbrev Several : Type 0
  Several = (room < length d) × (length (take room d) ≡ room) × (packets P (front ++ (d ++ a)) ≡ (front ++ take room d) ∷ packets P (drop room d ++ a))

  cut_first : One ⊎ Several
  cut_first =
      let l = length-append front (d ++ a) in
      let b = aligned_long d a aligns in
      ⊎_elim
      (λ e.
      let less : P < length (front ++ (d ++ a)) = ltb-true _ _ e in
      let fit : room < length d = fours_fit (length d) room (omega arith) (omega arith) in
      let k = length-take room d in
      let long : length (take room d) ≡ room = omega arith in
      inr (
        fit,
        long,
        ap (λ (r : List ℕ). packets P (front ++ (r ++ a))) (sym (take-append-drop room d))
            ∙ ap (λ (r : List ℕ). packets P (front ++ r)) (append_assoc (take room d) (drop room d) a)
            ∙ ap (packets P) (sym (append_assoc front (take room d) (drop room d ++ a)))
            ∙ packets_full P (front ++ take room d) (drop room d ++ a) (omega arith) (length-append front (take room d) ∙ ap (λ (n : ℕ). length front + n) long ∙ whole),
      ))
      (λ e. let most : length (front ++ (d ++ a)) ≤ P = ltb-false _ _ e in inl (most, packets_last P (front ++ (d ++ a)) (omega arith) most))
      (cases (P <ᵇ length (front ++ (d ++ a))))
    where
      whole : length front + room ≡ P
      whole = omega arith

  -- the first of the packets, and what it has of the data
  first_bit : (ps : List Piece) (end n : ℕ) (s : List ℕ) (q : List (List ℕ)) (t : List ℕ) → Good ps → mark ps ≡ end → n + length t ≤ 1024
      → s ∷ q ≡ packets P (front ++ (d ++ a)) ++ sending P ps → t ≡ d ++ command ps
      → (r : List ℕ) × (s ≡ front ++ r) × Bit P room (length d) end n r q t
  first_bit ps end n s q t good mark_is fits are data_are = ⊎_elim by_all by_some cut_first
    where
      by_all : One → (r : List ℕ) × (s ≡ front ++ r) × Bit P room (length d) end n r q t
      by_all (most, e) =
          let k = are ∙ ap (λ (l : List (List ℕ)). l ++ sending P ps) e in
          let l = length-append front (d ++ a) in
          let m = length-append d (command ps) in (
            d ++ a,
            head-eq_of_cons-eq k,
            all (command ps) (aligned_long d a aligns) (omega arith) (data_are ∙ ap (λ (l : List ℕ). l ++ command ps) (sym (take_at d a (length d) refl))) (record {
              rest = [];
              alignment = [];
              pieces = ps;
              lacking = refl;
              aligns = refl;
              good = good;
              mark_is = mark_is;
              fits = let a = ap length data_are in omega arith;
              packets_are = tail-eq_of_cons-eq k ∙ sym (ap (λ (l : List (List ℕ)). l ++ sending P ps) (packets_none P));
              data_are = refl;
            }),
          )

      room_fours : room % 4 ≡ 0
      room_fours = omega arith

      by_some : Several → (r : List ℕ) × (s ≡ front ++ r) × Bit P room (length d) end n r q t
      by_some (less, long, e) =
          let k = are ∙ ap (λ (l : List (List ℕ)). l ++ sending P ps) e in
          let parts : t ≡ take room d ++ (drop room d ++ command ps) =
          data_are ∙ ap (λ (l : List ℕ). l ++ command ps) (sym (take-append-drop room d)) ∙ append_assoc (take room d) (drop room d) (command ps) in
          let m = length-append (take room d) (drop room d ++ command ps) in (
            take room d,
            head-eq_of_cons-eq k,
            some (drop room d ++ command ps) long (omega arith) parts (record {
              rest = drop room d;
              alignment = a;
              pieces = ps;
              lacking = length-drop room d ∙ ap (λ (j : ℕ). length d - j) (sym long);
              aligns = aligns_behind (take room d) (drop room d) a (ap (λ (n : ℕ). n % 4) long ∙ room_fours) (subst (Aligns a) (sym (take-append-drop room d)) aligns);
              good = good;
              mark_is = mark_is;
              fits = let a = ap length parts in omega arith;
              packets_are = tail-eq_of_cons-eq k;
              data_are = refl;
            }),
          )

-- ** the first of the packets

module _ (P : ℕ) (fours : P % 4 ≡ 0) (big : 16 ≤ P) where
  -- between transfers
  first_of : (ps : List Piece) (end n : ℕ) (s : List ℕ) (q : List (List ℕ)) (t : List ℕ) → Good ps → mark ps ≡ end → n + length t ≤ 1024 → s ∷ q ≡ sending P ps → t ≡ command ps
      → First P 0 end n s q t
  unfolding sending
  first_of [] end n s q t good mark_is fits are data_are = absurd (nil≢cons (sym are))
  first_of (p ∷ ps) end n s q t good mark_is fits are data_are = by p.empties are
    where
      by : (k : ℕ) → s ∷ q ≡ replicate k [] ++ (packets P (transfer (mark ps) p) ++ sending P ps) → First P 0 end n s q t
      by zero e =
          let d = p.bytes in
          let b = first_bit P (header p.tag (length d) (mark ps)) d p.alignment good.3 fours refl (omega arith) good.2 ps (mark ps) n s q t good.4 refl fits e data_are in
          let l = length-append d (command ps) in
          a_header refl (record {
            tag = p.tag;
            size = length d;
            end = mark ps;
            tag_some = good.0;
            tag_fits = good.1;
            size_some = good.2;
            flag = flag ps;
            room = let a = ap length data_are in omega arith;
            behind = b.0;
            bytes = b.1;
            bit = b.2;
          })
        where
          flag : (qs : List Piece) → mark qs ≤ 1
          flag [] = omega arith
          flag (q ∷ qs) = omega arith
      by (suc k) e = an_empty (head-eq_of_cons-eq e) refl (record {
        rest = [];
        alignment = [];
        pieces = record { empties = k; tag = p.tag; bytes = p.bytes; alignment = p.alignment } ∷ ps;
        lacking = refl;
        aligns = refl;
        good = good;
        mark_is = mark_is;
        fits = fits;
        packets_are = tail-eq_of_cons-eq e ∙ sym (ap (λ (l : List (List ℕ)). l ++ (replicate k [] ++ (packets P (transfer (mark ps) p) ++ sending P ps))) (packets_none P));
        data_are = data_are;
      })

  pub first_packet : (left end n : ℕ) (s : List ℕ) (q : List (List ℕ)) (t : List ℕ) → Follows P left end n (s ∷ q) t → First P left end n s q t
  first_packet left end n s q t f = ⊎_elim opened closed (cases (0 <ᵇ left))
    where
      opened : (0 <ᵇ left) ≡ true → First P left end n s q t
      opened e =
          let any : 0 < left = ltb-true _ _ e in
          let long = f.lacking in
          let b = first_bit P [] f.rest f.alignment f.aligns fours refl (omega arith) (omega arith) f.pieces end n s q t f.good f.mark_is f.fits f.packets_are f.data_are in
          more (λ z. omega arith)
          (subst (λ (r : List ℕ). Bit P P left end n r q t) (sym b.1)
          (subst (λ (k : ℕ). Bit P k left end n b.0 q t) none_less (subst (λ (k : ℕ). Bit P (P - 0) k end n b.0 q t) long b.2)))
        where
          none_less : P - 0 ≡ P
          none_less = omega arith

      closed : (0 <ᵇ left) ≡ false → First P left end n s q t
      closed e =
          let none : left ≤ 0 = ltb-false _ _ e in
          let z : left ≡ 0 = omega arith in
          let g = subst (λ (k : ℕ). Follows P k end n (s ∷ q) t) z f in
          let b = between P n (s ∷ q) t end g in
          subst (λ (k : ℕ). First P k end n s q t) (sym z) (first_of g.pieces end n s q t g.good g.mark_is g.fits b.0 b.1)

  -- it is no longer than a packet
  pub first_fits : (left end n : ℕ) (s : List ℕ) (q : List (List ℕ)) (t : List ℕ) → First P left end n s q t → length s ≤ P
  first_fits left end n s q t (an_empty is closed f) = let e = ap length is in omega arith
  first_fits left end n s q t (a_header closed h) = let e = ap length h.bytes in let k = bit_fits (P - 12) h.size h.end h.behind h.bit in omega arith
    where
      bit_fits : (room left end : ℕ) (r : List ℕ) → Bit P room left end n r q t → length r ≤ room
      bit_fits room left end r (all t' long fits e f) = fits
      bit_fits room left end r (some t' full less e f) = omega arith
  first_fits left end n s q t (more opened (all t' long fits e f)) = fits
  first_fits left end n s q t (more opened (some t' full less e f)) = omega arith

  -- where nothing is ready, something is to come
  pub something_ahead : (left end n : ℕ) (t : List ℕ) → (left ≡ 0 → end ≡ 0) → Follows P left end n [] t → ⊥
  unfolding sending cut_up
  something_ahead left end n t resting f = by f.rest f.alignment f.pieces f.lacking f.aligns f.mark_is f.packets_are
    where
      by : (r a : List ℕ) (ps : List Piece) → length r ≡ left → Aligns a r → mark ps ≡ end → [] ≡ packets P (r ++ a) ++ sending P ps → ⊥
      by [] a [] long k m e = let z = resting (sym long) in omega arith
      by [] a (p ∷ ps) long k m e =
          absurd (none p.empties (e ∙ ap (λ (r : List ℕ). packets P r ++ sending P (p ∷ ps)) (nil a k) ∙ ap (λ (l : List (List ℕ)). l ++ sending P (p ∷ ps)) (packets_none P)))
        where
          none : (k : ℕ) → [] ≡ replicate k [] ++ (packets P (transfer (mark ps) p) ++ sending P ps) → ⊥
          none zero e = nil≢cons e
          none (suc k) e = nil≢cons e
      by (b ∷ r) a ps long k m e =
          ⊎_elim (λ j. nil≢cons (e ∙ ap (λ (l : List (List ℕ)). l ++ sending P ps) j.1)) (λ j. nil≢cons (e ∙ ap (λ (l : List (List ℕ)). l ++ sending P ps) j.2))
          (cut_first P [] (b ∷ r) a k fours refl (omega arith) (omega arith))
