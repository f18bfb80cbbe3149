-- Whether accepted packets are those of a command can be computed: a command that is sent is read back, byte for byte. So a history that was not brought is
-- refuted by computation (Teeth).
-- Assumes nothing.
use Prim.Native.Nat.{ℕ, zero, suc, ◌+◌, ◌-◌, ◌%◌, ◌≤◌, ◌<◌, min}
use mathlib.Core.Path.{◌≡◌, refl, sym, ap, ◌∙◌, subst}
use mathlib.Core.Bool.{Bool, true, false}
use mathlib.Core.List.{List, [], ◌∷◌, ◌++◌, nil≢cons}
use mathlib.Core.Logic.{◌⊎◌, inl, inr, ⊎_elim}
use native.Mathlib.Omega.{arith}
use lib.ListN.{length, take, drop, length-append}
use lib.Seq.{take_at, drop_at, take_all}
use borrow.Author.Tests.{eqb-true, eqb-false, eq-eqb, ne_eqb, lt-ltb, le-ltb, le-leb}
use Rattle.rules.specs.Choice.{◌=ᵇ◌, ◌<ᵇ◌, ◌≤ᵇ◌, pick, ◌or◌, ◌and◌}
use Rattle.rules.specs.When.{Not}
use Rattle.rules.proofs.Choice.{pick_all, at_true, at_false, or_left, or_right, and_both}
use Rattle.wire.specs.When.{at, four_at}
use Rattle.port.specs.When.{padded}
use Rattle.claims.specs.Command.{Piece, command, header, mark, sending, IsRequest, IsTrigger, Others}
use Rattle.port.specs.Trace.{Event}
use Rattle.port.proofs.KeepsOut.{cases}
use Rattle.claims.specs.Wire.{Heard, nothing, accepted, broken_off, wiped_out, handed_over, heard_of}
use Rattle.claims.specs.Wire.{accepted_in, Passes, Unbroken, Spares, Waits, Divides, Divided}
use Rattle.claims.specs.Handed.{Whole, Brought}
use Rattle.claims.proofs.Digits.{in_four}
use Rattle.claims.proofs.Follows.{Follows, between}
use Rattle.claims.proofs.First.{Bit, all, some, First, an_empty, a_header, more, first_packet, something_ahead}
use Rattle.claims.proofs.Arrives.{starts_following}

-- ** reading

-- the bytes of a header of MsgID 1, at their places
abbrev is_header : List ℕ → Bool
is_header s =
    0 <ᵇ at s 1 and at s 2 =ᵇ 255 - at s 1 and at s 3 =ᵇ 0 and 0 <ᵇ four_at s 4 and at s 8 ≤ᵇ 1 and at s 9 =ᵇ 0 and at s 10 =ᵇ 0 and at s 11 =ᵇ 0

-- a packet has all that is left of a transfer, or is full
abbrev is_more : ℕ → ℕ → List ℕ → Bool
is_more P left s = length s =ᵇ min P (padded left)

abbrev is_first : ℕ → ℕ → List ℕ → Bool
is_first P end s = end =ᵇ 0 and at s 0 =ᵇ 1 and is_header s and length s =ᵇ min P (12 + padded (four_at s 4))

-- what is read of the packets, and whether it is all as it should be: `left` bytes are to come of the open transfer, which is marked by `end`
abbrev Read : Type 0
Read = Bool × List ℕ

abbrev also : Bool → List ℕ → Read → Read
also ok d r = (ok and r.0, d ++ r.1)

unfoldable pub parse : ℕ → ℕ → ℕ → List (List ℕ) → Read
parse P left end [] = (left =ᵇ 0 and end =ᵇ 1, [])
parse P left end (s ∷ q) =
    pick (0 <ᵇ left)
    (also (is_more P left s) (take left s) (parse P (left - length s) end q))
    (pick (length s =ᵇ 0)
    (parse P left end q)
    (also (is_first P end s) (take (four_at s 4) (drop 12 s)) (parse P (four_at s 4 - length (drop 12 s)) (at s 8) q)))

-- how a packet is read: more of a transfer; an empty one between transfers; a header
parse_more : (P left end : ℕ) (s : List ℕ) (q : List (List ℕ)) → 0 < left → parse P left end (s ∷ q) ≡ also (is_more P left s) (take left s) (parse P (left - length s) end q)
unfolding parse
parse_more P left end s q e = at_true _ _ _ (lt-ltb 0 left e)

parse_empty : (P left end : ℕ) (s : List ℕ) (q : List (List ℕ)) → left ≡ 0 → length s ≡ 0 → parse P left end (s ∷ q) ≡ parse P left end q
unfolding parse
parse_empty P left end s q e f = at_false _ _ _ (le-ltb 0 left (omega arith)) ∙ at_true _ _ _ (eq-eqb (length s) 0 f)

parse_header : (P left end : ℕ) (s : List ℕ) (q : List (List ℕ)) → left ≡ 0 → Not (length s ≡ 0)
    → parse P left end (s ∷ q) ≡ also (is_first P end s) (take (four_at s 4) (drop 12 s)) (parse P (four_at s 4 - length (drop 12 s)) (at s 8) q)
unfolding parse
parse_header P left end s q e f = at_false _ _ _ (le-ltb 0 left (omega arith)) ∙ at_false _ _ _ (ne_eqb (length s) 0 f)

-- packets that are of no command, before it
unfoldable pub skipped : List (List ℕ) → List (List ℕ)
skipped [] = []
skipped (s ∷ q) = pick (at s 0 =ᵇ 1) (s ∷ q) (skipped q)

-- ** a command is read back

module _ (P : ℕ) (fours : P % 4 ≡ 0) (big : 16 ≤ P) where
  -- with no packet to come, nothing is
  none_ahead : (left end n : ℕ) (t : List ℕ) → Follows P left end n [] t → (left ≡ 0) × (end ≡ 1) × (t ≡ [])
  unfolding sending
  none_ahead left end n t f = by f.rest f.pieces f.lacking f.mark_is f.data_are
    where
      by : (r : List ℕ) (ps : List Piece) → length r ≡ left → mark ps ≡ end → t ≡ r ++ command ps → (left ≡ 0) × (end ≡ 1) × (t ≡ [])
      by [] [] long m d = (sym long, sym m, d)
      by [] (p ∷ ps) long m d = absurd (something_ahead P fours big left end n t (λ _. sym m) f)
      by (b ∷ r) ps long m d = absurd (something_ahead P fours big left end n t (λ z. absurd (omega arith)) f)

  -- and with one, the message has not ended
  not_ended : (end n : ℕ) (s : List ℕ) (q : List (List ℕ)) (t : List ℕ) → Follows P 0 end n (s ∷ q) t → end ≡ 0
  unfolding sending
  not_ended end n s q t f = by f.pieces f.mark_is (between P n (s ∷ q) t end f).0
    where
      by : (ps : List Piece) → mark ps ≡ end → s ∷ q ≡ sending P ps → end ≡ 0
      by [] m e = absurd (nil≢cons (sym e))
      by (p ∷ ps) m e = sym m

  pub record BitRead (room left end : ℕ) (r : List ℕ) (q : List (List ℕ)) (t : List ℕ) : Type 0 where
    pub full_length : length r ≡ min room (padded left)
    pub rest : List ℕ
    pub held : ℕ
    pub is : t ≡ take left r ++ rest
    pub follows : Follows P (left - length r) end held q rest

  bit_reads : (room left end n : ℕ) (r : List ℕ) (q : List (List ℕ)) (t : List ℕ) → Bit P room left end n r q t → BitRead room left end r q t
  bit_reads room left end n r q t (all t' long fits e f) = record {
    full_length = omega arith;
    rest = t';
    held = n + left;
    is = e;
    follows = subst (λ (k : ℕ). Follows P k end (n + left) q t') (omega arith) f;
  }
  bit_reads room left end n r q t (some t' full less e f) = record {
    full_length = omega arith;
    rest = t';
    held = n + length r;
    is = e ∙ ap (λ (l : List ℕ). l ++ t') (sym (take_all left r (omega arith)));
    follows = f;
  }

  -- the packet `s` is as it should be, and so is what is read behind it
  read_on : (ok : Bool) (d t t' : List ℕ) (r : Read) → ok ≡ true → t ≡ d ++ t' → r ≡ (true, t') → also ok d r ≡ (true, t)
  read_on ok d t t' r o e f = λ i. (and_both ok r.0 o (ap (λ (x : Read). x.0) f) i, (ap (λ (x : Read). d ++ x.1) f ∙ sym e) i)

  header_long : (n b k : ℕ) → n ≡ 12 + b → b ≡ min (P - 12) k → n ≡ min P (12 + k)
  header_long n b k e f = omega arith

  behind_long : (s r : List ℕ) (tag size end : ℕ) → s ≡ header tag size end ++ r → length s ≡ 12 + length r
  behind_long s r tag size end e = let k = ap length e in omega arith

  -- the header that a host builds is one
  header_is : (tag size end : ℕ) (r : List ℕ) → 1 ≤ tag → 1 ≤ size → size ≤ 1024 → end ≤ 1 → is_header (header tag size end ++ r) ≡ true
  header_is tag size end r a b c d =
      and_both _ _ (lt-ltb 0 tag (omega arith)) (and_both _ _ (eq-eqb (255 - tag) (255 - tag) refl) (and_both _ _ refl
      (and_both _ _ (lt-ltb 0 (four_at (header tag size end ++ r) 4) (let e = in_four size c in omega arith)) (and_both _ _ (le-leb end 1 d) (and_both _ _ refl (and_both _ _ refl refl))))))

  module _ (q : List (List ℕ)) (again : (left end n : ℕ) (t : List ℕ) → Follows P left end n q t → parse P left end q ≡ (true, t)) (left end n : ℕ) (s t : List ℕ) where
    one_read : Follows P left end n (s ∷ q) t → First P left end n s q t → parse P left end (s ∷ q) ≡ (true, t)
    one_read f (an_empty is closed g) = parse_empty P left end s q closed (ap length is) ∙ again left end n t g
    one_read f (a_header closed h) =
        let b = bit_reads (P - 12) h.size h.end n h.behind q t h.bit in
        let e = h.bytes in
        let fits : h.size ≤ 1024 = let r = h.room in omega arith in
        let size : four_at s 4 ≡ h.size = ap (λ (l : List ℕ). four_at l 4) e ∙ in_four h.size fits in
        let behind : drop 12 s ≡ h.behind = ap (drop 12) e in
        let long = behind_long s h.behind h.tag h.size h.end e in
        parse_header P left end s q closed (λ z. omega arith)
        ∙ read_on (is_first P end s) (take (four_at s 4) (drop 12 s)) t b.rest (parse P (four_at s 4 - length (drop 12 s)) (at s 8) q)
        (and_both _ _ (eq-eqb end 0 (not_ended end n s q t (subst (λ (k : ℕ). Follows P k end n (s ∷ q) t) closed f)))
        (and_both _ _ (eq-eqb (at s 0) 1 (ap (λ (l : List ℕ). at l 0) e))
        (and_both _ _ (ap is_header e ∙ header_is h.tag h.size h.end h.behind h.tag_some h.size_some fits h.flag)
        (eq-eqb (length s) (min P (12 + padded (four_at s 4)))
        (header_long (length s) (length h.behind) (padded h.size) long b.full_length ∙ ap (λ (k : ℕ). min P (12 + padded k)) (sym size))))))
        (b.is ∙ (λ i. take (sym size i) (sym behind i) ++ b.rest))
        ((λ i. parse P (size i - length (behind i)) (at (e i) 8) q) ∙ again (h.size - length h.behind) h.end b.held b.rest b.follows)
    one_read f (more opened b) =
        let r = bit_reads P left end n s q t b in
        parse_more P left end s q (omega arith)
        ∙ read_on (is_more P left s) (take left s) t r.rest (parse P (left - length s) end q)
        (eq-eqb (length s) (min P (padded left)) r.full_length) r.is (again (left - length s) end r.held r.rest r.follows)

  read_back : (q : List (List ℕ)) (left end n : ℕ) (t : List ℕ) → Follows P left end n q t → parse P left end q ≡ (true, t)
  unfolding parse
  read_back [] left end n t f =
      let k = none_ahead left end n t f in
      λ i. (and_both (left =ᵇ 0) (end =ᵇ 1) (eq-eqb left 0 k.0) (eq-eqb end 1 k.1) i, sym k.2 i)
  read_back (s ∷ q) left end n t f = one_read q (read_back q) left end n s t f (first_packet P fours big left end n s q t f)

  -- packets of no command before it are passed by; so are the empty ones before its first transfer
  past_others : (os q : List (List ℕ)) → Others os → skipped (os ++ q) ≡ skipped q
  unfolding skipped
  past_others [] q o = refl
  past_others (s ∷ os) q o = at_false _ _ _ (ne_eqb (at s 0) 1 (λ z. other o.0 z)) ∙ past_others os q o.1
    where
      other : (s ≡ []) ⊎ (IsRequest s ⊎ IsTrigger s) → at s 0 ≡ 1 → ⊥
      other (inl e) z = let k : ◌≡◌ {A = ℕ} 0 1 = ap (λ (l : List ℕ). at l 0) (sym e) ∙ z in omega arith
      other (inr (inl e)) z = let k : ◌≡◌ {A = ℕ} 2 1 = ap (λ (l : List ℕ). at l 0) (sym e.bytes) ∙ z in omega arith
      other (inr (inr e)) z = let k : ◌≡◌ {A = ℕ} 128 1 = ap (λ (l : List ℕ). at l 0) (sym e.bytes) ∙ z in omega arith

  past_empties : (q : List (List ℕ)) (n : ℕ) (t : List ℕ) → Follows P 0 0 n q t → parse P 0 0 (skipped q) ≡ (true, t)
  unfolding skipped
  past_empties [] n t f = read_back [] 0 0 n t f
  past_empties (s ∷ q) n t f = pick_all (λ (l : List (List ℕ)). parse P 0 0 l ≡ (true, t)) (at s 0 =ᵇ 1) _ _ (λ _. read_back (s ∷ q) 0 0 n t f)
      (λ e. by e (first_packet P fours big 0 0 n s q t f) (past_empties q n t))
    where
      by : (at s 0 =ᵇ 1) ≡ false → First P 0 0 n s q t → (Follows P 0 0 n q t → parse P 0 0 (skipped q) ≡ (true, t)) → parse P 0 0 (skipped q) ≡ (true, t)
      by e (an_empty is closed g) again = again g
      by e (a_header closed h) again = absurd (eqb-false (at s 0) 1 e (ap (λ (l : List ℕ). at l 0) h.bytes))
      by e (more opened b) again = absurd (opened refl)

  -- accepted packets that brought a message are read back as that message
  pub whole_read : (ps : List (List ℕ)) (m : List ℕ) → Whole P ps m → parse P 0 0 (skipped ps) ≡ (true, m)
  whole_read ps m w =
      ap (λ (l : List (List ℕ)). parse P 0 0 (skipped l)) w.sent
      ∙ ap (parse P 0 0) (past_others w.others (sending P w.pieces) w.before)
      ∙ past_empties (sending P w.pieces) 0 (command w.pieces) (starts_following P w.pieces w.sendable)
      ∙ ap (λ (l : List ℕ). (true, l)) (sym w.message)

-- ** a history, cut in every way

abbrev passes : Heard → Bool
passes nothing = true
passes (accepted s) = true
passes broken_off = false
passes wiped_out = false
passes (handed_over bytes) = false

abbrev spares : Heard → Bool
spares nothing = true
spares (accepted s) = false
spares broken_off = true
spares wiped_out = false
spares (handed_over bytes) = false

abbrev divides : Heard → Bool
divides nothing = false
divides (accepted s) = false
divides broken_off = true
divides wiped_out = true
divides (handed_over bytes) = true

abbrev every : (Heard → Bool) → List Event → Bool
every test [] = true
every test (e ∷ es) = test (heard_of e) and every test es

abbrev divided : List Event → Bool
divided [] = true
divided (e ∷ []) = divides (heard_of e)
divided (e ∷ f ∷ es) = divided (f ∷ es)

abbrev same : List ℕ → List ℕ → Bool
same [] [] = true
same [] (b ∷ t) = false
same (a ∷ s) [] = false
same (a ∷ s) (b ∷ t) = a =ᵇ b and same s t

abbrev any : ℕ → (ℕ → Bool) → Bool
any zero test = test 0
any (suc n) test = test (suc n) or any n test

abbrev reads : Read → List ℕ → Bool
reads r m = r.0 and same r.1 m

abbrev brings : ℕ → List Event → List Event → List Event → List ℕ → Bool
brings P earlier bringing later m = divided earlier and every passes bringing and every spares later and reads (parse P 0 0 (skipped (accepted_in bringing))) m

unfoldable pub searched : ℕ → List Event → List ℕ → Bool
searched P es m = any (length es) (λ i. any (length es) (λ j. brings P (take i es) (take j (drop i es)) (drop j (drop i es)) m))

-- ** what was brought is found

unbroken_found : (es : List Event) → Unbroken es → every passes es ≡ true
unbroken_found [] u = refl
unbroken_found (e ∷ es) u = and_both _ _ (one (heard_of e) u.0) (unbroken_found es u.1)
  where
    one : (h : Heard) → Passes h → passes h ≡ true
    one nothing p = refl
    one (accepted s) p = refl
    one broken_off p = absurd p
    one wiped_out p = absurd p
    one (handed_over bytes) p = absurd p

waits_found : (es : List Event) → Waits es → every spares es ≡ true
waits_found [] u = refl
waits_found (e ∷ es) u = and_both _ _ (one (heard_of e) u.0) (waits_found es u.1)
  where
    one : (h : Heard) → Spares h → spares h ≡ true
    one nothing p = refl
    one (accepted s) p = absurd p
    one broken_off p = refl
    one wiped_out p = absurd p
    one (handed_over bytes) p = absurd p

divided_found : (es : List Event) → Divided es → divided es ≡ true
divided_found [] d = refl
divided_found (e ∷ []) d = one (heard_of e) d
  where
    one : (h : Heard) → Divides h → divides h ≡ true
    one nothing p = absurd p
    one (accepted s) p = absurd p
    one broken_off p = refl
    one wiped_out p = refl
    one (handed_over bytes) p = refl
divided_found (e ∷ f ∷ es) d = divided_found (f ∷ es) d

same_found : (s : List ℕ) → same s s ≡ true
same_found [] = refl
same_found (a ∷ s) = and_both _ _ (eq-eqb a a refl) (same_found s)

any_found : (n i : ℕ) (test : ℕ → Bool) → i ≤ n → test i ≡ true → any n test ≡ true
any_found zero i test l e = ap test (omega arith) ∙ e
any_found (suc n) i test l e = ⊎_elim (λ k. or_left _ _ (ap test (eqb-true (suc n) i k) ∙ e)) (λ k. or_right _ _ (any_found n i test (let z = eqb-false (suc n) i k in omega arith) e))
    (cases (suc n =ᵇ i))

pub brought_found : (P : ℕ) → P % 4 ≡ 0 → 16 ≤ P → (es : List Event) (m : List ℕ) → Brought P es m → searched P es m ≡ true
unfolding searched
brought_found P fours big es m b =
    let i = length b.earlier in
    let j = length b.bringing in
    let l = ap length b.stretches ∙ length-append b.earlier (b.bringing ++ b.later) ∙ ap (λ (n : ℕ). i + n) (length-append b.bringing b.later) in
    let front : take i es ≡ b.earlier = ap (take i) b.stretches ∙ take_at b.earlier (b.bringing ++ b.later) i refl in
    let behind : drop i es ≡ b.bringing ++ b.later = ap (drop i) b.stretches ∙ drop_at b.earlier (b.bringing ++ b.later) i refl in
    let middle : take j (drop i es) ≡ b.bringing = ap (take j) behind ∙ take_at b.bringing b.later j refl in
    let last : drop j (drop i es) ≡ b.later = ap (drop j) behind ∙ drop_at b.bringing b.later j refl in
    let w = whole_read P fours big (accepted_in b.bringing) m b.whole in
    any_found (length es) i _ (omega arith)
    (any_found (length es) j _ (omega arith)
    (and_both _ _ (ap divided front ∙ divided_found b.earlier b.first)
    (and_both _ _ (ap (every passes) middle ∙ unbroken_found b.bringing b.unbroken)
    (and_both _ _ (ap (every spares) last ∙ waits_found b.later b.waits)
    (ap (λ (es : List Event). reads (parse P 0 0 (skipped (accepted_in es))) m) middle ∙ ap (λ (r : Read). reads r m) w ∙ and_both _ _ refl (same_found m))))))
