-- The bytes of a packet that is answered 0, since none of the conditions of the other numbers holds (RuleForEvery): a header as a host builds it, with data
-- and alignment that are all of its transfer, or full packets of a longer one.
-- Assumes nothing.
use Prim.Native.Nat.{ℕ, ◌+◌, ◌-◌, ◌/◌, ◌%◌, ◌≤◌, ◌<◌}
use mathlib.Core.Path.{◌≡◌, sym, ap, ◌∙◌, subst}
use mathlib.Core.List.{List, [], ◌∷◌, ◌++◌}
use mathlib.Core.Logic.{◌⊎◌, inl, inr, ⊎_elim}
use native.Mathlib.Omega.{arith}
use lib.ListN.{length, drop, length-drop, drop_of_length-le}
use borrow.Author.Tests.{eqb-true, eqb-false, ltb-true, ltb-false}
use Rattle.rules.specs.Choice.{◌=ᵇ◌, ◌<ᵇ◌}
use Rattle.rules.specs.When.{Not}
use Rattle.wire.specs.When.{at, four_at, Commands, Requests, Triggers, ShortHeader, BadCommand, BadRequest, BadTrigger, Reserved}
use Rattle.wire.proofs.Twelve.{twelve}
use Rattle.port.specs.Device.{Device}
use Rattle.port.specs.Step.{out_packet}
use Rattle.port.specs.Trace.{Octets}
use Rattle.port.specs.When.{OutHalted, MessageReady, padded, WrongLength, HeaderWrongLength, TooLong, OutOfTurn, of_header, of_more, of_packet, given}
use Rattle.port.proofs.KeepsOut.{cases}
use Rattle.claims.specs.Command.{header, IsRequest, IsTrigger}
use Rattle.claims.proofs.Cuts.{fours_fit}
use Rattle.claims.proofs.Digits.{first, second, third, fourth}

-- ** conditions that do not hold

-- 0 is none of the numbers above it
pub unless : {m : ℕ} {G B : Type 0} → Not (0 ≡ m) → ((0 ≡ m) × G) ⊎ (Not G × B) → Not G × B
unless z (inl x) = absurd (z x.0)
unless z (inr x) = x

pub not_less : (a b : ℕ) → Not (a < b) → b ≤ a
not_less a b n = ⊎_elim (λ e. absurd (n (ltb-true a b e))) (λ e. ltb-false a b e) (cases (a <ᵇ b))

equal : (m n : ℕ) → Not (Not (m ≡ n)) → m ≡ n
equal m n h = ⊎_elim (λ e. eqb-true m n e) (λ e. absurd (h (eqb-false m n e))) (cases (m =ᵇ n))

-- ** what is left of a transfer, in a packet with room for so much of it

-- it is all here, with its alignment; or there is more to come, and the packet is full of data
abbrev pub Lands : List ℕ → ℕ → ℕ → Type 0
Lands t left room = (length t ≡ padded left) ⊎ ((length t ≡ room) × (length t < left))

lands : (t : List ℕ) (left room : ℕ) → room % 4 ≡ 0 → length t ≤ room → length t ≤ padded left → Not ((length t < padded left) × (length t < room)) → Lands t left room
lands t left room fours fits most short =
    ⊎_elim
    (λ e.
    let less : length t < padded left = ltb-true _ _ e in
    let full : room ≤ length t = not_less (length t) room (λ l. short (less, l)) in
    let all : length t ≡ room = omega arith in
    inr (all, fours_fit left (length t) (ap (λ (n : ℕ). n % 4) all ∙ fours) less))
    (λ e. let more : padded left ≤ length t = ltb-false _ _ e in inl (omega arith))
    (cases (length t <ᵇ padded left))

-- ** twelve bytes

no_fours : (n : ℕ) → Not (n ≡ 4) → Not (n ≡ 8) → n < 12 → n % 4 ≡ 0 → n ≡ 0
no_fours n a b l e = omega arith

small : (n : ℕ) → Not (Not (n ≡ 0) × Not (n ≡ 1)) → n ≤ 1
small n h = not_less _ _ (λ l. h ((λ e. omega arith), (λ e. omega arith)))

some_of : (n : ℕ) → Not (n ≡ 0) → 1 ≤ n
some_of n h = omega arith

either_of : (n a b : ℕ) → Not (Not (n ≡ a) × Not (n ≡ b)) → (n ≡ a) ⊎ (n ≡ b)
either_of n a b h = ⊎_elim (λ e. inl (eqb-true n a e)) (λ e. inr (equal n b (λ m. h (eqb-false n a e, m)))) (cases (n =ᵇ a))

less_twelve : (n k m : ℕ) → k ≡ n - 12 → n ≤ 12 + m → k ≤ m
less_twelve n k m e l = omega arith

-- of zeros at several places, that at one
zero_at : {A : Type 0} (n : ℕ) → Not (Not A) → (A → n ≡ 0) → n ≡ 0
zero_at n h one = equal n 0 (λ m. h (λ z. m (one z)))

-- ** a packet that is answered 0

module _ (u : Device) (s : List ℕ) (g : given u (out_packet s) 0) where
  abbrev P : ℕ
  P = u.state.small.port.setting.packet

  abbrev left : ℕ
  left = u.state.small.bulkout.transfer.left

  pub gate : (length s ≤ P) × Not (OutHalted u) × Not (MessageReady u) × of_packet u s 0
  gate =
      let a = (unless (λ e. omega arith) g).1 in
      let b = (unless (λ e. omega arith) a).1 in
      let c = unless (λ e. omega arith) b in
      let d = unless (λ e. omega arith) c.1 in
      let f = unless (λ e. omega arith) d.1 in
      (not_less P (length s) c.0, d.0, f.0, f.1)

  -- a continuing packet
  pub more_bytes : P % 4 ≡ 0 → Not (left ≡ 0) → Lands s left P
  more_bytes fours n = ⊎_elim (λ m. by m.1) (λ m. ⊎_elim (λ h. absurd (h.0 n)) (λ h. absurd (h.0 n)) m) gate.3
    where
      by : of_more u s 0 → Lands s left P
      by m =
          let a = unless (λ e. omega arith) m in
          let b = unless (λ e. omega arith) a.1 in
          lands s left P fours gate.0 (not_less (padded left) (length s) (λ l. b.0 (inl l))) (λ l. b.0 (inr l))

  -- a header
  module _ (closed : left ≡ 0) (some : Not (length s ≡ 0)) where
    head : of_header u s 0
    head = ⊎_elim (λ m. absurd (m.0 closed)) (λ m. ⊎_elim (λ h. absurd (some h.1)) (λ h. h.2) m) gate.3

    pub record Head : Type 0 where
      pub fours : length s % 4 ≡ 0
      pub long : 12 ≤ length s
      pub tag_some : 1 ≤ at s 1
      pub inverse : at s 2 ≡ 255 - at s 1
      pub reserved : Not (Reserved s)
      pub in_turn : Not (OutOfTurn u s)
      pub room : Not (TooLong u s)
      pub right : Not (HeaderWrongLength u s)

    header_facts : Head
    header_facts =
        let a = unless (λ e. omega arith) head in
        let b = unless (λ e. omega arith) a.1 in
        let c = unless (λ e. omega arith) b.1 in
        let d = unless (λ e. omega arith) c.1 in
        let f = unless (λ e. omega arith) d.1 in
        let h = unless (λ e. omega arith) f.1 in
        let i = unless (λ e. omega arith) h.1 in
        let j = unless (λ e. omega arith) i.1 in
        let fours = equal _ _ a.0 in
        record {
          fours = fours;
          long = not_less _ _ (λ l. at_least l fours b.0);
          tag_some = not_less _ _ (λ l. c.0 (inl (omega arith)));
          inverse = equal _ _ (λ n. c.0 (inr n));
          reserved = f.0;
          in_turn = h.0;
          room = i.0;
          right = j.0;
        }
      where
        at_least : length s < 12 → length s % 4 ≡ 0 → Not (ShortHeader s) → ⊥
        at_least l e n = some (no_fours (length s) (λ a. n (inl a)) (λ a. n (inr a)) l e)

    -- "a REQUEST or TRIGGER while a message is unfinished" is out of turn
    pub unheld : Requests s ⊎ Triggers s → u.state.small.bulkout.message.held ≡ 0
    unheld r = equal _ _ (λ n. header_facts.in_turn (inr (r, (gate.2, n))))

    none_behind : length s ≡ 12 → drop 12 s ≡ []
    none_behind e = drop_of_length-le s {i = 12} (omega arith)

    -- a header of MsgID 1: the twelve bytes, and what follows them
    pub record Opens (tag size end : ℕ) : Type 0 where
      pub tag_some : 1 ≤ tag
      pub tag_fits : tag ≤ 255
      pub size_some : 1 ≤ size
      pub flag : end ≤ 1
      pub room : u.state.small.bulkout.message.held + size ≤ 1024
      pub fits : length s ≤ P
      pub long : 12 ≤ length s
      pub bytes : s ≡ header tag size end ++ drop 12 s
      pub rest : Lands (drop 12 s) size (P - 12)

    module _ (octets : Octets s) (tag size : ℕ) (its_tag : tag ≡ at s 1) (its_size : size ≡ four_at s 4) where
      -- its TransferSize, in four bytes
      size_bytes : (at s 4 ≡ size % 256) × (at s 5 ≡ size / 256 % 256) × (at s 6 ≡ size / 65536 % 256) × (at s 7 ≡ size / 16777216 % 256)
      size_bytes =
          let a = octets 4 in
          let b = octets 5 in
          let c = octets 6 in
          let d = octets 7 in (
            sym (first (at s 4) (at s 5) (at s 6) (at s 7) size its_size a b c d),
            sym (second (at s 4) (at s 5) (at s 6) (at s 7) size its_size a b c d),
            sym (third (at s 4) (at s 5) (at s 6) (at s 7) size its_size a b c d),
            sym (fourth (at s 4) (at s 5) (at s 6) (at s 7) size its_size a b c d),
          )

      tag_fits : tag ≤ 255
      tag_fits = let o = octets 1 in omega arith

      tag_some : 1 ≤ tag
      tag_some = subst (λ (t : ℕ). 1 ≤ t) (sym its_tag) header_facts.tag_some

      inverse : at s 2 ≡ 255 - tag
      inverse = header_facts.inverse ∙ ap (λ (t : ℕ). 255 - t) (sym its_tag)

      pub opens : P % 4 ≡ 0 → 12 ≤ P → (end : ℕ) → Commands s → end ≡ at s 8 → Opens tag size end
      opens fours big end is its-end =
          let h = header_facts in
          let c : Not (BadCommand s) = λ b. h.reserved (inl (is, b)) in
          let right : Not (WrongLength u s (12 + padded size)) = λ w. h.right (inl (is, subst (λ (n : ℕ). WrongLength u s (12 + padded n)) its_size w)) in
          let e : at s 3 ≡ 0 = equal _ _ (λ n. c (inl n)) in
          let flag : at s 8 ≤ 1 = small (at s 8) (λ n. c (inr (inr (inl n)))) in
          let z : Not (Not ((at s 9 ≡ 0) × (at s 10 ≡ 0) × (at s 11 ≡ 0))) = λ n. c (inr (inr (inr n))) in
          let b = size_bytes in
          let l = h.long in
          let k = length-drop 12 s in
          let most = gate.0 in
          record {
            tag_some = tag_some;
            tag_fits = tag_fits;
            size_some = subst (λ (t : ℕ). 1 ≤ t) (sym its_size) (some_of _ (λ z. c (inr (inl z))));
            flag = subst (λ (t : ℕ). t ≤ 1) (sym its-end) flag;
            room = not_less _ _ (λ l. h.room (is, subst (λ (t : ℕ). 1024 < u.state.small.bulkout.message.held + t) its_size l));
            fits = most;
            long = l;
            bytes = twelve s l
                ∙ (λ i. (is i ∷ sym its_tag i ∷ inverse i ∷ e i ∷ b.0 i ∷ b.1 i ∷ b.2 i ∷ b.3 i ∷ sym its-end i ∷ zero_at (at s 9) z (λ y. y.0) i ∷ zero_at (at s 10) z
                (λ y. y.1) i ∷ zero_at (at s 11) z (λ y. y.2) i ∷ []) ++ drop 12 s);
            rest = lands (drop 12 s) size (P - 12) (omega arith) (omega arith) (less_twelve _ _ _ k (not_less _ _ (λ w. right (inl w)))) (λ w. right (inr (omega arith, omega arith)));
          }

      pub requests : Requests s → IsRequest s
      requests is =
          let h = header_facts in
          let c : Not (BadRequest s) = λ b. h.reserved (inr (inl (is, b))) in
          let long : length s ≡ 12 = equal _ _ (λ n. h.right (inr (inl is, n))) in
          let e : at s 3 ≡ 0 = equal _ _ (λ n. c (inl n)) in
          let z : Not (Not ((at s 10 ≡ 0) × (at s 11 ≡ 0))) = λ n. c (inr (inr (inr n))) in
          let b = size_bytes in
          record {
            request = record { tag = tag; size = size; attributes = at s 8; char = at s 9 };
            good = record {
              tag_some = tag_some;
              tag_fits = tag_fits;
              size_some = subst (λ (t : ℕ). 1 ≤ t) (sym its_size) (some_of _ (λ z. c (inr (inl z))));
              size_fits = subst (λ (t : ℕ). t ≤ 4294967295) (sym its_size) (let a = octets 4 in let b = octets 5 in let c = octets 6 in let d = octets 7 in omega arith);
              flag = either_of (at s 8) 0 2 (λ n. c (inr (inr (inl n))));
            };
            bytes = twelve s h.long
                ∙ (λ i. (is i ∷ sym its_tag i ∷ inverse i ∷ e i ∷ b.0 i ∷ b.1 i ∷ b.2 i ∷ b.3 i ∷ at s 8 ∷ at s 9 ∷ zero_at (at s 10) z (λ y. y.0) i ∷ zero_at (at s 11) z
                (λ y. y.1) i ∷ []) ++ none_behind long i);
          }

      pub triggers : Triggers s → IsTrigger s
      triggers is =
          let h = header_facts in
          let long : length s ≡ 12 = equal _ _ (λ n. h.right (inr (inr is, n))) in
          let z : Not (BadTrigger s) = λ n. h.reserved (inr (inr (is, n))) in
          record {
            tag = tag;
            some = tag_some;
            fits = tag_fits;
            bytes = twelve s h.long
                ∙ (λ i. (is i ∷ sym its_tag i ∷ inverse i ∷ zero_at (at s 3) z (λ y. y.0) i ∷ zero_at (at s 4) z (λ y. y.1) i ∷ zero_at (at s 5) z (λ y. y.2) i ∷ zero_at (at s 6) z
                (λ y. y.3) i ∷ zero_at (at s 7) z (λ y. y.4) i ∷ zero_at (at s 8) z (λ y. y.5) i ∷ zero_at (at s 9) z (λ y. y.6) i ∷ zero_at (at s 10) z
                (λ y. y.7) i ∷ zero_at (at s 11) z (λ y. y.8) i ∷ []) ++ none_behind long i);
          }
