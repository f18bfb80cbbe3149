-- The first packet of those that are to come is answered 0, since no condition of another number holds (RuleForEvery); and any packet 5 while a message is ready.
-- Assumes nothing.
use Prim.Native.Nat.{ℕ, ◌+◌, ◌-◌, ◌%◌, ◌≤◌, ◌<◌}
use mathlib.Core.Path.{◌≡◌, refl, sym, ap, ◌∙◌, subst}
use mathlib.Core.Bool.{true, true≢false}
use mathlib.Core.List.{List, ◌++◌}
use mathlib.Core.Logic.{◌⊎◌, inl, inr, ⊎_elim}
use native.Mathlib.Omega.{arith}
use lib.ListN.{length}
use borrow.Author.Tests.{eqb-true}
use Rattle.rules.specs.When.{Not}
use Rattle.wire.specs.When.{at, four_at, Requests, Triggers, BadCommand}
use Rattle.port.specs.Parts.{is_configured}
use Rattle.port.specs.Device.{Device, is_sound}
use Rattle.port.specs.Step.{out_packet}
use Rattle.port.specs.When.{padded, WrongLength, of_header, of_more, of_packet, given}
use Rattle.claims.specs.Command.{header}
use Rattle.claims.proofs.Digits.{in_four}
use Rattle.claims.proofs.First.{Bit, all, some, First, an_empty, a_header, more}

-- a condition that does not hold is passed by
pub skip : {m n : ℕ} {G B : Type 0} → ((n ≡ m) × G) ⊎ (Not G × B) → Not G → B
skip (inl x) n = absurd (n x.1)
skip (inr x) n = x.1

-- what a packet has of a transfer has the right length
record Right (r : List ℕ) (left room : ℕ) : Type 0 where
  fours : length r % 4 ≡ 0
  most : length r ≤ padded left
  full : Not ((length r < padded left) × (length r < room))
  fits : length r ≤ room

right : (P room left end k : ℕ) (r : List ℕ) (q : List (List ℕ)) (t : List ℕ) → room % 4 ≡ 0 → Bit P room left end k r q t → Right r left room
right P room left end k r q t fours (all t' long fits e f) = record {
  fours = omega arith;
  most = omega arith;
  full = λ l. let b = l.0 in omega arith;
  fits = fits;
}
right P room left end k r q t fours (some t' full less e f) = record {
  fours = omega arith;
  most = omega arith;
  full = λ l. let b = l.1 in omega arith;
  fits = omega arith;
}

module _ (u : Device) (s : List ℕ) (n : ℕ) (g : given u (out_packet s) n) (sound : is_sound u ≡ true) (configured : is_configured u.state ≡ true)
    (running : u.state.small.bulkout.halted ≡ 0) (fits : length s ≤ u.state.small.port.setting.packet) where
  abbrev P : ℕ
  P = u.state.small.port.setting.packet

  abbrev held : ℕ
  held = u.state.small.bulkout.message.held

  gate : ((n ≡ 5) × (u.state.small.bulkout.message.ready ≡ 1)) ⊎ (Not (u.state.small.bulkout.message.ready ≡ 1) × of_packet u s n)
  gate =
      let a = skip g (λ e. true≢false (sym sound ∙ e)) in
      let b = skip a (λ e. let k = eqb-true _ _ configured in let z : ◌≡◌ {A = ℕ} 0 1 = sym e ∙ k in omega arith) in
      let c = skip b (λ l. omega arith) in
      skip c (λ e. omega arith)

  -- while a message is ready
  pub waits : u.state.small.bulkout.message.ready ≡ 1 → n ≡ 5
  waits r = ⊎_elim (λ k. k.0) (λ k. absurd (k.0 r)) gate

  module _ (unready : u.state.small.bulkout.message.ready ≡ 0) where
    packet_rules : of_packet u s n
    packet_rules = ⊎_elim (λ k. let r = k.1 in absurd (omega arith)) (λ k. k.1) gate

    abbrev left : ℕ
    left = u.state.small.bulkout.transfer.left

    empty_done : left ≡ 0 → length s ≡ 0 → n ≡ 0
    empty_done closed none = ⊎_elim (λ k. absurd (k.0 closed)) (λ k. ⊎_elim (λ l. l.2) (λ l. absurd (l.1 none)) k) packet_rules

    more_done : Not (left ≡ 0) → Right s left P → n ≡ 0
    more_done opened r = ⊎_elim (λ k. by k.1) (λ k. ⊎_elim (λ l. absurd (l.0 opened)) (λ l. absurd (l.0 opened)) k) packet_rules
      where
        by : of_more u s n → n ≡ 0
        by m =
            let a = skip m (λ e. e r.fours) in
            skip a (⊎_elim (λ l. let k = r.most in omega arith) (λ l. r.full l))

    module _ (tag size end : ℕ) (behind : List ℕ) (is : s ≡ header tag size end ++ behind) (tag_some : 1 ≤ tag) (size_some : 1 ≤ size) (flag : end ≤ 1) (room : held + size ≤ 1024)
        (big : 16 ≤ P) (r : Right behind size (P - 12)) where
      long : length s ≡ 12 + length behind
      long = let e = ap length is in omega arith

      its_size : four_at s 4 ≡ size
      its_size = ap (λ (l : List ℕ). four_at l 4) is ∙ in_four size (omega arith)

      byte_is : (i k : ℕ) → at (header tag size end ++ behind) i ≡ k → at s i ≡ k
      byte_is i k e = ap (λ (l : List ℕ). at l i) is ∙ e

      no_request : Not (Requests s)
      no_request e = let z : ◌≡◌ {A = ℕ} 1 2 = sym (byte_is 0 1 refl) ∙ e in omega arith

      no_trigger : Not (Triggers s)
      no_trigger e = let z : ◌≡◌ {A = ℕ} 1 128 = sym (byte_is 0 1 refl) ∙ e in omega arith

      good : Not (BadCommand s)
      good (inl e) = e (byte_is 3 0 refl)
      good (inr (inl e)) = let z = its_size in omega arith
      good (inr (inr (inl e))) = let b = byte_is 8 end refl in let a = e.0 in let c = e.1 in omega arith
      good (inr (inr (inr e))) = e (byte_is 9 0 refl, byte_is 10 0 refl, byte_is 11 0 refl)

      short : length s ≡ 12 + length behind → length s ≡ 8 → ⊥
      short l e = omega arith

      fours_of : length s ≡ 12 + length behind → length behind % 4 ≡ 0 → length s % 4 ≡ 0
      fours_of l f = omega arith

      right_length : Not (WrongLength u s (12 + padded (four_at s 4)))
      right_length w = by (subst (λ (k : ℕ). WrongLength u s (12 + padded k)) its_size w)
        where
          by : Not (WrongLength u s (12 + padded size))
          by (inl l) = let k = long in let m = r.most in omega arith
          by (inr l) = let k = long in let a = l.0 in let b = l.1 in r.full (omega arith, omega arith)

      header_done : left ≡ 0 → n ≡ 0
      header_done closed = by (⊎_elim (λ k. absurd (k.0 closed)) (λ k. ⊎_elim (λ l. let e = long in let z = l.1 in absurd (omega arith)) (λ l. l.2) k) packet_rules)
        where
          by : of_header u s n → n ≡ 0
          by h =
              let l = long in
              let a = skip h (λ e. let f = r.fours in e (fours_of l f)) in
              let b = skip a (⊎_elim (λ e. omega arith) (λ e. short l e)) in
              let c = skip b (⊎_elim (λ e. let t = byte_is 1 tag refl in omega arith) (λ e. e (byte_is 2 (255 - tag) refl ∙ ap (λ (k : ℕ). 255 - k) (sym (byte_is 1 tag refl))))) in
              let d = skip c (λ e. e.0 (byte_is 0 1 refl)) in
              let f = skip d (⊎_elim (λ e. good e.1) (⊎_elim (λ e. no_request e.0) (λ e. no_trigger e.0))) in
              let i = skip f (⊎_elim (λ e. no_request e.0) (λ e. ⊎_elim no_request no_trigger e.0)) in
              let j = skip i (λ e. let z = its_size in let k = e.1 in omega arith) in
              skip j (⊎_elim (λ e. right_length e.1) (λ e. ⊎_elim no_request no_trigger e.0))

    -- the first of the packets that are to come
    pub first_done : (end k : ℕ) (q : List (List ℕ)) (t : List ℕ) → P % 4 ≡ 0 → 16 ≤ P → held ≡ k → First P left end k s q t → n ≡ 0
    first_done end k q t fours big is_held_lem (an_empty is closed f) = empty_done closed (ap length is)
    first_done end k q t fours big is_held_lem (a_header closed h) =
        header_done h.tag h.size h.end h.behind h.bytes h.tag_some h.size_some h.flag (let r = h.room in omega arith) big
        (right P (P - 12) h.size h.end k h.behind q t (omega arith) h.bit) closed
    first_done end k q t fours big is_held_lem (more opened b) = more_done opened (right P P left end k s q t fours b)
