-- EACH BYTE ONCE: what is offered is what is polled, in order, and what is still to come; a drop leaves nothing. Of any history that a reader expects, and so
-- of every run of our port.
-- Assumes nothing.
use Prim.Native.Nat.{ℕ, zero, suc, ◌+◌, ◌/◌, ◌≤◌}
use mathlib.Core.Path.{◌≡◌, refl, sym, ap, ◌∙◌, subst}
use mathlib.Core.Bool.{true}
use mathlib.Core.List.{List, [], ◌∷◌, ◌++◌, append-nil, append_assoc}
use mathlib.Core.Logic.{inl, inr, ⊎_elim}
use native.Mathlib.Nat.{div-eq_of_lt, div-eq-sub-div}
use native.Mathlib.Omega.{arith}
use lib.ListN.{length, take, drop, length-take, length-drop, take-append-drop}
use lib.Seq.{drop-append-le}
use borrow.Author.Tests.{eq-eqb, eqb-true, ltb-true, ltb-false}
use Rattle.rules.specs.Choice.{◌=ᵇ◌, ◌<ᵇ◌, ◌and◌, pick}
use Rattle.rules.specs.When.{Not}
use Rattle.rules.proofs.Choice.{pick_all, pick_both, at_true, both_left, both_right}
use Rattle.wire.specs.When.{at}
use Rattle.port.specs.Parts.{packet_size}
use Rattle.port.specs.Answer.{Answer}
use Rattle.port.specs.Device.{Device, is_sound, power_on}
use Rattle.port.specs.Step.{in_poll, interrupt_poll, offer_reply, set_status, front_panel, bus_suspend}
use Rattle.port.specs.Step.{Call, setup_packet, out_packet, take_into, bus_reset, quiet, step}
use Rattle.port.specs.Trace.{Event}
use Rattle.port.specs.Reply.{Asked, portion, in_transfer, cut_in, in_packets, InLine, shut, owing, asked, sending}
use Rattle.port.specs.Reply.{Reader, unread, requests_now, after_packet, remaining, tail, after_poll, closed_by}
use Rattle.port.specs.Reply.{owing_now, aborted, cleared, by_bytes, after_setup, after_call, FirstOf, Polled, Closed, Expects, Reading}
use Rattle.port.proofs.Soundness.{sound_of}
use Rattle.port.proofs.KeepsOut.{cases}
use Rattle.port.proofs.Sizes.{size_of}
use Rattle.port.proofs.Calls.{power_on_sound}
use Rattle.port.proofs.Transfers.{cut_last, cut_more, portion_front, portion_some}
use Rattle.port.proofs.Replies.{replies_read_ever}
use Rattle.claims.specs.Replies.{data_of, polled_by, offered_by, polled_in, offered_in, read_after, joined, on_its_way}
use Rattle.claims.specs.Replies.{to_come, Underway, DropsSetup, Drops, Dropped, EachByteOnce, DropsAll, ReadBack}
use Rattle.claims.specs.Replies.{Cut, Shape}

-- ** the shape of a transfer

joined_cut : (n P : ℕ) (s : List ℕ) → joined (cut_in n P s) ≡ s
joined_cut zero P s = append-nil s
joined_cut (suc n) P s = ap (λ (l : List ℕ). take P s ++ l) (joined_cut n P (drop P s)) ∙ take-append-drop P s

joined_packets : (P : ℕ) (s : List ℕ) → joined (in_packets P s) ≡ s
unfolding in_packets
joined_packets P s = joined_cut (length s / P) P s

cut_count : (n P : ℕ) (s : List ℕ) → length (cut_in n P s) ≡ n + 1
cut_count zero P s = refl
cut_count (suc n) P s = ap suc (cut_count n P (drop P s)) ∙ omega arith

-- a full packet before others
full_before : (P : ℕ) (p : List ℕ) (ps : List (List ℕ)) → length p ≡ P → Cut P ps → Cut P (p ∷ ps)
full_before P p [] e c = absurd c
full_before P p (q ∷ ps) e c = (e, c)

cut_shape : (n P : ℕ) (s : List ℕ) → 1 ≤ P → length s / P ≡ n → Cut P (cut_in n P s)
cut_shape zero P s z e =
    ⊎_elim (λ l. ltb-true _ _ l) (λ l. let d = div-eq-sub-div z (ltb-false (length s) P l) in absurd (omega arith)) (cases (length s <ᵇ P))
cut_shape (suc n) P s z e =
    ⊎_elim (λ l. let d = div-eq_of_lt (ltb-true (length s) P l) in absurd (omega arith))
    (λ l.
    let full : P ≤ length s = ltb-false _ _ l in
    let d = div-eq-sub-div z full in
    let k = length-take P s in
    full_before P (take P s) (cut_in n P (drop P s)) (omega arith) (cut_shape n P (drop P s) z (ap (λ (m : ℕ). m / P) (length-drop P s) ∙ omega arith)))
    (cases (length s <ᵇ P))

transfer_long : (a : Asked) (unsent : List ℕ) → length (in_transfer a unsent) ≡ 12 + length (portion a unsent)
unfolding in_transfer
transfer_long a unsent = omega arith

behind_header : (a : Asked) (unsent : List ℕ) → portion a unsent ≡ drop 12 (in_transfer a unsent)
unfolding in_transfer
behind_header a unsent = refl

pub shape : Shape
unfolding in_packets
shape = record {
  count = λ P s. cut_count (length s / P) P s;
  cut = λ P s z. cut_shape (length s / P) P s z refl;
  all = joined_packets;
  long = transfer_long;
  front = portion_front;
  some = portion_some;
}

-- ** one event

remaining_on : (ps : List (List ℕ)) → on_its_way (remaining ps) ≡ joined ps
remaining_on [] = refl
remaining_on (p ∷ ps) = refl

abbrev first_long : List (List ℕ) → ℕ
first_long [] = 0
first_long (p ∷ ps) = length p

-- the first packet of a transfer has its header
header_whole : (P : ℕ) (s : List ℕ) (qs : List (List ℕ)) → 12 ≤ P → 12 ≤ length s → qs ≡ in_packets P s → (bytes : List ℕ) → FirstOf qs bytes
    → drop 12 s ≡ drop 12 bytes ++ joined (tail qs)
header_whole P s [] big long e bytes f = absurd f
header_whole P s (p ∷ ps) big long e bytes f =
    ap (drop 12) (sym (joined_packets P s) ∙ ap joined (sym e)) ∙ drop-append-le 12 p (joined ps) enough ∙ ap (λ (l : List ℕ). drop 12 l ++ joined ps) (sym f)
  where
    enough : 12 ≤ length p
    enough =
        let k = length-take P s in
        ⊎_elim (λ l. let c = ap first_long (e ∙ cut_last P s (ltb-true _ _ l)) in omega arith)
        (λ l. let full : P ≤ length s = ltb-false _ _ l in let c = ap first_long (e ∙ cut_more P s (omega arith) full) in omega arith)
        (cases (length s <ᵇ P))

module _ (P : ℕ) (big : 12 ≤ P) (r : Reader) where
  -- what was to come and is offered is what is polled and is still to come
  abbrev Once : Call → Answer → Type 0
  Once c a = to_come r ++ offered_by c a ≡ polled_by r c a ++ to_come (after_call P r c a)

  polled_once : (l : InLine) (bytes : List ℕ) → Polled P r.unsent l bytes → on_its_way l ++ r.unsent ≡ data_of l bytes ++ to_come (after_poll P r l)
  polled_once shut bytes f = absurd f
  polled_once owing bytes f = refl
  polled_once (asked a) bytes f =
      let u = r.unsent in
      let n = length (portion a u) in
      let qs = in_packets P (in_transfer a u) in
      sym (take-append-drop n u)
      ∙ ap (λ (l : List ℕ). l ++ drop n u) (sym (portion_front a u) ∙ behind_header a u ∙ header_whole P (in_transfer a u) qs big (let k = transfer_long a u in omega arith) refl bytes f.1)
      ∙ append_assoc (drop 12 bytes) (joined (tail qs)) (drop n u) ∙ ap (λ (l : List ℕ). drop 12 bytes ++ (l ++ drop n u)) (sym (remaining_on (tail qs)))
  polled_once (sending []) bytes f = absurd f
  polled_once (sending (p ∷ ps)) bytes f =
      append_assoc p (joined ps) r.unsent ∙ ap (λ (l : List ℕ). p ++ (l ++ r.unsent)) (sym (remaining_on ps)) ∙ ap (λ (l : List ℕ). l ++ (on_its_way (remaining ps) ++ r.unsent)) (sym f)

  poll_once : (room : ℕ) (a : Answer) → Expects P r (quiet (in_poll room)) a → Once (quiet (in_poll room)) a
  poll_once room a x =
      append-nil (to_come r)
      ∙ pick_both (λ (l : List ℕ) (q : Reader). to_come r ≡ l ++ to_come q) (a.verdict.number =ᵇ 0) _ _ _ _ (λ e. polled_once r.line a.bytes (x (eqb-true _ _ e))) (λ _. refl)

  offer_once : (bytes : List ℕ) (a : Answer) → Expects P r (quiet (offer_reply bytes)) a → Once (quiet (offer_reply bytes)) a
  offer_once bytes a x =
      pick_both (λ (l : List ℕ) (q : Reader). to_come r ++ l ≡ to_come q) (a.verdict.number =ᵇ 0) _ _ _ _
      (λ e. ap (λ (l : List ℕ). (on_its_way r.line ++ l) ++ bytes) (x (eqb-true _ _ e)).0 ∙ ap (λ (l : List ℕ). l ++ bytes) (append-nil (on_its_way r.line))) (λ _. append-nil (to_come r))

  -- nothing is on its way where a transfer is asked for
  closed_none : (l : InLine) → Closed l → [] ≡ on_its_way l
  closed_none shut c = refl
  closed_none owing c = absurd c
  closed_none (asked a) c = absurd c
  closed_none (sending ps) c = absurd c

  abbrev Same : Reader → Type 0
  Same q = to_come q ≡ to_come r

  packet_once : (s : List ℕ) (n : ℕ) → (n ≡ 0 → requests_now r.due s ≡ true → Closed r.line) → Same (after_packet r s n)
  unfolding after_packet
  packet_once s n x =
      pick_all Same (n =ᵇ 0) _ _
      (λ e. pick_all (λ (l : InLine). on_its_way l ++ r.unsent ≡ to_come r) (requests_now r.due s) _ _
      (λ f. ap (λ (l : List ℕ). l ++ r.unsent) (closed_none r.line (x (eqb-true _ _ e) f))) (λ _. refl))
      (λ _. pick_all Same (5 <ᵇ n and n <ᵇ 14) _ _ (λ _. refl) (λ _. refl))

  closes_once : (l : InLine) → Not (Underway l) → r.line ≡ l → Same (closed_by r l)
  closes_once shut d e = refl
  closes_once owing d e = ap (λ (l : InLine). on_its_way l ++ r.unsent) (sym e)
  closes_once (asked a) d e = absurd (d tt)
  closes_once (sending ps) d e = absurd (d tt)

  setup_once : (s : List ℕ) (a : Answer) → Not ((a.verdict.number ≡ 0) × DropsSetup r s a) → Same (after_setup r s a)
  unfolding after_setup
  setup_once s a d =
      pick_all Same (a.verdict.number =ᵇ 0) _ _
      (λ z.
      let n : Not (DropsSetup r s a) = λ k. d (eqb-true _ _ z, k) in
      pick_all Same (at s 0 =ᵇ 0x00) _ _ (λ e. absurd (n (inl (eqb-true _ _ e))))
      (λ _. pick_all Same (at s 0 =ᵇ 0x02 and at s 4 =ᵇ 0x01) _ _ (λ _. refl)
      (λ _. pick_all Same (at s 0 =ᵇ 0x02 and at s 1 =ᵇ 1 and at s 4 =ᵇ 0x82) _ _
      (λ e. let f = both_right (at s 0 =ᵇ 0x02) _ e in
      closes_once r.line (λ w. n (inr (inr (inr (eqb-true _ _ (both_left _ _ e), eqb-true _ _ (both_left _ _ f), eqb-true _ _ (both_right (at s 1 =ᵇ 1) _ f), w))))) refl)
      (λ _. pick_all Same (at s 0 =ᵇ 0xA2 and at s 1 =ᵇ 1) _ _ (λ _. pick_all Same (at a.bytes 0 =ᵇ 1) _ _ (λ _. refl) (λ _. refl))
      (λ _. pick_all Same (at s 0 =ᵇ 0xA2 and at s 1 =ᵇ 3) _ _
      (λ e. pick_all Same (at a.bytes 0 =ᵇ 1) _ _ (λ f. absurd (n (inr (inl (eqb-true _ _ (both_left _ _ e), eqb-true _ _ (both_right (at s 0 =ᵇ 0xA2) _ e), eqb-true _ _ f))))) (λ _. refl))
      (λ _. pick_all Same (at s 0 =ᵇ 0xA1 and at s 1 =ᵇ 5) _ _
      (λ e. pick_all Same (at a.bytes 0 =ᵇ 1) _ _ (λ f. absurd (n (inr (inr (inl (eqb-true _ _ (both_left _ _ e), eqb-true _ _ (both_right (at s 0 =ᵇ 0xA1) _ e), eqb-true _ _ f)))))) (λ _. refl))
      (λ _. refl)))))))
      (λ _. refl)

  once : (c : Call) (a : Answer) → Expects P r c a → Not (Drops r c a) → Once c a
  once (setup_packet p) a x d = append-nil (to_come r) ∙ sym (setup_once p.packet a d)
  once (out_packet s) a x d = append-nil (to_come r) ∙ sym (packet_once s a.verdict.number x)
  once (take_into room) a x d = append-nil (to_come r)
  once bus_reset a x d = append-nil (to_come r) ∙ sym (pick_all Same (a.verdict.number =ᵇ 0) _ _ (λ e. absurd (d (eqb-true _ _ e))) (λ _. refl))
  once (quiet (in_poll room)) a x d = poll_once room a x
  once (quiet (interrupt_poll room)) a x d = append-nil (to_come r)
  once (quiet (offer_reply bytes)) a x d = offer_once bytes a x
  once (quiet (set_status status)) a x d = append-nil (to_come r)
  once (quiet front_panel) a x d = append-nil (to_come r)
  once (quiet bus_suspend) a x d = append-nil (to_come r)

-- ** a history

pub each_byte_once : EachByteOnce
each_byte_once P r [] big reads none = append-nil (to_come r)
each_byte_once P r (e ∷ es) big reads none =
    let o = offered_by e.call e.answer in
    let p = polled_by r e.call e.answer in
    let q = after_call P r e.call e.answer in
    sym (append_assoc (to_come r) o (offered_in es)) ∙ ap (λ (l : List ℕ). l ++ offered_in es) (once P big r e.call e.answer reads.0 none.0) ∙ append_assoc p (to_come q) (offered_in es)
    ∙ ap (λ (l : List ℕ). p ++ l) (each_byte_once P q es big reads.1 none.1) ∙ sym (append_assoc p (polled_in P q es) (to_come (read_after P q es)))

-- ** a drop

owing_none : (l : InLine) → on_its_way (owing_now l) ++ [] ≡ []
owing_none shut = refl
owing_none owing = refl
owing_none (asked a) = refl
owing_none (sending ps) = refl

closes_none : (r : Reader) (l : InLine) → Underway l → to_come (closed_by r l) ≡ []
closes_none r shut w = absurd w
closes_none r owing w = absurd w
closes_none r (asked a) w = refl
closes_none r (sending ps) w = refl

-- what it leaves, by bytes
by_bytes_lem : (r : Reader) (q i : ℕ) (a : Answer) → (by_bytes r 0x00 q i a ≡ unread) × (by_bytes r 0x02 1 0x82 a ≡ closed_by r r.line)
    × (by_bytes r 0xA2 3 i a ≡ pick (at a.bytes 0 =ᵇ 1) (aborted r) r) × (by_bytes r 0xA1 5 i a ≡ pick (at a.bytes 0 =ᵇ 1) (cleared r) r)
unfolding pick ◌and◌
by_bytes_lem r q i a = (refl, refl, refl, refl)

pub drops_all : DropsAll
unfolding after_setup
drops_all P r (setup_packet p) a d =
    let s = p.packet in
    let leaves = by_bytes_lem r (at s 1) (at s 4) a in
    ap to_come (at_true _ _ _ (eq-eqb _ _ d.0))
    ∙ ⊎_elim (λ e. ap to_come ((λ i. by_bytes r (e i) (at s 1) (at s 4) a) ∙ leaves.0))
    (⊎_elim (λ e. ap to_come ((λ i. by_bytes r (e.0 i) (e.1 i) (at s 4) a) ∙ leaves.2 ∙ at_true _ _ _ (eq-eqb _ _ e.2)) ∙ owing_none r.line)
    (⊎_elim (λ e. ap to_come ((λ i. by_bytes r (e.0 i) (e.1 i) (at s 4) a) ∙ leaves.3 ∙ at_true _ _ _ (eq-eqb _ _ e.2)) ∙ owing_none r.line)
    (λ e. ap to_come ((λ i. by_bytes r (e.0 i) (e.1 i) (e.2 i) a) ∙ leaves.1) ∙ closes_none r r.line e.3)))
    d.1
drops_all P r (out_packet s) a d = absurd d
drops_all P r (take_into room) a d = absurd d
drops_all P r bus_reset a d = ap to_come (at_true _ _ _ (eq-eqb _ _ d))
drops_all P r (quiet q) a d = absurd d

ends_empty : (P : ℕ) (r : Reader) (e : Event) (es : List Event) → Dropped P r (e ∷ es) → to_come (read_after P r (e ∷ es)) ≡ []
ends_empty P r e [] d = drops_all P r e.call e.answer d
ends_empty P r e (f ∷ es) d = ends_empty P (after_call P r e.call e.answer) f es d

-- at power-on too there is nothing
starts_empty : (P : ℕ) (es : List Event) → Dropped P unread es → to_come (read_after P unread es) ≡ []
starts_empty P [] d = refl
starts_empty P (e ∷ es) d = ends_empty P unread e es d

-- ** a stretch of a run

reads_behind : (P : ℕ) (r : Reader) (xs ys : List Event) → Reading P r (xs ++ ys) → Reading P (read_after P r xs) ys
reads_behind P r [] ys h = h
reads_behind P r (x ∷ xs) ys h = reads_behind P (after_call P r x.call x.answer) xs ys h.1

reads_before : (P : ℕ) (r : Reader) (xs ys : List Event) → Reading P r (xs ++ ys) → Reading P r xs
reads_before P r [] ys h = tt
reads_before P r (x ∷ xs) ys h = (h.0, reads_before P (after_call P r x.call x.answer) xs ys h.1)

-- a header fits a packet
pub wide : (u : Device) → is_sound u ≡ true → 12 ≤ packet_size u.state
wide u sound = let k = (size_of (packet_size u.state) (sound_of _ sound).port.size).least in omega arith

pub read_back : ReadBack step
read_back setting calls before stretch later e d n =
    let u = (power_on setting).unit in
    let P = packet_size u.state in
    let r = read_after P unread before in
    let reads = reads_before P r stretch later (reads_behind P unread before (stretch ++ later) (subst (Reading P unread) e (replies_read_ever setting calls))) in
    ap (λ (l : List ℕ). l ++ offered_in stretch) (sym (starts_empty P before d)) ∙ each_byte_once P r stretch (wide u (power_on_sound setting)) reads n
