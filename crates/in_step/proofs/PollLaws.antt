-- What a poll comes to, a law for each way that the code takes: each turns the tests that led there into the definition's answer.
-- A packet is cut by one law, whether it has a header or not. Assumes nothing.
use Prim.Native.Nat.{ℕ, zero, suc, ◌+◌, ◌-◌, ◌≤◌, ◌<◌, min}
use mathlib.Core.Path.{◌≡◌, refl, sym, ap, ◌∙◌, subst}
use mathlib.Core.Bool.{Bool, true, false, true≢false}
use mathlib.Core.List.{List, [], ◌∷◌, ◌++◌}
use native.Mathlib.Omega.{arith}
use native.Mathlib.Numerals.{add-one}
use mathlib.Core.Logic.{⊎_elim}
use lib.Dec.{eqb}
use Rattle.rules.proofs.When.{equals, decided}
use lib.ListN.{length, get_or, take, drop, length-append, length-take, length-drop}
use lib.Seq.{paste, drop-cons, length-take-le, take_all, take-take, take-append-add, take_at, drop-append-add, drop-drop, get_or-take, get_or-drop}
use borrow.Author.Tests.{eq-eqb, ne_eqb, ltb-false, leb-true, leb-false}
use Rattle.std.specs.Prelude.{Result, Ok, Err}
use Rattle.rules.specs.Choice.{◌=ᵇ◌, ◌<ᵇ◌, ◌≤ᵇ◌, pick, gate}
use Rattle.rules.specs.declared.refusal.Refusal.{Refusal}
use Rattle.rules.specs.Answers.{done}
use Rattle.rules.proofs.Choice.{NoneOf, no_true, no_false, ne_neb, eq_neb, or_left, or_right, or_none, and_both, and_left, and_right}
use Rattle.rules.proofs.Choice.{pick_true, pick_false, at_true, at_false, pick_all, none_of, refuses, passes}
use Rattle.wire.specs.Bytes.{byte, bytes4, into}
use Rattle.wire.specs.Header.{HEADER, D1, in_header}
use Rattle.port.specs.Parts.{STORE, CLOSED, ASKED, SENDING, OWED, on, is_size, in_of, packet_size, with_in, shut}
use Rattle.port.specs.Sound.{sound}
use Rattle.port.specs.Answer.{refuse}
use Rattle.port.specs.In.{Packet, up_to, sendable, term_mark, marks, fixed, header, started, to_go, gone, send, next_packet, nothing_to_send, in_rules, sends, poll}
use Rattle.port.specs.Device.{unsent_in}
use Rattle.port.specs.Given.{given_of, Hands}
use Rattle.port.specs.declared.types.BulkIn.{BulkIn}
use Rattle.port.specs.declared.types.State.{State}
use Rattle.port.proofs.Sizes.{size_of}
use Rattle.port.proofs.Soundness.{Phase, is_closed, is_asked, is_sending, is_owed_lem, sound_of}
use Rattle.state_parts.proofs.Handed.{hands_by}
use Rattle.in_step.specs.Poll.{Cuts, data_count, after_packet, Going, Starting, CanSend}
use Rattle.in_step.specs.declared.types.InPacket.{InPacket}

-- ** whether there is a packet to send

module _ (b : BulkIn) where
  pub owed_goes : b.transfer.phase ≡ OWED → false ≡ nothing_to_send b
  owed_goes e = sym (and_left _ _ (no_false _ (eq-eqb b.transfer.phase OWED e)))

  pub closed_waits : (b.transfer.phase ≡ OWED → ⊥) → b.transfer.phase ≡ CLOSED → true ≡ nothing_to_send b
  closed_waits o e = sym (and_both _ _ (no_true _ (ne_eqb b.transfer.phase OWED o)) (or_left _ _ (no_true _ (eq_neb b.transfer.phase CLOSED e))))

  pub sending_goes : (b.transfer.phase ≡ CLOSED → ⊥) → b.transfer.phase ≡ SENDING → false ≡ nothing_to_send b
  sending_goes n e = sym (and_right _ _ (or_none _ _ (no_false _ (ne_neb b.transfer.phase CLOSED n)) (no_false _ (or_right _ _ (eq-eqb b.transfer.phase SENDING e)))))

  pub empty_waits : (b.transfer.phase ≡ OWED → ⊥) → (b.transfer.phase ≡ SENDING → ⊥) → b.reply.unsent ≡ 0 → true ≡ nothing_to_send b
  empty_waits o s e =
      sym (and_both _ _ (no_true _ (ne_eqb b.transfer.phase OWED o)) (or_right _ _ (no_true _ (or_none _ _ (eq_neb b.reply.unsent 0 e) (ne_eqb b.transfer.phase SENDING s)))))

  pub reply_goes : (b.transfer.phase ≡ CLOSED → ⊥) → (b.reply.unsent ≡ 0 → ⊥) → false ≡ nothing_to_send b
  reply_goes n e = sym (and_right _ _ (or_none _ _ (no_false _ (ne_neb b.transfer.phase CLOSED n)) (no_false _ (or_left _ _ (ne_neb b.reply.unsent 0 e)))))

  -- of a REQUEST that waits for its first packet: whether there is a reply
  pub asked_waits : (b.transfer.phase ≡ OWED → ⊥) → (b.transfer.phase ≡ CLOSED → ⊥) → (b.transfer.phase ≡ SENDING → ⊥) → eqb b.reply.unsent 0 ≡ nothing_to_send b
  asked_waits o n s = ⊎_elim (λ z. eq-eqb _ 0 z ∙ empty_waits o s z) (λ z. ne_eqb _ 0 z ∙ reply_goes n z) (decided _ (equals b.reply.unsent 0))

-- ** up to and with the first TermChar

-- a turn of the loop, and its ends
module _ (char : ℕ) (s : List ℕ) (i : ℕ) where
  next_byte : i < length s → drop i s ≡ get_or s i 0 ∷ drop (i + 1) s
  next_byte h = rw (add-one i) (drop-cons s i 0 h)

  pub up_step : i < length s → (get_or s i 0 ≡ char → ⊥) → up_to char (drop i s) ≡ 1 + up_to char (drop (i + 1) s)
  up_step h e = ap (up_to char) (next_byte h) ∙ at_false _ _ _ (ne_eqb (get_or s i 0) char e) ∙ omega arith

  pub up_stop : i < length s → get_or s i 0 ≡ char → up_to char (drop i s) ≡ 1
  up_stop h e = ap (up_to char) (next_byte h) ∙ at_true _ _ _ (eq-eqb (get_or s i 0) char e)

-- of a part, as many as it has
up_take : (char m : ℕ) (s : List ℕ) → up_to char (take m s) ≡ min m (up_to char s)
unfolding pick
up_take char zero s = omega arith
up_take char (suc m) [] = omega arith
up_take char (suc m) (x ∷ s) = one (x =ᵇ char) (up_take char m s)
  where
    one : (t : Bool) → up_to char (take m s) ≡ min m (up_to char s) → pick t 1 (suc (up_to char (take m s))) ≡ min (suc m) (pick t 1 (suc (up_to char s)))
    one true h = omega arith
    one false h = omega arith

up_some : (char : ℕ) (s : List ℕ) → 0 < length s → 0 < up_to char s
up_some char [] e = e
up_some char (x ∷ s) e = pick_all (λ (n : ℕ). 0 < n) (x =ᵇ char) _ _ (λ _. omega arith) (λ _. omega arith)

-- ** the first packet fixes N

module _ (b : BulkIn) (reply : List ℕ) (held : b.reply.at + b.reply.unsent ≤ length reply) where
  unsent_length : length (unsent_in b reply) ≡ b.reply.unsent
  unsent_length = length-take-le b.reply.unsent (drop b.reply.at reply) (rw length-drop (omega arith))

  pub sendable_term : b.transfer.enabled ≡ 1 → up_to b.transfer.term (take (min b.transfer.asked b.reply.unsent) (drop b.reply.at reply)) ≡ sendable b (unsent_in b reply)
  sendable_term e =
      let most : ℕ = min b.transfer.asked b.reply.unsent in
      let part : up_to b.transfer.term (take most (drop b.reply.at reply)) ≡ up_to b.transfer.term (take most (unsent_in b reply)) =
      ap (up_to b.transfer.term) (sym (take-take most b.reply.unsent (drop b.reply.at reply) (omega arith))) in
      let cut = up_take b.transfer.term most (unsent_in b reply) in
      let chosen : pick (on b.transfer.enabled) (up_to b.transfer.term (unsent_in b reply)) b.reply.unsent ≡ up_to b.transfer.term (unsent_in b reply) =
      at_true _ _ _ (eq-eqb b.transfer.enabled 1 e) in
      omega arith

  pub sendable_plain : (b.transfer.enabled ≡ 1 → ⊥) → min b.transfer.asked b.reply.unsent ≡ sendable b (unsent_in b reply)
  sendable_plain e =
      let chosen : pick (on b.transfer.enabled) (up_to b.transfer.term (unsent_in b reply)) b.reply.unsent ≡ b.reply.unsent = at_false _ _ _ (ne_eqb b.transfer.enabled 1 e) in
      omega arith

  pub sendable_some : (b.transfer.asked ≡ 0 → ⊥) → (b.reply.unsent ≡ 0 → ⊥) → 0 < sendable b (unsent_in b reply)
  sendable_some a u =
      let l = unsent_length in
      let some : 0 < pick (on b.transfer.enabled) (up_to b.transfer.term (unsent_in b reply)) b.reply.unsent =
      pick_all (λ (n : ℕ). 0 < n) (on b.transfer.enabled) _ _ (λ _. up_some b.transfer.term (unsent_in b reply) (omega arith)) (λ _. omega arith) in
      omega arith

  -- the last byte, in the store
  last_byte : (n : ℕ) → 0 < n → n ≤ b.reply.unsent → byte (unsent_in b reply) (n - 1) ≡ get_or reply (b.reply.at + (n - 1)) 0
  last_byte n p m = get_or-take b.reply.unsent (drop b.reply.at reply) (n - 1) 0 (omega arith) ∙ get_or-drop b.reply.at reply (n - 1) 0

  module _ (n : ℕ) (some : 0 < n) (most : n ≤ b.reply.unsent) where
    pub term_last : b.transfer.enabled ≡ 1 → get_or reply (b.reply.at + (n - 1)) 0 ≡ b.transfer.term → D1 ≡ term_mark b (unsent_in b reply) n
    term_last e l = pick_true _ _ _ _ (and_both _ _ (eq-eqb b.transfer.enabled 1 e) (eq-eqb _ b.transfer.term (last_byte n some most ∙ l))) refl

    pub term_not_last : (get_or reply (b.reply.at + (n - 1)) 0 ≡ b.transfer.term → ⊥) → 0 ≡ term_mark b (unsent_in b reply) n
    term_not_last l = pick_false _ _ _ _ (and_right _ _ (ne_eqb _ b.transfer.term (λ q. l (sym (last_byte n some most) ∙ q)))) refl

pub term_off : (b : BulkIn) (unsent : List ℕ) (n : ℕ) → (b.transfer.enabled ≡ 1 → ⊥) → 0 ≡ term_mark b unsent n
term_off b unsent n e = pick_false _ _ _ _ (and_left _ _ (ne_eqb b.transfer.enabled 1 e)) refl

-- ** a packet is cut from a header, of 12 bytes or none, and the data

-- the data of a packet, written behind its header
pasted : (h src before mid : List ℕ) (count : ℕ) → count ≤ length src → mid ≡ into h before → paste mid (length h) src count ≡ into (h ++ take count src) before
pasted h src before mid count l e =
    let front : take (length h) mid ≡ h = ap (take (length h)) e ∙ take_at h _ (length h) refl in
    let size : length (h ++ take count src) ≡ length h + count = length-append h (take count src) ∙ ap (λ (k : ℕ). length h + k) (length-take-le count src l) in
    let rest : drop (length h + count) mid ≡ drop (length (h ++ take count src)) before =
    ap (drop (length h + count)) e ∙ drop-append-add h (drop (length h) before) count ∙ drop-drop count (length h) before ∙ ap (λ (k : ℕ). drop k before) (sym size) in
    λ i. (front i ++ take count src) ++ rest i

take_min : (m n : ℕ) (s : List ℕ) → take m (take n s) ≡ take (min m n) s
take_min m n s = by (m ≤ᵇ n) refl
  where
    by : (t : Bool) → (m ≤ᵇ n) ≡ t → take m (take n s) ≡ take (min m n) s
    by true l = let h = leb-true m n l in let e : min m n ≡ m = omega arith in take-take m n s h ∙ ap (λ (k : ℕ). take k s) (sym e)
    by false l = let h = leb-false m n l in let e : min m n ≡ n = omega arith in take_all m (take n s) (rw length-take (omega arith)) ∙ ap (λ (k : ℕ). take k s) (sym e)

-- the packet that `send` cuts, by the header and the transfer that it starts from
cut : ℕ → List ℕ → BulkIn → List ℕ → Packet
cut p h b unsent =
    let packet = take p (h ++ take b.transfer.left unsent) in
    let after = gone b (length packet - length h) in
    record { side = pick (length packet <ᵇ p) (shut after) after; bytes = packet }

module _ (p : ℕ) (h : List ℕ) (b : BulkIn) (unsent : List ℕ) (front : length h ≤ p) (left : b.transfer.left ≤ length unsent) where
  packet_is : take p (h ++ take b.transfer.left unsent) ≡ h ++ take (data_count p b (length h)) unsent
  packet_is =
      let e : p ≡ length h + (p - length h) = omega arith in
      ap (λ (k : ℕ). take k (h ++ take b.transfer.left unsent)) e ∙ take-append-add h (take b.transfer.left unsent) (p - length h)
      ∙ ap (λ (s : List ℕ). h ++ s) (take_min (p - length h) b.transfer.left unsent)

  packet_length : length (h ++ take (data_count p b (length h)) unsent) ≡ length h + data_count p b (length h)
  packet_length = length-append h (take (data_count p b (length h)) unsent) ∙ ap (λ (k : ℕ). length h + k) (length-take-le (data_count p b (length h)) unsent (omega arith))

  cut_is : cut p h b unsent ≡ record { side = (after_packet p b (length h) (data_count p b (length h))).side; bytes = h ++ take (data_count p b (length h)) unsent }
  unfolding cut after_packet
  cut_is =
      let size : length (take p (h ++ take b.transfer.left unsent)) ≡ length h + data_count p b (length h) = ap length packet_is ∙ packet_length in
      let count : length (take p (h ++ take b.transfer.left unsent)) - length h ≡ data_count p b (length h) = omega arith in
      λ i. record { side = pick (size i <ᵇ p) (shut (gone b (count i))) (gone b (count i)); bytes = packet_is i }

cuts_by : (r : InPacket) (before after : List ℕ) {packet packet' : Packet} → packet ≡ packet' → Cuts packet r before after → Cuts packet' r before after
cuts_by r before after e = subst (λ (x : Packet). Cuts x r before after) e

module _ (p : ℕ) (h : List ℕ) (b : BulkIn) (src before mid : List ℕ) (count : ℕ) (fits : length h ≤ p) (left : b.transfer.left ≤ count) (held : count ≤ length src)
    (written : mid ≡ into h before) where
  cut_whole : Cuts (cut p h b (take count src)) (after_packet p b (length h) (data_count p b (length h))) before (paste mid (length h) src (data_count p b (length h)))
  unfolding after_packet
  cut_whole =
      let k : ℕ = data_count p b (length h) in
      let whole : length (take count src) ≡ count = length-take-le count src held in
      let part : take k (take count src) ≡ take k src = take-take k count src (omega arith) in
      let is : cut p h b (take count src) ≡ record { side = (after_packet p b (length h) k).side; bytes = h ++ take k src } =
      cut_is p h b (take count src) fits (omega arith) ∙ ap (λ (s : List ℕ). record { side = (after_packet p b (length h) k).side; bytes = h ++ s }) part in
      let size : length (h ++ take k src) ≡ length h + k = length-append h (take k src) ∙ ap (λ (m : ℕ). length h + m) (length-take-le k src (omega arith)) in
      cuts_by _ before _ (sym is) (λ i. record { side = (after_packet p b (length h) k).side; len = sym size i }, pasted h src before mid k (omega arith) written)

  cut_cuts : (front : ℕ) → length h ≡ front → Cuts (cut p h b (take count src)) (after_packet p b front (data_count p b front)) before (paste mid front src (data_count p b front))
  cut_cuts front e = subst (λ (f : ℕ). Cuts (cut p h b (take count src)) (after_packet p b f (data_count p b f)) before (paste mid f src (data_count p b f))) e cut_whole

-- ** the packet of a side

header_length : (tag n attributes : ℕ) → length (in_header tag n attributes) ≡ HEADER
unfolding in_header bytes4
header_length tag n attributes = refl

module _ (b : BulkIn) (unsent : List ℕ) where
  header_first : b.transfer.phase ≡ ASKED → header b unsent ≡ in_header b.transfer.tag (sendable b unsent) (marks b unsent (sendable b unsent))
  unfolding header
  header_first e = at_true _ _ _ (eq-eqb b.transfer.phase ASKED e)

  started_first : b.transfer.phase ≡ ASKED → started b unsent ≡ fixed b unsent
  unfolding started
  started_first e = at_true _ _ _ (eq-eqb b.transfer.phase ASKED e)

  header_next : (b.transfer.phase ≡ ASKED → ⊥) → header b unsent ≡ []
  unfolding header
  header_next e = at_false _ _ _ (ne_eqb b.transfer.phase ASKED e)

  started_next : (b.transfer.phase ≡ ASKED → ⊥) → started b unsent ≡ b
  unfolding started
  started_next e = at_false _ _ _ (ne_eqb b.transfer.phase ASKED e)

send_is : (p : ℕ) (b : BulkIn) (unsent h : List ℕ) (b' : BulkIn) → header b unsent ≡ h → started b unsent ≡ b' → cut p h b' unsent ≡ send p b unsent
unfolding send to_go cut
send_is p b unsent h b' e f = λ i. cut p (sym e i) (sym f i) unsent

module _ (p : ℕ) (b : BulkIn) (reply before : List ℕ) (r : InPacket) (after : List ℕ) (held : b.reply.at + b.reply.unsent ≤ length reply) where
  in_store : b.reply.unsent ≤ length (drop b.reply.at reply)
  in_store = rw length-drop (omega arith)

  -- the first packet, by its N
  pub first_cuts : (n : ℕ) (mid : List ℕ) → b.transfer.phase ≡ ASKED → HEADER ≤ p → n ≡ sendable b (unsent_in b reply)
      → mid ≡ into (in_header b.transfer.tag n (marks b (unsent_in b reply) n)) before
      → r ≡ after_packet p (fixed b (unsent_in b reply)) HEADER (data_count p (fixed b (unsent_in b reply)) HEADER)
      → after ≡ paste mid HEADER (drop b.reply.at reply) (data_count p (fixed b (unsent_in b reply)) HEADER)
      → Cuts (send p b (unsent_in b reply)) r before after
  unfolding fixed
  first_cuts n mid e f m w g q =
      let unsent : List ℕ = unsent_in b reply in
      let head : List ℕ = in_header b.transfer.tag n (marks b unsent n) in
      let long : length head ≡ HEADER = header_length b.transfer.tag n (marks b unsent n) in
      let is : cut p head (fixed b unsent) unsent ≡ send p b unsent =
      send_is p b unsent head (fixed b unsent) (header_first b unsent e ∙ ap (λ (k : ℕ). in_header b.transfer.tag k (marks b unsent k)) (sym m)) (started_first b unsent e) in
      let h = cut_cuts p head (fixed b unsent) (drop b.reply.at reply) before mid b.reply.unsent (omega arith) (omega arith) in_store w HEADER long in
      cuts_by r before after is (g ∙ h.0, q ∙ h.1)

  pub next_cuts : (b.transfer.phase ≡ ASKED → ⊥) → b.transfer.left ≤ b.reply.unsent → r ≡ after_packet p b 0 (data_count p b 0) → after ≡ paste before 0 (drop b.reply.at reply)
      (data_count p b 0)
      → Cuts (send p b (unsent_in b reply)) r before after
  next_cuts e l g q =
      let unsent : List ℕ = unsent_in b reply in
      let is : cut p [] b unsent ≡ send p b unsent = send_is p b unsent [] b (header_next b unsent e) (started_next b unsent e) in
      let h = cut_cuts p [] b (drop b.reply.at reply) before before b.reply.unsent (omega arith) l in_store refl 0 refl in
      cuts_by r before after is (g ∙ h.0, q ∙ h.1)

-- ** the next packet, owed or not

module _ (p : ℕ) (b : BulkIn) (unsent : List ℕ) where
  pub owed_cuts : (before : List ℕ) → b.transfer.phase ≡ OWED → Cuts (next_packet p b unsent) (record { side = shut b; len = 0 }) before before
  unfolding next_packet
  owed_cuts before e = cuts_by _ before before (pick_true (record { side = shut b; bytes = [] }) _ _ _ (eq-eqb _ _ e) refl) (refl, refl)

  pub open_cuts : (r : InPacket) (before after : List ℕ) → (b.transfer.phase ≡ OWED → ⊥) → Cuts (send p b unsent) r before after → Cuts (next_packet p b unsent) r before after
  unfolding next_packet
  open_cuts r before after e = cuts_by r before after (pick_false (send p b unsent) _ _ _ (ne_eqb _ _ e) refl)

-- ** a poll

module _ (st : State) (unsent : List ℕ) (room : ℕ) (told : Result (Unit {0}) Refusal) (is : told ≡ gate (in_rules st room)) where
  pub poll_refused : (before : List ℕ) (r : Refusal) → told ≡ Err r → Hands (poll st unsent room) (given_of (refuse st r)) before before
  unfolding poll
  poll_refused before r e = hands_by _ before before (refuses (refuse st) (in_rules st room) _ told is r e) (refl, refl)

  pub poll_packet : (packet : Packet) (r : InPacket) (before after : List ℕ) → told ≡ Ok tt → packet ≡ next_packet (packet_size st) (in_of st) unsent → Cuts packet r before after
      → Hands (poll st unsent room) (record { state = with_in st r.side; verdict = done; len = r.len }) before after
  unfolding poll
  poll_packet packet r before after passed e c =
      hands_by _ before after (ap (sends st) e ∙ passes (refuse st) (in_rules st room) _ told is passed)
      (ap (λ (x : InPacket). record { state = with_in st x.side; verdict = done; len = x.len }) c.0, c.1)

-- a poll that is not refused, and is owed no packet, finds one that can go
module _ (st : State) (room : ℕ) (whole : sound st ≡ true) (told : Result (Unit {0}) Refusal) (is : told ≡ gate (in_rules st room))
    (passed : told ≡ Ok tt) (unowed : (in_of st).transfer.phase ≡ OWED → ⊥) where
  pub poll_can : CanSend (packet_size st) (in_of st) room
  poll_can = can (none_of (in_rules st room) told is passed)
    where
      size : is_size (packet_size st) ≡ true → HEADER ≤ packet_size st
      size e = let k = (size_of (packet_size st) e).least in omega arith

      starting : Phase (in_of st).reply.unsent (in_of st).transfer → nothing_to_send (in_of st) ≡ false → (in_of st).reply.at + (in_of st).reply.unsent ≤ STORE → (in_of st).transfer.phase ≡ ASKED
          → Starting (in_of st)
      starting (is_closed e t i) n r a = absurd (omega arith)
      starting (is_asked e s) n r a = record {
        asked = s.some;
        unsent = λ z. absurd (true≢false (empty_waits (in_of st) unowed (λ q. omega arith) z ∙ n));
        reply = r;
      }
      starting (is_sending e s) n r a = absurd (omega arith)
      starting (is_owed_lem e t i) n r a = absurd (omega arith)

      going : Phase (in_of st).reply.unsent (in_of st).transfer → nothing_to_send (in_of st) ≡ false → (in_of st).reply.at + (in_of st).reply.unsent ≤ STORE
          → ((in_of st).transfer.phase ≡ ASKED → ⊥) → Going (in_of st)
      going (is_closed e t i) n r a = absurd (true≢false (closed_waits (in_of st) unowed e ∙ n))
      going (is_asked e s) n r a = absurd (a e)
      going (is_sending e s) n r a = record { left = s.stored; reply = r; sent = s.count }
      going (is_owed_lem e t i) n r a = absurd (unowed e)

      can : NoneOf (in_rules st room) → CanSend (packet_size st) (in_of st) room
      can n =
          let s = sound_of st whole in
          let w = n.1.1.1.0 in
          let l = ltb-false room (packet_size st) n.1.0 in
          record {
            fits = (size s.port.size, l);
            asked = starting s.inward.phase w s.inward.reply;
            sending = going s.inward.phase w s.inward.reply;
          }
