-- A unit and a reader (Reply) agree on what is unsent and on the line. Then the port's next packet is the first that the reader's transfer has left, and they
-- agree behind it.
-- Assumes nothing.
use Prim.Native.Nat.{ℕ, suc, ◌+◌, ◌-◌, ◌/◌, ◌%◌, ◌≤◌, ◌<◌, min}
use mathlib.Core.Path.{◌≡◌, refl, sym, ap, ◌∙◌, subst}
use mathlib.Core.Bool.{Bool, true, false}
use mathlib.Core.List.{List, [], ◌∷◌, ◌++◌}
use native.Mathlib.Nat.{div-div-eq-div-mul}
use native.Mathlib.Omega.{arith}
use lib.ListN.{length, take, drop, length-append, length-take, length-drop}
use lib.Seq.{take_all, drop-append-add, drop-drop}
use borrow.Author.Tests.{ltb-true, ltb-false}
use Rattle.rules.specs.Choice.{◌=ᵇ◌, ◌<ᵇ◌, ◌and◌, pick}
use Rattle.rules.proofs.Choice.{pick_all, pick_both}
use Rattle.wire.specs.Bytes.{byte, bytes4}
use Rattle.wire.specs.Header.{in_header}
use Rattle.port.specs.Parts.{STORE, CLOSED, ASKED, SENDING, OWED, on, shut}
use Rattle.port.specs.In.{up_to, sendable, marks, gone}
use Rattle.port.specs.Device.{unsent_in}
use Rattle.port.specs.Reply.{Asked, through, portion, last_of, flags, in_transfer, in_packets, InLine, shut as closed, owing, asked, sending, remaining}
use Rattle.port.specs.declared.types.InTransfer.{InTransfer}
use Rattle.port.specs.declared.types.BulkIn.{BulkIn}
use Rattle.port.proofs.Transfers.{drop_take, cut_last, cut_more, some_packet, reach, reach_front, portion_front, portion_long, portion_some, last_front}

-- ** a unit and a reader agree

-- on what a REQUEST asks for, but for what no reply is long enough for
pub record Asks (t : InTransfer) (a : Asked) : Type 0 where
  pub phase : t.phase ≡ ASKED
  pub tag : t.tag ≡ a.tag
  pub most : t.asked ≡ min a.most STORE
  pub stops : on t.enabled ≡ a.stops
  pub char : a.stops ≡ true → t.term ≡ a.char

-- on the line
abbrev pub Line : ℕ → InTransfer → List ℕ → InLine → Type 0
Line P t unsent closed = t.phase ≡ CLOSED
Line P t unsent owing = t.phase ≡ OWED
Line P t unsent (asked a) = Asks t a
Line P t unsent (sending ps) = (t.phase ≡ SENDING) × (ps ≡ in_packets P (take t.left unsent))

-- ** a packet of a transfer on its way: `header` of it is to go first

-- what is to go, the packet, and the side behind it
pub record Sends (P : ℕ) (to_go rest reply packet : List ℕ) (b : BulkIn) : Type 0 where
  pub later : List (List ℕ)
  pub cut : in_packets P to_go ≡ packet ∷ later
  pub line : Line P b.transfer (unsent_in b reply) (remaining later)
  pub unsent : rest ≡ drop b.transfer.left (unsent_in b reply)

-- the header fits a packet, and the store has what is unsent
pub record Fits (P : ℕ) (b : BulkIn) (header reply : List ℕ) : Type 0 where
  pub short : length header < P
  pub within : b.transfer.left ≤ b.reply.unsent
  pub stored : b.reply.at + b.reply.unsent ≤ length reply

module _ (P : ℕ) (b : BulkIn) (header reply : List ℕ) (f : Fits P b header reply) where
  abbrev unsent : List ℕ
  unsent = unsent_in b reply

  abbrev to_go : List ℕ
  to_go = header ++ take b.transfer.left unsent

  abbrev packet : List ℕ
  packet = take P to_go

  abbrev count : ℕ
  count = length packet - length header

  unsent_long : length unsent ≡ b.reply.unsent
  unsent_long = let k = length-take b.reply.unsent (drop b.reply.at reply) in let l = length-drop b.reply.at reply in omega arith

  to_go_long : length to_go ≡ length header + b.transfer.left
  to_go_long = let k = length-append header (take b.transfer.left unsent) in let l = length-take b.transfer.left unsent in let m = unsent_long in omega arith

  -- the store behind so many bytes more
  behind : (n : ℕ) → take (b.reply.unsent - n) (drop (b.reply.at + n) reply) ≡ drop n unsent
  behind n = ap (λ (l : List ℕ). take (b.reply.unsent - n) l) (sym (drop-drop n b.reply.at reply)) ∙ sym (drop_take n b.reply.unsent (drop b.reply.at reply))

  pub sends : Sends P to_go (drop b.transfer.left unsent) reply packet (pick (length packet <ᵇ P) (shut (gone b count)) (gone b count))
  unfolding shut gone
  sends =
      let long = to_go_long in
      let got = length-take P to_go in
      pick_all (Sends P to_go (drop b.transfer.left unsent) reply packet) (length packet <ᵇ P) _ _
      (λ e.
      let less : length packet < P = ltb-true _ _ e in
      let all : packet ≡ to_go = take_all P to_go (omega arith) in
      let exact : count ≡ b.transfer.left = omega arith in
      record {
        later = [];
        cut = cut_last P to_go (omega arith) ∙ ap (λ (p : List ℕ). p ∷ []) (sym all);
        line = refl;
        unsent = ap (λ (n : ℕ). drop n unsent) (sym exact) ∙ sym (behind count);
      })
      (λ e.
      let full : P ≤ length packet = ltb-false _ _ e in
      let whole : P ≡ length header + count = omega arith in
      let apart : b.transfer.left ≡ count + (b.transfer.left - count) = omega arith in
      record {
        later = in_packets P (drop P to_go);
        cut = cut_more P to_go (omega arith) (omega arith);
        line = subst (Line P (gone b count).transfer (unsent_in (gone b count) reply)) (sym (some_packet P (drop P to_go) (omega arith))) (
          refl,
          ap (in_packets P) (ap (λ (n : ℕ). drop n to_go) whole ∙ drop-append-add header (take b.transfer.left unsent) count ∙ drop_take count b.transfer.left unsent
              ∙ ap (λ (l : List ℕ). take (b.transfer.left - count) l) (sym (behind count))),
        );
        unsent = ap (λ (n : ℕ). drop n unsent) apart ∙ sym (drop-drop (b.transfer.left - count) count unsent)
            ∙ ap (λ (l : List ℕ). drop (b.transfer.left - count) l) (sym (behind count));
      })

-- ** the first packet's header and data: those of the transfer that is asked for

up_to_lem : (char : ℕ) (s : List ℕ) → up_to char s ≡ length (through char s)
up_to_lem char [] = refl
up_to_lem char (b ∷ bs) = pick_both (λ (n : ℕ) (l : List ℕ). n ≡ suc (length l)) (b =ᵇ char) _ _ _ _ (λ _. refl) (λ _. ap suc (up_to_lem char bs))

and_same : (t x y : Bool) → (t ≡ true → x ≡ y) → (t and x) ≡ (t and y)
unfolding ◌and◌
and_same true x y k = k refl
and_same false x y k = refl

-- the twelve bytes and what follows, by their parts
abbrev built : ℕ → ℕ → ℕ → List ℕ → List ℕ
built tag n attributes rest =
    (2 ∷ tag ∷ (255 - tag) ∷ 0 ∷ []) ++ (n % 256 ∷ n / 256 % 256 ∷ n / 65536 % 256 ∷ n / 16777216 % 256 ∷ []) ++ (attributes ∷ 0 ∷ 0 ∷ 0 ∷ []) ++ rest

header_built : (tag n attributes : ℕ) (rest : List ℕ) → in_header tag n attributes ++ rest ≡ built tag n attributes rest
unfolding in_header bytes4
header_built tag n attributes rest =
    ap (λ (k : ℕ). (2 ∷ tag ∷ (255 - tag) ∷ 0 ∷ n % 256 ∷ n / 256 % 256 ∷ n / 65536 % 256 ∷ k % 256 ∷ attributes ∷ 0 ∷ 0 ∷ 0 ∷ []) ++ rest) (div-div-eq-div-mul n 65536 256)

module _ (b : BulkIn) (a : Asked) (unsent : List ℕ) (asks : Asks b.transfer a) (long : length unsent ≡ b.reply.unsent) (fits : length unsent ≤ STORE) where
  reaches : pick (on b.transfer.enabled) (up_to b.transfer.term unsent) b.reply.unsent ≡ length (reach a unsent)
  reaches =
      ap (λ (t : Bool). pick t (up_to b.transfer.term unsent) b.reply.unsent) asks.stops
      ∙ pick_both (λ (n : ℕ) (l : List ℕ). n ≡ length l) a.stops _ _ _ _ (λ e. ap (λ (c : ℕ). up_to c unsent) (asks.char e) ∙ up_to_lem a.char unsent) (λ _. sym long)

  pub sendable_portion : sendable b unsent ≡ length (portion a unsent)
  sendable_portion =
      let k = reaches in
      let m = asks.most in
      let l = portion_long a unsent in
      let f = ap length (reach_front a unsent) ∙ length-take (length (reach a unsent)) unsent in
      omega arith

  module _ (some : 1 ≤ b.transfer.asked) (unsent-some : 1 ≤ length unsent) where
    marks_flags : marks b unsent (sendable b unsent) ≡ flags a unsent
    unfolding flags
    marks_flags = λ i. pick (sendable_portion i =ᵇ long⁻ i) 1 0 + pick (ends i) 2 0
      where
        long⁻ : b.reply.unsent ≡ length unsent
        long⁻ = sym long

        last : byte unsent (sendable b unsent - 1) ≡ last_of 0 (portion a unsent)
        last =
            ap (λ (n : ℕ). byte unsent (n - 1)) sendable_portion
            ∙ sym (last_front (portion a unsent) unsent (portion_front a unsent) (portion_some a unsent (let m = asks.most in omega arith) unsent-some))

        ends : (on b.transfer.enabled and byte unsent (sendable b unsent - 1) =ᵇ b.transfer.term) ≡ (a.stops and last_of 0 (portion a unsent) =ᵇ a.char)
        ends = ap (λ (t : Bool). t and byte unsent (sendable b unsent - 1) =ᵇ b.transfer.term) asks.stops ∙ and_same a.stops _ _ (λ e. λ i. last i =ᵇ asks.char e i)

    -- what is to go of it is all of it
    pub first_to_go : in_header b.transfer.tag (sendable b unsent) (marks b unsent (sendable b unsent)) ++ take (sendable b unsent) unsent ≡ in_transfer a unsent
    unfolding in_transfer
    first_to_go =
        header_built b.transfer.tag (sendable b unsent) (marks b unsent (sendable b unsent)) (take (sendable b unsent) unsent)
        ∙ (λ i. built (asks.tag i) (sendable_portion i) (marks_flags i) (portion_taken i))
      where
        portion_taken : take (sendable b unsent) unsent ≡ portion a unsent
        portion_taken = ap (λ (n : ℕ). take n unsent) sendable_portion ∙ sym (portion_front a unsent)
