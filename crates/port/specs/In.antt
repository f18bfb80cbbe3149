-- A Bulk-IN poll. A transfer is its header and its data; packets of P are cut from what is still to go. 01, "Bulk-IN".
-- Assumes nothing.
use Rattle.std.specs.Prelude.{ℕ, suc, ◌+◌, ◌-◌, min, Bool, List, [], ◌∷◌, ◌++◌, length, take}
use Rattle.rules.specs.Choice.{◌=ᵇ◌, ◌<ᵇ◌, no, ◌or◌, ◌and◌, pick, ◌⇒◌∣◌, decide}
use Rattle.rules.specs.declared.refusal.Refusal.{Refusal}
use Rattle.rules.specs.declared.refusal.Refusal.TheVariants.{Unconfigured, WrongSize, Halted, Wait}
use Rattle.wire.specs.Bytes.{byte}
use Rattle.wire.specs.Header.{D0, D1, in_header}
use Rattle.port.specs.Parts.{ASKED, on, is_open_in, is_owed, has_reply, in_of, packet_size, is_configured, sending_in, carrying, with_in, shut}
use Rattle.port.specs.Answer.{Said, says, refuse}
use Rattle.port.specs.declared.types.BulkIn.{BulkIn}
use Rattle.port.specs.declared.types.State.{State}

-- ** the first packet "fixes N"

-- "the bytes up to and with the first TermChar": all where there is none
abbrev pub up_to : ℕ → List ℕ → ℕ
up_to char [] = 0
up_to char (b ∷ bs) = pick (b =ᵇ char) 1 (suc (up_to char bs))

-- "the least of the TransferSize asked, the reply bytes left, and, if enabled, the bytes up to and with the first TermChar left"
abbrev pub sendable : BulkIn → List ℕ → ℕ
sendable b unsent =
    min b.transfer.asked
    (min b.reply.unsent (pick (on b.transfer.enabled) (up_to b.transfer.term unsent) b.reply.unsent))

-- "D0 when N is all that is left"
abbrev pub end_mark : BulkIn → ℕ → ℕ
end_mark b n = pick (n =ᵇ b.reply.unsent) D0 0

-- "D1 when TermChar is enabled and the last byte sent is it"
abbrev pub term_mark : BulkIn → List ℕ → ℕ → ℕ
term_mark b unsent n = pick (on b.transfer.enabled and byte unsent (n - 1) =ᵇ b.transfer.term) D1 0

abbrev pub marks : BulkIn → List ℕ → ℕ → ℕ
marks b unsent n = end_mark b n + term_mark b unsent n

unfoldable pub fixed : BulkIn → List ℕ → BulkIn
fixed b unsent = carrying b b.reply (sending_in b.transfer.tag (sendable b unsent) 0)

-- ** what is still to go, and what a packet takes of it

-- the header, until the first packet has taken it
unfoldable pub header : BulkIn → List ℕ → List ℕ
header b unsent =
    pick (b.transfer.phase =ᵇ ASKED) (in_header b.transfer.tag (sendable b unsent) (marks b unsent (sendable b unsent))) []

unfoldable pub started : BulkIn → List ℕ → BulkIn
started b unsent = pick (b.transfer.phase =ᵇ ASKED) (fixed b unsent) b

unfoldable pub to_go : BulkIn → List ℕ → List ℕ
to_go b unsent = header b unsent ++ take (started b unsent).transfer.left unsent

-- `count` data bytes of a transfer on its way have gone
unfoldable pub gone : BulkIn → ℕ → BulkIn
gone b count =
    carrying b (record { at = b.reply.at + count; unsent = b.reply.unsent - count })
    (sending_in b.transfer.tag (b.transfer.left - count) (b.transfer.sent + count))

-- a packet, and the Bulk-IN side behind it
pub record Packet : Type 0 where
  pub side : BulkIn
  pub bytes : List ℕ

-- "Packets of P follow until a shorter one, empty if 12 + N divides by P, closes the transfer"
unfoldable pub send : ℕ → BulkIn → List ℕ → Packet
send p b unsent =
    let packet = take p (to_go b unsent) in
    let after = gone (started b unsent) (length packet - length (header b unsent)) in
    record { side = pick (length packet <ᵇ p) (shut after) after; bytes = packet }

-- the owed packet is empty, and polling it "closes the transfer"
unfoldable pub next_packet : ℕ → BulkIn → List ℕ → Packet
next_packet p b unsent = pick (is_owed b) (record { side = shut b; bytes = [] }) (send p b unsent)

-- ** the call: "Bulk calls: 1, 2, 3, 4, 5", of which 1 is asked before every call (Step)

-- "IN with no packet owed and either no transfer open or no reply"
abbrev pub nothing_to_send : BulkIn → Bool
nothing_to_send b = no (is_owed b) and (no (is_open_in b) or no (has_reply b))

abbrev pub in_rules : State → ℕ → List (Bool × Refusal)
in_rules st room =
    no (is_configured st) ⇒ Unconfigured ∣
    room <ᵇ packet_size st ⇒ WrongSize ∣
    on (in_of st).halted ⇒ Halted ∣
    nothing_to_send (in_of st) ⇒ Wait ∣ []

-- a poll into a buffer of `room` bytes
abbrev pub sends : State → Packet → Said
sends st packet = says (with_in st packet.side) packet.bytes

unfoldable pub poll : State → List ℕ → ℕ → Said
poll st unsent room = decide (refuse st) (in_rules st room) (sends st (next_packet (packet_size st) (in_of st) unsent))
