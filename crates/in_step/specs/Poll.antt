-- The parts of a poll in code, over the reply store.
-- Assumes nothing.
use Rattle.std.specs.Prelude.{ℕ, ◌+◌, ◌-◌, ◌≤◌, min, ◌≡◌, List, length}
use Rattle.rules.specs.Choice.{◌<ᵇ◌, pick}
use Rattle.wire.specs.Bytes.{into}
use Rattle.wire.specs.Header.{HEADER}
use Rattle.port.specs.Parts.{STORE, ASKED, OWED, shut}
use Rattle.port.specs.In.{Packet, gone}
use Rattle.port.specs.declared.types.BulkIn.{BulkIn}
use Rattle.in_step.specs.declared.types.InPacket.{InPacket}

-- ** a packet of at most p bytes

-- in code its bytes stand in the lent buffer, which held `before` and holds `after`
abbrev pub Cuts : Packet → InPacket → List ℕ → List ℕ → Type 0
Cuts packet r before after = (r ≡ record { side = packet.side; len = length packet.bytes }) × (after ≡ into packet.bytes before)

-- as many data bytes as are to go and have room behind `front` header bytes
abbrev pub data_count : ℕ → BulkIn → ℕ → ℕ
data_count p b front = min (p - front) b.transfer.left

-- what a packet with `count` of them leaves of the side b: a short one closes the transfer
unfoldable pub after_packet : ℕ → BulkIn → ℕ → ℕ → InPacket
after_packet p b front count = record { side = pick (front + count <ᵇ p) (shut (gone b count)) (gone b count); len = front + count }

-- ** what the parts need: sums stay within a store, and copies within what is lent

-- the data bytes to go, and the unsent ones, are in the store; what has gone with what is to go would fit one
pub record Going (b : BulkIn) : Type 0 where
  pub left : b.transfer.left ≤ b.reply.unsent
  pub reply : b.reply.at + b.reply.unsent ≤ STORE
  pub sent : b.transfer.sent + b.transfer.left ≤ STORE

-- a packet takes `front` header bytes, and a buffer of `room` bytes takes the packet
abbrev pub Fits : ℕ → ℕ → ℕ → Type 0
Fits p front room = (front ≤ p) × (p ≤ room)

-- a transfer that starts has a byte to send
pub record Starting (b : BulkIn) : Type 0 where
  pub asked : b.transfer.asked ≡ 0 → ⊥
  pub unsent : b.reply.unsent ≡ 0 → ⊥
  pub reply : b.reply.at + b.reply.unsent ≤ STORE

-- a packet of the open transfer can go
pub record CanSend (p : ℕ) (b : BulkIn) (room : ℕ) : Type 0 where
  pub fits : Fits p HEADER room
  pub asked : b.transfer.phase ≡ ASKED → Starting b
  pub sending : (b.transfer.phase ≡ ASKED → ⊥) → Going b

-- and so can the next packet, owed or not
abbrev pub CanPoll : ℕ → BulkIn → ℕ → Type 0
CanPoll p b room = (b.transfer.phase ≡ OWED → ⊥) → CanSend p b room
