-- 01, "Given when", for each number of each call: a condition over the unit and the input that says nothing of the others, and the numbers of each call
-- in 01's order. Nothing here is the step's: no list of rules, no reader, no decision. THE LAW is RuleForEvery.
-- Assumes nothing.
use Rattle.std.specs.Prelude.{ℕ, ◌+◌, ◌-◌, ◌%◌, ◌<◌, ◌≡◌, false, List, ◌⊎◌, length}
use Rattle.rules.specs.When.{Not, ◌when◌∣◌, else_0}
use Rattle.wire.specs.When.{four_at, Commands, Requests, Triggers, NotInFours, header_given, rows, Matches}
use Rattle.wire.specs.declared.types.Setup.{Setup}
use Rattle.wire.specs.declared.types.Setup.TheVariants.{Configure, Asks}
use Rattle.port.specs.Device.{Device, Result, is_sound}
use Rattle.port.specs.Step.{Quiet, in_poll, interrupt_poll, offer_reply, set_status, front_panel, bus_suspend}
use Rattle.port.specs.Step.{SetupPacket, Call, setup_packet, out_packet, take_into, bus_reset, quiet, Stepping}
use Rattle.port.specs.declared.types.Setting.{Setting}
use Rattle.port.specs.declared.types.BulkOut.{BulkOut}
use Rattle.port.specs.declared.types.BulkIn.{BulkIn}
use Rattle.port.specs.declared.types.InterruptIn.{InterruptIn}
use Rattle.port.specs.declared.types.Split.TheVariants.{Clear}

-- ** the parts of a unit that a condition looks at

abbrev out_side : Device → BulkOut
out_side u = u.state.small.bulkout

abbrev in_side : Device → BulkIn
in_side u = u.state.small.bulkin

abbrev interrupt_side : Device → InterruptIn
interrupt_side u = u.state.small.interrupt

abbrev P : Device → ℕ
P u = u.state.small.port.setting.packet

-- ** the unit

-- 1: "unit not sound"
abbrev pub Unsound : Device → Type 0
Unsound u = is_sound u ≡ false

-- 2: "not configured"
abbrev pub Unconfigured : Device → Type 0
Unconfigured u = u.state.small.port.configured ≡ 0

-- 4: "endpoint halted"
abbrev pub OutHalted : Device → Type 0
OutHalted u = (out_side u).halted ≡ 1

abbrev pub InHalted : Device → Type 0
InHalted u = (in_side u).halted ≡ 1

abbrev pub InterruptHalted : Device → Type 0
InterruptHalted u = (interrupt_side u).halted ≡ 1

-- "a message is ready"; a part of one has come, and its end has not
abbrev pub MessageReady : Device → Type 0
MessageReady u = (out_side u).message.ready ≡ 1

abbrev pub MessageUnfinished : Device → Type 0
MessageUnfinished u = Not (MessageReady u) × Not ((out_side u).message.held ≡ 0)

-- "open from its header until complete": data bytes of it are to come
abbrev pub OutOpen : Device → Type 0
OutOpen u = Not ((out_side u).transfer.left ≡ 0)

-- "from its REQUEST until its short packet": 0 is closed, 3 has the empty packet owed
abbrev pub InOpen : Device → Type 0
InOpen u = Not ((in_side u).transfer.phase ≡ 0)

abbrev pub Owed : Device → Type 0
Owed u = (in_side u).transfer.phase ≡ 3

-- bytes of the reply are unsent, or the transfer that has them all (2) is not closed yet
abbrev pub ReplyStored : Device → Type 0
ReplyStored u = Not ((in_side u).reply.unsent ≡ 0) ⊎ ((in_side u).transfer.phase ≡ 2)

-- 02, request 1: "One packet waits at a time": its first byte is not 0, which is none's
abbrev pub Waits : Device → Type 0
Waits u = Not ((interrupt_side u).waiting.notify1 ≡ 0)

-- ** a Bulk-OUT packet

-- "0 to 3 alignment bytes up to a multiple of 4": their number is a part of the length, and no condition looks at their value
abbrev pub padded : ℕ → ℕ
padded n = n + (4 - n % 4) % 4

-- 11, where `due` bytes of the transfer are to come: "More than that is 11. A packet shorter than P that ends too soon is 11."
abbrev pub WrongLength : Device → List ℕ → ℕ → Type 0
WrongLength u s due = (due < length s) ⊎ ((length s < due) × (length s < P u))

-- "MsgID 2 and 128 take a packet of exactly 12, else 11"
abbrev pub HeaderWrongLength : Device → List ℕ → Type 0
HeaderWrongLength u s = (Commands s × WrongLength u s (12 + padded (four_at s 4))) ⊎ ((Requests s ⊎ Triggers s) × Not (length s ≡ 12))

-- 13: "a REQUEST while an IN transfer is open, or a REQUEST or TRIGGER while a message is unfinished"
abbrev pub OutOfTurn : Device → List ℕ → Type 0
OutOfTurn u s = (Requests s × InOpen u) ⊎ ((Requests s ⊎ Triggers s) × MessageUnfinished u)

-- 12: "message would pass 1,024 bytes"
abbrev pub TooLong : Device → List ℕ → Type 0
TooLong u s = Commands s × (1024 < (out_side u).message.held + four_at s 4)

-- "a header then goes 6, 7, 8, 9, 10, 13, 12, 11"; 02, request 2: "14 is no longer given"
abbrev pub of_header : Device → List ℕ → ℕ → Type 0
of_header u s =
    header_given s
    (13 when OutOfTurn u s ∣
    12 when TooLong u s ∣
    11 when HeaderWrongLength u s ∣ else_0)

-- "and a continuing packet 6, 11"
abbrev pub of_more : Device → List ℕ → ℕ → Type 0
of_more u s =
    6 when NotInFours s ∣
    11 when WrongLength u s (padded (out_side u).transfer.left) ∣ else_0

-- a continuing packet where a transfer is open; else a header, but "Between transfers an empty packet is answered 0"
abbrev pub of_packet : Device → List ℕ → ℕ → Type 0
of_packet u s n =
    (OutOpen u × of_more u s n)
    ⊎ (Not (OutOpen u) × (length s ≡ 0) × (n ≡ 0))
    ⊎ (Not (OutOpen u) × Not (length s ≡ 0) × of_header u s n)

-- ** the numbers of each call

-- "Bulk calls: 1, 2, 3, 4, 5"
abbrev pub given_out : Device → List ℕ → ℕ → Type 0
given_out u s =
    1 when Unsound u ∣
    2 when Unconfigured u ∣
    3 when (P u < length s) ∣
    4 when OutHalted u ∣
    5 when MessageReady u ∣ of_packet u s

-- "IN with no packet owed and either no transfer open or no reply"
abbrev pub given_in : Device → ℕ → ℕ → Type 0
given_in u room =
    1 when Unsound u ∣
    2 when Unconfigured u ∣
    3 when (room < P u) ∣
    4 when InHalted u ∣
    5 when (Not (Owed u) × (Not (InOpen u) ⊎ Not (ReplyStored u))) ∣ else_0

-- 02, request 1: "polling 0x83 goes 1, 2, 3 (buffer under 2), 4 halted, 5 empty"
abbrev pub given_interrupt : Device → ℕ → ℕ → Type 0
given_interrupt u room =
    1 when Unsound u ∣
    2 when Unconfigured u ∣
    3 when (room < 2) ∣
    4 when InterruptHalted u ∣
    5 when Not (Waits u) ∣ else_0

-- "Unconfigured, only SET_CONFIGURATION is served"
abbrev pub Configures : Setup → Type 0
Configures (Configure value) = Unit {0}
Configures (Asks row) = ⊥

pub record Served (u : Device) (s : List ℕ) : Type 0 where
  pub asks : Setup
  pub matches : Matches s rows asks
  pub now : Not (Unconfigured u) ⊎ Configures asks

-- "Setup: 1, 3, 15"
abbrev pub given_setup : Device → SetupPacket → ℕ → Type 0
given_setup u p =
    1 when Unsound u ∣
    3 when (Not (length p.packet ≡ 8) ⊎ (p.room < 24)) ∣
    15 when Not (Served u p.packet) ∣ else_0

-- "Take: 1, 2, 16, 3"
abbrev pub given_take : Device → ℕ → ℕ → Type 0
given_take u room =
    1 when Unsound u ∣
    2 when Unconfigured u ∣
    16 when Not (MessageReady u) ∣
    3 when (room < (out_side u).message.held) ∣ else_0

-- "Offer: 1, 2, 3, 16"
abbrev pub given_offer : Device → List ℕ → ℕ → Type 0
given_offer u bytes =
    1 when Unsound u ∣
    2 when Unconfigured u ∣
    3 when ((length bytes ≡ 0) ⊎ (1024 < length bytes)) ∣
    16 when (ReplyStored u ⊎ (u.state.split ≡ Clear)) ∣ else_0

-- "Panel and set status: 1, 2", "Bus calls: 1"
abbrev pub given_panel : Device → ℕ → Type 0
given_panel u = 1 when Unsound u ∣ 2 when Unconfigured u ∣ else_0

abbrev pub given_bus : Device → ℕ → Type 0
given_bus u = 1 when Unsound u ∣ else_0

abbrev pub given_quiet : Device → Quiet → ℕ → Type 0
given_quiet u (in_poll room) = given_in u room
given_quiet u (interrupt_poll room) = given_interrupt u room
given_quiet u (offer_reply bytes) = given_offer u bytes
given_quiet u (set_status status) = given_panel u
given_quiet u front_panel = given_panel u
given_quiet u bus_suspend = given_bus u

abbrev pub given : Device → Call → ℕ → Type 0
given u (setup_packet p) = given_setup u p
given u (out_packet s) = given_out u s
given u (take_into room) = given_take u room
given u bus_reset = given_bus u
given u (quiet q) = given_quiet u q

-- "Power-on takes a packet size P, 64 or 512; any other is answered 3"
abbrev pub given_power : Setting → ℕ → Type 0
given_power setting = 3 when (Not (setting.packet ≡ 64) × Not (setting.packet ≡ 512)) ∣ else_0

-- ** THE LAW: for every call on every unit the number is the first in 01's order whose condition holds, and 0 where none does

abbrev pub RuleForEvery : Stepping → Type 0
RuleForEvery does = (u : Device) (c : Call) → given u c (does u c).answer.verdict.number

abbrev pub PowerRule : (Setting → Result) → Type 0
PowerRule powers = (setting : Setting) → given_power setting (powers setting).answer.verdict.number
