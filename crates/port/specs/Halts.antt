-- Splits and halts, a line of 01 to a law: what each request that moves them answers and leaves, over the unit before it and the unit behind it. "01" stands
-- for 01's own words; nothing here is the step's effect on a state (Rows, Parts).
-- Assumes nothing.
use Rattle.std.specs.Prelude.{ℕ, ◌/◌, ◌%◌, ◌<◌, ◌≡◌, List, [], ◌∷◌, ◌⊎◌}
use Rattle.rules.specs.When.{Not, ◌when◌∣◌}
use Rattle.wire.specs.When.{at, rows, Matches}
use Rattle.wire.specs.declared.types.Endpoint.TheVariants.{Out, In, Interrupt}
use Rattle.wire.specs.declared.types.Row.{Row}
use Rattle.wire.specs.declared.types.Row.TheVariants.{InitiateAbortBulkOut, CheckAbortBulkOutStatus, InitiateAbortBulkIn}
use Rattle.wire.specs.declared.types.Row.TheVariants.{CheckAbortBulkInStatus, InitiateClear, CheckClearStatus}
use Rattle.wire.specs.declared.types.Row.TheVariants.{ClearFeature, SetFeature, GetStatus}
use Rattle.wire.specs.declared.types.Setup.TheVariants.{Asks}
use Rattle.port.specs.Device.{Device}
use Rattle.port.specs.Step.{SetupPacket, setup_packet, out_packet, bus_reset, Stepping}
use Rattle.port.specs.When.{OutHalted, InHalted, InterruptHalted, MessageReady, OutOpen, InOpen, Owed}
use Rattle.port.specs.declared.types.BulkOut.{BulkOut}
use Rattle.port.specs.declared.types.BulkIn.{BulkIn}
use Rattle.port.specs.declared.types.InterruptIn.{InterruptIn}
use Rattle.port.specs.declared.types.Remote.TheVariants.{Locs}
use Rattle.port.specs.declared.types.Split.{Split}
use Rattle.port.specs.declared.types.Split.TheVariants.{None, AbortOut, AbortIn, Clear}

-- ** a unit before a request, and behind it

abbrev out_side : Device → BulkOut
out_side u = u.state.small.bulkout

abbrev in_side : Device → BulkIn
in_side u = u.state.small.bulkin

abbrev interrupt_side : Device → InterruptIn
interrupt_side u = u.state.small.interrupt

-- "the unfinished message, but not a ready one": a ready message stays, byte by byte; of another nothing is held; and no transfer is open
pub record Dropped (u v : Device) : Type 0 where
  pub closed : Not (OutOpen v)
  pub ready_stays : MessageReady u → ((out_side v).message ≡ (out_side u).message) × (v.message ≡ u.message)
  pub unfinished_goes : Not (MessageReady u) → Not (MessageReady v) × ((out_side v).message.held ≡ 0)

-- "A halt of Bulk-OUT": it is halted, and that drops what it drops
abbrev pub Halted : Device → Device → Type 0
Halted u v = OutHalted v × Dropped u v

-- what a request of one side leaves of the other: its Bulk-IN side and the reply, or its Bulk-OUT side and the message; REN and the remote/local state, and
-- Interrupt-IN with the status byte, the packet that waits and its halt
abbrev pub InStays : Device → Device → Type 0
InStays u v = (in_side v ≡ in_side u) × (v.reply ≡ u.reply)

abbrev pub OutStays : Device → Device → Type 0
OutStays u v = (out_side v ≡ out_side u) × (v.message ≡ u.message)

abbrev pub PanelStays : Device → Device → Type 0
PanelStays u v = (v.state.small.port ≡ u.state.small.port) × (v.state.remote ≡ u.state.remote) × (interrupt_side v ≡ interrupt_side u)

-- the split alone has changed
abbrev pub SplitBecomes : Device → Split → Device → Type 0
SplitBecomes u s v = (v.state.split ≡ s) × InStays u v × OutStays u v × PanelStays u v

-- ** the statuses

-- "INITIATE_ABORT: 83 if any split is in progress, else 80 if none is open, 81 if the tag differs, else 01"
abbrev pub abort_status : Device → Type 0 → ℕ → ℕ → ℕ → Type 0
abort_status u isOpen own tag =
    0x83 when Not (u.state.split ≡ None) ∣
    0x80 when Not isOpen ∣
    0x81 when Not (tag ≡ own) ∣ (λ status. status ≡ 0x01)

-- "CHECK of the wrong split is 82 .. 02 .. while that packet is owed. Otherwise 01"
abbrev pub check_status : Type 0 → Type 0 → ℕ → Type 0
check_status wrong owed = 0x82 when wrong ∣ 0x02 when owed ∣ (λ status. status ≡ 0x01)

abbrev pub clear_status : Device → ℕ → Type 0
clear_status u = 0x83 when (u.state.split ≡ Clear) ∣ (λ status. status ≡ 0x01)

-- the count of an abort that ends, in the last four of the eight bytes
abbrev pub Counts : ℕ → List ℕ → Type 0
Counts n bytes = (at bytes 4 ≡ n % 256) × (at bytes 5 ≡ n / 256 % 256) × (at bytes 6 ≡ n / 65536 % 256) × (at bytes 7 ≡ n / 16777216 % 256)

-- what a status other than 01 leaves
abbrev pub Unless01 : Device → Device → List ℕ → Type 0
Unless01 u v bytes = Not (at bytes 0 ≡ 0x01) → v ≡ u

-- ** the requests

-- a row that is asked for, and answered 0
abbrev pub On : Stepping → Row → (Device → Device → List ℕ → Type 0) → Type 0
On does row Then = (u : Device) (p : SetupPacket) → Matches p.packet rows (Asks row) → (does u (setup_packet p)).answer.verdict.number ≡ 0
    → Then u (does u (setup_packet p)).unit (does u (setup_packet p)).answer.bytes

-- "An OUT abort halts Bulk-OUT": its count is of the data bytes that the open transfer has brought
pub record AbortsOut (tag : ℕ) (u v : Device) (bytes : List ℕ) : Type 0 where
  pub status : abort_status u (OutOpen u) (out_side u).recent tag (at bytes 0)
  pub its_tag : at bytes 1 ≡ (out_side u).recent
  pub unless : Unless01 u v bytes
  pub split : at bytes 0 ≡ 0x01 → v.state.split ≡ AbortOut (out_side u).transfer.got
  pub halts : at bytes 0 ≡ 0x01 → Halted u v
  pub tag_stays : (out_side v).recent ≡ (out_side u).recent
  pub in_stays : InStays u v
  pub panel_stays : PanelStays u v

-- the split in progress is an abort of Bulk-OUT, with this count
pub record ChecksOut (u v : Device) (bytes : List ℕ) : Type 0 where
  pub status : check_status ((n : ℕ) → Not (u.state.split ≡ AbortOut n)) ⊥ (at bytes 0)
  pub d0 : at bytes 1 ≡ 0
  pub unless : Unless01 u v bytes
  pub count : (n : ℕ) → u.state.split ≡ AbortOut n → Counts n bytes
  pub no_count : Not (at bytes 0 ≡ 0x01) → Counts 0 bytes
  pub ends : at bytes 0 ≡ 0x01 → SplitBecomes u None v

-- "An IN abort drops the whole reply and owes an empty packet": the transfer stays open, with its tag
pub record AbortsIn (tag : ℕ) (u v : Device) (bytes : List ℕ) : Type 0 where
  pub status : abort_status u (InOpen u) (in_side u).transfer.tag tag (at bytes 0)
  pub its_tag : (InOpen u → at bytes 1 ≡ (in_side u).transfer.tag) × (Not (InOpen u) → at bytes 1 ≡ (in_side u).recent)
  pub unless : Unless01 u v bytes
  pub split : at bytes 0 ≡ 0x01 → v.state.split ≡ AbortIn (in_side u).transfer.sent
  pub drops : at bytes 0 ≡ 0x01 → (in_side v).reply.unsent ≡ 0
  pub owes : at bytes 0 ≡ 0x01 → Owed v × ((in_side v).transfer.tag ≡ (in_side u).transfer.tag)
  pub halt_stays : (in_side v).halted ≡ (in_side u).halted
  pub tag_stays : (in_side v).recent ≡ (in_side u).recent
  pub out_stays : OutStays u v
  pub panel_stays : PanelStays u v

pub record ChecksIn (u v : Device) (bytes : List ℕ) : Type 0 where
  pub status : check_status ((n : ℕ) → Not (u.state.split ≡ AbortIn n)) (Owed u) (at bytes 0)
  pub d0 : ((at bytes 0 ≡ 0x02) → at bytes 1 ≡ 1) × (Not (at bytes 0 ≡ 0x02) → at bytes 1 ≡ 0)
  pub unless : Unless01 u v bytes
  pub count : (n : ℕ) → u.state.split ≡ AbortIn n → at bytes 0 ≡ 0x01 → Counts n bytes
  pub no_count : Not (at bytes 0 ≡ 0x01) → Counts 0 bytes
  pub ends : at bytes 0 ≡ 0x01 → SplitBecomes u None v

-- "it ends any abort split, drops the ready message and the reply, sets both most recent tags to 0 (an open transfer keeps its own), halts Bulk-OUT, and
-- owes the empty packet if an IN transfer is open"
pub record Clears (u v : Device) (bytes : List ℕ) : Type 0 where
  pub status : clear_status u (at bytes 0)
  pub unless : Unless01 u v bytes
  pub split : at bytes 0 ≡ 0x01 → v.state.split ≡ Clear
  pub message_goes : at bytes 0 ≡ 0x01 → Not (MessageReady v) × ((out_side v).message.held ≡ 0) × Not (OutOpen v)
  pub reply_goes : at bytes 0 ≡ 0x01 → (in_side v).reply.unsent ≡ 0
  pub tags : at bytes 0 ≡ 0x01 → ((out_side v).recent ≡ 0) × ((in_side v).recent ≡ 0)
  pub halts : at bytes 0 ≡ 0x01 → OutHalted v
  pub owes : at bytes 0 ≡ 0x01 → InOpen u → Owed v × ((in_side v).transfer.tag ≡ (in_side u).transfer.tag)
  pub none_owed : at bytes 0 ≡ 0x01 → Not (InOpen u) → Not (InOpen v)
  pub in_halt_stays : (in_side v).halted ≡ (in_side u).halted
  pub panel_stays : PanelStays u v

pub record ChecksClear (u v : Device) (bytes : List ℕ) : Type 0 where
  pub status : check_status (Not (u.state.split ≡ Clear)) (Owed u) (at bytes 0)
  pub d0 : ((at bytes 0 ≡ 0x02) → at bytes 1 ≡ 1) × (Not (at bytes 0 ≡ 0x02) → at bytes 1 ≡ 0)
  pub unless : Unless01 u v bytes
  pub ends : at bytes 0 ≡ 0x01 → SplitBecomes u None v

-- "CLEAR_FEATURE on 0x01 ends the halt and drops what is unfinished; during a clear or abort-OUT split .. the halt stays"
abbrev pub KeepsHalt : Device → Type 0
KeepsHalt u = (u.state.split ≡ Clear) ⊎ ((n : ℕ) × (u.state.split ≡ AbortOut n))

pub record FreesOut (u v : Device) (bytes : List ℕ) : Type 0 where
  pub drops : Dropped u v
  pub halt_stays : KeepsHalt u → (out_side v).halted ≡ (out_side u).halted
  pub halt_ends : Not (KeepsHalt u) → Not (OutHalted v)
  pub tag_stays : (out_side v).recent ≡ (out_side u).recent
  pub split_stays : v.state.split ≡ u.state.split
  pub in_stays : InStays u v
  pub panel_stays : PanelStays u v

pub record HaltsOut (u v : Device) (bytes : List ℕ) : Type 0 where
  pub halts : Halted u v
  pub tag_stays : (out_side v).recent ≡ (out_side u).recent
  pub split_stays : v.state.split ≡ u.state.split
  pub in_stays : InStays u v
  pub panel_stays : PanelStays u v

-- "On 0x82 it ends the halt and any owed packet; an open transfer closes, and the stored reply goes with it unless a packet was owed"
pub record FreesIn (u v : Device) (bytes : List ℕ) : Type 0 where
  pub halt_ends : Not (InHalted v)
  pub closes : Not (InOpen v)
  pub reply_goes : InOpen u → Not (Owed u) → (in_side v).reply.unsent ≡ 0
  pub reply_stays : (Owed u ⊎ Not (InOpen u)) → ((in_side v).reply ≡ (in_side u).reply) × (v.reply ≡ u.reply)
  pub tag_stays : (in_side v).recent ≡ (in_side u).recent
  pub split_stays : v.state.split ≡ u.state.split
  pub out_stays : OutStays u v
  pub panel_stays : PanelStays u v

pub record HaltsIn (u v : Device) (bytes : List ℕ) : Type 0 where
  pub halts : InHalted v
  pub transfer_stays : (in_side v).transfer ≡ (in_side u).transfer
  pub reply_stays : ((in_side v).reply ≡ (in_side u).reply) × (v.reply ≡ u.reply)
  pub tag_stays : (in_side v).recent ≡ (in_side u).recent
  pub split_stays : v.state.split ≡ u.state.split
  pub out_stays : OutStays u v
  pub panel_stays : PanelStays u v

-- 02, request 1: "feature (dropping no packet) .. rows take 0x83": the halt of Interrupt-IN alone
pub record InterruptMoves (u v : Device) : Type 0 where
  pub status_stays : (interrupt_side v).status ≡ (interrupt_side u).status
  pub packet_stays : (interrupt_side v).waiting ≡ (interrupt_side u).waiting
  pub split_stays : v.state.split ≡ u.state.split
  pub port_stays : (v.state.small.port ≡ u.state.small.port) × (v.state.remote ≡ u.state.remote)
  pub out_stays : OutStays u v
  pub in_stays : InStays u v

abbrev pub FreesInterrupt : Device → Device → List ℕ → Type 0
FreesInterrupt u v bytes = Not (InterruptHalted v) × InterruptMoves u v

abbrev pub HaltsInterrupt : Device → Device → List ℕ → Type 0
HaltsInterrupt u v bytes = InterruptHalted v × InterruptMoves u v

-- "2: 1 if halted else 0, then 0"
abbrev pub TellsHalt : Type 0 → Device → Device → List ℕ → Type 0
TellsHalt halted u v bytes = (halted → bytes ≡ 1 ∷ 0 ∷ []) × (Not halted → bytes ≡ 0 ∷ 0 ∷ []) × (v ≡ u)

-- ** a fault, SET_CONFIGURATION and reset

-- "OUT halted": any of 6 to 13; a refused header "moves neither tag nor state but for the halt"
pub record Faults (u v : Device) : Type 0 where
  pub halts : Halted u v
  pub tag_stays : (out_side v).recent ≡ (out_side u).recent
  pub split_stays : v.state.split ≡ u.state.split
  pub in_stays : InStays u v
  pub panel_stays : PanelStays u v

-- "as at power-on": nothing is stored, open, halted or in progress, both most recent tags are 0, REN off, LOCS, status byte 0; no packet waits
pub record Cleared (v : Device) : Type 0 where
  pub message_goes : Not (MessageReady v) × ((out_side v).message.held ≡ 0) × Not (OutOpen v)
  pub reply_goes : ((in_side v).reply.unsent ≡ 0) × Not (InOpen v)
  pub runs : Not (OutHalted v) × Not (InHalted v) × Not (InterruptHalted v)
  pub split : v.state.split ≡ None
  pub tags : ((out_side v).recent ≡ 0) × ((in_side v).recent ≡ 0)
  pub panel : (v.state.small.port.ren ≡ 0) × (v.state.remote ≡ Locs)
  pub interrupt : ((interrupt_side v).status ≡ 0) × ((interrupt_side v).waiting.notify1 ≡ 0)

-- ** THE LAW

pub record SplitsAndHalts (does : Stepping) : Type 0 where
  pub aborts_out : (tag : ℕ) → On does (InitiateAbortBulkOut tag) (AbortsOut tag)
  pub checks_out : On does CheckAbortBulkOutStatus ChecksOut
  pub aborts_in : (tag : ℕ) → On does (InitiateAbortBulkIn tag) (AbortsIn tag)
  pub checks_in : On does CheckAbortBulkInStatus ChecksIn
  pub clears : On does InitiateClear Clears
  pub checks_clear : On does CheckClearStatus ChecksClear
  pub frees_out : On does (ClearFeature Out) FreesOut
  pub frees_in : On does (ClearFeature In) FreesIn
  pub halts_out : On does (SetFeature Out) HaltsOut
  pub halts_in : On does (SetFeature In) HaltsIn
  pub frees_interrupt : On does (ClearFeature Interrupt) FreesInterrupt
  pub halts_interrupt : On does (SetFeature Interrupt) HaltsInterrupt
  pub tells_out : On does (GetStatus Out) (λ u. TellsHalt (OutHalted u) u)
  pub tells_in : On does (GetStatus In) (λ u. TellsHalt (InHalted u) u)
  pub tells_interrupt : On does (GetStatus Interrupt) (λ u. TellsHalt (InterruptHalted u) u)
  pub faults : (u : Device) (s : List ℕ) → 5 < (does u (out_packet s)).answer.verdict.number → Faults u (does u (out_packet s)).unit
  pub configures : (u : Device) (p : SetupPacket) → at p.packet 0 ≡ 0 → (does u (setup_packet p)).answer.verdict.number ≡ 0
      → Cleared (does u (setup_packet p)).unit
  pub resets : (u : Device) → (does u bus_reset).answer.verdict.number ≡ 0 → Cleared (does u bus_reset).unit
