-- The parts of a unit: their numbers, the tests on them, what each is when it is empty, and one part set while the others stay. 01, "The unit".
-- Assumes nothing.
use Rattle.std.specs.Prelude.{ℕ, Bool, true, false}
use Rattle.rules.specs.Choice.{◌=ᵇ◌, ◌≠ᵇ◌, ◌or◌, ◌and◌, pick}
use Rattle.rules.specs.Flags.{OFF, ON}
use Rattle.port.specs.declared.types.Setting.{Setting}
use Rattle.port.specs.declared.types.Port.{Port}
use Rattle.port.specs.declared.types.OutMessage.{OutMessage}
use Rattle.port.specs.declared.types.OutTransfer.{OutTransfer}
use Rattle.port.specs.declared.types.BulkOut.{BulkOut}
use Rattle.port.specs.declared.types.InReply.{InReply}
use Rattle.port.specs.declared.types.InTransfer.{InTransfer}
use Rattle.port.specs.declared.types.BulkIn.{BulkIn}
use Rattle.port.specs.declared.types.Notify.{Notify}
use Rattle.port.specs.declared.types.InterruptIn.{InterruptIn}
use Rattle.port.specs.declared.types.Split.{Split}
use Rattle.port.specs.declared.types.Split.TheVariants.{None, AbortOut, AbortIn, Clear}
use Rattle.port.specs.declared.types.Remote.{Remote}
use Rattle.port.specs.declared.types.Remote.TheVariants.{Locs}
use Rattle.port.specs.declared.types.State.{State}

-- "a message store of 1,024 bytes .. and a reply store of the same size"
abbrev pub STORE : ℕ
STORE = 1024

-- "a packet size P, 64 or 512"
abbrev pub FULL_SPEED : ℕ
FULL_SPEED = 64

abbrev pub HIGH_SPEED : ℕ
HIGH_SPEED = 512

abbrev pub is_size : ℕ → Bool
is_size p = p =ᵇ FULL_SPEED or p =ᵇ HIGH_SPEED

-- how far a Bulk-IN transfer is: closed; asked for, with no packet of it gone; on its way; nothing but its empty packet to go
abbrev pub CLOSED : ℕ
CLOSED = 0

abbrev pub ASKED : ℕ
ASKED = 1

abbrev pub SENDING : ℕ
SENDING = 2

abbrev pub OWED : ℕ
OWED = 3

-- ** tests

abbrev pub on : ℕ → Bool
on flag = flag =ᵇ ON

-- "An OUT transfer is open from its header until complete"
abbrev pub is_open_out : BulkOut → Bool
is_open_out o = o.transfer.left ≠ᵇ 0

-- a message is unfinished: a part of it has come
abbrev pub unfinished : BulkOut → Bool
unfinished o = o.message.ready =ᵇ OFF and o.message.held ≠ᵇ 0

-- "an IN transfer from its REQUEST until its short packet"
abbrev pub is_open_in : BulkIn → Bool
is_open_in b = b.transfer.phase ≠ᵇ CLOSED

abbrev pub is_owed : BulkIn → Bool
is_owed b = b.transfer.phase =ᵇ OWED

-- "The reply is gone when a transfer with D0 closes": until then it is stored, with no byte unsent perhaps
abbrev pub has_reply : BulkIn → Bool
has_reply b = b.reply.unsent ≠ᵇ 0 or b.transfer.phase =ᵇ SENDING

abbrev pub is_none : Split → Bool
is_none None = true
is_none (AbortOut n) = false
is_none (AbortIn n) = false
is_none Clear = false

-- a clear or an abort of Bulk-OUT
abbrev pub keeps_halt : Split → Bool
keeps_halt None = false
keeps_halt (AbortOut n) = true
keeps_halt (AbortIn n) = false
keeps_halt Clear = true

abbrev pub is_clear : Split → Bool
is_clear None = false
is_clear (AbortOut n) = false
is_clear (AbortIn n) = false
is_clear Clear = true

-- ** fields, by short ways

abbrev pub port_of : State → Port
port_of st = st.small.port

abbrev pub out_of : State → BulkOut
out_of st = st.small.bulkout

abbrev pub in_of : State → BulkIn
in_of st = st.small.bulkin

abbrev pub interrupt_of : State → InterruptIn
interrupt_of st = st.small.interrupt

abbrev pub packet_size : State → ℕ
packet_size st = (port_of st).setting.packet

abbrev pub is_configured : State → Bool
is_configured st = on (port_of st).configured

-- ** a message, a reply and a transfer: nothing is held, nothing is stored, the transfer is closed; and the phases of an IN transfer

abbrev pub no_message : OutMessage
no_message = record { held = 0; ready = OFF }

abbrev pub closed_out : OutTransfer
closed_out = record { left = 0; got = 0; end = OFF }

abbrev pub no_reply : InReply
no_reply = record { at = 0; unsent = 0 }

-- phase, tag; asked, enabled, term; left, sent
abbrev pub transfer_in : ℕ → ℕ → ℕ → ℕ → ℕ → ℕ → ℕ → InTransfer
transfer_in phase tag asked enabled term left sent =
    record { phase = phase; tag = tag; asked = asked; enabled = enabled; term = term; left = left; sent = sent }

abbrev pub closed_in : InTransfer
closed_in = transfer_in CLOSED 0 0 OFF 0 0 0

abbrev pub asked_in : ℕ → ℕ → ℕ → ℕ → InTransfer
asked_in tag asked enabled term = transfer_in ASKED tag asked enabled term 0 0

abbrev pub sending_in : ℕ → ℕ → ℕ → InTransfer
sending_in tag left sent = transfer_in SENDING tag 0 OFF 0 left sent

abbrev pub owed_in : ℕ → InTransfer
owed_in tag = transfer_in OWED tag 0 OFF 0 0 0

-- ** one part set, the others kept

abbrev pub with_port : State → Port → State
with_port st p =
    record { small = record { port = p; bulkout = out_of st; bulkin = in_of st; interrupt = interrupt_of st }; split = st.split; remote = st.remote }

abbrev pub with_out : State → BulkOut → State
with_out st o =
    record { small = record { port = port_of st; bulkout = o; bulkin = in_of st; interrupt = interrupt_of st }; split = st.split; remote = st.remote }

abbrev pub with_in : State → BulkIn → State
with_in st b =
    record { small = record { port = port_of st; bulkout = out_of st; bulkin = b; interrupt = interrupt_of st }; split = st.split; remote = st.remote }

abbrev pub with_interrupt : State → InterruptIn → State
with_interrupt st i =
    record { small = record { port = port_of st; bulkout = out_of st; bulkin = in_of st; interrupt = i }; split = st.split; remote = st.remote }

abbrev pub with_split : State → Split → State
with_split st s = record { small = st.small; split = s; remote = st.remote }

abbrev pub with_remote : State → Remote → State
with_remote st r = record { small = st.small; split = st.split; remote = r }

abbrev pub with_ren : Port → ℕ → Port
with_ren p r = record { setting = p.setting; configured = p.configured; ren = r }

-- the message and the transfer of Bulk-OUT; the reply and the transfer of Bulk-IN
abbrev pub holding : BulkOut → OutMessage → OutTransfer → BulkOut
holding o m t = record { message = m; transfer = t; halted = o.halted; recent = o.recent }

abbrev pub carrying : BulkIn → InReply → InTransfer → BulkIn
carrying b r t = record { reply = r; transfer = t; halted = b.halted; recent = b.recent }

abbrev pub with_in_halted : BulkIn → ℕ → BulkIn
with_in_halted b h = record { reply = b.reply; transfer = b.transfer; halted = h; recent = b.recent }

abbrev pub with_status : InterruptIn → ℕ → InterruptIn
with_status i s = record { status = s; waiting = i.waiting; halted = i.halted }

abbrev pub with_waiting : InterruptIn → Notify → InterruptIn
with_waiting i n = record { status = i.status; waiting = n; halted = i.halted }

abbrev pub with_interrupt_halted : InterruptIn → ℕ → InterruptIn
with_interrupt_halted i h = record { status = i.status; waiting = i.waiting; halted = h }

-- ** power-on

-- nothing held, no transfer open
abbrev pub empty_out : ℕ → ℕ → BulkOut
empty_out halted recent = record { message = no_message; transfer = closed_out; halted = halted; recent = recent }

-- no reply stored, and no transfer but this one
abbrev pub empty_in : InTransfer → ℕ → ℕ → BulkIn
empty_in transfer halted recent = record { reply = no_reply; transfer = transfer; halted = halted; recent = recent }

-- no packet waits on Interrupt-IN
abbrev pub no_packet : Notify
no_packet = record { notify1 = 0; notify2 = 0 }

-- "unconfigured, with nothing stored, open, halted or in progress, REN off, LOCS, status byte 0"; "1 configured, 0 not"
unfoldable pub fresh : Setting → ℕ → State
fresh setting configured = record {
  small = record {
    port = record { setting = setting; configured = configured; ren = OFF };
    bulkout = empty_out OFF 0;
    bulkin = empty_in closed_in OFF 0;
    interrupt = record { status = 0; waiting = no_packet; halted = OFF };
  };
  split = None;
  remote = Locs;
}

-- ** what ends

-- "the unfinished message, but not a ready one"
abbrev pub unbroken : OutMessage → OutMessage
unbroken m = pick (on m.ready) m no_message

-- "A halt of Bulk-OUT .. drops the open OUT transfer and the unfinished message"; `halted`: the halt after it
unfoldable pub broken : ℕ → BulkOut → BulkOut
broken halted o = record { message = unbroken o.message; transfer = closed_out; halted = halted; recent = o.recent }

abbrev pub halted_out : State → State
halted_out st = with_out st (broken ON (out_of st))

-- the IN transfer closes; what is unsent of the reply stays
unfoldable pub shut : BulkIn → BulkIn
shut b = carrying b b.reply closed_in
