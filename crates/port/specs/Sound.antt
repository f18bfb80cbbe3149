-- When a unit is sound: a test over the small parts, which reads no store. What a transfer does not use in its phase is 0, so that nothing
-- is left over there from before. For each clause proofs/Caught.antt has a state that it alone catches.
-- Assumes nothing.
use Rattle.std.specs.Prelude.{ℕ, ◌-◌, Bool, false, []}
use Rattle.rules.specs.Choice.{◌=ᵇ◌, ◌≠ᵇ◌, ◌<ᵇ◌, ◌≤ᵇ◌, no, ◌or◌, ◌and◌, pick, ◌⇒◌∣◌, first, ◌&◌, all, implies}
use Rattle.rules.specs.Flags.{OFF, ON}
use Rattle.port.specs.Parts.{STORE, is_size, CLOSED, ASKED, SENDING, OWED, on, is_open_out, is_owed, port_of, out_of, in_of, interrupt_of}
use Rattle.port.specs.Interrupt.{asks_service, SERVICE_REQUEST, is_waiting}
use Rattle.port.specs.declared.types.Port.{Port}
use Rattle.port.specs.declared.types.OutMessage.{OutMessage}
use Rattle.port.specs.declared.types.BulkOut.{BulkOut}
use Rattle.port.specs.declared.types.InTransfer.{InTransfer}
use Rattle.port.specs.declared.types.BulkIn.{BulkIn}
use Rattle.port.specs.declared.types.Notify.{Notify}
use Rattle.port.specs.declared.types.InterruptIn.{InterruptIn}
use Rattle.port.specs.declared.types.Split.{Split}
use Rattle.port.specs.declared.types.Split.TheVariants.{None, AbortOut, AbortIn, Clear}
use Rattle.port.specs.declared.types.State.{State}

abbrev pub is_flag : ℕ → Bool
is_flag n = n ≤ᵇ ON

unfoldable pub port_sound : Port → Bool
port_sound p = all (is_size p.setting.packet & is_flag p.configured & is_flag p.ren & [])

-- a halt or a ready message excludes an open transfer, whose bytes to come have room behind those that are held
unfoldable pub open_sound : BulkOut → Bool
open_sound o =
    all
    (o.halted =ᵇ OFF &
    o.message.ready =ᵇ OFF &
    is_flag o.transfer.end &
    o.recent ≠ᵇ 0 &
    o.transfer.got ≠ᵇ 0 &
    o.transfer.got ≤ᵇ o.message.held &
    o.message.held ≤ᵇ STORE &
    o.transfer.left ≤ᵇ STORE - o.message.held & [])

-- a ready message has a byte; a halted Bulk-OUT holds no part of an unfinished one
unfoldable pub held_sound : ℕ → OutMessage → Bool
held_sound halted m =
    all
    (implies (on m.ready) (m.held ≠ᵇ 0) &
    implies (on halted and no (on m.ready)) (m.held =ᵇ 0) & [])

unfoldable pub resting_sound : BulkOut → Bool
resting_sound o =
    all
    (is_flag o.halted &
    is_flag o.message.ready &
    o.transfer.end =ᵇ OFF &
    o.transfer.got =ᵇ 0 &
    o.message.held ≤ᵇ STORE &
    held_sound o.halted o.message & [])

unfoldable pub out_sound : BulkOut → Bool
out_sound o = pick (is_open_out o) (open_sound o) (resting_sound o)

-- what a phase leaves unused is 0; what it uses is in range
unfoldable pub unasked : InTransfer → Bool
unasked t = all (t.asked =ᵇ 0 & t.enabled =ᵇ OFF & t.term =ᵇ 0 & [])

unfoldable pub unsending : InTransfer → Bool
unsending t = all (t.left =ᵇ 0 & t.sent =ᵇ 0 & [])

unfoldable pub idle : InTransfer → Bool
idle t = all (unasked t & unsending t & [])

unfoldable pub asked_sound : InTransfer → Bool
asked_sound t =
    all
    (t.tag ≠ᵇ 0 &
    t.asked ≠ᵇ 0 &
    t.asked ≤ᵇ STORE &
    is_flag t.enabled &
    implies (t.enabled =ᵇ OFF) (t.term =ᵇ 0) &
    unsending t & [])

-- of a reply with so many bytes unsent
unfoldable pub sending_sound : ℕ → InTransfer → Bool
sending_sound unsent t = all (t.tag ≠ᵇ 0 & t.left ≤ᵇ unsent & t.sent ≤ᵇ STORE & t.left ≤ᵇ STORE - t.sent & unasked t & [])

unfoldable pub phase_sound : ℕ → InTransfer → Bool
phase_sound unsent t =
    first
    (t.phase =ᵇ CLOSED ⇒ all (t.tag =ᵇ 0 & idle t & []) ∣
    t.phase =ᵇ ASKED ⇒ asked_sound t ∣
    t.phase =ᵇ SENDING ⇒ sending_sound unsent t ∣
    t.phase =ᵇ OWED ⇒ all (t.tag ≠ᵇ 0 & idle t & []) ∣ [])
    false

unfoldable pub in_sound : BulkIn → Bool
in_sound b =
    all
    (is_flag b.halted &
    b.reply.at ≤ᵇ STORE &
    b.reply.unsent ≤ᵇ STORE - b.reply.at &
    phase_sound b.reply.unsent b.transfer & [])

-- a packet that waits: of a service request, with bit 6 on; of READ_STATUS_BYTE, whose tag is 2 at least, with bit 6 off
unfoldable pub packet_sound : Notify → Bool
packet_sound n =
    first
    (n.notify1 =ᵇ SERVICE_REQUEST ⇒ asks_service n.notify2 ∣
    SERVICE_REQUEST <ᵇ n.notify1 ⇒ no (asks_service n.notify2) ∣ [])
    false

unfoldable pub waiting_sound : InterruptIn → Bool
waiting_sound i = all (is_flag i.halted & packet_sound i.waiting & [])

-- while none waits bit 6 is off
unfoldable pub silent_sound : InterruptIn → Bool
silent_sound i = all (is_flag i.halted & i.waiting.notify2 =ᵇ 0 & no (asks_service i.status) & [])

unfoldable pub interrupt_sound : InterruptIn → Bool
interrupt_sound i = pick (is_waiting i) (waiting_sound i) (silent_sound i)

-- "a clear": Bulk-OUT halted, nothing held, no reply, both recent tags 0, and an IN transfer open only while its packet is owed
unfoldable pub clear_sound : BulkOut → BulkIn → Bool
clear_sound o b =
    all
    (on o.halted &
    o.message.held =ᵇ 0 &
    o.recent =ᵇ 0 &
    b.reply.unsent =ᵇ 0 &
    b.recent =ᵇ 0 &
    (b.transfer.phase =ᵇ CLOSED or is_owed b) & [])

-- a packet is owed only in abort-IN or clear, and an abort-OUT keeps the halt
unfoldable pub not_owed : BulkIn → Bool
not_owed b = all (b.transfer.phase ≠ᵇ OWED & [])

unfoldable pub abort_out_sound : ℕ → BulkOut → BulkIn → Bool
abort_out_sound count o b = all (count ≤ᵇ STORE & on o.halted & not_owed b & [])

unfoldable pub split_sound : Split → BulkOut → BulkIn → Bool
split_sound None o b = not_owed b
split_sound (AbortOut count) o b = abort_out_sound count o b
split_sound (AbortIn count) o b = count ≤ᵇ STORE
split_sound Clear o b = clear_sound o b

unfoldable pub sound : State → Bool
sound st =
    all
    (port_sound (port_of st) &
    out_sound (out_of st) &
    in_sound (in_of st) &
    interrupt_sound (interrupt_of st) &
    split_sound st.split (out_of st) (in_of st) & [])
