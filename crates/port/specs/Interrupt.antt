-- The status byte, and Interrupt-IN, whose packets tell of it. 02, request 1; USB488, "Interrupt-IN".
-- Assumes nothing.
use Rattle.std.specs.Prelude.{ℕ, ◌+◌, ◌*◌, ◌/◌, ◌%◌, Bool, List, [], ◌∷◌}
use Rattle.rules.specs.Choice.{◌=ᵇ◌, ◌≠ᵇ◌, ◌<ᵇ◌, no, ◌and◌, pick, ◌⇒◌∣◌, decide}
use Rattle.rules.specs.declared.refusal.Refusal.{Refusal}
use Rattle.rules.specs.declared.refusal.Refusal.TheVariants.{Unconfigured, WrongSize, Halted, Wait}
use Rattle.port.specs.Parts.{on, interrupt_of, is_configured, with_interrupt, with_status, with_waiting, no_packet}
use Rattle.port.specs.Answer.{Said, says, refuse}
use Rattle.port.specs.declared.types.Notify.{Notify}
use Rattle.port.specs.declared.types.InterruptIn.{InterruptIn}
use Rattle.port.specs.declared.types.State.{State}

-- ** a status byte, and the packets that tell of it

-- "bit 6 on"; "clears bit 6"
abbrev pub asks_service : ℕ → Bool
asks_service status = status / 64 % 2 =ᵇ 1

abbrev pub without_bit_6 : ℕ → ℕ
without_bit_6 status = status / 128 * 128 + status % 64

-- "a service request, which sends 0x81 and the status byte"
abbrev pub SERVICE_REQUEST : ℕ
SERVICE_REQUEST = 0x81

abbrev pub service_request : ℕ → Notify
service_request status = record { notify1 = SERVICE_REQUEST; notify2 = status }

-- "READ_STATUS_BYTE queues its tag with the top bit set and the status byte"
abbrev pub TOP_BIT : ℕ
TOP_BIT = 0x80

abbrev pub status_read : ℕ → ℕ → Notify
status_read tag status = record { notify1 = TOP_BIT + tag % TOP_BIT; notify2 = status }

-- ** the endpoint

-- a packet waits
abbrev pub is_waiting : InterruptIn → Bool
is_waiting i = i.waiting.notify1 ≠ᵇ 0

-- "While it waits .. a service request is kept": bit 6 stays on, and is the kept request
abbrev pub is_kept : InterruptIn → Bool
is_kept i = is_waiting i and asks_service i.status

-- no packet waits: if bit 6 is on, "the status byte then held is queued", which "clears bit 6 once queued"
unfoldable pub notified : InterruptIn → InterruptIn
notified i =
    pick (asks_service i.status)
    (record { status = without_bit_6 i.status; waiting = service_request i.status; halted = i.halted })
    i

-- "setting a status byte with bit 6 on is a service request"; "One packet waits at a time"
unfoldable pub status_held : InterruptIn → ℕ → InterruptIn
status_held i status = pick (is_waiting i) (with_status i status) (notified (with_status i status))

-- the packet is polled: "if bit 6 is still on when the packet is polled, the status byte then held is queued; the kept request ends either way"
unfoldable pub polled : InterruptIn → InterruptIn
polled i = notified (with_waiting i no_packet)

-- READ_STATUS_BYTE, where no packet waits
unfoldable pub status_queued : InterruptIn → ℕ → InterruptIn
status_queued i tag = with_waiting i (status_read tag i.status)

-- ** the poll: "1, 2, 3 (buffer under 2), 4 halted, 5 empty", of which 1 is asked before every call (Step)

-- bNotify1 and bNotify2
abbrev pub NOTIFY : ℕ
NOTIFY = 2

abbrev pub interrupt_rules : State → ℕ → List (Bool × Refusal)
interrupt_rules st room =
    no (is_configured st) ⇒ Unconfigured ∣
    room <ᵇ NOTIFY ⇒ WrongSize ∣
    on (interrupt_of st).halted ⇒ Halted ∣
    no (is_waiting (interrupt_of st)) ⇒ Wait ∣ []

abbrev pub notify_bytes : Notify → List ℕ
notify_bytes n = n.notify1 ∷ n.notify2 ∷ []

-- a poll into a buffer of `room` bytes
unfoldable pub poll_interrupt : State → ℕ → Said
poll_interrupt st room =
    decide (refuse st) (interrupt_rules st room)
    (says (with_interrupt st (polled (interrupt_of st))) (notify_bytes (interrupt_of st).waiting))
