-- What Interrupt-IN tells, as one at the other end sees it who counts calls and answers: the status byte that is held, and the packet that waits.
-- Nothing here is the port's own way of queueing (Interrupt), and a unit is looked at only where a history starts (watch_of). 02, request 1.
-- Assumes nothing.
use Rattle.std.specs.Prelude.{ℕ, ◌+◌, ◌-◌, ◌/◌, ◌%◌, ◌≡◌, Bool, true, false, List, [], ◌∷◌}
use Rattle.rules.specs.Choice.{◌=ᵇ◌, ◌≠ᵇ◌, ◌and◌, pick, ◌⇒◌∣◌, first}
use Rattle.rules.specs.When.{Not}
use Rattle.wire.specs.When.{at}
use Rattle.port.specs.Answer.{Answer}
use Rattle.port.specs.Device.{Device, is_sound, power_on}
use Rattle.port.specs.Step.{Quiet, in_poll, interrupt_poll, offer_reply, set_status, front_panel, bus_suspend}
use Rattle.port.specs.Step.{Call, setup_packet, out_packet, take_into, bus_reset, quiet, Stepping}
use Rattle.port.specs.Trace.{Event, trace}
use Rattle.port.specs.declared.types.Setting.{Setting}

-- ** what one knows who counts

-- the status byte that is held, and the bytes of the packet that waits, of which there are none where none waits
pub record Watch : Type 0 where
  pub held : ℕ
  pub next : List ℕ

abbrev pub unwatched : Watch
unwatched = record { held = 0; next = [] }

-- "bit 6 on"
abbrev pub bit6 : ℕ → Bool
bit6 status = status / 64 % 2 =ᵇ 1

abbrev pub none : List ℕ → Bool
none [] = true
none (b ∷ bs) = false

-- nothing waits: "a service request, which sends 0x81 and the status byte, and clears bit 6 once queued"
unfoldable pub behind : ℕ → Watch
behind status = pick (bit6 status) (record { held = status - 64; next = 0x81 ∷ status ∷ [] }) (record { held = status; next = [] })

-- ** what a call and its answer do to that

-- a status byte that is set: "While it waits .. a service request is kept"
unfoldable pub after_status : Watch → ℕ → Watch
after_status w status = pick (none w.next) (behind status) (record { held = status; next = w.next })

-- a setup packet that is answered 0: SET_CONFIGURATION; READ_STATUS_BYTE with SUCCESS, which "queues its tag with the top bit set and the status byte"
abbrev pub reads_status : List ℕ → Bool
reads_status s = at s 0 =ᵇ 0xA1 and at s 1 =ᵇ 128

unfoldable pub after_request : Watch → List ℕ → List ℕ → Watch
after_request w s bytes =
    first
    (at s 0 =ᵇ 0x00 ⇒ unwatched ∣
    reads_status s and at bytes 0 =ᵇ 0x01 ⇒ record { held = w.held; next = (0x80 + at s 2) ∷ w.held ∷ [] } ∣ [])
    w

-- a poll that is answered 0: "if bit 6 is still on when the packet is polled, the status byte then held is queued"
abbrev pub watch_quiet : Watch → Quiet → List ℕ → Watch
watch_quiet w (in_poll room) bytes = w
watch_quiet w (interrupt_poll room) bytes = behind w.held
watch_quiet w (offer_reply reply) bytes = w
watch_quiet w (set_status status) bytes = after_status w status
watch_quiet w front_panel bytes = w
watch_quiet w bus_suspend bytes = w

abbrev pub watch_call : Watch → Call → List ℕ → Watch
watch_call w (setup_packet p) bytes = after_request w p.packet bytes
watch_call w (out_packet s) bytes = w
watch_call w (take_into room) bytes = w
watch_call w bus_reset bytes = unwatched
watch_call w (quiet q) bytes = watch_quiet w q bytes

-- what is not answered 0 does nothing to it
unfoldable pub watched : Watch → Call → Answer → Watch
watched w c a = pick (a.verdict.number =ᵇ 0) (watch_call w c a.bytes) w

-- behind a whole history
abbrev pub watch : Watch → List Event → Watch
watch w [] = w
watch w (e ∷ es) = watch (watched w e.call e.answer) es

-- ** what an answer may be

-- READ_STATUS_BYTE: SUCCESS where none waits, else 0x20; its tag; "0x00 in its third byte"
abbrev pub StatusAnswered : Watch → List ℕ → List ℕ → Type 0
StatusAnswered w s bytes = bytes ≡ pick (none w.next) 0x01 0x20 ∷ at s 2 ∷ 0x00 ∷ []

-- a poll of 0x83 that is answered 0 brings the packet that waits, and nothing comes where none does; 5 says that none waits
abbrev pub QuietTells : Watch → Quiet → Answer → Type 0
QuietTells w (in_poll room) a = Unit {0}
QuietTells w (interrupt_poll room) a =
    (a.verdict.number ≡ 0 → Not (w.next ≡ []) × (a.bytes ≡ w.next)) × (a.verdict.number ≡ 5 → w.next ≡ [])
QuietTells w (offer_reply reply) a = Unit {0}
QuietTells w (set_status status) a = Unit {0}
QuietTells w front_panel a = Unit {0}
QuietTells w bus_suspend a = Unit {0}

abbrev pub Tells : Watch → Call → Answer → Type 0
Tells w (setup_packet p) a = a.verdict.number ≡ 0 → reads_status p.packet ≡ true → StatusAnswered w p.packet a.bytes
Tells w (out_packet s) a = Unit {0}
Tells w (take_into room) a = Unit {0}
Tells w bus_reset a = Unit {0}
Tells w (quiet q) a = QuietTells w q a

-- THE STATEMENT about a history
abbrev pub Watching : Watch → List Event → Type 0
Watching w [] = Unit {0}
Watching w (e ∷ es) = Tells w e.call e.answer × Watching (watched w e.call e.answer) es

-- ** where a history starts on a unit in use: what one would know who had counted up to it

abbrev pub watch_of : Device → Watch
watch_of u =
    let i = u.state.small.interrupt in
    record { held = i.status; next = pick (i.waiting.notify1 ≠ᵇ 0) (i.waiting.notify1 ∷ i.waiting.notify2 ∷ []) [] }

-- THE LAW of Interrupt-IN: from any sound unit, and from power-on
abbrev pub StatusTold : Stepping → Type 0
StatusTold does = (u : Device) (calls : List Call) → is_sound u ≡ true → Watching (watch_of u) (trace does u calls)

abbrev pub StatusToldEver : Stepping → Type 0
StatusToldEver does = (setting : Setting) (calls : List Call) → Watching unwatched (trace does (power_on setting).unit calls)
