-- A service request is told, and none is made up: over calls and answers from power-on. What one counts who sees them (port, Service) says here no more than
-- whether a packet waits and which status byte is held.
-- Assumes nothing.
use Rattle.std.specs.Prelude.{ℕ, ◌+◌, ◌≡◌, true, List, [], ◌∷◌, ◌++◌}
use Rattle.rules.specs.Choice.{◌=ᵇ◌, ◌and◌, pick}
use Rattle.rules.specs.When.{Not}
use Rattle.wire.specs.When.{at}
use Rattle.port.specs.Answer.{Answer}
use Rattle.port.specs.Device.{power_on}
use Rattle.port.specs.Laws.{Succeeds}
use Rattle.port.specs.Service.{Watch, unwatched, bit6, reads_status, watched, watch}
use Rattle.port.specs.Step.{Quiet, in_poll, interrupt_poll, offer_reply, set_status, front_panel, bus_suspend}
use Rattle.port.specs.Step.{Call, setup_packet, out_packet, take_into, bus_reset, quiet, setup_of, Stepping}
use Rattle.port.specs.Trace.{Event, trace}
use Rattle.port.specs.declared.types.Setting.{Setting}

-- ** events

abbrev pub event : Call → Answer → Event
event c a = record { call = c; answer = a }

abbrev pub sets : ℕ → Answer → Event
sets status a = event (quiet (set_status status)) a

abbrev pub polls : ℕ → Answer → Event
polls room a = event (quiet (interrupt_poll room)) a

-- READ_STATUS_BYTE, as it goes over the wire
abbrev pub READ_STATUS_BYTE : ℕ → List ℕ
READ_STATUS_BYTE tag = 0xA1 ∷ 128 ∷ tag ∷ 0 ∷ 0 ∷ 0 ∷ 3 ∷ 0 ∷ []

abbrev pub reads : ℕ → ℕ → Answer → Event
reads tag control a = event (setup_of (READ_STATUS_BYTE tag) control) a

-- a poll of 0x83, SET_CONFIGURATION and reset: what may take a packet away, where it is answered 0
abbrev pub TakesQuiet : Quiet → Type 0
TakesQuiet (in_poll room) = ⊥
TakesQuiet (interrupt_poll room) = Unit {0}
TakesQuiet (offer_reply bytes) = ⊥
TakesQuiet (set_status status) = ⊥
TakesQuiet front_panel = ⊥
TakesQuiet bus_suspend = ⊥

abbrev pub Takes : Call → Type 0
Takes (setup_packet p) = at p.packet 0 ≡ 0x00
Takes (out_packet s) = ⊥
Takes (take_into room) = ⊥
Takes bus_reset = Unit {0}
Takes (quiet q) = TakesQuiet q

-- a stretch with none of them: anything else may come, a clear, aborts, halts, features, suspend, status bytes, READ_STATUS_BYTE
abbrev pub Undisturbed : List Event → Type 0
Undisturbed [] = Unit {0}
Undisturbed (e ∷ es) = Not ((e.answer.verdict.number ≡ 0) × Takes e.call) × Undisturbed es

-- the status byte that was set last, and answered 0: of a call, and in a stretch
abbrev pub set_quiet : ℕ → Quiet → ℕ
set_quiet status (in_poll room) = status
set_quiet status (interrupt_poll room) = status
set_quiet status (offer_reply bytes) = status
set_quiet status (set_status value) = value
set_quiet status front_panel = status
set_quiet status bus_suspend = status

abbrev pub set_by : ℕ → Call → ℕ
set_by status (setup_packet p) = status
set_by status (out_packet s) = status
set_by status (take_into room) = status
set_by status bus_reset = status
set_by status (quiet q) = set_quiet status q

abbrev pub last_set : ℕ → List Event → ℕ
last_set status [] = status
last_set status (e ∷ es) = last_set (pick (e.answer.verdict.number =ᵇ 0) (set_by status e.call) status) es

-- what one knows behind a history from power-on: whether a packet waits, and the status byte that is held
abbrev pub NoneWaits : List Event → Type 0
NoneWaits es = (watch unwatched es).next ≡ []

abbrev pub held_behind : List Event → ℕ
held_behind es = (watch unwatched es).held

-- a poll is not told to wait, and answered 0 it brings this packet
pub record Brings (packet : List ℕ) (a : Answer) : Type 0 where
  pub waits : Not (a.verdict.number ≡ 5)
  pub bytes : a.verdict.number ≡ 0 → a.bytes ≡ packet

-- ** NO SERVICE REQUEST IS LOST. A status byte with bit 6 on is set and answered 0: with no packet waiting, the next poll brings 0x81 and that byte; with one
-- waiting, the poll that brings it is followed by one that brings 0x81 and the status byte as it was held at the first, if its bit 6 was on then.
-- Shuts out: a port that loses a request made while one waits, one that withdraws a packet when bit 6 is set off, one that writes a later byte into it,
-- one that drops it at a clear, one that always says wait

pub record NoRequestLost (does : Stepping) : Type 0 where
  pub at_once : (setting : Setting) (calls : List Call) (before between later : List Event) (status room : ℕ) (a b : Answer)
      → trace does (power_on setting).unit calls ≡ before ++ (sets status a ∷ (between ++ (polls room b ∷ later)))
      → a.verdict.number ≡ 0 → bit6 status ≡ true → NoneWaits before → Undisturbed between → Brings (0x81 ∷ status ∷ []) b
  pub kept : (setting : Setting) (calls : List Call) (before between more later : List Event) (status room first : ℕ) (a b c : Answer)
      → trace does (power_on setting).unit calls ≡ before ++ (sets status a ∷ (between ++ (polls first b ∷ (more ++ (polls room c ∷ later)))))
      → a.verdict.number ≡ 0 → bit6 status ≡ true → Not (NoneWaits before) → Undisturbed between → b.verdict.number ≡ 0 → Undisturbed more
      → bit6 (last_set status between) ≡ true → Brings (0x81 ∷ last_set status between ∷ []) c

-- ** and a status byte that is asked for comes: behind READ_STATUS_BYTE with SUCCESS the next poll brings its tag, the top bit set, and the byte held then

abbrev pub StatusComes : Stepping → Type 0
StatusComes does = (setting : Setting) (calls : List Call) (before between later : List Event) (tag control room : ℕ) (a b : Answer)
    → trace does (power_on setting).unit calls ≡ before ++ (reads tag control a ∷ (between ++ (polls room b ∷ later)))
    → Succeeds a → Undisturbed between → Brings ((0x80 + tag) ∷ held_behind before ∷ []) b

-- ** AND NONE IS MADE UP: each packet on 0x83 is a service request that was made, or a READ_STATUS_BYTE's with SUCCESS, each at most once, in order. Shuts out:
-- a port that sends a packet twice, one that makes one up

-- what an event makes that is answered 0
abbrev pub made : Watch → Call → Answer → List (List ℕ)
made w (setup_packet p) a = pick (reads_status p.packet and at a.bytes 0 =ᵇ 0x01) (((0x80 + at p.packet 2) ∷ w.held ∷ []) ∷ []) []
made w (out_packet s) a = []
made w (take_into room) a = []
made w bus_reset a = []
made w (quiet (in_poll room)) a = []
made w (quiet (interrupt_poll room)) a = []
made w (quiet (offer_reply bytes)) a = []
made w (quiet (set_status status)) a = pick (bit6 status) ((0x81 ∷ status ∷ []) ∷ []) []
made w (quiet front_panel) a = []
made w (quiet bus_suspend) a = []

-- SET_CONFIGURATION and reset drop what was made
abbrev pub wiped : Call → List (List ℕ) → List (List ℕ)
wiped (setup_packet p) requests = pick (at p.packet 0 =ᵇ 0x00) [] requests
wiped (out_packet s) requests = requests
wiped (take_into room) requests = requests
wiped bus_reset requests = []
wiped (quiet q) requests = requests

-- those that were made and are not used up, behind an event; what is refused makes none
unfoldable pub requests_after : Watch → List (List ℕ) → Event → List (List ℕ)
requests_after w requests e = pick (e.answer.verdict.number =ᵇ 0) (wiped e.call requests ++ made w e.call e.answer) requests

-- a packet that a poll brings
abbrev pub brought_quiet : Quiet → Answer → List (List ℕ)
brought_quiet (in_poll room) a = []
brought_quiet (interrupt_poll room) a = pick (a.verdict.number =ᵇ 0) (a.bytes ∷ []) []
brought_quiet (offer_reply bytes) a = []
brought_quiet (set_status status) a = []
brought_quiet front_panel a = []
brought_quiet bus_suspend a = []

abbrev pub brought : Call → Answer → List (List ℕ)
brought (setup_packet p) a = []
brought (out_packet s) a = []
brought (take_into room) a = []
brought bus_reset a = []
brought (quiet q) a = brought_quiet q a

-- THE STATEMENT about a history, of which these requests were made and not used up: a packet is one of them, and those before it are gone with it
abbrev pub UsesUp : List (List ℕ) → List (List ℕ) → List (List ℕ) → Type 0
UsesUp [] requests newer = requests ≡ newer
UsesUp (packet ∷ more) requests newer = (older : List (List ℕ)) × (requests ≡ older ++ (packet ∷ newer))

abbrev pub NoneMadeUpFrom : Watch → List (List ℕ) → List Event → Type 0
NoneMadeUpFrom w requests [] = Unit {0}
NoneMadeUpFrom w requests (e ∷ es) =
    (newer : List (List ℕ)) × UsesUp (brought e.call e.answer) requests newer
    × NoneMadeUpFrom (watched w e.call e.answer) (requests_after w newer e) es

abbrev pub NoneMadeUp : Stepping → Type 0
NoneMadeUp does = (setting : Setting) (calls : List Call) → NoneMadeUpFrom unwatched [] (trace does (power_on setting).unit calls)
