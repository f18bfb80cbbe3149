-- What a watcher makes of the calls and their answers, by the bytes that go over the wire. No definition here reads a unit, and none is the port's.
-- Assumes nothing.
use Rattle.std.specs.Prelude.{ℕ, List, [], ◌∷◌, ◌++◌, get_or}
use Rattle.rules.specs.Choice.{◌=ᵇ◌, ◌<ᵇ◌, pick, ◌⇒◌∣◌, first, ◌and◌}
use Rattle.port.specs.Answer.{Answer}
use Rattle.port.specs.Step.{Call, setup_packet, out_packet, take_into, bus_reset, quiet}
use Rattle.port.specs.Trace.{Event}

abbrev at : List ℕ → ℕ → ℕ
at s i = get_or s i 0

-- ** what an event is to a command: nothing; a packet that the port has accepted; a break, which leaves a message that is ready; a break that leaves
-- nothing; a message that is handed over

pub data Heard : Type 0 where
  nothing : Heard
  accepted : List ℕ → Heard
  broken_off wiped_out : Heard
  handed_over : List ℕ → Heard

-- a packet: 0 accepts it, 6 to 13 halt Bulk-OUT
unfoldable pub heard_packet : List ℕ → ℕ → Heard
heard_packet s n = first (n =ᵇ 0 ⇒ accepted s ∣ 5 <ᵇ n and n <ᵇ 14 ⇒ broken_off ∣ []) nothing

-- a request that begins a clear or an abort, and is answered SUCCESS
abbrev succeeding : Answer → Heard → Heard
succeeding a h = pick (at a.bytes 0 =ᵇ 1) h nothing

-- a setup packet that is answered 0: SET_CONFIGURATION; CLEAR_FEATURE and SET_FEATURE on endpoint 0x01; INITIATE_ABORT_BULK_OUT; INITIATE_CLEAR
unfoldable pub heard_setup : List ℕ → Answer → Heard
heard_setup s a =
    pick (a.verdict.number =ᵇ 0)
    (first
    (at s 0 =ᵇ 0x00 ⇒ wiped_out ∣
    at s 0 =ᵇ 0x02 and at s 4 =ᵇ 0x01 ⇒ broken_off ∣
    at s 0 =ᵇ 0xA2 and at s 1 =ᵇ 1 ⇒ succeeding a broken_off ∣
    at s 0 =ᵇ 0xA1 and at s 1 =ᵇ 5 ⇒ succeeding a wiped_out ∣ [])
    nothing)
    nothing

unfoldable pub heard : Call → Answer → Heard
heard (setup_packet p) a = heard_setup p.packet a
heard (out_packet s) a = heard_packet s a.verdict.number
heard (take_into room) a = pick (a.verdict.number =ᵇ 0) (handed_over a.bytes) nothing
heard bus_reset a = pick (a.verdict.number =ᵇ 0) wiped_out nothing
heard (quiet q) a = nothing

abbrev pub heard_of : Event → Heard
heard_of e = heard e.call e.answer

-- ** a stretch of a history

-- the packets that were accepted in it
abbrev pub accepted_of : Heard → List (List ℕ)
accepted_of nothing = []
accepted_of (accepted s) = s ∷ []
accepted_of broken_off = []
accepted_of wiped_out = []
accepted_of (handed_over bytes) = []

abbrev pub accepted_in : List Event → List (List ℕ)
accepted_in [] = []
accepted_in (e ∷ es) = accepted_of (heard_of e) ++ accepted_in es

-- those that were accepted since the message or break before
abbrev pub since_by : List (List ℕ) → Heard → List (List ℕ)
since_by ps nothing = ps
since_by ps (accepted s) = ps ++ (s ∷ [])
since_by ps broken_off = []
since_by ps wiped_out = []
since_by ps (handed_over bytes) = []

abbrev pub accepted_since : List (List ℕ) → List Event → List (List ℕ)
accepted_since ps [] = ps
accepted_since ps (e ∷ es) = accepted_since (since_by ps (heard_of e)) es

-- no break and no message handed over in it
abbrev pub Passes : Heard → Type 0
Passes nothing = Unit {0}
Passes (accepted s) = Unit {0}
Passes broken_off = ⊥
Passes wiped_out = ⊥
Passes (handed_over bytes) = ⊥

abbrev pub Unbroken : List Event → Type 0
Unbroken [] = Unit {0}
Unbroken (e ∷ es) = Passes (heard_of e) × Unbroken es

-- nothing in it that takes away a message which is ready: a clear, SET_CONFIGURATION, a reset, or that it is handed over; and no packet is accepted
abbrev pub Spares : Heard → Type 0
Spares nothing = Unit {0}
Spares (accepted s) = ⊥
Spares broken_off = Unit {0}
Spares wiped_out = ⊥
Spares (handed_over bytes) = ⊥

abbrev pub Waits : List Event → Type 0
Waits [] = Unit {0}
Waits (e ∷ es) = Spares (heard_of e) × Waits es

-- it is empty, or ends with a break or a message handed over
abbrev pub Divides : Heard → Type 0
Divides nothing = ⊥
Divides (accepted s) = ⊥
Divides broken_off = Unit {0}
Divides wiped_out = Unit {0}
Divides (handed_over bytes) = Unit {0}

abbrev pub Divided : List Event → Type 0
Divided [] = Unit {0}
Divided (e ∷ []) = Divides (heard_of e)
Divided (e ∷ f ∷ es) = Divided (f ∷ es)
