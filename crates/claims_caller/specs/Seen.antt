-- What a caller has seen of its calls, from C and by value: of each its number, what it tells, and the bytes that it put into the lent buffer. Each call
-- met the promise of its function, on the unit that the call before it left.
-- Assumes nothing.
use Rattle.std.specs.Prelude.{ℕ, ◌≡◌, List, [], ◌∷◌, length, take}
use Rattle.rules.specs.Answers.{TELLS_NOTHING}
use Rattle.rules.specs.declared.verdict.Verdict.{Verdict}
use Rattle.port.specs.Step.{in_poll, interrupt_poll, Call, out_packet, take_into, quiet, setup_of, step}
use Rattle.port.specs.Trace.{Event, InOctets}
use Rattle.port.proofs.Silent.{Mute}
use Rattle.c_promise.specs.Promise.{on_bytes, Returns, Fills}
use Rattle.c_promise.specs.declared.types.TmcAnswer.{TmcAnswer}
use Rattle.unit.specs.Promise.{device_of, done_of, Tells}
use Rattle.unit.specs.declared.types.Unit.{Unit}
use Rattle.unit.specs.declared.types.Done.{Done}
use Rattle.unit.specs.declared.types.Told.{Told}
use Rattle.unit_inplace.specs.InPlace.{Alters, Sends}
use Rattle.unit_inplace.specs.declared.types.Sent.{Sent}

-- a call that is lent a buffer, and the length of it; the others are `Mute`
pub data Lends : Call → ℕ → Type 0 where
  sets_up : (s : List ℕ) (room : ℕ) → Lends (setup_of s room) room
  polls : (room : ℕ) → Lends (quiet (in_poll room)) room
  interrupts : (room : ℕ) → Lends (quiet (interrupt_poll room)) room
  takes : (room : ℕ) → Lends (take_into room) room

-- a call with what was seen of its answer
abbrev pub shows : Call → Verdict → List ℕ → Event
shows c v bytes = record { call = c; answer = record { verdict = v; bytes = bytes } }

-- ** one call, on the unit `u`: what the caller saw of it, and the unit that it left. The bytes that it saw are the first `len` of the lent buffer, which
-- held `b` before the call and holds `b'` after it

-- from C, where a unit is bytes
pub data OneByC (u : List ℕ) : Event → List ℕ → Type 0 where
  unlent : (c : Call) (v : List ℕ) (r : TmcAnswer) → Mute c → Returns (on_bytes u c) v r → OneByC u (shows c r.verdict []) v
  lent : (c : Call) (b b' v : List ℕ) (r : TmcAnswer) → Lends c (length b) → Fills (on_bytes u c) b b' v r → OneByC u (shows c r.verdict (take r.len b')) v

-- of a unit by value, or where it stands
pub data OneByUnit (u : Unit) : Event → Unit → Type 0 where
  returns : (c : Call) (r : Done) → Mute c → r ≡ done_of (step (device_of u) c) → OneByUnit u (shows c r.verdict []) r.unit
  writes : (c : Call) (b b' : List ℕ) (t : Told) → Lends c (length b) → Tells (step (device_of u) c) b b' t
      → OneByUnit u (shows c t.verdict (take t.len b')) t.unit
  packet_in_place : (s : List ℕ) (v : Unit) (r : Verdict) → Alters (step (device_of u) (out_packet s)) v r → OneByUnit u (shows (out_packet s) r []) v
  poll_in_place : (b b' : List ℕ) (v : Unit) (r : Sent) → Sends (step (device_of u) (quiet (in_poll (length b)))) b b' v r
      → OneByUnit u (shows (quiet (in_poll (length b))) r.verdict (take r.len b')) v

-- ** calls one after the other, each on the unit that the one before left: what was seen of them, and the unit that the last one left. What they bring
-- is bytes

pub data Seen {U : Type 0} (One : U → Event → U → Type 0) : U → List Event → U → Type 0 where
  none : (u : U) → Seen One u [] u
  then : (u v u' : U) (e : Event) (es : List Event) → InOctets e.call → One u e v → Seen One v es u' → Seen One u (e ∷ es) u'

abbrev pub SeenByC : List ℕ → List Event → List ℕ → Type 0
SeenByC = Seen OneByC

abbrev pub SeenByUnit : Unit → List Event → Unit → Type 0
SeenByUnit = Seen OneByUnit

-- ** an answer that tells nothing and has no bytes, and a lent buffer that is as it was

pub record Untouched (b b' : List ℕ) (v : Verdict) (n : ℕ) : Type 0 where
  pub buffer : b' ≡ b
  pub tells : v.tells ≡ TELLS_NOTHING
  pub len : n ≡ 0
