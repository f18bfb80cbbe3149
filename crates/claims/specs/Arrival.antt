-- A whole command arrives as firmware runs: the host sends its packets in order, and one that has to wait again; the main loop takes whenever it comes
-- round; anything else that is no break comes between.
-- Assumes nothing.
use Rattle.std.specs.Prelude.{ℕ, ◌≤◌, ◌<◌, ◌≡◌, true, false, List, [], ◌∷◌, ◌⊎◌, length}
use Rattle.rules.specs.Answers.{done}
use Rattle.rules.specs.Choice.{◌=ᵇ◌, pick}
use Rattle.port.specs.Parts.{on, is_open_out, unfinished, out_of, is_configured}
use Rattle.port.specs.Answer.{Answer}
use Rattle.port.specs.Device.{Device, is_sound}
use Rattle.port.specs.Step.{Call, setup_packet, out_packet, take_into, bus_reset, quiet}
use Rattle.port.specs.Trace.{Event}
use Rattle.claims.specs.Wire.{Heard, nothing, accepted, broken_off, wiped_out, handed_over, heard}

-- how far it is: an older message is ready, and these packets are to come; these are to come, or all have come; it is over
pub data Stage : Type 0 where
  older coming : List (List ℕ) → Stage
  over : Stage

-- ** what may come

-- a packet: the next of the command; once all have come, any that a host can send
abbrev pub Next : ℕ → List (List ℕ) → List ℕ → Type 0
Next P [] s = length s ≤ P
Next P (p ∷ ps) s = s ≡ p

abbrev pub ahead : Stage → List (List ℕ)
ahead (older ps) = ps
ahead (coming ps) = ps
ahead over = []

-- no break
abbrev pub NoBreak : Heard → Type 0
NoBreak nothing = Unit {0}
NoBreak (accepted s) = Unit {0}
NoBreak broken_off = ⊥
NoBreak wiped_out = ⊥
NoBreak (handed_over bytes) = Unit {0}

abbrev pub NoBreaks : List Event → Type 0
NoBreaks [] = Unit {0}
NoBreaks (e ∷ es) = NoBreak (heard e.call e.answer) × NoBreaks es

abbrev pub MayCome : ℕ → Stage → Call → Answer → Type 0
MayCome P g (setup_packet p) a = NoBreak (heard (setup_packet p) a)
MayCome P g (out_packet s) a = Next P (ahead g) s
MayCome P g (take_into room) a = Unit {0}
MayCome P g bus_reset a = ⊥
MayCome P g (quiet q) a = Unit {0}

-- ** what is due

-- a packet: 5 while an older message is ready, and behind the last; else 0
abbrev pub packet_due : Stage → ℕ → Type 0
packet_due (older ps) n = n ≡ 5
packet_due (coming []) n = n ≡ 5
packet_due (coming (p ∷ ps)) n = n ≡ 0
packet_due over n = Unit {0}

-- a take: nothing before the last packet; behind it the command `m`, into a buffer that is long enough
abbrev pub take_due : List ℕ → Stage → ℕ → Answer → Type 0
take_due m (older ps) room a = Unit {0}
take_due m (coming []) room a =
    ((room < length m) × (a.verdict.number ≡ 3)) ⊎ ((length m ≤ room) × (a ≡ record { verdict = done; bytes = m }))
take_due m (coming (p ∷ ps)) room a = a.verdict.number ≡ 16
take_due m over room a = Unit {0}

abbrev pub Due : List ℕ → Stage → Call → Answer → Type 0
Due m g (setup_packet p) a = Unit {0}
Due m g (out_packet s) a = packet_due g a.verdict.number
Due m g (take_into room) a = take_due m g room a
Due m g bus_reset a = Unit {0}
Due m g (quiet q) a = Unit {0}

-- ** how far it is then

abbrev pub sent_on : Stage → Stage
sent_on (older ps) = older ps
sent_on (coming []) = coming []
sent_on (coming (p ∷ ps)) = coming ps
sent_on over = over

abbrev pub taken_on : Stage → Stage
taken_on (older ps) = coming ps
taken_on (coming ps) = over
taken_on over = over

abbrev pub onward : Stage → Call → Answer → Stage
onward g (setup_packet p) a = g
onward g (out_packet s) a = sent_on g
onward g (take_into room) a = pick (a.verdict.number =ᵇ 0) (taken_on g) g
onward g bus_reset a = g
onward g (quiet q) a = g

-- THE STATEMENT about a history: as long as only such calls come, each has the answer that is due
abbrev pub Arrives : ℕ → List ℕ → Stage → List Event → Type 0
Arrives P m g [] = Unit {0}
Arrives P m g (e ∷ es) = MayCome P g e.call e.answer → Due m g e.call e.answer × Arrives P m (onward g e.call e.answer) es

-- ** where it starts: a unit that waits for a command. An older message may be ready

pub record Waiting (u : Device) : Type 0 where
  pub sound : is_sound u ≡ true
  pub configured : is_configured u.state ≡ true
  pub running : (out_of u.state).halted ≡ 0
  pub finished : unfinished (out_of u.state) ≡ false
  pub closed : is_open_out (out_of u.state) ≡ false

abbrev pub stage_of : Device → List (List ℕ) → Stage
stage_of u ps = pick (on (out_of u.state).message.ready) (older ps) (coming ps)
