-- A call as data, one step, and a run of calls with their answers.
-- Assumes nothing.
use Rattle.std.specs.Prelude.{ℕ, List, [], ◌∷◌}
use Rattle.rules.specs.Choice.{pick}
use Rattle.rules.specs.Answers.{UNSOUND}
use Rattle.port.specs.Answer.{Answer}
use Rattle.port.specs.Device.{Device, Result, is_sound}
use Rattle.port.specs.Calls.{refused, bulk_out, bulk_in, interrupt_in, setup, take_message, offer, set_status_byte, panel, reset_by_bus, suspend}

-- what a setup packet is given: its bytes, and the length of the control buffer
pub record SetupPacket : Type 0 where
  pub packet : List ℕ
  pub room : ℕ

-- the ten calls; a number stands for the length of a lent buffer. Those that bring, take and break no message are one kind, so that a definition
-- or a proof about messages has one line for them
pub data Quiet : Type 0 where
  in_poll : ℕ → Quiet
  interrupt_poll : ℕ → Quiet
  offer_reply : List ℕ → Quiet
  set_status : ℕ → Quiet
  front_panel bus_suspend : Quiet

pub data Call : Type 0 where
  setup_packet : SetupPacket → Call
  out_packet : List ℕ → Call
  take_into : ℕ → Call
  bus_reset : Call
  quiet : Quiet → Call

abbrev pub setup_of : List ℕ → ℕ → Call
setup_of s room = setup_packet (record { packet = s; room = room })

-- what a unit of any kind does with a call: the statements take it as a parameter
abbrev pub Stepping : Type 0
Stepping = Device → Call → Result

-- what a sound unit does
unfoldable pub quietly : Device → Quiet → Result
quietly u (in_poll room) = bulk_in u room
quietly u (interrupt_poll room) = interrupt_in u room
quietly u (offer_reply bytes) = offer u bytes
quietly u (set_status status) = set_status_byte u status
quietly u front_panel = panel u
quietly u bus_suspend = suspend u

unfoldable pub soundly : Stepping
soundly u (setup_packet p) = setup u p.packet p.room
soundly u (out_packet s) = bulk_out u s
soundly u (take_into room) = take_message u room
soundly u bus_reset = reset_by_bus u
soundly u (quiet q) = quietly u q

-- "only an unsound unit is answered 1", and that is the first thing that every call asks
unfoldable pub step : Stepping
step u c = pick (is_sound u) (soundly u c) (refused u UNSOUND)

-- the answers of a run, and the unit after it
unfoldable pub run : Stepping → Device → List Call → List Answer
run does u [] = []
run does u (c ∷ cs) = (does u c).answer ∷ run does (does u c).unit cs

unfoldable pub after : Stepping → Device → List Call → Device
after does u [] = u
after does u (c ∷ cs) = after does (does u c).unit cs
