-- What goes between a port and those who call it: the calls of a run, each with its answer.
-- Assumes nothing.
use Rattle.std.specs.Prelude.{ℕ, ◌<◌, List, [], ◌∷◌, get_or}
use Rattle.port.specs.Answer.{Answer}
use Rattle.port.specs.Device.{Device}
use Rattle.port.specs.Step.{Quiet, in_poll, interrupt_poll, offer_reply, set_status, front_panel, bus_suspend}
use Rattle.port.specs.Step.{Call, setup_packet, out_packet, take_into, bus_reset, quiet, Stepping}

pub record Event : Type 0 where
  pub call : Call
  pub answer : Answer

unfoldable pub trace : Stepping → Device → List Call → List Event
trace does u [] = []
trace does u (c ∷ cs) = record { call = c; answer = (does u c).answer } ∷ trace does (does u c).unit cs

-- what a call brings is bytes: each number of it is below 256
abbrev pub Octets : List ℕ → Type 0
Octets s = (i : ℕ) → get_or s i 0 < 256

abbrev pub QuietInOctets : Quiet → Type 0
QuietInOctets (in_poll room) = Unit {0}
QuietInOctets (interrupt_poll room) = Unit {0}
QuietInOctets (offer_reply bytes) = Octets bytes
QuietInOctets (set_status status) = status < 256
QuietInOctets front_panel = Unit {0}
QuietInOctets bus_suspend = Unit {0}

abbrev pub InOctets : Call → Type 0
InOctets (setup_packet p) = Octets p.packet
InOctets (out_packet s) = Octets s
InOctets (take_into room) = Unit {0}
InOctets bus_reset = Unit {0}
InOctets (quiet q) = QuietInOctets q

abbrev pub AllInOctets : List Call → Type 0
AllInOctets [] = Unit {0}
AllInOctets (c ∷ cs) = InOctets c × AllInOctets cs

-- the calls alone
abbrev pub calls_of : List Event → List Call
calls_of [] = []
calls_of (e ∷ es) = e.call ∷ calls_of es
