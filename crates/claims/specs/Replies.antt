-- What is read back is what was offered, as one at the other end counts it (port, Reply): each byte once and in order, unless the whole reply is dropped;
-- and it comes, as long as nothing but such calls do. No definition here reads a unit but for where a run starts.
-- Assumes nothing.
use Rattle.std.specs.Prelude.{ℕ, ◌+◌, ◌/◌, ◌≤◌, ◌<◌, ◌≡◌, true, List, [], ◌∷◌, ◌++◌, ◌⊎◌, length, take, drop}
use Rattle.rules.specs.Choice.{◌=ᵇ◌, pick}
use Rattle.rules.specs.When.{Not}
use Rattle.wire.specs.When.{at}
use Rattle.port.specs.Parts.{in_of, out_of, packet_size, is_configured}
use Rattle.port.specs.Answer.{Answer}
use Rattle.port.specs.Device.{Device, is_sound, power_on}
use Rattle.port.specs.Step.{Quiet, in_poll, interrupt_poll, offer_reply, set_status, front_panel, bus_suspend}
use Rattle.port.specs.Step.{Call, setup_packet, out_packet, take_into, bus_reset, quiet, Stepping}
use Rattle.port.specs.Trace.{Event, trace}
use Rattle.port.specs.Laws.{Stored}
use Rattle.port.specs.Reply.{Asked, portion, in_transfer, in_packets, InLine, shut, owing, asked, sending, Reader, unread, after_call, Free, Closed, Reading}
use Rattle.port.specs.declared.types.Setting.{Setting}
use Rattle.claims.specs.Command.{IsRequest}

-- ** the data that goes by

-- of a packet that is polled: what is behind the header, in the first packet of a transfer
abbrev pub data_of : InLine → List ℕ → List ℕ
data_of shut bytes = []
data_of owing bytes = []
data_of (asked a) bytes = drop 12 bytes
data_of (sending ps) bytes = bytes

abbrev pub polled_quiet : Reader → Quiet → Answer → List ℕ
polled_quiet r (in_poll room) a = pick (a.verdict.number =ᵇ 0) (data_of r.line a.bytes) []
polled_quiet r (interrupt_poll room) a = []
polled_quiet r (offer_reply bytes) a = []
polled_quiet r (set_status status) a = []
polled_quiet r front_panel a = []
polled_quiet r bus_suspend a = []

abbrev pub polled_by : Reader → Call → Answer → List ℕ
polled_by r (setup_packet p) a = []
polled_by r (out_packet s) a = []
polled_by r (take_into room) a = []
polled_by r bus_reset a = []
polled_by r (quiet q) a = polled_quiet r q a

abbrev pub offered_quiet : Quiet → Answer → List ℕ
offered_quiet (in_poll room) a = []
offered_quiet (interrupt_poll room) a = []
offered_quiet (offer_reply bytes) a = pick (a.verdict.number =ᵇ 0) bytes []
offered_quiet (set_status status) a = []
offered_quiet front_panel a = []
offered_quiet bus_suspend a = []

abbrev pub offered_by : Call → Answer → List ℕ
offered_by (setup_packet p) a = []
offered_by (out_packet s) a = []
offered_by (take_into room) a = []
offered_by bus_reset a = []
offered_by (quiet q) a = offered_quiet q a

-- in a history, in order
abbrev pub polled_in : ℕ → Reader → List Event → List ℕ
polled_in P r [] = []
polled_in P r (e ∷ es) = polled_by r e.call e.answer ++ polled_in P (after_call P r e.call e.answer) es

abbrev pub offered_in : List Event → List ℕ
offered_in [] = []
offered_in (e ∷ es) = offered_by e.call e.answer ++ offered_in es

abbrev pub read_after : ℕ → Reader → List Event → Reader
read_after P r [] = r
read_after P r (e ∷ es) = read_after P (after_call P r e.call e.answer) es

-- what is still to come: of the transfer on its way, and behind it
abbrev pub joined : List (List ℕ) → List ℕ
joined [] = []
joined (p ∷ ps) = p ++ joined ps

abbrev pub on_its_way : InLine → List ℕ
on_its_way shut = []
on_its_way owing = []
on_its_way (asked a) = []
on_its_way (sending ps) = joined ps

abbrev pub to_come : Reader → List ℕ
to_come r = on_its_way r.line ++ r.unsent

-- ** what drops a reply

-- a transfer is asked for or on its way, and no packet is owed
abbrev pub Underway : InLine → Type 0
Underway shut = ⊥
Underway owing = ⊥
Underway (asked a) = Unit {0}
Underway (sending ps) = Unit {0}

-- SET_CONFIGURATION; INITIATE_ABORT_BULK_IN and INITIATE_CLEAR with SUCCESS; CLEAR_FEATURE on 0x82, while a transfer is underway
abbrev pub DropsSetup : Reader → List ℕ → Answer → Type 0
DropsSetup r s a =
    (at s 0 ≡ 0x00)
    ⊎ ((at s 0 ≡ 0xA2) × (at s 1 ≡ 3) × (at a.bytes 0 ≡ 1))
    ⊎ ((at s 0 ≡ 0xA1) × (at s 1 ≡ 5) × (at a.bytes 0 ≡ 1))
    ⊎ ((at s 0 ≡ 0x02) × (at s 1 ≡ 1) × (at s 4 ≡ 0x82) × Underway r.line)

-- and a reset
abbrev pub Drops : Reader → Call → Answer → Type 0
Drops r (setup_packet p) a = (a.verdict.number ≡ 0) × DropsSetup r p.packet a
Drops r (out_packet s) a = ⊥
Drops r (take_into room) a = ⊥
Drops r bus_reset a = a.verdict.number ≡ 0
Drops r (quiet q) a = ⊥

abbrev pub NoDrops : ℕ → Reader → List Event → Type 0
NoDrops P r [] = Unit {0}
NoDrops P r (e ∷ es) = Not (Drops r e.call e.answer) × NoDrops P (after_call P r e.call e.answer) es

-- it is empty, or ends with an event that drops
abbrev pub Dropped : ℕ → Reader → List Event → Type 0
Dropped P r [] = Unit {0}
Dropped P r (e ∷ []) = Drops r e.call e.answer
Dropped P r (e ∷ f ∷ es) = Dropped P (after_call P r e.call e.answer) (f ∷ es)

-- ** EACH BYTE ONCE, of any history that a reader expects: what was to come and what is offered is what is polled and what is still to come, in this order

abbrev pub EachByteOnce : Type 0
EachByteOnce = (P : ℕ) (r : Reader) (es : List Event) → 12 ≤ P → Reading P r es → NoDrops P r es
    → to_come r ++ offered_in es ≡ polled_in P r es ++ to_come (read_after P r es)

-- a drop leaves nothing to come: "drops the whole reply"
abbrev pub DropsAll : Type 0
DropsAll = (P : ℕ) (r : Reader) (c : Call) (a : Answer) → Drops r c a → to_come (after_call P r c a) ≡ []

-- so in every stretch of a run that begins at power-on or behind a drop and has no drop in it: what was offered in it is what was polled in it, and what
-- is still to come
abbrev pub ReadBack : Stepping → Type 0
ReadBack does = (setting : Setting) (calls : List Call) (before stretch later : List Event)
    → let u = (power_on setting).unit in
    let P = packet_size u.state in
    let r = read_after P unread before in
    trace does u calls ≡ before ++ (stretch ++ later) → Dropped P unread before → NoDrops P r stretch
    → offered_in stretch ≡ polled_in P r stretch ++ to_come (read_after P r stretch)

-- ** the shape of a transfer

-- every packet but the last has P bytes, and the last fewer
abbrev pub Cut : ℕ → List (List ℕ) → Type 0
Cut P [] = ⊥
Cut P (p ∷ []) = length p < P
Cut P (p ∷ q ∷ ps) = (length p ≡ P) × Cut P (q ∷ ps)

pub record Shape : Type 0 where
  pub count : (P : ℕ) (s : List ℕ) → length (in_packets P s) ≡ length s / P + 1
  pub cut : (P : ℕ) (s : List ℕ) → 1 ≤ P → Cut P (in_packets P s)
  pub all : (P : ℕ) (s : List ℕ) → joined (in_packets P s) ≡ s
  pub long : (a : Asked) (unsent : List ℕ) → length (in_transfer a unsent) ≡ 12 + length (portion a unsent)
  pub front : (a : Asked) (unsent : List ℕ) → portion a unsent ≡ take (length (portion a unsent)) unsent
  pub some : (a : Asked) (unsent : List ℕ) → 1 ≤ a.most → 1 ≤ length unsent → 1 ≤ length (portion a unsent)

-- ** A REPLY ARRIVES, as long as only these calls come

-- a setup packet, by bmRequestType, bRequest and wIndex: no SET_CONFIGURATION, no CLEAR_FEATURE and SET_FEATURE but on 0x83, no abort and no clear is begun
abbrev pub Harmless : ℕ → ℕ → ℕ → Type 0
Harmless type request index =
    Not (type ≡ 0x00) × (type ≡ 0x02 → index ≡ 0x83)
    × Not ((type ≡ 0xA2) × (request ≡ 1)) × Not ((type ≡ 0xA2) × (request ≡ 3)) × Not ((type ≡ 0xA1) × (request ≡ 5))

abbrev pub MayCome : ℕ → Reader → Call → Answer → Type 0
MayCome P r (setup_packet p) a = Not (a.verdict.number ≡ 0) ⊎ Harmless (at p.packet 0) (at p.packet 1) (at p.packet 4)
MayCome P r (out_packet s) a = IsRequest s × Closed r.line
MayCome P r (take_into room) a = Unit {0}
MayCome P r bus_reset a = ⊥
MayCome P r (quiet (in_poll room)) a = P ≤ room
MayCome P r (quiet (interrupt_poll room)) a = Unit {0}
MayCome P r (quiet (offer_reply bytes)) a = Unit {0}
MayCome P r (quiet (set_status status)) a = Unit {0}
MayCome P r (quiet front_panel) a = Unit {0}
MayCome P r (quiet bus_suspend) a = Unit {0}

abbrev pub AllCome : ℕ → Reader → List Event → Type 0
AllCome P r [] = Unit {0}
AllCome P r (e ∷ es) = MayCome P r e.call e.answer × AllCome P (after_call P r e.call e.answer) es

-- a poll: 0 where a packet is to come, and else 5
abbrev pub poll_due : List ℕ → InLine → ℕ → Type 0
poll_due unsent shut n = n ≡ 5
poll_due unsent owing n = n ≡ 0
poll_due [] (asked a) n = n ≡ 5
poll_due (b ∷ bs) (asked a) n = n ≡ 0
poll_due unsent (sending ps) n = n ≡ 0

-- a REQUEST is accepted, and so is a reply of 1 to 1,024 bytes where none is stored
abbrev pub ReplyDue : Reader → Call → ℕ → Type 0
ReplyDue r (setup_packet p) n = Unit {0}
ReplyDue r (out_packet s) n = n ≡ 0
ReplyDue r (take_into room) n = Unit {0}
ReplyDue r bus_reset n = Unit {0}
ReplyDue r (quiet (in_poll room)) n = poll_due r.unsent r.line n
ReplyDue r (quiet (interrupt_poll room)) n = Unit {0}
ReplyDue r (quiet (offer_reply bytes)) n = 1 ≤ length bytes → length bytes ≤ 1024 → r.unsent ≡ [] → Free r.line → n ≡ 0
ReplyDue r (quiet (set_status status)) n = Unit {0}
ReplyDue r (quiet front_panel) n = Unit {0}
ReplyDue r (quiet bus_suspend) n = Unit {0}

-- THE STATEMENT about a history: as long as only such calls come, each has the answer that is due
abbrev pub Arriving : ℕ → Reader → List Event → Type 0
Arriving P r [] = Unit {0}
Arriving P r (e ∷ es) =
    MayCome P r e.call e.answer → ReplyDue r e.call e.answer.verdict.number × Arriving P (after_call P r e.call e.answer) es

-- where it starts: a unit in use with nothing open, held or stored
pub record Ready (u : Device) : Type 0 where
  pub stored : Stored u
  pub sound : is_sound u ≡ true
  pub configured : is_configured u.state ≡ true
  pub out_runs : (out_of u.state).halted ≡ 0
  pub in_runs : (in_of u.state).halted ≡ 0
  pub out_closed : (out_of u.state).transfer.left ≡ 0
  pub unready : (out_of u.state).message.ready ≡ 0
  pub unheld : (out_of u.state).message.held ≡ 0
  pub in_closed : (in_of u.state).transfer.phase ≡ 0
  pub unstored : (in_of u.state).reply.unsent ≡ 0

abbrev pub ReplyArrives : Stepping → Type 0
ReplyArrives does = (u : Device) (calls : List Call) → Ready u → Arriving (packet_size u.state) unread (trace does u calls)

-- ALL OF IT: where only such calls came and nothing is to come, what was polled is what was offered
abbrev pub WholeReply : Stepping → Type 0
WholeReply does = (u : Device) (calls : List Call) → Ready u
    → let P = packet_size u.state in
    let es = trace does u calls in
    AllCome P unread es → to_come (read_after P unread es) ≡ [] → polled_in P unread es ≡ offered_in es
