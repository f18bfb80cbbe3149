-- How a reply goes back, as one at the other end sees it who counts calls and answers: what is offered and not sent, and what of a Bulk-IN transfer is to
-- come. A transfer is here its whole list of packets, fixed with the first of them. Nothing here is the port's own way of sending (In), and a unit is looked at
-- only where a history starts (reader_of).
-- Assumes nothing.
use Rattle.std.specs.Prelude.{ℕ, zero, suc, ◌+◌, ◌-◌, ◌/◌, ◌%◌, ◌≡◌, Bool, true, List, [], ◌∷◌, ◌++◌, length, take, drop}
use Rattle.rules.specs.Choice.{◌=ᵇ◌, ◌<ᵇ◌, pick, ◌⇒◌∣◌, first, ◌and◌}
use Rattle.rules.specs.When.{Not}
use Rattle.wire.specs.When.{at, four_at}
use Rattle.port.specs.Parts.{CLOSED, ASKED, SENDING, on, out_of, in_of, packet_size}
use Rattle.port.specs.Answer.{Answer}
use Rattle.port.specs.Device.{Device, is_sound, unsent_of, power_on}
use Rattle.port.specs.Step.{Quiet, in_poll, interrupt_poll, offer_reply, set_status, front_panel, bus_suspend}
use Rattle.port.specs.Step.{Call, setup_packet, out_packet, take_into, bus_reset, quiet, Stepping}
use Rattle.port.specs.Trace.{Event, trace}
use Rattle.port.specs.Laws.{Stored}
use Rattle.port.specs.declared.types.Setting.{Setting}
use Rattle.port.specs.declared.types.InTransfer.{InTransfer}

-- ** a Bulk-IN transfer, all at once

-- what a REQUEST asks for: "TransferSize", and where "TermCharEnabled" is on, its TermChar
pub record Asked : Type 0 where
  pub tag : ℕ
  pub most : ℕ
  pub stops : Bool
  pub char : ℕ

-- by the bytes of its header
abbrev pub asked_by : List ℕ → Asked
asked_by s = record { tag = at s 1; most = four_at s 4; stops = at s 8 =ᵇ 2; char = at s 9 }

-- "the bytes up to and with the first TermChar", or all
abbrev pub through : ℕ → List ℕ → List ℕ
through char [] = []
through char (b ∷ bs) = b ∷ pick (b =ᵇ char) [] (through char bs)

-- the data of the transfer that is asked for: "the least of the TransferSize asked, the reply bytes left, and .. up to and with the first TermChar"
unfoldable pub portion : Asked → List ℕ → List ℕ
portion r unsent = take r.most (pick r.stops (through r.char unsent) unsent)

abbrev pub last_of : ℕ → List ℕ → ℕ
last_of b [] = b
last_of b (c ∷ cs) = last_of c cs

-- "D0 when N is all that is left, D1 when TermChar is enabled and the last byte sent is it"
unfoldable pub flags : Asked → List ℕ → ℕ
flags r unsent =
    let d = portion r unsent in
    pick (length d =ᵇ length unsent) 1 0 + pick (r.stops and last_of 0 d =ᵇ r.char) 2 0

-- "The header is 2, bTag, inverse, 0, N, attributes, three 0", and the data
unfoldable pub in_transfer : Asked → List ℕ → List ℕ
in_transfer r unsent =
    let n = length (portion r unsent) in
    (2 ∷ r.tag ∷ (255 - r.tag) ∷ 0 ∷ [])
    ++ (n % 256 ∷ n / 256 % 256 ∷ n / 65536 % 256 ∷ n / 16777216 % 256 ∷ [])
    ++ (flags r unsent ∷ 0 ∷ 0 ∷ 0 ∷ [])
    ++ portion r unsent

-- "the whole part of (12 + N) / P, plus 1, packets": so many of P bytes, and what is left, which is shorter and may be empty
abbrev pub cut_in : ℕ → ℕ → List ℕ → List (List ℕ)
cut_in zero P s = s ∷ []
cut_in (suc full) P s = take P s ∷ cut_in full P (drop P s)

unfoldable pub in_packets : ℕ → List ℕ → List (List ℕ)
in_packets P s = cut_in (length s / P) P s

-- ** what one knows who counts

-- no transfer is open; one is asked for; packets of one are to come; an empty packet is owed
pub data InLine : Type 0 where
  shut owing : InLine
  asked : Asked → InLine
  sending : List (List ℕ) → InLine

-- the data bytes that are to come of a Bulk-OUT transfer; what was offered and is in no transfer yet; the line
pub record Reader : Type 0 where
  pub due : ℕ
  pub unsent : List ℕ
  pub line : InLine

abbrev pub unread : Reader
unread = record { due = 0; unsent = []; line = shut }

-- ** what a call and its answer do to that

-- the data bytes to come behind a packet that is accepted
abbrev pub due_after : ℕ → List ℕ → ℕ
due_after due s = first (0 <ᵇ due ⇒ due - length s ∣ at s 0 =ᵇ 1 ⇒ four_at s 4 - (length s - 12) ∣ []) 0

-- a packet: 0 accepts it, and a REQUEST between transfers opens one of Bulk-IN; 6 to 13 halt Bulk-OUT
abbrev pub requests_now : ℕ → List ℕ → Bool
requests_now due s = due =ᵇ 0 and at s 0 =ᵇ 2

unfoldable pub after_packet : Reader → List ℕ → ℕ → Reader
after_packet r s n =
    first
    (n =ᵇ 0 ⇒ record { due = due_after r.due s; unsent = r.unsent; line = pick (requests_now r.due s) (asked (asked_by s)) r.line } ∣
    5 <ᵇ n and n <ᵇ 14 ⇒ record { due = 0; unsent = r.unsent; line = r.line } ∣ [])
    r

-- what is left to come of a transfer
abbrev pub remaining : List (List ℕ) → InLine
remaining [] = shut
remaining (p ∷ ps) = sending (p ∷ ps)

abbrev pub tail : List (List ℕ) → List (List ℕ)
tail [] = []
tail (p ∷ ps) = ps

-- a poll that is answered 0
abbrev pub after_poll : ℕ → Reader → InLine → Reader
after_poll P r shut = r
after_poll P r owing = record { due = r.due; unsent = r.unsent; line = shut }
after_poll P r (asked a) =
    record { due = r.due; unsent = drop (length (portion a r.unsent)) r.unsent; line = remaining (tail (in_packets P (in_transfer a r.unsent))) }
after_poll P r (sending ps) = record { due = r.due; unsent = r.unsent; line = remaining (tail ps) }

-- "drops the whole reply": an abort of Bulk-IN and a clear, which owe the empty packet where a transfer is open; CLEAR_FEATURE on 0x82, unless
-- a packet was owed
abbrev pub owing_now : InLine → InLine
owing_now shut = shut
owing_now owing = owing
owing_now (asked a) = owing
owing_now (sending ps) = owing

abbrev pub aborted : Reader → Reader
aborted r = record { due = r.due; unsent = []; line = owing_now r.line }

abbrev pub cleared : Reader → Reader
cleared r = record { due = 0; unsent = []; line = owing_now r.line }

abbrev pub closed_by : Reader → InLine → Reader
closed_by r shut = r
closed_by r owing = record { due = r.due; unsent = r.unsent; line = shut }
closed_by r (asked a) = record { due = r.due; unsent = []; line = shut }
closed_by r (sending ps) = record { due = r.due; unsent = []; line = shut }

abbrev pub broken : Reader → Reader
broken r = record { due = 0; unsent = r.unsent; line = r.line }

-- a setup packet that is answered 0, by its bytes 0, 1 and 4: SET_CONFIGURATION; CLEAR_FEATURE and SET_FEATURE on 0x01; CLEAR_FEATURE on 0x82;
-- INITIATE_ABORT_BULK_OUT and _IN, and INITIATE_CLEAR, where they are answered SUCCESS
abbrev pub by_bytes : Reader → ℕ → ℕ → ℕ → Answer → Reader
by_bytes r type request index a =
    first
    (type =ᵇ 0x00 ⇒ unread ∣
    type =ᵇ 0x02 and index =ᵇ 0x01 ⇒ broken r ∣
    type =ᵇ 0x02 and request =ᵇ 1 and index =ᵇ 0x82 ⇒ closed_by r r.line ∣
    type =ᵇ 0xA2 and request =ᵇ 1 ⇒ pick (at a.bytes 0 =ᵇ 1) (broken r) r ∣
    type =ᵇ 0xA2 and request =ᵇ 3 ⇒ pick (at a.bytes 0 =ᵇ 1) (aborted r) r ∣
    type =ᵇ 0xA1 and request =ᵇ 5 ⇒ pick (at a.bytes 0 =ᵇ 1) (cleared r) r ∣ [])
    r

unfoldable pub after_setup : Reader → List ℕ → Answer → Reader
after_setup r s a = pick (a.verdict.number =ᵇ 0) (by_bytes r (at s 0) (at s 1) (at s 4) a) r

abbrev pub after_quiet : ℕ → Reader → Quiet → Answer → Reader
after_quiet P r (in_poll room) a = pick (a.verdict.number =ᵇ 0) (after_poll P r r.line) r
after_quiet P r (interrupt_poll room) a = r
after_quiet P r (offer_reply bytes) a = pick (a.verdict.number =ᵇ 0) (record { due = r.due; unsent = bytes; line = r.line }) r
after_quiet P r (set_status status) a = r
after_quiet P r front_panel a = r
after_quiet P r bus_suspend a = r

abbrev pub after_call : ℕ → Reader → Call → Answer → Reader
after_call P r (setup_packet p) a = after_setup r p.packet a
after_call P r (out_packet s) a = after_packet r s a.verdict.number
after_call P r (take_into room) a = r
after_call P r bus_reset a = pick (a.verdict.number =ᵇ 0) unread r
after_call P r (quiet q) a = after_quiet P r q a

-- ** what an answer may be

-- it is the first of these
abbrev pub FirstOf : List (List ℕ) → List ℕ → Type 0
FirstOf [] bytes = ⊥
FirstOf (p ∷ ps) bytes = bytes ≡ p

-- a poll that is answered 0: the first packet of a transfer, if something is unsent; the next one of it; the owed one. Nothing comes unasked
abbrev pub Polled : ℕ → List ℕ → InLine → List ℕ → Type 0
Polled P unsent shut bytes = ⊥
Polled P unsent owing bytes = bytes ≡ []
Polled P unsent (asked a) bytes = Not (unsent ≡ []) × FirstOf (in_packets P (in_transfer a unsent)) bytes
Polled P unsent (sending ps) bytes = FirstOf ps bytes

-- a reply is offered where none is stored: nothing is unsent, and no transfer is on its way
abbrev pub Free : InLine → Type 0
Free shut = Unit {0}
Free owing = Unit {0}
Free (asked a) = Unit {0}
Free (sending ps) = ⊥

-- a transfer is asked for where none is open
abbrev pub Closed : InLine → Type 0
Closed shut = Unit {0}
Closed owing = ⊥
Closed (asked a) = ⊥
Closed (sending ps) = ⊥

abbrev pub ExpectsQuiet : ℕ → Reader → Quiet → Answer → Type 0
ExpectsQuiet P r (in_poll room) a = a.verdict.number ≡ 0 → Polled P r.unsent r.line a.bytes
ExpectsQuiet P r (interrupt_poll room) a = Unit {0}
ExpectsQuiet P r (offer_reply bytes) a = a.verdict.number ≡ 0 → (r.unsent ≡ []) × Free r.line × Not (bytes ≡ [])
ExpectsQuiet P r (set_status status) a = Unit {0}
ExpectsQuiet P r front_panel a = Unit {0}
ExpectsQuiet P r bus_suspend a = Unit {0}

abbrev pub Expects : ℕ → Reader → Call → Answer → Type 0
Expects P r (setup_packet p) a = Unit {0}
Expects P r (out_packet s) a = a.verdict.number ≡ 0 → requests_now r.due s ≡ true → Closed r.line
Expects P r (take_into room) a = Unit {0}
Expects P r bus_reset a = Unit {0}
Expects P r (quiet q) a = ExpectsQuiet P r q a

-- THE STATEMENT about a history
abbrev pub Reading : ℕ → Reader → List Event → Type 0
Reading P r [] = Unit {0}
Reading P r (e ∷ es) = Expects P r e.call e.answer × Reading P (after_call P r e.call e.answer) es

-- ** where a history starts on a unit in use: what one would know who had counted up to it

abbrev pub line_of : ℕ → InTransfer → List ℕ → InLine
line_of P t unsent =
    first
    (t.phase =ᵇ CLOSED ⇒ shut ∣
    t.phase =ᵇ ASKED ⇒ asked (record { tag = t.tag; most = t.asked; stops = on t.enabled; char = t.term }) ∣
    t.phase =ᵇ SENDING ⇒ sending (in_packets P (take t.left unsent)) ∣ [])
    owing

abbrev pub reader_of : Device → Reader
reader_of u = record {
  due = (out_of u.state).transfer.left;
  unsent = drop (in_of u.state).transfer.left (unsent_of u);
  line = line_of (packet_size u.state) (in_of u.state).transfer (unsent_of u);
}

-- THE LAW of replies: from any sound unit, and from power-on
abbrev pub RepliesRead : Stepping → Type 0
RepliesRead does = (u : Device) (calls : List Call) → Stored u → is_sound u ≡ true → Reading (packet_size u.state) (reader_of u) (trace does u calls)

abbrev pub RepliesReadEver : Stepping → Type 0
RepliesReadEver does = (setting : Setting) (calls : List Call) → let u = (power_on setting).unit in Reading (packet_size u.state) unread (trace does u calls)
