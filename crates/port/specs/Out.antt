-- A Bulk-OUT packet: what it comes to, and then what that leaves. A transfer is its header, its data bytes and their alignment; packets
-- are the pieces that it comes in. 01, "Bulk-OUT".
-- Assumes nothing.
use Rattle.std.specs.Prelude.{ℕ, ◌+◌, ◌-◌, ◌≤◌, min, ◌≡◌, Bool, false, List, [], Ok, Err, length}
use Rattle.rules.specs.Choice.{◌=ᵇ◌, ◌<ᵇ◌, no, ◌or◌, ◌and◌, pick, ◌⇒◌∣◌, decide}
use Rattle.rules.specs.Answers.{DONE, TELLS_TRIGGER, number_of, only, done}
use Rattle.rules.specs.declared.refusal.Refusal.{Refusal}
use Rattle.rules.specs.declared.refusal.Refusal.TheVariants.{Unconfigured, WrongSize, Halted, Wait, NotInFours, WrongLength, TooLong, OutOfTurn}
use Rattle.rules.specs.declared.verdict.Verdict.{Verdict}
use Rattle.rules.specs.Flags.{OFF}
use Rattle.wire.specs.Header.{HEADER, Read, not_in_fours, aligned, read_header}
use Rattle.wire.specs.declared.types.Header.{Header}
use Rattle.wire.specs.declared.types.Header.TheVariants.{Message, Request, Trigger}
use Rattle.port.specs.Parts.{STORE, on, is_open_out, unfinished, is_open_in, port_of, out_of, in_of, packet_size, is_configured}
use Rattle.port.specs.Parts.{closed_out, asked_in, holding, with_out, with_in, with_remote, halted_out}
use Rattle.port.specs.Remote.{headed, with_ren_on}
use Rattle.port.specs.declared.types.BulkOut.{BulkOut}
use Rattle.port.specs.declared.types.BulkIn.{BulkIn}
use Rattle.port.specs.declared.types.State.{State}
use Rattle.port.specs.declared.types.Plan.{Plan}
use Rattle.port.specs.declared.types.Outcome.{Outcome}
use Rattle.port.specs.declared.types.Outcome.TheVariants.{Keep, Halt, Data, Accept}

-- ** a refusal: "all unchanged", or "OUT halted"

abbrev pub keep_of : Refusal → Outcome
keep_of r = Keep (number_of r)

abbrev pub halt_of : Refusal → Outcome
halt_of r = Halt (number_of r)

-- ** the length of a transfer

-- "More than that is 11. A packet shorter than P that ends too soon is 11.": `due` bytes are to come, and a packet brings n
abbrev pub wrong_length : ℕ → ℕ → ℕ → Bool
wrong_length p n due = due <ᵇ n or (n <ᵇ due and n <ᵇ p)

-- ** a continuing packet: "6, 11". What is left of its transfer is `left` data bytes and "0 to 3 alignment bytes up to a multiple of 4", which "may be
-- anything" (02, request 2)

abbrev pub more_rules : ℕ → ℕ → List ℕ → List (Bool × Refusal)
more_rules p left s = not_in_fours s ⇒ NotInFours ∣ wrong_length p (length s) (aligned left) ⇒ WrongLength ∣ []

unfoldable pub more : ℕ → ℕ → List ℕ → Outcome
more p left s = decide halt_of (more_rules p left s) (Data (min left (length s)))

-- ** a header: "13, 12, 11" once it is read

-- "Out of turn (house) is a REQUEST while an IN transfer is open, or a REQUEST or TRIGGER while a message is unfinished"
abbrev pub request_out_of_turn : BulkOut → BulkIn → Bool
request_out_of_turn o b = is_open_in b or unfinished o

abbrev pub out_of_turn : BulkOut → BulkIn → Header → Bool
out_of_turn o b (Message tag size end) = false
out_of_turn o b (Request tag size enabled term) = request_out_of_turn o b
out_of_turn o b (Trigger tag) = unfinished o

-- the data bytes of a header's transfer
abbrev pub data_length : Header → ℕ
data_length (Message tag size end) = size
data_length (Request tag size enabled term) = 0
data_length (Trigger tag) = 0

abbrev pub header_rules : State → List ℕ → Header → List (Bool × Refusal)
header_rules st s h =
    out_of_turn (out_of st) (in_of st) h ⇒ OutOfTurn ∣
    STORE <ᵇ (out_of st).message.held + data_length h ⇒ TooLong ∣
    wrong_length (packet_size st) (length s) (HEADER + aligned (data_length h)) ⇒ WrongLength ∣ []

unfoldable pub header_says : State → List ℕ → Read → Outcome
header_says st s (Err r) = halt_of r
header_says st s (Ok h) = decide halt_of (header_rules st s h) (Accept h (min (data_length h) (length s - HEADER)))

-- ** what a packet comes to: "Bulk calls: 1, 2, 3, 4, 5", of which 1 is asked before every call (Step)

abbrev pub out_rules : State → ℕ → List (Bool × Refusal)
out_rules st n =
    no (is_configured st) ⇒ Unconfigured ∣
    packet_size st <ᵇ n ⇒ WrongSize ∣
    on (out_of st).halted ⇒ Halted ∣
    on (out_of st).message.ready ⇒ Wait ∣ []

-- "Between transfers an empty packet is answered 0 and changes nothing"
unfoldable pub outcome : State → List ℕ → Outcome
outcome st s =
    decide keep_of (out_rules st (length s))
    (pick (is_open_out (out_of st)) (more (packet_size st) (out_of st).transfer.left s)
    (pick (length s =ᵇ 0) (Keep DONE)
    (header_says st s (read_header s))))

-- ** data bytes that come: `count` of those of the open transfer are here

-- "When a transfer with EOM completes, the message is ready until taken; without EOM the next transfer continues it"
abbrev pub completed : BulkOut → ℕ → BulkOut
completed o count = holding o (record { held = o.message.held + count; ready = o.transfer.end }) closed_out

abbrev pub continued : BulkOut → ℕ → BulkOut
continued o count =
    holding o (record { held = o.message.held + count; ready = OFF })
    (record { left = o.transfer.left - count; got = o.transfer.got + count; end = o.transfer.end })

unfoldable pub absorbed : BulkOut → ℕ → BulkOut
absorbed o count = pick (o.transfer.left =ᵇ count) (completed o count) (continued o count)

-- "The most recent tag is that of the last header accepted"; a header of MsgID 1 opens a transfer of `size` data bytes
abbrev pub tagged : BulkOut → ℕ → BulkOut
tagged o tag = record { message = o.message; transfer = o.transfer; halted = o.halted; recent = tag }

abbrev pub opened : BulkOut → ℕ → ℕ → ℕ → BulkOut
opened o tag size end = holding (tagged o tag) o.message (record { left = size; got = 0; end = end })

-- "An accepted REQUEST opens the transfer." No reply is longer than its store, so that more than this is asked for need not be kept
abbrev pub requested : BulkIn → ℕ → ℕ → ℕ → ℕ → BulkIn
requested b tag size enabled term =
    record { reply = b.reply; transfer = asked_in tag (min size STORE) enabled term; halted = b.halted; recent = tag }

-- ** what that leaves

-- a state and a verdict, and no data
abbrev pub plain : State → Verdict → Plan
plain st verdict = record { state = st; verdict = verdict; from = 0; count = 0 }

-- "A header is accepted when its packet is answered 0"
unfoldable pub accepted : State → Header → ℕ → Plan
accepted st (Message tag size end) count = record {
  state = with_remote (with_out st (absorbed (opened (out_of st) tag size end) count)) (with_ren_on headed (port_of st).ren st.remote);
  verdict = done;
  from = HEADER;
  count = count;
}
accepted st (Request tag size enabled term) count =
    plain (with_in (with_out st (tagged (out_of st) tag)) (requested (in_of st) tag size enabled term)) done
accepted st (Trigger tag) count = plain (with_out st (tagged (out_of st) tag)) (record { number = DONE; tells = TELLS_TRIGGER })

-- "all unchanged"; "OUT halted"; data; a header
unfoldable pub planned : State → Outcome → Plan
planned st (Keep number) = plain st (only number)
planned st (Halt number) = plain (halted_out st) (only number)
planned st (Data count) = record { state = with_out st (absorbed (out_of st) count); verdict = done; from = 0; count = count }
planned st (Accept h count) = accepted st h count

unfoldable pub out_plan : State → List ℕ → Plan
out_plan st s = planned st (outcome st s)

-- ** what can be carried out without a sum that passes its type: every outcome can, and the code that does it leans on that

abbrev pub CanAbsorb : BulkOut → ℕ → Type 0
CanAbsorb o count =
    (count ≤ o.transfer.left) × (o.message.held + o.transfer.left ≤ STORE) × (o.transfer.got + o.transfer.left ≤ STORE)

abbrev pub CanAccept : State → Header → ℕ → Type 0
CanAccept st (Message tag size end) count = CanAbsorb (opened (out_of st) tag size end) count
CanAccept st (Request tag size enabled term) count = Unit {0}
CanAccept st (Trigger tag) count = Unit {0}

abbrev pub Can : State → Outcome → Type 0
Can st (Keep number) = Unit {0}
Can st (Halt number) = Unit {0}
Can st (Data count) = CanAbsorb (out_of st) count
Can st (Accept h count) = CanAccept st h count

-- the data of a plan stands in the packet, and has room behind what is held
abbrev pub Room : State → List ℕ → Plan → Type 0
Room st s plan = (plan.from + plan.count ≤ length s) × ((plan.count ≡ 0 → ⊥) → (out_of st).message.held + plan.count ≤ STORE)
