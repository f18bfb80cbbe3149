-- What each setup row answers and leaves. 01, "Setup rows" and the paragraphs below its table.
-- Assumes nothing.
use Rattle.std.specs.Prelude.{ℕ, Bool, List, [], ◌∷◌, ◌++◌}
use Rattle.rules.specs.Choice.{◌≠ᵇ◌, no, pick, ◌⇒◌∣◌, decide}
use Rattle.rules.specs.Answers.{DONE, SUCCESS, PENDING, INTERRUPT_IN_BUSY, FAILED, TRANSFER_NOT_IN_PROGRESS}
use Rattle.rules.specs.Answers.{SPLIT_NOT_IN_PROGRESS, SPLIT_IN_PROGRESS, TELLS_PULSE, done}
use Rattle.wire.specs.Bytes.{bytes4}
use Rattle.rules.specs.Flags.{OFF, ON}
use Rattle.wire.specs.Header.{D0}
use Rattle.wire.specs.declared.types.Endpoint.{Endpoint}
use Rattle.wire.specs.declared.types.Endpoint.TheVariants.{Out, In, Interrupt}
use Rattle.wire.specs.declared.types.Row.{Row}
use Rattle.wire.specs.declared.types.Row.TheVariants.{InitiateAbortBulkOut, CheckAbortBulkOutStatus, InitiateAbortBulkIn, CheckAbortBulkInStatus}
use Rattle.wire.specs.declared.types.Row.TheVariants.{InitiateClear, CheckClearStatus, GetCapabilities, IndicatorPulse, ReadStatusByte}
use Rattle.wire.specs.declared.types.Row.TheVariants.{RenControl, GoToLocal, LocalLockout, ClearFeature, SetFeature, GetStatus}
use Rattle.port.specs.Parts.{on, is_open_out, is_open_in, is_owed, is_none, keeps_halt, is_clear, port_of, out_of, in_of, interrupt_of}
use Rattle.port.specs.Parts.{closed_in, owed_in, with_port, with_out, with_in, with_interrupt, with_split, with_remote, with_ren}
use Rattle.port.specs.Parts.{with_in_halted, with_interrupt_halted, empty_out, empty_in, broken, halted_out, shut}
use Rattle.port.specs.Remote.{to_local, locked_out, with_ren_on, local_now}
use Rattle.port.specs.Answer.{Answer, Said}
use Rattle.port.specs.Interrupt.{is_waiting, status_queued}
use Rattle.port.specs.declared.types.BulkOut.{BulkOut}
use Rattle.port.specs.declared.types.BulkIn.{BulkIn}
use Rattle.port.specs.declared.types.InterruptIn.{InterruptIn}
use Rattle.port.specs.declared.types.Split.{Split}
use Rattle.port.specs.declared.types.Split.TheVariants.{None, AbortOut, AbortIn, Clear}
use Rattle.port.specs.declared.types.State.{State}
use Rattle.port.specs.declared.types.Effect.{Effect}
use Rattle.port.specs.declared.types.Effect.TheVariants.{Stays, AbortsOut, AbortsIn, Clears, EndsSplit, SetsRen}
use Rattle.port.specs.declared.types.Effect.TheVariants.{GoesToLocal, LocksOut, ClearsHalt, SetsHalt, Queues}

-- what a row answers, and what it does to the state
pub record Reaction : Type 0 where
  pub effect : Effect
  pub answer : Answer

abbrev pub reacts : Effect → List ℕ → Reaction
reacts effect bytes = record { effect = effect; answer = record { verdict = done; bytes = bytes } }

-- it answers and does nothing
abbrev pub answering : List ℕ → Reaction
answering bytes = reacts Stays bytes

-- ** aborts

-- "INITIATE_ABORT: 83 if any split is in progress, else 80 if none is open, 81 if the tag differs, else 01"
abbrev pub abort_rules : Split → Bool → ℕ → ℕ → List (Bool × ℕ)
abort_rules split isOpen own tag =
    no (is_none split) ⇒ SPLIT_IN_PROGRESS ∣
    no isOpen ⇒ FAILED ∣
    tag ≠ᵇ own ⇒ TRANSFER_NOT_IN_PROGRESS ∣ []

-- "2: status, tag of the open transfer, else most recent tag": an open OUT transfer's tag is the most recent one
abbrev pub out_tag : BulkOut → ℕ
out_tag o = o.recent

abbrev pub in_tag : BulkIn → ℕ
in_tag b = pick (is_open_in b) b.transfer.tag b.recent

unfoldable pub initiate_abort_out : State → ℕ → Reaction
initiate_abort_out st tag =
    let o = out_of st in
    decide (λ status. answering (status ∷ out_tag o ∷ []))
    (abort_rules st.split (is_open_out o) (out_tag o) tag)
    (reacts AbortsOut (SUCCESS ∷ out_tag o ∷ []))

unfoldable pub initiate_abort_in : State → ℕ → Reaction
initiate_abort_in st tag =
    let b = in_of st in
    decide (λ status. answering (status ∷ in_tag b ∷ []))
    (abort_rules st.split (is_open_in b) (in_tag b) tag)
    (reacts AbortsIn (SUCCESS ∷ in_tag b ∷ []))

-- "8: status, D0, 0, 0, count (4)"; "Counts .. given only with 01, else 0"
abbrev pub abort_status : ℕ → ℕ → ℕ → List ℕ
abort_status status d0 count = (status ∷ d0 ∷ 0 ∷ 0 ∷ []) ++ bytes4 count

-- "CHECK of the wrong split is 82 with D0 = 0"
abbrev pub wrong_split : Reaction
wrong_split = answering (abort_status SPLIT_NOT_IN_PROGRESS 0 0)

-- "Otherwise 01 with D0 = 0, and the split ends"
abbrev pub abort_ends : ℕ → Reaction
abort_ends count = reacts EndsSplit (abort_status SUCCESS 0 count)

unfoldable pub check_abort_out : Split → Reaction
check_abort_out None = wrong_split
check_abort_out (AbortOut count) = abort_ends count
check_abort_out (AbortIn count) = wrong_split
check_abort_out Clear = wrong_split

-- "CHECK of abort-IN or clear is 02 with D0 = 1 while that packet is owed"
unfoldable pub check_abort_in : BulkIn → Split → Reaction
check_abort_in b None = wrong_split
check_abort_in b (AbortOut count) = wrong_split
check_abort_in b (AbortIn count) = pick (is_owed b) (answering (abort_status PENDING D0 0)) (abort_ends count)
check_abort_in b Clear = wrong_split

-- ** clear

-- "INITIATE_CLEAR is 83 during a clear; otherwise 01"
unfoldable pub initiate_clear : Split → Reaction
initiate_clear split = pick (is_clear split) (answering (SPLIT_IN_PROGRESS ∷ [])) (reacts Clears (SUCCESS ∷ []))

unfoldable pub check_clear : BulkIn → Split → Reaction
check_clear b split =
    pick (no (is_clear split)) (answering (SPLIT_NOT_IN_PROGRESS ∷ 0 ∷ []))
    (pick (is_owed b) (answering (PENDING ∷ D0 ∷ []))
    (reacts EndsSplit (SUCCESS ∷ 0 ∷ [])))

-- ** the status byte

-- "While it waits, READ_STATUS_BYTE gets status 0x20"; it "answers 0x00 in its third byte"
unfoldable pub read_status : InterruptIn → ℕ → Reaction
read_status i tag =
    pick (is_waiting i) (answering (INTERRUPT_IN_BUSY ∷ tag ∷ 0x00 ∷ []))
    (reacts (Queues tag) (SUCCESS ∷ tag ∷ 0x00 ∷ []))

-- ** the rows, in the order of the table

-- "24: 01 00 00 01 04 01, six 0, 00 01 03 03, eight 0"; 02, request 1: "Capabilities gain SR1", which is D2 of the byte at 15
abbrev pub capabilities : List ℕ
capabilities =
    0x01 ∷ 0x00 ∷ 0x00 ∷ 0x01 ∷ 0x04 ∷ 0x01 ∷ 0 ∷ 0 ∷ 0 ∷ 0 ∷ 0 ∷ 0 ∷ 0x00 ∷ 0x01 ∷ 0x03 ∷ 0x07 ∷ 0 ∷ 0 ∷ 0 ∷ 0 ∷ 0 ∷ 0 ∷ 0 ∷ 0 ∷ []

abbrev pub halt : State → Endpoint → ℕ
halt st Out = (out_of st).halted
halt st In = (in_of st).halted
halt st Interrupt = (interrupt_of st).halted

unfoldable pub answer_row : State → Row → Reaction
answer_row st (InitiateAbortBulkOut tag) = initiate_abort_out st tag
answer_row st CheckAbortBulkOutStatus = check_abort_out st.split
answer_row st (InitiateAbortBulkIn tag) = initiate_abort_in st tag
answer_row st CheckAbortBulkInStatus = check_abort_in (in_of st) st.split
answer_row st InitiateClear = initiate_clear st.split
answer_row st CheckClearStatus = check_clear (in_of st) st.split
answer_row st GetCapabilities = answering capabilities
answer_row st IndicatorPulse =
    record { effect = Stays; answer = record { verdict = record { number = DONE; tells = TELLS_PULSE }; bytes = SUCCESS ∷ [] } }
answer_row st (ReadStatusByte tag) = read_status (interrupt_of st) tag
answer_row st (RenControl ren) = reacts (SetsRen ren) (SUCCESS ∷ [])
answer_row st GoToLocal = reacts GoesToLocal (SUCCESS ∷ [])
answer_row st LocalLockout = reacts LocksOut (SUCCESS ∷ [])
answer_row st (ClearFeature endpoint) = reacts (ClearsHalt endpoint) []
answer_row st (SetFeature endpoint) = reacts (SetsHalt endpoint) []
answer_row st (GetStatus endpoint) = answering (halt st endpoint ∷ 0 ∷ [])

-- ** what they do

-- "An OUT abort halts Bulk-OUT"
abbrev pub aborted_out : State → State
aborted_out st = with_split (halted_out st) (AbortOut (out_of st).transfer.got)

-- "An IN abort drops the whole reply and owes an empty packet"
abbrev pub owing : BulkIn → ℕ → BulkIn
owing b recent = empty_in (owed_in b.transfer.tag) b.halted recent

abbrev pub aborted_in : State → State
aborted_in st = with_split (with_in st (owing (in_of st) (in_of st).recent)) (AbortIn (in_of st).transfer.sent)

-- "it ends any abort split, drops the ready message and the reply, sets both most recent tags to 0 (an open transfer keeps its own),
-- halts Bulk-OUT, and owes the empty packet if an IN transfer is open"
abbrev pub cleared_in : BulkIn → BulkIn
cleared_in b = pick (is_open_in b) (owing b 0) (empty_in closed_in b.halted 0)

unfoldable pub clearing : State → State
clearing st = with_split (with_in (with_out st (empty_out ON 0)) (cleared_in (in_of st))) Clear

-- "REN off .. LOCS and REN off"; 1 puts REN on and moves nothing
abbrev pub ren_control : State → ℕ → State
ren_control st ren = pick (on ren) (with_port st (with_ren (port_of st) ON)) (local_now st)

-- "ends the halt and drops what is unfinished; during a clear or abort-OUT split it is answered and the halt stays"
unfoldable pub clear_feature_out : Split → BulkOut → BulkOut
clear_feature_out split o = broken (pick (keeps_halt split) o.halted OFF) o

-- "ends the halt and any owed packet; an open transfer closes, and the stored reply goes with it unless a packet was owed"
unfoldable pub clear_feature_in : BulkIn → BulkIn
clear_feature_in b =
    pick (is_owed b) (shut (with_in_halted b OFF))
    (pick (is_open_in b) (empty_in closed_in OFF b.recent) (with_in_halted b OFF))

-- of Interrupt-IN: the halt alone, "dropping no packet"
unfoldable pub effected : State → Effect → State
effected st Stays = st
effected st AbortsOut = aborted_out st
effected st AbortsIn = aborted_in st
effected st Clears = clearing st
effected st EndsSplit = with_split st None
effected st (SetsRen ren) = ren_control st ren
effected st GoesToLocal = with_remote st (to_local st.remote)
effected st LocksOut = with_remote st (with_ren_on locked_out (port_of st).ren st.remote)
effected st (ClearsHalt Out) = with_out st (clear_feature_out st.split (out_of st))
effected st (ClearsHalt In) = with_in st (clear_feature_in (in_of st))
effected st (ClearsHalt Interrupt) = with_interrupt st (with_interrupt_halted (interrupt_of st) OFF)
effected st (SetsHalt Out) = halted_out st
effected st (SetsHalt In) = with_in st (with_in_halted (in_of st) ON)
effected st (SetsHalt Interrupt) = with_interrupt st (with_interrupt_halted (interrupt_of st) ON)
effected st (Queues tag) = with_interrupt st (status_queued (interrupt_of st) tag)

-- the row's answer, and the state after it
abbrev pub reacted : State → Reaction → Said
reacted st r = record { state = effected st r.effect; answer = r.answer }
