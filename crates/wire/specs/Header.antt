-- Bulk headers. On Bulk-OUT: what the twelve bytes say, and the first of 6, 7, 8, 9 and 10 that applies to them. On Bulk-IN: the twelve bytes.
-- Assumes nothing.
use Rattle.std.specs.Prelude.{ℕ, ◌+◌, ◌-◌, ◌*◌, ◌/◌, ◌%◌, Bool, List, [], ◌∷◌, ◌++◌, Result, Ok, Err, length}
use Rattle.rules.specs.Choice.{◌=ᵇ◌, ◌≠ᵇ◌, ◌<ᵇ◌, no, ◌or◌, pick, ◌⇒◌∣◌, decide}
use Rattle.rules.specs.Answers.{DONE, number_of}
use Rattle.rules.specs.declared.refusal.Refusal.{Refusal}
use Rattle.rules.specs.declared.refusal.Refusal.TheVariants.{NotInFours, ShortHeader, BadTag, UnknownMsgId, Reserved}
use Rattle.rules.specs.Flags.{OFF, ON}
use Rattle.wire.specs.Bytes.{byte, number4, bytes4, zeros}
use Rattle.wire.specs.declared.types.Header.{Header}
use Rattle.wire.specs.declared.types.Header.TheVariants.{Message, Request, Trigger}

-- "A header is 12 bytes"
abbrev pub HEADER : ℕ
HEADER = 12

-- "up to a multiple of 4"
abbrev pub FOUR : ℕ
FOUR = 4

abbrev pub not_in_fours : List ℕ → Bool
not_in_fours s = length s % FOUR ≠ᵇ 0

abbrev pub aligned : ℕ → ℕ
aligned n = (n + (FOUR - 1)) / FOUR * FOUR

abbrev pub DEV_DEP_MSG_OUT : ℕ
DEV_DEP_MSG_OUT = 1

abbrev pub REQUEST_DEV_DEP_MSG_IN : ℕ
REQUEST_DEV_DEP_MSG_IN = 2

abbrev pub TRIGGER : ℕ
TRIGGER = 128

-- "MsgID, bTag, bTagInverse, 0, then eight bytes by MsgID": "TransferSize (4), attributes", "TermChar"
abbrev pub MsgID : List ℕ → ℕ
MsgID s = byte s 0

abbrev pub bTag : List ℕ → ℕ
bTag s = byte s 1

abbrev pub bTagInverse : List ℕ → ℕ
bTagInverse s = byte s 2

abbrev pub reserved : List ℕ → ℕ
reserved s = byte s 3

abbrev pub TransferSize : List ℕ → ℕ
TransferSize s = number4 s 4

abbrev pub attributes : List ℕ → ℕ
attributes s = byte s 8

abbrev pub TermChar : List ℕ → ℕ
TermChar s = byte s 9

-- the bits of the attributes
abbrev pub D0 : ℕ
D0 = 1

abbrev pub D1 : ℕ
D1 = 2

-- "255 minus byte 1"
abbrev pub inverse : ℕ → ℕ
inverse tag = 255 - tag

-- ** on Bulk-OUT

-- a header, or its first fault
abbrev pub Read : Type 0
Read = Result Header Refusal

-- "reserved byte or bit not 0; TransferSize 0 for MsgID 1 or 2", a list for each MsgID

-- "TransferSize (4), attributes with only D0 = EOM, three 0"
abbrev pub message_rules : List ℕ → List (Bool × Refusal)
message_rules s =
    reserved s ≠ᵇ 0 ⇒ Reserved ∣
    TransferSize s =ᵇ 0 ⇒ Reserved ∣
    D0 <ᵇ attributes s ⇒ Reserved ∣
    no (zeros s 9 HEADER) ⇒ Reserved ∣ []

unfoldable pub read_message : List ℕ → Read
read_message s = decide Err (message_rules s) (Ok (Message (bTag s) (TransferSize s) (attributes s)))

-- "TransferSize, attributes with only D1 = TermCharEnabled, TermChar (ignored unless enabled), two 0"
abbrev pub request_rules : List ℕ → List (Bool × Refusal)
request_rules s =
    reserved s ≠ᵇ 0 ⇒ Reserved ∣
    TransferSize s =ᵇ 0 ⇒ Reserved ∣
    no (attributes s =ᵇ 0 or attributes s =ᵇ D1) ⇒ Reserved ∣
    no (zeros s 10 HEADER) ⇒ Reserved ∣ []

unfoldable pub read_request : List ℕ → Read
read_request s =
    decide Err (request_rules s)
    (pick (attributes s =ᵇ 0)
    (Ok (Request (bTag s) (TransferSize s) OFF 0))
    (Ok (Request (bTag s) (TransferSize s) ON (TermChar s))))

-- "eight 0", and the one before them
abbrev pub trigger_rules : List ℕ → List (Bool × Refusal)
trigger_rules s = no (zeros s 3 HEADER) ⇒ Reserved ∣ []

unfoldable pub read_trigger : List ℕ → Read
read_trigger s = decide Err (trigger_rules s) (Ok (Trigger (bTag s)))

abbrev pub known : List ℕ → Bool
known s = MsgID s =ᵇ DEV_DEP_MSG_OUT or MsgID s =ᵇ REQUEST_DEV_DEP_MSG_IN or MsgID s =ᵇ TRIGGER

-- "a header then goes 6, 7, 8, 9, 10": number 10 is told by MsgID
abbrev pub reading_rules : List ℕ → List (Bool × Refusal)
reading_rules s =
    not_in_fours s ⇒ NotInFours ∣
    length s <ᵇ HEADER ⇒ ShortHeader ∣
    bTag s =ᵇ 0 or bTagInverse s ≠ᵇ inverse (bTag s) ⇒ BadTag ∣
    no (known s) ⇒ UnknownMsgId ∣ []

unfoldable pub read_header : List ℕ → Read
read_header s =
    decide Err (reading_rules s)
    (pick (MsgID s =ᵇ DEV_DEP_MSG_OUT) (read_message s)
    (pick (MsgID s =ᵇ REQUEST_DEV_DEP_MSG_IN) (read_request s)
    (read_trigger s)))

-- the number of a fault; 0 for a header that is read
abbrev pub header_number : Read → ℕ
header_number (Ok h) = DONE
header_number (Err r) = number_of r

-- ** on Bulk-IN

-- "The header is 2, bTag, inverse, 0, N, attributes, three 0"
unfoldable pub in_header : ℕ → ℕ → ℕ → List ℕ
in_header tag n attrs =
    (REQUEST_DEV_DEP_MSG_IN ∷ tag ∷ inverse tag ∷ 0 ∷ []) ++ bytes4 n ++ (attrs ∷ 0 ∷ 0 ∷ 0 ∷ [])
