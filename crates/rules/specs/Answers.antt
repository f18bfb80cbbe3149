-- Document 01's table of numbers, its statuses, and what an answer tells: definitions have each number from here, and from nowhere else.
-- Assumes nothing.
use Rattle.std.specs.Prelude.{ℕ, List, [], ◌∷◌}
use Rattle.rules.specs.Choice.{pick, ◌=ᵇ◌}
use Rattle.rules.specs.declared.refusal.Refusal.{Refusal}
use Rattle.rules.specs.declared.refusal.Refusal.TheVariants.{Unsound, Unconfigured, WrongSize, Halted, Wait, NotInFours, ShortHeader}
use Rattle.rules.specs.declared.refusal.Refusal.TheVariants.{BadTag, UnknownMsgId, Reserved, WrongLength, TooLong, OutOfTurn, UnknownRow, NotNow}
use Rattle.rules.specs.declared.verdict.Verdict.{Verdict}

-- ** 01, "What each number returns and leaves": given when. 14 is free: 02, request 2, "14 is no longer given"

abbrev pub DONE : ℕ
DONE = 0

abbrev pub UNSOUND : ℕ
UNSOUND = 1

abbrev pub UNCONFIGURED : ℕ
UNCONFIGURED = 2

abbrev pub WRONG_SIZE : ℕ
WRONG_SIZE = 3

abbrev pub HALTED : ℕ
HALTED = 4

abbrev pub WAIT : ℕ
WAIT = 5

abbrev pub NOT_IN_FOURS : ℕ
NOT_IN_FOURS = 6

abbrev pub SHORT_HEADER : ℕ
SHORT_HEADER = 7

abbrev pub BAD_TAG : ℕ
BAD_TAG = 8

abbrev pub UNKNOWN_MSGID : ℕ
UNKNOWN_MSGID = 9

abbrev pub RESERVED : ℕ
RESERVED = 10

abbrev pub WRONG_LENGTH : ℕ
WRONG_LENGTH = 11

abbrev pub TOO_LONG : ℕ
TOO_LONG = 12

abbrev pub OUT_OF_TURN : ℕ
OUT_OF_TURN = 13

abbrev pub NO_ROW : ℕ
NO_ROW = 15

abbrev pub NOT_NOW : ℕ
NOT_NOW = 16

-- the number of each refusal
abbrev pub number_of : Refusal → ℕ
number_of Unsound = UNSOUND
number_of Unconfigured = UNCONFIGURED
number_of WrongSize = WRONG_SIZE
number_of Halted = HALTED
number_of Wait = WAIT
number_of NotInFours = NOT_IN_FOURS
number_of ShortHeader = SHORT_HEADER
number_of BadTag = BAD_TAG
number_of UnknownMsgId = UNKNOWN_MSGID
number_of Reserved = RESERVED
number_of WrongLength = WRONG_LENGTH
number_of TooLong = TOO_LONG
number_of OutOfTurn = OUT_OF_TURN
number_of UnknownRow = NO_ROW
number_of NotNow = NOT_NOW

-- ** the same table: leaves

pub data Leaves : Type 0 where
  as_ruled unchanged out_halted : Leaves

abbrev pub table : List (ℕ × Leaves)
table =
    (DONE, as_ruled)
    ∷ (UNSOUND, unchanged)
    ∷ (UNCONFIGURED, unchanged)
    ∷ (WRONG_SIZE, unchanged)
    ∷ (HALTED, unchanged)
    ∷ (WAIT, unchanged)
    ∷ (NOT_IN_FOURS, out_halted)
    ∷ (SHORT_HEADER, out_halted)
    ∷ (BAD_TAG, out_halted)
    ∷ (UNKNOWN_MSGID, out_halted)
    ∷ (RESERVED, out_halted)
    ∷ (WRONG_LENGTH, out_halted)
    ∷ (TOO_LONG, out_halted)
    ∷ (OUT_OF_TURN, out_halted)
    ∷ (NO_ROW, unchanged)
    ∷ (NOT_NOW, unchanged)
    ∷ []

abbrev pub entry : ℕ → List (ℕ × Leaves) → Leaves
entry n [] = unchanged
entry n (e ∷ es) = pick (n =ᵇ e.0) e.1 (entry n es)

-- what an answer of this number leaves
unfoldable pub leaves : ℕ → Leaves
unfolding pick
leaves n = entry n table

-- ** 01, "Statuses"

abbrev pub SUCCESS : ℕ
SUCCESS = 0x01

abbrev pub PENDING : ℕ
PENDING = 0x02

-- 02, request 1: READ_STATUS_BYTE while a packet waits on Interrupt-IN
abbrev pub INTERRUPT_IN_BUSY : ℕ
INTERRUPT_IN_BUSY = 0x20

abbrev pub FAILED : ℕ
FAILED = 0x80

abbrev pub TRANSFER_NOT_IN_PROGRESS : ℕ
TRANSFER_NOT_IN_PROGRESS = 0x81

abbrev pub SPLIT_NOT_IN_PROGRESS : ℕ
SPLIT_NOT_IN_PROGRESS = 0x82

abbrev pub SPLIT_IN_PROGRESS : ℕ
SPLIT_IN_PROGRESS = 0x83

-- ** what an answer tells beside its number: the thermostat to trigger, the light to pulse

abbrev pub TELLS_NOTHING : ℕ
TELLS_NOTHING = 0

abbrev pub TELLS_TRIGGER : ℕ
TELLS_TRIGGER = 1

abbrev pub TELLS_PULSE : ℕ
TELLS_PULSE = 2

-- ** what every answer says beside its bytes: the number, and what it tells

-- a number that tells nothing
abbrev pub only : ℕ → Verdict
only n = record { number = n; tells = TELLS_NOTHING }

-- a refusal's
abbrev pub refusing : Refusal → Verdict
refusing r = only (number_of r)

abbrev pub done : Verdict
done = only DONE
