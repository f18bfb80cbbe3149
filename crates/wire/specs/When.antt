-- 01, "Given when", for what bytes alone decide: what a header is refused for, and which rows a setup packet can match. Each condition stands by
-- itself, over bytes at their places; nothing here is the reader's.
-- Assumes nothing.
use Rattle.std.specs.Prelude.{ℕ, ◌+◌, ◌-◌, ◌*◌, ◌%◌, ◌≤◌, ◌≡◌, List, [], ◌∷◌, ◌⊎◌, Ok, length, get_or, Option, MatchOption}
use Rattle.rules.specs.When.{Not, ◌when◌∣◌, else_0}
use Rattle.wire.specs.Header.{Read, header_number}
use Rattle.wire.specs.declared.types.Endpoint.TheVariants.{Out, In, Interrupt}
use Rattle.wire.specs.declared.types.Header.{Header}
use Rattle.wire.specs.declared.types.Header.TheVariants.{Message, Request, Trigger}
use Rattle.wire.specs.declared.types.Row.TheVariants.{InitiateAbortBulkOut, CheckAbortBulkOutStatus, InitiateAbortBulkIn, CheckAbortBulkInStatus}
use Rattle.wire.specs.declared.types.Row.TheVariants.{InitiateClear, CheckClearStatus, GetCapabilities, IndicatorPulse, ReadStatusByte}
use Rattle.wire.specs.declared.types.Row.TheVariants.{RenControl, GoToLocal, LocalLockout, ClearFeature, SetFeature, GetStatus}
use Rattle.wire.specs.declared.types.Setup.{Setup}
use Rattle.wire.specs.declared.types.Setup.TheVariants.{Configure, Asks}

-- the byte at a place, and the number in two bytes or in four, the least significant first
abbrev pub at : List ℕ → ℕ → ℕ
at s i = get_or s i 0

abbrev pub two_at : List ℕ → ℕ → ℕ
two_at s i = at s i + 256 * at s (i + 1)

abbrev pub four_at : List ℕ → ℕ → ℕ
four_at s i = at s i + 256 * at s (i + 1) + 65536 * at s (i + 2) + 16777216 * at s (i + 3)

-- every one of the bytes is 0
abbrev pub Zeros : List ℕ → Type 0
Zeros [] = Unit {0}
Zeros (b ∷ s) = (b ≡ 0) × Zeros s

-- ** a header

-- the kinds of header: DEV_DEP_MSG_OUT, REQUEST_DEV_DEP_MSG_IN, TRIGGER
abbrev pub Commands : List ℕ → Type 0
Commands s = at s 0 ≡ 1

abbrev pub Requests : List ℕ → Type 0
Requests s = at s 0 ≡ 2

abbrev pub Triggers : List ℕ → Type 0
Triggers s = at s 0 ≡ 128

-- 6: "OUT length not a multiple of 4"
abbrev pub NotInFours : List ℕ → Type 0
NotInFours s = Not (length s % 4 ≡ 0)

-- 7: "header of 4 or 8 bytes"
abbrev pub ShortHeader : List ℕ → Type 0
ShortHeader s = (length s ≡ 4) ⊎ (length s ≡ 8)

-- 8: "bTag 0, or byte 2 not 255 minus byte 1"
abbrev pub BadTag : List ℕ → Type 0
BadTag s = (at s 1 ≡ 0) ⊎ Not (at s 2 ≡ 255 - at s 1)

-- 9: "MsgID not 1, 2 or 128"
abbrev pub UnknownMsgID : List ℕ → Type 0
UnknownMsgID s = Not (Commands s) × Not (Requests s) × Not (Triggers s)

-- 10: "reserved byte or bit not 0; TransferSize 0 for MsgID 1 or 2"; "attributes with only D0 = EOM, three 0"
abbrev pub BadCommand : List ℕ → Type 0
BadCommand s =
    Not (at s 3 ≡ 0)
    ⊎ (four_at s 4 ≡ 0)
    ⊎ (Not (at s 8 ≡ 0) × Not (at s 8 ≡ 1))
    ⊎ Not ((at s 9 ≡ 0) × (at s 10 ≡ 0) × (at s 11 ≡ 0))

-- "attributes with only D1 = TermCharEnabled, TermChar (ignored unless enabled), two 0"
abbrev pub BadRequest : List ℕ → Type 0
BadRequest s =
    Not (at s 3 ≡ 0)
    ⊎ (four_at s 4 ≡ 0)
    ⊎ (Not (at s 8 ≡ 0) × Not (at s 8 ≡ 2))
    ⊎ Not ((at s 10 ≡ 0) × (at s 11 ≡ 0))

-- "eight 0", and the one before them
abbrev pub BadTrigger : List ℕ → Type 0
BadTrigger s =
    Not ((at s 3 ≡ 0) × (at s 4 ≡ 0) × (at s 5 ≡ 0) × (at s 6 ≡ 0) × (at s 7 ≡ 0) × (at s 8 ≡ 0) × (at s 9 ≡ 0) × (at s 10 ≡ 0) × (at s 11 ≡ 0))

abbrev pub Reserved : List ℕ → Type 0
Reserved s = (Commands s × BadCommand s) ⊎ (Requests s × BadRequest s) ⊎ (Triggers s × BadTrigger s)

-- ** a setup packet: the table of rows, with its columns

pub record Column : Type 0 where
  pub type : ℕ
  pub request : ℕ
  pub low : ℕ
  pub high : ℕ
  pub index : ℕ
  pub size : ℕ

infixr 2 ◌∣◌∣◌to◌∣◌∣◌▹◌∣◌
-- bmRequestType ∣ bRequest ∣ wValue from .. to .. ∣ wIndex ∣ wLength ▹ what it asks, by wValue; and the rows below
abbrev pub ◌∣◌∣◌to◌∣◌∣◌▹◌∣◌ : ℕ → ℕ → ℕ → ℕ → ℕ → ℕ → (ℕ → Setup) → List (Column × (ℕ → Setup)) → List (Column × (ℕ → Setup))
◌∣◌∣◌to◌∣◌∣◌▹◌∣◌ type request low high index size asks below =
    (record { type = type; request = request; low = low; high = high; index = index; size = size }, asks) ∷ below

abbrev pub rows : List (Column × (ℕ → Setup))
rows =
    0xA2 ∣ 1 ∣ 1 to 255 ∣ 0x01 ∣ 2 ▹ (λ tag. Asks (InitiateAbortBulkOut tag)) ∣
    0xA2 ∣ 2 ∣ 0 to 0 ∣ 0x01 ∣ 8 ▹ (λ _. Asks CheckAbortBulkOutStatus) ∣
    0xA2 ∣ 3 ∣ 1 to 255 ∣ 0x82 ∣ 2 ▹ (λ tag. Asks (InitiateAbortBulkIn tag)) ∣
    0xA2 ∣ 4 ∣ 0 to 0 ∣ 0x82 ∣ 8 ▹ (λ _. Asks CheckAbortBulkInStatus) ∣
    0xA1 ∣ 5 ∣ 0 to 0 ∣ 0 ∣ 1 ▹ (λ _. Asks InitiateClear) ∣
    0xA1 ∣ 6 ∣ 0 to 0 ∣ 0 ∣ 2 ▹ (λ _. Asks CheckClearStatus) ∣
    0xA1 ∣ 7 ∣ 0 to 0 ∣ 0 ∣ 24 ▹ (λ _. Asks GetCapabilities) ∣
    0xA1 ∣ 64 ∣ 0 to 0 ∣ 0 ∣ 1 ▹ (λ _. Asks IndicatorPulse) ∣
    0xA1 ∣ 128 ∣ 2 to 127 ∣ 0 ∣ 3 ▹ (λ tag. Asks (ReadStatusByte tag)) ∣
    0xA1 ∣ 160 ∣ 0 to 1 ∣ 0 ∣ 1 ▹ (λ ren. Asks (RenControl ren)) ∣
    0xA1 ∣ 161 ∣ 0 to 0 ∣ 0 ∣ 1 ▹ (λ _. Asks GoToLocal) ∣
    0xA1 ∣ 162 ∣ 0 to 0 ∣ 0 ∣ 1 ▹ (λ _. Asks LocalLockout) ∣
    0x02 ∣ 1 ∣ 0 to 0 ∣ 0x01 ∣ 0 ▹ (λ _. Asks (ClearFeature Out)) ∣
    0x02 ∣ 1 ∣ 0 to 0 ∣ 0x82 ∣ 0 ▹ (λ _. Asks (ClearFeature In)) ∣
    0x02 ∣ 1 ∣ 0 to 0 ∣ 0x83 ∣ 0 ▹ (λ _. Asks (ClearFeature Interrupt)) ∣
    0x02 ∣ 3 ∣ 0 to 0 ∣ 0x01 ∣ 0 ▹ (λ _. Asks (SetFeature Out)) ∣
    0x02 ∣ 3 ∣ 0 to 0 ∣ 0x82 ∣ 0 ▹ (λ _. Asks (SetFeature In)) ∣
    0x02 ∣ 3 ∣ 0 to 0 ∣ 0x83 ∣ 0 ▹ (λ _. Asks (SetFeature Interrupt)) ∣
    0x82 ∣ 0 ∣ 0 to 0 ∣ 0x01 ∣ 2 ▹ (λ _. Asks (GetStatus Out)) ∣
    0x82 ∣ 0 ∣ 0 to 0 ∣ 0x82 ∣ 2 ▹ (λ _. Asks (GetStatus In)) ∣
    0x82 ∣ 0 ∣ 0 to 0 ∣ 0x83 ∣ 2 ▹ (λ _. Asks (GetStatus Interrupt)) ∣
    0x00 ∣ 9 ∣ 0 to 1 ∣ 0 ∣ 0 ▹ (λ value. Configure value) ∣
    []

-- a setup packet that matches a row
pub record Fits (c : Column) (s : List ℕ) : Type 0 where
  pub type : at s 0 ≡ c.type
  pub request : at s 1 ≡ c.request
  pub low : c.low ≤ two_at s 2
  pub high : two_at s 2 ≤ c.high
  pub index : two_at s 4 ≡ c.index
  pub size : two_at s 6 ≡ c.size

-- it matches a row of these, which asks for `x`
abbrev pub Matches : List ℕ → List (Column × (ℕ → Setup)) → Setup → Type 0
Matches s [] x = ⊥
Matches s (r ∷ rs) x = (Fits r.0 s × (x ≡ r.1 (two_at s 2))) ⊎ Matches s rs x

-- ** what holds a reader to them

-- what a good header says: its kind, its tag, its TransferSize, and what is behind it
abbrev pub Means : List ℕ → Header → Type 0
Means s (Message tag size end) = Commands s × (tag ≡ at s 1) × (size ≡ four_at s 4) × (end ≡ at s 8)
Means s (Request tag size enabled term) =
    Requests s × (tag ≡ at s 1) × (size ≡ four_at s 4)
    × (((at s 8 ≡ 0) × (enabled ≡ 0) × (term ≡ 0)) ⊎ ((at s 8 ≡ 2) × (enabled ≡ 1) × (term ≡ at s 9)))
Means s (Trigger tag) = Triggers s × (tag ≡ at s 1)

-- "a header then goes 6, 7, 8, 9, 10"
abbrev pub header_given : List ℕ → (ℕ → Type 0) → ℕ → Type 0
header_given s later =
    6 when NotInFours s ∣
    7 when ShortHeader s ∣
    8 when BadTag s ∣
    9 when UnknownMsgID s ∣
    10 when Reserved s ∣ later

-- THE LAW of headers: the first of the five that applies, and where none does, what the bytes say
pub record HeaderLaw (reads : List ℕ → Read) : Type 0 where
  pub faults : (s : List ℕ) → Not (length s ≡ 0) → header_given s else_0 (header_number (reads s))
  pub meaning : (s : List ℕ) (h : Header) → reads s ≡ Ok h → Means s h

-- the row that the bytes match, or none where they match none
abbrev pub RowOf : List ℕ → Option Setup → Type 0
RowOf s x = MatchOption x ((y : Setup) → Not (Matches s rows y)) (λ y. Matches s rows y)

-- THE LAW of setup packets: it is read
abbrev pub SetupLaw : (List ℕ → Option Setup) → Type 0
SetupLaw reads = (s : List ℕ) → RowOf s (reads s)
