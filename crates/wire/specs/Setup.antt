-- Setup packets: which row of 01's table the eight bytes match. "wLength must equal the size given (house); wValue and wIndex are 0 unless said."
-- Assumes nothing.
use Rattle.std.specs.Prelude.{ℕ, Bool, List, [], ◌∷◌, Option, Some, None}
use Rattle.rules.specs.Choice.{◌=ᵇ◌, ◌≤ᵇ◌, pick, ◌⇒◌∣◌, first, ◌&◌, all}
use Rattle.wire.specs.Bytes.{byte, number2}
use Rattle.wire.specs.declared.types.Endpoint.{Endpoint}
use Rattle.wire.specs.declared.types.Endpoint.TheVariants.{Out, In, Interrupt}
use Rattle.wire.specs.declared.types.Row.{Row}
use Rattle.wire.specs.declared.types.Row.TheVariants.{InitiateAbortBulkOut, CheckAbortBulkOutStatus, InitiateAbortBulkIn, CheckAbortBulkInStatus}
use Rattle.wire.specs.declared.types.Row.TheVariants.{InitiateClear, CheckClearStatus, GetCapabilities, IndicatorPulse, ReadStatusByte}
use Rattle.wire.specs.declared.types.Row.TheVariants.{RenControl, GoToLocal, LocalLockout, ClearFeature, SetFeature, GetStatus}
use Rattle.wire.specs.declared.types.Setup.{Setup}
use Rattle.wire.specs.declared.types.Setup.TheVariants.{Configure, Asks}

-- "setup not 8 bytes"
abbrev pub SETUP : ℕ
SETUP = 8

-- "control buffer under 24": the length of the longest answer, GET_CAPABILITIES's own
abbrev pub CONTROL : ℕ
CONTROL = 24

-- "with Bulk-OUT at endpoint 0x01 and Bulk-IN at 0x82"; 02, request 1: "endpoint 0x83"
abbrev pub BULK_OUT : ℕ
BULK_OUT = 0x01

abbrev pub BULK_IN : ℕ
BULK_IN = 0x82

abbrev pub INTERRUPT_IN : ℕ
INTERRUPT_IN = 0x83

abbrev pub bmRequestType : List ℕ → ℕ
bmRequestType s = byte s 0

abbrev pub bRequest : List ℕ → ℕ
bRequest s = byte s 1

abbrev pub wValue : List ℕ → ℕ
wValue s = number2 s 2

abbrev pub wIndex : List ℕ → ℕ
wIndex s = number2 s 4

abbrev pub wLength : List ℕ → ℕ
wLength s = number2 s 6

-- a row's own columns: its request, a value from `low` to `high`, an index and a length; and what it asks, of the value
pub record Columns : Type 0 where
  pub request : ℕ
  pub low : ℕ
  pub high : ℕ
  pub index : ℕ
  pub size : ℕ
  pub asks : ℕ → Setup

infixr 2 bRequest≡◌wValue≡◌to◌wIndex≡◌wLength≡◌▹◌∣◌
abbrev pub bRequest≡◌wValue≡◌to◌wIndex≡◌wLength≡◌▹◌∣◌ : ℕ → ℕ → ℕ → ℕ → ℕ → (ℕ → Setup) → List Columns → List Columns
bRequest≡◌wValue≡◌to◌wIndex≡◌wLength≡◌▹◌∣◌ request low high index size asks below =
    record { request = request; low = low; high = high; index = index; size = size; asks = asks } ∷ below

-- a value from `low` to `high`, an index and a length that are the ones given
unfoldable pub fitting : ℕ → ℕ → ℕ → ℕ → ℕ → ℕ → ℕ → Bool
fitting value low high at index long size = all (low ≤ᵇ value & value ≤ᵇ high & at =ᵇ index & long =ᵇ size & [])

abbrev pub matches : List ℕ → ℕ → ℕ → ℕ → ℕ → Bool
matches s low high index size = fitting (wValue s) low high (wIndex s) index (wLength s) size

abbrev pub row : Bool → Setup → Option Setup
row fits what = pick fits (Some what) None

-- the row of the table with the packet's bRequest, where its other columns fit
abbrev pub found : List ℕ → List Columns → Option Setup
found s [] = None
found s (r ∷ below) =
    pick (bRequest s =ᵇ r.request)
    (row (matches s r.low r.high r.index r.size) (r.asks (wValue s)))
    (found s below)

-- "by endpoint": the row of Bulk-OUT, of Bulk-IN, or of Interrupt-IN
abbrev pub of_endpoint : List ℕ → ℕ → Row → Row → Row → Option Setup
of_endpoint s size out inward interrupt =
    first
    (wIndex s =ᵇ BULK_OUT ⇒ row (matches s 0 0 BULK_OUT size) (Asks out) ∣
    wIndex s =ᵇ BULK_IN ⇒ row (matches s 0 0 BULK_IN size) (Asks inward) ∣
    wIndex s =ᵇ INTERRUPT_IN ⇒ row (matches s 0 0 INTERRUPT_IN size) (Asks interrupt) ∣ [])
    None

abbrev pub by_endpoint : List ℕ → ℕ → (Endpoint → Row) → Option Setup
by_endpoint s size asked = of_endpoint s size (asked Out) (asked In) (asked Interrupt)

-- "Class requests to .. an endpoint A2"
unfoldable pub to_endpoint : List ℕ → Option Setup
to_endpoint s =
    found s
    (bRequest≡ 1 wValue≡ 1 to 255 wIndex≡ BULK_OUT wLength≡ 2 ▹ (λ tag. Asks (InitiateAbortBulkOut tag)) ∣
    bRequest≡ 2 wValue≡ 0 to 0 wIndex≡ BULK_OUT wLength≡ 8 ▹ (λ _. Asks CheckAbortBulkOutStatus) ∣
    bRequest≡ 3 wValue≡ 1 to 255 wIndex≡ BULK_IN wLength≡ 2 ▹ (λ tag. Asks (InitiateAbortBulkIn tag)) ∣
    bRequest≡ 4 wValue≡ 0 to 0 wIndex≡ BULK_IN wLength≡ 8 ▹ (λ _. Asks CheckAbortBulkInStatus) ∣ [])

-- "Class requests to the interface are A1"
unfoldable pub to_interface : List ℕ → Option Setup
to_interface s =
    found s
    (bRequest≡ 5 wValue≡ 0 to 0 wIndex≡ 0 wLength≡ 1 ▹ (λ _. Asks InitiateClear) ∣
    bRequest≡ 6 wValue≡ 0 to 0 wIndex≡ 0 wLength≡ 2 ▹ (λ _. Asks CheckClearStatus) ∣
    bRequest≡ 7 wValue≡ 0 to 0 wIndex≡ 0 wLength≡ CONTROL ▹ (λ _. Asks GetCapabilities) ∣
    bRequest≡ 64 wValue≡ 0 to 0 wIndex≡ 0 wLength≡ 1 ▹ (λ _. Asks IndicatorPulse) ∣
    bRequest≡ 128 wValue≡ 2 to 127 wIndex≡ 0 wLength≡ 3 ▹ (λ tag. Asks (ReadStatusByte tag)) ∣
    bRequest≡ 160 wValue≡ 0 to 1 wIndex≡ 0 wLength≡ 1 ▹ (λ ren. Asks (RenControl ren)) ∣
    bRequest≡ 161 wValue≡ 0 to 0 wIndex≡ 0 wLength≡ 1 ▹ (λ _. Asks GoToLocal) ∣
    bRequest≡ 162 wValue≡ 0 to 0 wIndex≡ 0 wLength≡ 1 ▹ (λ _. Asks LocalLockout) ∣ [])

-- "02 1, 02 3 CLEAR_, SET_FEATURE halt, by endpoint"
unfoldable pub to_feature : List ℕ → Option Setup
to_feature s = first (bRequest s =ᵇ 1 ⇒ by_endpoint s 0 ClearFeature ∣ bRequest s =ᵇ 3 ⇒ by_endpoint s 0 SetFeature ∣ []) None

-- "82 0 GET_STATUS, by endpoint"
unfoldable pub to_status : List ℕ → Option Setup
to_status s = first (bRequest s =ᵇ 0 ⇒ by_endpoint s 2 GetStatus ∣ []) None

-- "00 9 SET_CONFIGURATION; wValue 0 or 1"
unfoldable pub to_device : List ℕ → Option Setup
to_device s = found s (bRequest≡ 9 wValue≡ 0 to 1 wIndex≡ 0 wLength≡ 0 ▹ (λ value. Configure value) ∣ [])

-- the request type first, then bRequest
unfoldable pub read_setup : List ℕ → Option Setup
read_setup s =
    first
    (bmRequestType s =ᵇ 0xA2 ⇒ to_endpoint s ∣
    bmRequestType s =ᵇ 0xA1 ⇒ to_interface s ∣
    bmRequestType s =ᵇ 0x02 ⇒ to_feature s ∣
    bmRequestType s =ᵇ 0x82 ⇒ to_status s ∣
    bmRequestType s =ᵇ 0x00 ⇒ to_device s ∣ [])
    None
