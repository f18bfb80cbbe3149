-- "A break is any halt of Bulk-OUT, CLEAR_FEATURE on 0x01, SET_CONFIGURATION or bus reset": told from a call and its answer.
-- Assumes nothing.
use Rattle.std.specs.Prelude.{ℕ, Bool, true, false, List, Option, Some, None}
use Rattle.rules.specs.Choice.{◌=ᵇ◌, ◌and◌}
use Rattle.rules.specs.Answers.{DONE, SUCCESS, Leaves, as_ruled, unchanged, out_halted, leaves}
use Rattle.wire.specs.Bytes.{byte}
use Rattle.wire.specs.Setup.{read_setup}
use Rattle.wire.specs.declared.types.Endpoint.{Endpoint}
use Rattle.wire.specs.declared.types.Endpoint.TheVariants.{Out, In, Interrupt}
use Rattle.wire.specs.declared.types.Row.{Row}
use Rattle.wire.specs.declared.types.Row.TheVariants.{InitiateAbortBulkOut, CheckAbortBulkOutStatus, InitiateAbortBulkIn, CheckAbortBulkInStatus}
use Rattle.wire.specs.declared.types.Row.TheVariants.{InitiateClear, CheckClearStatus, GetCapabilities, IndicatorPulse, ReadStatusByte}
use Rattle.wire.specs.declared.types.Row.TheVariants.{RenControl, GoToLocal, LocalLockout, ClearFeature, SetFeature, GetStatus}
use Rattle.wire.specs.declared.types.Setup.{Setup}
use Rattle.wire.specs.declared.types.Setup.TheVariants.{Configure, Asks}
use Rattle.port.specs.Answer.{Answer}
use Rattle.port.specs.Step.{Call, setup_packet, out_packet, take_into, bus_reset, quiet}

abbrev pub is_out : Endpoint → Bool
is_out Out = true
is_out In = false
is_out Interrupt = false

-- a fault of a packet halts; "An OUT abort halts Bulk-OUT", and so does a clear, where they are answered 01
abbrev pub halting : Leaves → Bool
halting as_ruled = false
halting unchanged = false
halting out_halted = true

abbrev pub breaks_row : Row → List ℕ → Bool
breaks_row (InitiateAbortBulkOut tag) bytes = byte bytes 0 =ᵇ SUCCESS
breaks_row CheckAbortBulkOutStatus bytes = false
breaks_row (InitiateAbortBulkIn tag) bytes = false
breaks_row CheckAbortBulkInStatus bytes = false
breaks_row InitiateClear bytes = byte bytes 0 =ᵇ SUCCESS
breaks_row CheckClearStatus bytes = false
breaks_row GetCapabilities bytes = false
breaks_row IndicatorPulse bytes = false
breaks_row (ReadStatusByte tag) bytes = false
breaks_row (RenControl ren) bytes = false
breaks_row GoToLocal bytes = false
breaks_row LocalLockout bytes = false
breaks_row (ClearFeature endpoint) bytes = is_out endpoint
breaks_row (SetFeature endpoint) bytes = is_out endpoint
breaks_row (GetStatus endpoint) bytes = false

abbrev pub breaks_setup : Option Setup → List ℕ → Bool
breaks_setup (Some (Configure value)) bytes = true
breaks_setup (Some (Asks row)) bytes = breaks_row row bytes
breaks_setup None bytes = false

unfoldable pub is_break : Call → Answer → Bool
is_break (setup_packet p) a = a.verdict.number =ᵇ DONE and breaks_setup (read_setup p.packet) a.bytes
is_break (out_packet s) a = halting (leaves a.verdict.number)
is_break (take_into room) a = false
is_break bus_reset a = a.verdict.number =ᵇ DONE
is_break (quiet q) a = false
