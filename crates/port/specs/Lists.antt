-- The numbers that each call can answer beside 0, in the order in which 01 has them.
-- Assumes nothing.
use Rattle.std.specs.Prelude.{ℕ, List, [], ◌∷◌}
use Rattle.rules.specs.Answers.{UNSOUND, UNCONFIGURED, WRONG_SIZE, HALTED, WAIT, NOT_IN_FOURS, SHORT_HEADER, BAD_TAG, UNKNOWN_MSGID}
use Rattle.rules.specs.Answers.{RESERVED, WRONG_LENGTH, TOO_LONG, OUT_OF_TURN, NO_ROW, NOT_NOW}
use Rattle.port.specs.Step.{Quiet, in_poll, interrupt_poll, offer_reply, set_status, front_panel, bus_suspend}
use Rattle.port.specs.Step.{Call, setup_packet, out_packet, take_into, bus_reset, quiet}

-- "Bulk calls: 1, 2, 3, 4, 5"; 02, request 1: "polling 0x83 goes 1, 2, 3 .., 4 halted, 5 empty"
abbrev pub bulk : List ℕ → List ℕ
bulk more = UNSOUND ∷ UNCONFIGURED ∷ WRONG_SIZE ∷ HALTED ∷ WAIT ∷ more

-- "a header then goes 6, 7, 8, 9, 10, 13, 12, 11 .., and a continuing packet 6, 11 ..": 02, request 2, takes 14 off both
abbrev pub faults : List ℕ
faults = NOT_IN_FOURS ∷ SHORT_HEADER ∷ BAD_TAG ∷ UNKNOWN_MSGID ∷ RESERVED ∷ OUT_OF_TURN ∷ TOO_LONG ∷ WRONG_LENGTH ∷ []

-- the ten calls, whatever their input
pub data Kind : Type 0 where
  setups outs polls interrupts takes offers statuses panels resets suspends : Kind

abbrev pub quiet_kind : Quiet → Kind
quiet_kind (in_poll room) = polls
quiet_kind (interrupt_poll room) = interrupts
quiet_kind (offer_reply bytes) = offers
quiet_kind (set_status value) = statuses
quiet_kind front_panel = panels
quiet_kind bus_suspend = suspends

abbrev pub kind_of : Call → Kind
kind_of (setup_packet p) = setups
kind_of (out_packet s) = outs
kind_of (take_into room) = takes
kind_of bus_reset = resets
kind_of (quiet q) = quiet_kind q

-- "Take: 1, 2, 16, 3. Offer: 1, 2, 3, 16. Setup: 1, 3, 15. Bus calls: 1. Panel and set status: 1, 2."
unfoldable pub own : Kind → List ℕ
own setups = UNSOUND ∷ WRONG_SIZE ∷ NO_ROW ∷ []
own outs = bulk faults
own polls = bulk []
own interrupts = bulk []
own takes = UNSOUND ∷ UNCONFIGURED ∷ NOT_NOW ∷ WRONG_SIZE ∷ []
own offers = UNSOUND ∷ UNCONFIGURED ∷ WRONG_SIZE ∷ NOT_NOW ∷ []
own statuses = UNSOUND ∷ UNCONFIGURED ∷ []
own panels = UNSOUND ∷ UNCONFIGURED ∷ []
own resets = UNSOUND ∷ []
own suspends = UNSOUND ∷ []

abbrev pub own_list : Call → List ℕ
own_list c = own (kind_of c)
