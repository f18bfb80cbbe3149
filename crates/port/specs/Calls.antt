-- The nine calls of 01, "The unit", and the poll of 02's request 1, each from a sound unit and its input to all that comes back. That a unit is sound
-- is asked once, before every call (Step), so that the lists here begin behind 1.
-- Assumes nothing.
use Rattle.std.specs.Prelude.{ℕ, Bool, List, [], Option, Some, None, Ok, Err, length, drop}
use Rattle.std.proofs.Math.Seq.{paste}
use Rattle.rules.specs.Choice.{◌=ᵇ◌, ◌≠ᵇ◌, ◌<ᵇ◌, no, ◌or◌, pick, ◌⇒◌∣◌, decide}
use Rattle.rules.specs.Answers.{DONE, number_of, refusing, done}
use Rattle.rules.specs.declared.refusal.Refusal.{Refusal}
use Rattle.rules.specs.declared.refusal.Refusal.TheVariants.{Unconfigured, WrongSize, UnknownRow, NotNow}
use Rattle.rules.specs.Flags.{OFF}
use Rattle.wire.specs.Setup.{SETUP, CONTROL, read_setup}
use Rattle.wire.specs.declared.types.Setup.{Setup}
use Rattle.wire.specs.declared.types.Setup.TheVariants.{Configure, Asks}
use Rattle.port.specs.Parts.{STORE, on, has_reply, is_clear, port_of, out_of, in_of, interrupt_of, is_configured}
use Rattle.port.specs.Parts.{no_message, with_out, with_in, with_interrupt, with_remote, holding, carrying}
use Rattle.port.specs.Remote.{by_panel, local_now}
use Rattle.port.specs.Answer.{Said, SetupOutcome, numbered, says, refuse}
use Rattle.port.specs.Out.{plain, out_plan}
use Rattle.port.specs.In.{poll}
use Rattle.port.specs.Interrupt.{status_held, poll_interrupt}
use Rattle.port.specs.Rows.{answer_row, reacted}
use Rattle.port.specs.declared.types.BulkOut.{BulkOut}
use Rattle.port.specs.declared.types.BulkIn.{BulkIn}
use Rattle.port.specs.declared.types.State.{State}
use Rattle.port.specs.declared.types.Plan.{Plan}
use Rattle.port.specs.Device.{Device, Result, with_state, held_of, unsent_of, made}

-- the unit as it was, with a number
abbrev pub refused : Device → ℕ → Result
refused u n = record { unit = u; answer = numbered n }

-- the same stores, with what was decided over the state
abbrev pub said : Device → Said → Result
said u r = record { unit = with_state u r.state; answer = r.answer }

-- ** Bulk-OUT packet: its data goes behind the bytes that the message holds

abbrev pub with_message : Device → List ℕ → Plan → Result
with_message u s plan = record {
  unit = record {
    message = paste u.message (out_of u.state).message.held (drop plan.from s) plan.count;
    reply = u.reply;
    state = plan.state;
  };
  answer = record { verdict = plan.verdict; bytes = [] };
}

unfoldable pub bulk_out : Device → List ℕ → Result
bulk_out u s = with_message u s (out_plan u.state s)

-- ** Bulk-IN poll

unfoldable pub bulk_in : Device → ℕ → Result
bulk_in u room = said u (poll u.state (unsent_of u) room)

-- ** Interrupt-IN poll

unfoldable pub interrupt_in : Device → ℕ → Result
interrupt_in u room = said u (poll_interrupt u.state room)

-- ** setup packet: "Setup: 1, 3, 15"

abbrev pub setup_rules : ℕ → ℕ → List (Bool × Refusal)
setup_rules n room = n ≠ᵇ SETUP or room <ᵇ CONTROL ⇒ WrongSize ∣ []

-- "Unconfigured, only SET_CONFIGURATION is served"
unfoldable pub asked : State → Option Setup → SetupOutcome
asked st (Some (Configure value)) = Ok (Configure value)
asked st (Some (Asks row)) = pick (is_configured st) (Ok (Asks row)) (Err UnknownRow)
asked st None = Err UnknownRow

unfoldable pub setup_outcome : State → List ℕ → ℕ → SetupOutcome
setup_outcome st s room = decide Err (setup_rules (length s) room) (asked st (read_setup s))

-- "all but P as at power-on, 1 configured, 0 not"
abbrev pub renewed : Device → ℕ → Result
renewed u configured = record { unit = made (port_of u.state).setting configured; answer = numbered DONE }

unfoldable pub answered : Device → SetupOutcome → Result
answered u (Err r) = refused u (number_of r)
answered u (Ok (Configure value)) = renewed u value
answered u (Ok (Asks row)) = said u (reacted u.state (answer_row u.state row))

unfoldable pub setup : Device → List ℕ → ℕ → Result
setup u s room = answered u (setup_outcome u.state s room)

-- ** the thermostat's calls: "Take: 1, 2, 16, 3", "Offer: 1, 2, 3, 16", "Panel and set status: 1, 2"

abbrev pub take_rules : State → ℕ → List (Bool × Refusal)
take_rules st room =
    no (is_configured st) ⇒ Unconfigured ∣
    no (on (out_of st).message.ready) ⇒ NotNow ∣
    room <ᵇ (out_of st).message.held ⇒ WrongSize ∣ []

-- a message that is let go leaves room for the next one
unfoldable pub released : BulkOut → BulkOut
released o = holding o no_message o.transfer

-- take is a look and then a release
unfoldable pub taking : State → List ℕ → ℕ → Said
taking st held room = decide (refuse st) (take_rules st room) (says (with_out st (released (out_of st))) held)

unfoldable pub take_message : Device → ℕ → Result
take_message u room = said u (taking u.state (held_of u) room)

abbrev pub offer_rules : State → ℕ → List (Bool × Refusal)
offer_rules st n =
    no (is_configured st) ⇒ Unconfigured ∣
    n =ᵇ 0 or STORE <ᵇ n ⇒ WrongSize ∣
    has_reply (in_of st) or is_clear st.split ⇒ NotNow ∣ []

-- a reply of `n` bytes at the front of its store
unfoldable pub offered : BulkIn → ℕ → BulkIn
offered b n = carrying b (record { at = 0; unsent = n }) b.transfer

unfoldable pub offer_plan : State → ℕ → Plan
offer_plan st n =
    decide (λ r. plain st (refusing r)) (offer_rules st n)
    (record { state = with_in st (offered (in_of st) n); verdict = done; from = 0; count = n })

abbrev pub with_reply : Device → List ℕ → Plan → Result
with_reply u bytes plan = record {
  unit = record { message = u.message; reply = paste u.reply 0 (drop plan.from bytes) plan.count; state = plan.state };
  answer = record { verdict = plan.verdict; bytes = [] };
}

unfoldable pub offer : Device → List ℕ → Result
offer u bytes = with_reply u bytes (offer_plan u.state (length bytes))

abbrev pub thermostat_rules : State → List (Bool × Refusal)
thermostat_rules st = no (is_configured st) ⇒ Unconfigured ∣ []

unfoldable pub status_set : State → ℕ → Said
status_set st status = decide (refuse st) (thermostat_rules st) (says (with_interrupt st (status_held (interrupt_of st) status)) [])

unfoldable pub set_status_byte : Device → ℕ → Result
set_status_byte u status = said u (status_set u.state status)

-- "front-panel return to local"
unfoldable pub returned : State → Said
returned st = decide (refuse st) (thermostat_rules st) (says (with_remote st (by_panel st.remote)) [])

unfoldable pub panel : Device → Result
panel u = said u (returned u.state)

-- ** the bus's calls: "Bus calls: 1"

-- "Bus reset does what SET_CONFIGURATION 0 does"
unfoldable pub reset_by_bus : Device → Result
reset_by_bus u = renewed u OFF

-- "Suspend changes nothing else"
unfoldable pub suspend : Device → Result
suspend u = said u (says (local_now u.state) [])
