-- Whole ports that are wrong, each in one way, and otherwise ours: what the claims are there to shut out (proofs/Wrong.antt).
-- Assumes nothing.
use Rattle.std.specs.Prelude.{ℕ, ◌+◌, ◌-◌, min, Bool, List, length, take, drop}
use Rattle.std.proofs.Math.Seq.{paste}
use Rattle.rules.specs.Choice.{◌=ᵇ◌, no, pick, ◌and◌}
use Rattle.rules.specs.Answers.{TELLS_TRIGGER, NOT_NOW}
use Rattle.wire.specs.Bytes.{all_zero}
use Rattle.wire.specs.When.{at, four_at}
use Rattle.port.specs.Parts.{is_open_out, out_of, halted_out}
use Rattle.port.specs.Answer.{Answer, numbered}
use Rattle.port.specs.Out.{planned}
use Rattle.port.specs.Device.{Device, Result, with_state, held_of}
use Rattle.port.specs.Calls.{with_message}
use Rattle.port.specs.Step.{setup_packet, out_packet, take_into, bus_reset, quiet, Stepping, step}
use Rattle.port.specs.When.{padded}
use Rattle.port.specs.declared.types.Outcome.TheVariants.{Data}

-- inside a transfer it takes any packet for data, a short one too
unfoldable pub taking_short : Stepping
taking_short u (setup_packet p) = step u (setup_packet p)
taking_short u (out_packet s) =
    pick (is_open_out (out_of u.state)) (with_message u s (planned u.state (Data (min (out_of u.state).transfer.left (length s)))))
    (step u (out_packet s))
taking_short u (take_into room) = step u (take_into room)
taking_short u bus_reset = step u bus_reset
taking_short u (quiet q) = step u (quiet q)

-- of a command's first packet it leaves out what is more than the header says
unfoldable pub taking_surplus : Stepping
taking_surplus u (setup_packet p) = step u (setup_packet p)
taking_surplus u (out_packet s) =
    pick ((out_of u.state).transfer.left =ᵇ 0 and at s 0 =ᵇ 1)
    (step u (out_packet (take (12 + padded (four_at s 4)) s))) (step u (out_packet s))
taking_surplus u (take_into room) = step u (take_into room)
taking_surplus u bus_reset = step u bus_reset
taking_surplus u (quiet q) = step u (quiet q)

-- the header of a command, which our port accepts
abbrev begun : Device → List ℕ → Bool
begun u s = (out_of u.state).transfer.left =ᵇ 0 and at s 0 =ᵇ 1 and (step u (out_packet s)).answer.verdict.number =ᵇ 0

-- it minds what the alignment bytes behind it are: where one is not 0 it halts with 14, as 01 had it before 02's second request
unfoldable pub minding : Stepping
minding u (setup_packet p) = step u (setup_packet p)
minding u (out_packet s) =
    pick (begun u s and no (all_zero (drop (12 + four_at s 4) s)))
    (record { unit = with_state u (halted_out u.state); answer = numbered 14 }) (step u (out_packet s))
minding u (take_into room) = step u (take_into room)
minding u bus_reset = step u bus_reset
minding u (quiet q) = step u (quiet q)

-- it copies to its store all that is behind that header, alignment bytes too; what it hands over is right
abbrev storing : Device → List ℕ → Result → Result
storing u s r = record {
  unit = record {
    message = paste u.message (out_of u.state).message.held (drop 12 s) (length s - 12);
    reply = r.unit.reply;
    state = r.unit.state;
  };
  answer = r.answer;
}

unfoldable pub keeping : Stepping
keeping u (setup_packet p) = step u (setup_packet p)
keeping u (out_packet s) = pick (begun u s) (storing u s (step u (out_packet s))) (step u (out_packet s))
keeping u (take_into room) = step u (take_into room)
keeping u bus_reset = step u bus_reset
keeping u (quiet q) = step u (quiet q)

-- it tells the thermostat to trigger with everything that it refuses
abbrev telling : Answer → Answer
telling a =
    record { verdict = record { number = a.verdict.number; tells = pick (a.verdict.number =ᵇ 0) a.verdict.tells TELLS_TRIGGER }; bytes = a.bytes }

unfoldable pub triggering_on_refusals : Stepping
triggering_on_refusals u c = record { unit = (step u c).unit; answer = telling (step u c).answer }

-- with 16 it gives what it holds of a message
abbrev giving : List ℕ → Answer → Answer
giving held a = record { verdict = a.verdict; bytes = pick (a.verdict.number =ᵇ NOT_NOW) held a.bytes }

unfoldable pub giving_halves : Stepping
giving_halves u (setup_packet p) = step u (setup_packet p)
giving_halves u (out_packet s) = step u (out_packet s)
giving_halves u (take_into room) = record { unit = (step u (take_into room)).unit; answer = giving (held_of u) (step u (take_into room)).answer }
giving_halves u bus_reset = step u bus_reset
giving_halves u (quiet q) = step u (quiet q)
