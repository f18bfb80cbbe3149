-- 01, "The idle units a promise must catch".
-- Assumes nothing.
use Rattle.std.specs.Prelude.{ℕ, ◌++◌, length, take}
use Rattle.rules.specs.Choice.{◌=ᵇ◌, pick}
use Rattle.rules.specs.Answers.{DONE}
use Rattle.wire.specs.Bytes.{bytes4}
use Rattle.port.specs.Parts.{out_of, is_configured}
use Rattle.port.specs.Answer.{Answer, numbered}
use Rattle.port.specs.Step.{Stepping, step}

-- one constant answer, whatever it is; "a unit that always refuses" is the one with a number and no bytes
unfoldable pub constant : Answer → Stepping
constant a u c = record { unit = u; answer = a }

abbrev pub refusing : ℕ → Stepping
refusing n = constant (numbered n)

-- answers like ours, and does nothing: once it is configured, or never
unfoldable pub idling : Stepping
idling u c = pick (is_configured u.state) (record { unit = u; answer = (step u c).answer }) (step u c)

unfoldable pub doing_nothing : Stepping
doing_nothing u c = record { unit = u; answer = (step u c).answer }

-- works until it has accepted a header, and from then on pretends that all is done
unfoldable pub pretending : Stepping
pretending u c = pick ((out_of u.state).recent =ᵇ 0) (step u c) (record { unit = u; answer = numbered DONE })

-- gives an abort's count as it likes: the last four of the eight bytes that CHECK_ABORT answers
unfoldable pub made_up : ℕ → Stepping
made_up n u c =
    let r = step u c in
    let bytes = r.answer.bytes in
    record {
      unit = r.unit;
      answer = record { verdict = r.answer.verdict; bytes = pick (length bytes =ᵇ 8) (take 4 bytes ++ bytes4 n) bytes };
    }
