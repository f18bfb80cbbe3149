-- What a call answers, and what it leaves beside it.
-- Assumes nothing.
use Rattle.std.specs.Prelude.{ℕ, List, [], Result}
use Rattle.rules.specs.Answers.{only, done, number_of}
use Rattle.rules.specs.declared.refusal.Refusal.{Refusal}
use Rattle.rules.specs.declared.verdict.Verdict.{Verdict}
use Rattle.wire.specs.declared.types.Setup.{Setup}
use Rattle.port.specs.declared.types.State.{State}

-- the number with what it tells the thermostat, and the bytes that the call writes from the start of the lent buffer on
pub record Answer : Type 0 where
  pub verdict : Verdict
  pub bytes : List ℕ

-- the answer, with the state after the call
pub record Said : Type 0 where
  pub state : State
  pub answer : Answer

abbrev pub numbered : ℕ → Answer
numbered n = record { verdict = only n; bytes = [] }

abbrev pub says : State → List ℕ → Said
says st bytes = record { state = st; answer = record { verdict = done; bytes = bytes } }

-- "all unchanged", no byte written
abbrev pub refuse : State → Refusal → Said
refuse st r = record { state = st; answer = numbered (number_of r) }

-- what a setup packet comes to: what it is served, or why it is refused
abbrev pub SetupOutcome : Type 0
SetupOutcome = Result Setup Refusal
