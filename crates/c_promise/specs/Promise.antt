-- What a call from C promises: the unit's bytes at exit, the answer and the lent buffer, whatever bytes the unit was.
-- Assumes nothing.
use Rattle.std.specs.Prelude.{ℕ, ◌≡◌, Bool, List, [], Result, Err, length, take, drop}
use Rattle.rules.specs.Choice.{◌and◌, pick, gate}
use Rattle.rules.specs.declared.refusal.Refusal.{Refusal}
use Rattle.rules.specs.declared.refusal.Refusal.TheVariants.{Unsound}
use Rattle.rules.specs.Answers.{UNSOUND}
use Rattle.wire.specs.Bytes.{into}
use Rattle.port.specs.Sound.{sound}
use Rattle.port.specs.Answer.{Answer, SetupOutcome, numbered}
use Rattle.port.specs.Out.{outcome}
use Rattle.port.specs.Device.{Result as Stepped}
use Rattle.port.specs.Calls.{setup_outcome}
use Rattle.port.specs.declared.types.Outcome.{Outcome}
use Rattle.port.specs.declared.types.Outcome.TheVariants.{Keep}
use Rattle.port.specs.Step.{Call, step}
use Rattle.c_bytes.specs.Layout.{UNIT, state_in, is_unit, unit_in, unit_bytes, Bytes}
use Rattle.c_promise.specs.declared.types.TmcAnswer.{TmcAnswer}

-- whether bytes are those of a sound unit
abbrev pub is_sound_unit : List ℕ → Bool
is_sound_unit u = is_unit u and sound (state_in u)

-- the bytes that a call is lent, as their type has them
pub record Lent (u : List ℕ) : Type 0 where
  pub long : length u ≡ UNIT
  pub small : Bytes u

-- what a call comes to on the bytes that it is lent: `x` on those of a sound unit, `y` on others
pub record Decided {A : Type 0} (u : List ℕ) (x y r : A) : Type 0 where
  pub is : r ≡ pick (is_sound_unit u) x y
  pub lent : Lent u

-- a gate: shut by the first rule that applies, and with 1 on those of no sound unit
abbrev pub IsGate : List ℕ → List (Bool × Refusal) → Result (Unit {0}) Refusal → Type 0
IsGate u rules told = Decided u (gate rules) (Err Unsound) told

-- what a Bulk-OUT packet comes to: it is kept with 1 on those of no sound unit
abbrev pub ComesTo : List ℕ → List ℕ → Outcome → Type 0
ComesTo u s x = Decided u (outcome (state_in u) s) (Keep UNSOUND) x

-- and a setup packet, which is refused with 1
abbrev pub SetupComesTo : List ℕ → List ℕ → ℕ → SetupOutcome → Type 0
SetupComesTo u s room x = Decided u (setup_outcome (state_in u) s room) (Err Unsound) x

-- a unit in bytes after a call, and the call's answer
pub record BytesResult : Type 0 where
  pub unit : List ℕ
  pub answer : Answer

abbrev pub result_bytes : Stepped → BytesResult
result_bytes q = record { unit = unit_bytes q.unit; answer = q.answer }

-- the bytes as they were, with a number
abbrev pub kept_of : List ℕ → ℕ → BytesResult
kept_of u n = record { unit = u; answer = numbered n }

-- the definitions' step on the unit that the bytes are; bytes that are no unit's are answered 1 and stay
unfoldable pub on_bytes : List ℕ → Call → BytesResult
on_bytes u c = pick (is_unit u) (result_bytes (step (unit_in u) c)) (kept_of u UNSOUND)

-- an answer as C has it: its bytes are in the lent buffer
abbrev pub answer_of : Answer → TmcAnswer
answer_of a = record { verdict = a.verdict; len = length a.bytes }

pub record Returns (q : BytesResult) (u' : List ℕ) (r : TmcAnswer) : Type 0 where
  pub unit : u' ≡ q.unit
  pub answer : r ≡ answer_of q.answer

-- and the lent buffer held `b` before the call and holds `b'` after it
pub record Fills (q : BytesResult) (b b' u' : List ℕ) (r : TmcAnswer) : Type 0 where
  pub returned : Returns q u' r
  pub buffer : b' ≡ into q.answer.bytes b

-- ** what it is for a unit's bytes and an answer to be the definitions' step `q`: the unit, the verdict, its bytes, and the lent buffer

pub record IsStep (q : Stepped) (u' : List ℕ) (r : TmcAnswer) : Type 0 where
  pub unit : u' ≡ unit_bytes q.unit
  pub verdict : r.verdict ≡ q.answer.verdict
  pub bytes : q.answer.bytes ≡ []
  pub len : r.len ≡ 0

pub record IsStepInto (q : Stepped) (b b' u' : List ℕ) (r : TmcAnswer) : Type 0 where
  pub unit : u' ≡ unit_bytes q.unit
  pub verdict : r.verdict ≡ q.answer.verdict
  pub bytes : take r.len b' ≡ q.answer.bytes
  pub rest : drop r.len b' ≡ drop r.len b
