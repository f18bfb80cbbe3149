-- A unit of the code is the unit of the definitions, its state taken apart: nothing is left out either way. What a call promises is said with these.
-- Assumes nothing.
use Rattle.std.specs.Prelude.{ℕ, ◌≡◌, List, [], length, take, drop}
use Rattle.wire.specs.Bytes.{into}
use Rattle.port.specs.Device.{Device, Result}
use Rattle.unit.specs.declared.types.Unit.{Unit}
use Rattle.unit.specs.declared.types.Done.{Done}
use Rattle.unit.specs.declared.types.Told.{Told}

abbrev pub device_of : Unit → Device
device_of u = record { message = u.message; reply = u.reply; state = record { small = u.small; split = u.split; remote = u.remote } }

abbrev pub unit_of : Device → Unit
unit_of d = record { message = d.message; reply = d.reply; small = d.state.small; split = d.state.split; remote = d.state.remote }

-- what a call hands back that writes no lent buffer
abbrev pub done_of : Result → Done
done_of r = record { unit = unit_of r.unit; verdict = r.answer.verdict }

-- what a call hands back that writes a lent buffer: its bytes are in the buffer, which held `b` before the call and holds `b'` after it
abbrev pub told_of : Result → Told
told_of r = record { unit = unit_of r.unit; verdict = r.answer.verdict; len = length r.answer.bytes }

pub record Tells (r : Result) (b b' : List ℕ) (t : Told) : Type 0 where
  pub told : t ≡ told_of r
  pub buffer : b' ≡ into r.answer.bytes b

-- ** what it is for a result to be the definitions' step `q`: the unit, the number, what it tells, its bytes, and the lent buffer

pub record IsStep (q : Result) (r : Done) : Type 0 where
  pub unit : device_of r.unit ≡ q.unit
  pub verdict : r.verdict ≡ q.answer.verdict
  pub bytes : q.answer.bytes ≡ []

pub record IsStepInto (q : Result) (b b' : List ℕ) (t : Told) : Type 0 where
  pub unit : device_of t.unit ≡ q.unit
  pub verdict : t.verdict ≡ q.answer.verdict
  pub bytes : take t.len b' ≡ q.answer.bytes
  pub rest : drop t.len b' ≡ drop t.len b
