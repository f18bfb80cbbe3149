-- What a call promises that leaves the unit where it stands: the unit at exit, and its answer, are those of the definitions' result `q`.
-- Assumes nothing.
use Rattle.std.specs.Prelude.{ℕ, ◌≡◌, List, [], take, drop}
use Rattle.rules.specs.declared.verdict.Verdict.{Verdict}
use Rattle.wire.specs.Bytes.{into}
use Rattle.port.specs.Device.{Result}
use Rattle.unit.specs.Promise.{device_of, done_of, told_of}
use Rattle.unit.specs.declared.types.Unit.{Unit}
use Rattle.unit_inplace.specs.declared.types.Sent.{Sent}

-- `u'` is the unit at exit
pub record Alters (q : Result) (u' : Unit) (r : Verdict) : Type 0 where
  pub unit : u' ≡ (done_of q).unit
  pub verdict : r ≡ (done_of q).verdict

-- and the lent buffer held `b` before the call and holds `b'` after it
pub record Sends (q : Result) (b b' : List ℕ) (u' : Unit) (r : Sent) : Type 0 where
  pub unit : u' ≡ (told_of q).unit
  pub verdict : r.verdict ≡ (told_of q).verdict
  pub len : r.len ≡ (told_of q).len
  pub buffer : b' ≡ into q.answer.bytes b

-- ** what it is for a unit and an answer to be the definitions' step `q`

pub record IsStepAt (q : Result) (u' : Unit) (r : Verdict) : Type 0 where
  pub unit : device_of u' ≡ q.unit
  pub verdict : r ≡ q.answer.verdict
  pub bytes : q.answer.bytes ≡ []

pub record IsPollAt (q : Result) (b b' : List ℕ) (u' : Unit) (r : Sent) : Type 0 where
  pub unit : device_of u' ≡ q.unit
  pub verdict : r.verdict ≡ q.answer.verdict
  pub bytes : take r.len b' ≡ q.answer.bytes
  pub rest : drop r.len b' ≡ drop r.len b
