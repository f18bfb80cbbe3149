-- Where the fields stand that the walks name, each found once.
-- Assumes nothing.
use Prim.Native.Nat.{ℕ, ◌+◌}
use mathlib.Core.Path.{refl}
use prog.Memory.{size}
use mir.Syntax.{ty_array, ty_int, w8, w64}
use Rattle.unit.proofs.types.Unit.TheLaws as T'
use Rattle.port.proofs.types.State.TheLaws as S'
use Rattle.port.proofs.types.Small.TheLaws as L'
use Rattle.port.proofs.types.Split.TheLaws as D'
use Rattle.port.proofs.types.Remote.TheLaws as R'
use Rattle.port.proofs.types.Plan.TheLaws as P'
use Rattle.port.proofs.types.Given.TheLaws as G'
use Rattle.rules.proofs.verdict.Verdict.TheLaws as V'
use Rattle.unit_walks.proofs.Walks.{At}

-- how many bytes `Small` has
abbrev small : ℕ
small = size L'.mir

pub unit_message : At T'.mir 0 (ty_array (ty_int w8) 1024) 0
unit_message = refl

pub unit_reply : At T'.mir 1 (ty_array (ty_int w8) 1024) 1024
unit_reply = refl

pub unit_small : At T'.mir 2 L'.mir 2048
unit_small = refl

pub unit_split : At T'.mir 3 D'.mir (2048 + small)
unit_split = refl

pub unit_remote : At T'.mir 4 R'.mir (2048 + small + 4)
unit_remote = refl

pub state_small : At S'.mir 0 L'.mir 0
state_small = refl

pub state_split : At S'.mir 1 D'.mir small
state_split = refl

pub state_remote : At S'.mir 2 R'.mir (small + 4)
state_remote = refl

pub plan_state : At P'.mir 0 S'.mir 0
plan_state = refl

pub plan_verdict : At P'.mir 1 V'.mir (small + 6)
plan_verdict = refl

pub given_state : At G'.mir 0 S'.mir 0
given_state = refl

pub given_verdict : At G'.mir 1 V'.mir (small + 6)
given_verdict = refl

pub given_len : At G'.mir 2 (ty_int w64) 48
given_len = refl
