-- A unit made in lent bytes: the stores are wiped, and the state is put behind them.
-- Assumes nothing.
use Prim.Native.Nat.{ℕ, ◌+◌}
use mathlib.Core.Path.{◌≡◌, sym, ap, ◌∙◌}
use mathlib.Core.List.{List, ◌++◌}
use native.Mathlib.Omega.{arith}
use lib.ListN.{length, replicate, length-replicate, replicate-append-replicate}
use lib.Seq.{paste}
use Rattle.port.specs.Parts.{STORE, fresh}
use Rattle.port.specs.Device.{zeroed, made}
use Rattle.port.specs.Laws.{Stored}
use Rattle.port.specs.declared.types.Setting.{Setting}
use Rattle.port.specs.declared.types.State.{State}
use Rattle.c_bytes.specs.Layout.{PORT_AT, state_bytes, unit_bytes}
use Rattle.c_bytes.specs.Sides.{STATE}
use Rattle.c_parts.proofs.Pastes.{paste_right, paste_all}
use Rattle.c_bytes.proofs.Parted.{bytes_long}

abbrev zeros : List ℕ
zeros = replicate PORT_AT 0

module _ (behind : List ℕ) (long : length behind ≡ STATE) where
  put : (st : State) → paste (zeros ++ behind) PORT_AT (state_bytes st) STATE ≡ zeros ++ state_bytes st
  put st =
      let k : PORT_AT ≡ length zeros + 0 = omega (arith, length-replicate {A = ℕ} PORT_AT 0) in
      ap (λ (at : ℕ). paste (zeros ++ behind) at (state_bytes st) STATE) k
      ∙ paste_right zeros behind 0 (state_bytes st) STATE
      ∙ ap (λ (v : List ℕ). zeros ++ v) (paste_all behind (state_bytes st) STATE long (bytes_long st))

  pub made_of : (setting : Setting) (configured : ℕ) (v w : List ℕ) → v ≡ zeros → w ≡ paste (v ++ behind) PORT_AT (state_bytes (fresh setting configured)) STATE
      → w ≡ unit_bytes (made setting configured)
  unfolding made zeroed unit_bytes
  made_of setting configured v w e f =
      f ∙ ap (λ (x : List ℕ). paste (x ++ behind) PORT_AT (state_bytes (fresh setting configured)) STATE) e ∙ put (fresh setting configured)
      ∙ ap (λ (z : List ℕ). z ++ state_bytes (fresh setting configured)) (sym (replicate-append-replicate {A = ℕ} STORE STORE 0))

pub made_stored : (setting : Setting) (configured : ℕ) → Stored (made setting configured)
unfolding made zeroed
made_stored setting configured = record { message = length-replicate {A = ℕ} STORE 0; reply = length-replicate {A = ℕ} STORE 0 }
