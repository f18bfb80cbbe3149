-- Every function that a user calls promises the definitions' step, of the call that it is. What such a promise fixes: two results that meet it are equal
-- (`..-unique`), and each is the step, unit, verdict, bytes and lent buffer (`..-step`).
-- Assumes nothing.
use Prim.Native.Nat.{ℕ}
use mathlib.Core.Path.{◌≡◌, sym, ap, ◌∙◌}
use mathlib.Core.List.{List, []}
use lib.ListN.{length, take, drop}
use lib.Seq.{take_at, drop_at}
use Rattle.port.specs.Device.{Result, power_on}
use Rattle.port.specs.Step.{Call, step}
use Rattle.port.specs.declared.types.Setting.{Setting}
use Rattle.port.proofs.Silent.{power_silent, Mute, silent}
use Rattle.unit.specs.Promise.{device_of, done_of, Tells, IsStep, IsStepInto}
use Rattle.unit.specs.declared.types.Unit.{Unit}
use Rattle.unit.specs.declared.types.Done.{Done}
use Rattle.unit.specs.declared.types.Told.{Told}

-- ** a result that writes no lent buffer, and one that does

module _ (q : Result) (r : Done) (meets : r ≡ done_of q) where
  unique : (r' : Done) → r' ≡ done_of q → r ≡ r'
  unique r' e = meets ∙ sym e

  is_step : q.answer.bytes ≡ [] → IsStep q r
  is_step z = record { unit = ap (λ (x : Done). device_of x.unit) meets; verdict = ap (λ (x : Done). x.verdict) meets; bytes = z }

module _ (q : Result) (b b' : List ℕ) (t : Told) (meets : Tells q b b' t) where
  unique_into : (b'' : List ℕ) (t' : Told) → Tells q b b'' t' → (t ≡ t') × (b' ≡ b'')
  unique_into b'' t' h = (meets.told ∙ sym h.told, meets.buffer ∙ sym h.buffer)

  is_step_into : IsStepInto q b b' t
  is_step_into =
      let bytes = q.answer.bytes in
      let e : length bytes ≡ t.len = sym (ap (λ (x : Told). x.len) meets.told) in
      record {
        unit = ap (λ (x : Told). device_of x.unit) meets.told;
        verdict = ap (λ (x : Told). x.verdict) meets.told;
        bytes = ap (take t.len) meets.buffer ∙ take_at bytes (drop (length bytes) b) t.len e;
        rest = ap (drop t.len) meets.buffer ∙ drop_at bytes (drop (length bytes) b) t.len e ∙ ap (λ (k : ℕ). drop k b) e;
      }

-- ** power-on

module _ (setting : Setting) (r : Done) (meets : r ≡ done_of (power_on setting)) where
  pub new_unique : (r' : Done) → r' ≡ done_of (power_on setting) → r ≡ r'
  new_unique = unique (power_on setting) r meets

  pub new_step : IsStep (power_on setting) r
  new_step = is_step (power_on setting) r meets (power_silent setting)

-- ** the calls that write no lent buffer: bulk_out, offer, set_status, panel, bus_reset, suspend

module _ (u : Unit) (c : Call) (r : Done) (meets : r ≡ done_of (step (device_of u) c)) where
  pub done_unique : (r' : Done) → r' ≡ done_of (step (device_of u) c) → r ≡ r'
  done_unique = unique (step (device_of u) c) r meets

  pub done_step : Mute c → IsStep (step (device_of u) c) r
  done_step m = is_step (step (device_of u) c) r meets (silent (device_of u) c m)

-- ** the calls that are lent a buffer: setup, bulk_in, interrupt_in, take

module _ (u : Unit) (c : Call) (b b' : List ℕ) (t : Told) (meets : Tells (step (device_of u) c) b b' t) where
  pub told_unique : (b'' : List ℕ) (t' : Told) → Tells (step (device_of u) c) b b'' t' → (t ≡ t') × (b' ≡ b'')
  told_unique = unique_into (step (device_of u) c) b b' t meets

  pub told_step : IsStepInto (step (device_of u) c) b b' t
  told_step = is_step_into (step (device_of u) c) b b' t meets
