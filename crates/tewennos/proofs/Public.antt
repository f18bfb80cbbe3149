-- What the promise of a function that C calls fixes: two units and answers that meet it are equal (`..-unique`), and on bytes that are a unit's they
-- are the definitions' step (`..-step`). Bytes that are no unit's are answered 1 and stay (`no_unit`).
-- Assumes nothing.
use Prim.Native.Nat.{ℕ}
use mathlib.Core.Path.{◌≡◌, sym, ap, subst, ◌∙◌}
use mathlib.Core.Bool.{true, false}
use mathlib.Core.List.{List, []}
use lib.ListN.{length, take, drop}
use lib.Seq.{take_at, drop_at}
use Rattle.rules.specs.Answers.{UNSOUND}
use Rattle.wire.specs.Bytes.{into}
use Rattle.port.specs.Answer.{numbered}
use Rattle.port.specs.Device.{Result, power_on}
use Rattle.port.specs.Step.{Call, step}
use Rattle.port.specs.declared.types.Setting.{Setting}
use Rattle.port.proofs.Silent.{power_silent, Mute, silent}
use Rattle.c_bytes.specs.Layout.{is_unit, unit_in}
use Rattle.c_promise.specs.Promise.{BytesResult, result_bytes, on_bytes, answer_of, Returns, Fills, IsStep, IsStepInto}
use Rattle.c_promise.specs.declared.types.TmcAnswer.{TmcAnswer}
use Rattle.c_promise.proofs.Called.{on_unit, on_none}

-- ** any promise

module _ (q : BytesResult) (u' : List ℕ) (r : TmcAnswer) where
  pub returns_unique : Returns q u' r → (u'' : List ℕ) (r' : TmcAnswer) → Returns q u'' r' → (u' ≡ u'') × (r ≡ r')
  returns_unique h u'' r' k = (h.unit ∙ sym k.unit, h.answer ∙ sym k.answer)

  pub fills_unique : (b b' : List ℕ) → Fills q b b' u' r → (b'' u'' : List ℕ) (r' : TmcAnswer) → Fills q b b'' u'' r' → (u' ≡ u'') × (r ≡ r') × (b' ≡ b'')
  fills_unique b b' h b'' u'' r' k = let e = returns_unique h.returned u'' r' k.returned in (e.0, e.1, h.buffer ∙ sym k.buffer)

module _ (q : Result) (u' : List ℕ) (r : TmcAnswer) where
  pub left_step : q.answer.bytes ≡ [] → Returns (result_bytes q) u' r → IsStep q u' r
  left_step z h = record { unit = h.unit; verdict = ap (λ (a : TmcAnswer). a.verdict) h.answer; bytes = z; len = ap (λ (a : TmcAnswer). a.len) h.answer ∙ ap length z }

  pub filled_step : (b b' : List ℕ) → Fills (result_bytes q) b b' u' r → IsStepInto q b b' u' r
  filled_step b b' h =
      let bytes = q.answer.bytes in
      let e : length bytes ≡ r.len = sym (ap (λ (a : TmcAnswer). a.len) h.returned.answer) in
      record {
        unit = h.returned.unit;
        verdict = ap (λ (a : TmcAnswer). a.verdict) h.returned.answer;
        bytes = ap (take r.len) h.buffer ∙ take_at bytes (drop (length bytes) b) r.len e;
        rest = ap (drop r.len) h.buffer ∙ drop_at bytes (drop (length bytes) b) r.len e ∙ ap (λ (k : ℕ). drop k b) e;
      }

-- ** power-on

pub power_on_step : (setting : Setting) (u' : List ℕ) (r : TmcAnswer) → Returns (result_bytes (power_on setting)) u' r → IsStep (power_on setting) u' r
power_on_step setting u' r meets = left_step (power_on setting) u' r (power_silent setting) meets

-- ** the ten calls

module _ (u : List ℕ) (c : Call) (u' : List ℕ) (r : TmcAnswer) where
  -- bytes that are a unit's: a call that is lent no buffer, and one that is
  module _ (is : is_unit u ≡ true) where
    pub call_step : Mute c → Returns (on_bytes u c) u' r → IsStep (step (unit_in u) c) u' r
    call_step m h = left_step (step (unit_in u) c) u' r (silent (unit_in u) c m) (subst (λ (q : BytesResult). Returns q u' r) (on_unit u c is) h)

    pub call_step_into : (b b' : List ℕ) → Fills (on_bytes u c) b b' u' r → IsStepInto (step (unit_in u) c) b b' u' r
    call_step_into b b' h = filled_step (step (unit_in u) c) u' r b b' (subst (λ (q : BytesResult). Fills q b b' u' r) (on_unit u c is) h)

  -- and bytes that are not
  module _ (is : is_unit u ≡ false) where
    pub no_unit : Returns (on_bytes u c) u' r → (u' ≡ u) × (r ≡ answer_of (numbered UNSOUND))
    no_unit h = let k = subst (λ (q : BytesResult). Returns q u' r) (on_none u c is) h in (k.unit, k.answer)

    pub no_unit_into : (b b' : List ℕ) → Fills (on_bytes u c) b b' u' r → (u' ≡ u) × (r ≡ answer_of (numbered UNSOUND)) × (b' ≡ b)
    no_unit_into b b' h =
        let e = no_unit h.returned in
        (e.0, e.1, subst (λ (q : BytesResult). b' ≡ into q.answer.bytes b) (on_none u c is) h.buffer)
