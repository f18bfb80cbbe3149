-- Alignment bytes reach nothing that a caller sees and nothing of the unit that is left: AlignmentIgnored again, from C, by value and in place. Two calls
-- on the same unit, with packets that are equal but for alignment bytes, each of which met its promise.
-- Assumes nothing.
use Prim.Native.Nat.{ℕ}
use mathlib.Core.Path.{◌≡◌, sym, ap, ◌∙◌}
use mathlib.Core.List.{List}
use Rattle.rules.specs.Choice.{pick}
use Rattle.rules.specs.Answers.{UNSOUND}
use Rattle.rules.specs.declared.verdict.Verdict.{Verdict}
use Rattle.port.specs.Alignment.{EqualButAlignment}
use Rattle.port.specs.Device.{Result}
use Rattle.port.specs.Step.{out_packet, step}
use Rattle.port.proofs.Alignment.{alignment_ignored}
use Rattle.c_bytes.specs.Layout.{is_unit, unit_in}
use Rattle.c_promise.specs.Promise.{BytesResult, result_bytes, kept_of, on_bytes, answer_of, Returns}
use Rattle.c_promise.specs.declared.types.TmcAnswer.{TmcAnswer}
use Rattle.unit.specs.Promise.{device_of, done_of}
use Rattle.unit.specs.declared.types.Unit.{Unit}
use Rattle.unit.specs.declared.types.Done.{Done}
use Rattle.unit_inplace.specs.InPlace.{Alters}

-- from C, on whatever bytes are lent, a unit's or not
module _ (u s t : List ℕ) (same : EqualButAlignment (unit_in u) s t) where
  on_bytes_lem : on_bytes u (out_packet s) ≡ on_bytes u (out_packet t)
  unfolding on_bytes
  on_bytes_lem = ap (λ (q : Result). pick (is_unit u) (result_bytes q) (kept_of u UNSOUND)) (alignment_ignored (unit_in u) s t same)

  pub c_alignment_ignored : (v w : List ℕ) (a b : TmcAnswer) → Returns (on_bytes u (out_packet s)) v a → Returns (on_bytes u (out_packet t)) w b → (v ≡ w) × (a ≡ b)
  c_alignment_ignored v w a b k l = (
    k.unit ∙ ap (λ (q : BytesResult). q.unit) on_bytes_lem ∙ sym l.unit,
    k.answer ∙ ap (λ (q : BytesResult). answer_of q.answer) on_bytes_lem ∙ sym l.answer,
  )

-- by value, and where the unit stands
module _ (u : Unit) (s t : List ℕ) (same : EqualButAlignment (device_of u) s t) where
  on_unit : done_of (step (device_of u) (out_packet s)) ≡ done_of (step (device_of u) (out_packet t))
  on_unit = ap done_of (alignment_ignored (device_of u) s t same)

  pub unit_alignment_ignored : (a b : Done) → a ≡ done_of (step (device_of u) (out_packet s)) → b ≡ done_of (step (device_of u) (out_packet t)) → a ≡ b
  unit_alignment_ignored a b k l = k ∙ on_unit ∙ sym l

  pub in_place_alignment_ignored : (v w : Unit) (a b : Verdict) → Alters (step (device_of u) (out_packet s)) v a → Alters (step (device_of u) (out_packet t)) w b → (v ≡ w) × (a ≡ b)
  in_place_alignment_ignored v w a b k l = (
    k.unit ∙ ap (λ (r : Done). r.unit) on_unit ∙ sym l.unit,
    k.verdict ∙ ap (λ (r : Done). r.verdict) on_unit ∙ sym l.verdict,
  )
