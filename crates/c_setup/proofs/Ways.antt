-- What a setup packet leaves of a unit in bytes, by what it comes to.
-- Assumes nothing.
use Prim.Native.Nat.{ℕ, ◌≤◌}
use mathlib.Core.Path.{◌≡◌, refl, sym, ap, ◌∙◌}
use mathlib.Core.List.{List}
use lib.ListN.{length}
use Rattle.std.specs.Prelude.{Ok, Err}
use Rattle.rules.specs.Answers.{DONE, number_of}
use Rattle.rules.specs.declared.refusal.Refusal.{Refusal}
use Rattle.rules.specs.declared.refusal.Refusal.TheVariants.{Unsound}
use Rattle.wire.specs.Bytes.{into}
use Rattle.wire.specs.Setup.{CONTROL}
use Rattle.wire.specs.declared.types.Row.{Row}
use Rattle.port.specs.Parts.{port_of}
use Rattle.port.specs.Answer.{numbered}
use Rattle.port.specs.Rows.{answer_row}
use Rattle.port.specs.Device.{made}
use Rattle.port.specs.Calls.{answered, setup}
use Rattle.port.specs.Step.{Call, setup_of, soundly}
use Rattle.port.specs.Answer.{SetupOutcome}
use Rattle.wire.specs.declared.types.Setup.TheVariants.{Configure, Asks}
use Rattle.setup_step.specs.Replied.{replied_of}
use Rattle.setup_step.specs.declared.types.Replied.{Replied}
use Rattle.setup_step.proofs.Serving.{answers_roomy}
use Rattle.c_bytes.specs.Layout.{state_in, unit_in, unit_bytes}
use Rattle.c_parts.proofs.Puts.{Holds}
use Rattle.c_promise.specs.Promise.{SetupComesTo, on_bytes, answer_of, Fills}
use Rattle.c_promise.specs.declared.types.TmcAnswer.{TmcAnswer}
use Rattle.c_promise.proofs.Called.{holds, fills, refusal_into, sound_unit, comes}
use Rattle.c_promise.proofs.Made.{made_stored}
use Rattle.c_effects.specs.Does.{Does}

renews_other : {value : ℕ} → Ok (Configure value) ≡ Err Unsound → ⊥
renews_other e = cc

answers_other : {row : Row} → Ok (Asks row) ≡ Err Unsound → ⊥
answers_other e = cc

module _ (u s b u' b' : List ℕ) (r : TmcAnswer) where
  abbrev call : Call
  call = setup_of s (length b)

  pub denied : (k : Refusal) → SetupComesTo u s (length b) (Err k) → r ≡ answer_of (numbered (number_of k)) → Fills (on_bytes u call) b b u r
  unfolding unit_in soundly setup answered
  denied k h a = refusal_into u call h k refl (λ _ e. ap (answered (unit_in u)) (sym e)) r a b

  -- what is not denied is asked of a sound unit
  filled : {x : SetupOutcome} → (x ≡ Err Unsound → ⊥) → SetupComesTo u s (length b) x → Holds (answered (unit_in u) x).unit u' → r ≡ answer_of (answered (unit_in u) x).answer
      → b' ≡ into (answered (unit_in u) x).answer.bytes b → Fills (on_bytes u call) b b' u' r
  unfolding unit_in soundly setup
  filled other h k a f = fills u h.lent call (sound_unit h other) _ (ap (answered (unit_in u)) (comes h other)) u' r k a b b' f

  pub renewed : (value : ℕ) → SetupComesTo u s (length b) (Ok (Configure value)) → u' ≡ unit_bytes (made (port_of (state_in u)).setting value) → b' ≡ b → r ≡ answer_of (numbered DONE)
      → Fills (on_bytes u call) b b' u' r
  unfolding unit_in answered
  renewed value h f g a = filled renews_other h (record { stored = made_stored _ value; bytes = f }) a g

  module _ (row : Row) (h : SetupComesTo u s (length b) (Ok (Asks row))) where
    pub roomy : CONTROL ≤ length b
    roomy = answers_roomy (state_in u) s (length b) row (sym (comes h answers_other))

    pub replied : (p : Replied) → p ≡ replied_of (answer_row (state_in u) row) → b' ≡ into (answer_row (state_in u) row).answer.bytes b → Does u p.effect u'
        → r ≡ record { verdict = p.verdict; len = p.len } → Fills (on_bytes u call) b b' u' r
    unfolding unit_in answered
    replied p e f does a =
        let before = holds u h.lent (sound_unit h answers_other) in
        let after = rw e at (does.to before.stored before.bytes) in
        filled answers_other h
        (record { stored = record { message = before.stored.message; reply = before.stored.reply }; bytes = after })
        (a ∙ ap {B = TmcAnswer} (λ (q : Replied). record { verdict = q.verdict; len = q.len }) e) f
