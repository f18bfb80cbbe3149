-- What a take and an offer come to, a law for each way that their code takes.
-- Assumes nothing.
use Prim.Native.Nat.{ℕ, ◌≤◌}
use mathlib.Core.Path.{◌≡◌, ap, ◌∙◌}
use mathlib.Core.Bool.{true}
use mathlib.Core.List.{List}
use native.Mathlib.Omega.{arith}
use lib.ListN.{length, length-take}
use lib.Seq.{paste}
use borrow.Author.Tests.{ltb-false}
use Rattle.std.specs.Prelude.{Result, Ok, Err}
use Rattle.rules.specs.Choice.{gate, ◌=ᵇ◌}
use Rattle.rules.specs.Answers.{refusing, done}
use Rattle.rules.specs.declared.refusal.Refusal.{Refusal}
use Rattle.rules.proofs.Choice.{none_of, none_right, refuses, passes}
use Rattle.wire.specs.Bytes.{into}
use Rattle.wire.proofs.Fronts.{front_pasted}
use Rattle.port.specs.Parts.{STORE, out_of, in_of, with_out, with_in}
use Rattle.port.specs.Sound.{sound}
use Rattle.port.specs.Answer.{Said, says, refuse}
use Rattle.port.specs.Out.{plain}
use Rattle.port.specs.Device.{held_in}
use Rattle.port.specs.Given.{given_of, Hands}
use Rattle.port.specs.Calls.{take_rules, released, taking, offer_rules, offered, offer_plan}
use Rattle.port.specs.declared.types.Plan.{Plan}
use Rattle.port.specs.declared.types.Given.{Given}
use Rattle.port.specs.declared.types.State.{State}
use Rattle.port.proofs.Soundness.{sound_of}
use Rattle.port.proofs.KeepsOut.{out_held}

module _ (st : State) (told : Result (Unit {0}) Refusal) where
  module _ (room : ℕ) (is : told ≡ gate (take_rules st room)) where
    pub take_refused : (held : List ℕ) (r : Refusal) → told ≡ Err r → refuse st r ≡ taking st held room
    unfolding taking
    take_refused held r e = refuses (refuse st) (take_rules st room) _ told is r e

    pub take_done : (held : List ℕ) → told ≡ Ok tt → says (with_out st (released (out_of st))) held ≡ taking st held room
    unfolding taking
    take_done held e = passes (refuse st) (take_rules st room) _ told is e

    -- the message is in its store, and the lent buffer has room for it
    pub take_fits : sound st ≡ true → told ≡ Ok tt → ((out_of st).message.held ≤ STORE) × ((out_of st).message.held ≤ room)
    take_fits h e = (out_held st (sound_of st h), ltb-false room (out_of st).message.held (none_of (take_rules st room) told is e).1.1.0)

  -- what is handed over, and the lent buffer
  module _ (message b : List ℕ) (is : told ≡ gate (take_rules st (length b))) where
    abbrev held : List ℕ
    held = held_in (out_of st) message

    abbrev taken : Said
    taken = taking st held (length b)

    pub take_kept : (r : Refusal) → told ≡ Err r → Hands taken (given_of (refuse st r)) b b
    take_kept r e = let l = take_refused (length b) is held r e in (ap given_of l, ap (λ (r : Said). into r.answer.bytes b) l)

    pub take_given : told ≡ Ok tt → (out_of st).message.held ≤ length message
        → Hands taken (record { state = with_out st (released (out_of st)); verdict = done; len = (out_of st).message.held }) b (paste b 0 message (out_of st).message.held)
    take_given e f =
        let l = take_done (length b) is held e in
        let whole : (out_of st).message.held ≡ length held = omega (arith, length-take (out_of st).message.held message) in (
          ap {B = Given} (λ (k : ℕ). record { state = with_out st (released (out_of st)); verdict = done; len = k }) whole ∙ ap given_of l,
          front_pasted b message (out_of st).message.held f
              ∙ ap (λ (r : Said). into r.answer.bytes b) l,
        )

  module _ (k : ℕ) (is : told ≡ gate (offer_rules st k)) where
    pub offer_refused : (r : Refusal) → told ≡ Err r → plain st (refusing r) ≡ offer_plan st k
    unfolding offer_plan
    offer_refused r e = refuses (λ (x : Refusal). plain st (refusing x)) (offer_rules st k) _ told is r e

    pub offer_done : told ≡ Ok tt → ◌≡◌ {A = Plan} (record { state = with_in st (offered (in_of st) k); verdict = done; from = 0; count = k }) (offer_plan st k)
    unfolding offer_plan
    offer_done e = passes (λ (x : Refusal). plain st (refusing x)) (offer_rules st k) _ told is e

    pub offer_fits : told ≡ Ok tt → k ≤ STORE
    offer_fits e =
        let ns = none_of (offer_rules st k) told is e in
        ltb-false STORE k (none_right (k =ᵇ 0) _ ns.1.0)
