-- What each of the thermostat's calls returning, by the way that its code takes.
-- Assumes nothing.
use Prim.Native.Nat.{ℕ, ◌≤◌}
use mathlib.Core.Path.{◌≡◌, sym, ap, ◌∙◌, subst}
use mathlib.Core.List.{List, [], ◌∷◌}
use native.Mathlib.Omega.{arith}
use lib.ListN.{length, take, length-take}
use lib.Seq.{paste, take-take}
use Rattle.std.specs.Prelude.{Ok, Err}
use Rattle.rules.specs.Answers.{number_of}
use Rattle.rules.specs.declared.refusal.Refusal.{Refusal}
use Rattle.rules.specs.Answers.{DONE, only}
use Rattle.rules.proofs.Choice.{refuses, passes}
use Rattle.wire.specs.Bytes.{into}
use Rattle.wire.proofs.Fronts.{front_pasted}
use Rattle.port.specs.Parts.{STORE, with_remote, no_message, out_of, interrupt_of}
use Rattle.port.specs.Interrupt.{status_held}
use Rattle.port.specs.Remote.{by_panel}
use Rattle.port.specs.Answer.{numbered, refuse}
use Rattle.port.specs.Device.{held_of, with_state}
use Rattle.port.specs.Calls.{said, take_rules, released, take_message, offer_rules, offered, with_reply}
use Rattle.port.specs.Calls.{offer, thermostat_rules, status_set, set_status_byte, returned, panel}
use Rattle.port.specs.Step.{quiet, take_into, offer_reply, set_status, front_panel, quietly, soundly}
use Rattle.port.specs.declared.types.Remote.{Remote}
use Rattle.port.proofs.Calls.{unstored}
use Rattle.thermostat_step.proofs.MessageLaws.{take_refused, take_done, take_fits, offer_refused, offer_done, offer_fits}
use Rattle.c_bytes.specs.Layout.{OUT_MESSAGE, IN_REPLY, INTERRUPT, REPLY_AT, OUT_MESSAGE_AT, IN_REPLY_AT, INTERRUPT_AT}
use Rattle.c_bytes.specs.Layout.{REMOTE_AT, remote_number, out_message_bytes, in_reply_bytes, interrupt_bytes, state_in, unit_in}
use Rattle.c_parts.proofs.Puts.{Holds, out_message_put, in_reply_put, interrupt_put, remote_put, reply_put}
use Rattle.c_promise.specs.Promise.{IsGate, on_bytes, answer_of, Returns, Fills}
use Rattle.c_promise.specs.declared.types.TmcAnswer.{TmcAnswer}
use Rattle.c_promise.proofs.Called.{Gate, holds, returning, fills, refusal, refusal_into, is_sound_lem, by_rules, state_sound}

module _ (u : List ℕ) (told : Gate) (u' : List ℕ) (r : TmcAnswer) where
  -- ** the status byte and the front panel

  module _ (is : IsGate u (thermostat_rules (state_in u)) told) where
    module _ (status : ℕ) where
      pub status_refused : (k : Refusal) → told ≡ Err k → r ≡ answer_of (numbered (number_of k)) → Returns (on_bytes u (quiet (set_status status))) u r
      unfolding unit_in soundly quietly set_status_byte status_set
      status_refused k e a = refusal u (quiet (set_status status)) is k e (λ _ g. sym (ap (said (unit_in u)) (refuses (refuse (state_in u)) (thermostat_rules (state_in u)) _ told g k e))) r a

      pub status_done : told ≡ Ok tt → u' ≡ paste u INTERRUPT_AT (interrupt_bytes (status_held (interrupt_of (state_in u)) status)) INTERRUPT → r ≡ answer_of (numbered DONE)
          → Returns (on_bytes u (quiet (set_status status))) u' r
      unfolding unit_in soundly quietly set_status_byte status_set
      status_done z f a =
          let c = quiet (set_status status) in
          let e = is_sound_lem is z in
          returning u is.lent c e _ (sym (ap (said (unit_in u)) (passes (refuse (state_in u)) (thermostat_rules (state_in u)) _ told (by_rules is z) z))) u' r
          ((interrupt_put (status_held (interrupt_of (state_in u)) status)).to (holds u is.lent e) f) a

    pub panel_refused : (k : Refusal) → told ≡ Err k → r ≡ answer_of (numbered (number_of k)) → Returns (on_bytes u (quiet front_panel)) u r
    unfolding unit_in soundly quietly panel returned
    panel_refused k e a = refusal u (quiet front_panel) is k e (λ _ g. sym (ap (said (unit_in u)) (refuses (refuse (state_in u)) (thermostat_rules (state_in u)) _ told g k e))) r a

    module _ (z : told ≡ Ok tt) (x : Remote) (from : (state_in u).remote ≡ x) (a : r ≡ answer_of (numbered DONE)) where
      goes : Holds (with_state (unit_in u) (with_remote (state_in u) (by_panel x))) u' → Returns (on_bytes u (quiet front_panel)) u' r
      unfolding unit_in soundly quietly panel returned
      goes h =
          returning u is.lent (quiet front_panel) (is_sound_lem is z) _ (sym (ap (said (unit_in u)) (passes (refuse (state_in u)) (thermostat_rules (state_in u)) _ told (by_rules is z) z))) u' r
          (subst (λ (y : Remote). Holds (with_state (unit_in u) (with_remote (state_in u) (by_panel y))) u') (sym from) h) a

      pub panel_goes : u' ≡ paste u REMOTE_AT (remote_number (by_panel x) ∷ []) 1 → Returns (on_bytes u (quiet front_panel)) u' r
      unfolding unit_in
      panel_goes f = goes ((remote_put (by_panel x)).to (holds u is.lent (is_sound_lem is z)) f)

      pub panel_stays : by_panel x ≡ x → u' ≡ u → Returns (on_bytes u (quiet front_panel)) u' r
      unfolding unit_in
      panel_stays same f =
          goes (subst (λ (v : List ℕ). Holds (with_state (unit_in u) (with_remote (state_in u) (by_panel x))) v) (sym f)
          (subst (λ (y : Remote). Holds (with_state (unit_in u) (with_remote (state_in u) y)) u) (from ∙ sym same) (holds u is.lent (is_sound_lem is z))))

  -- ** a take

  module _ (b b' : List ℕ) (is : IsGate u (take_rules (state_in u) (length b)) told) where
    pub take_kept : (k : Refusal) → told ≡ Err k → r ≡ answer_of (numbered (number_of k)) → Fills (on_bytes u (take_into (length b))) b b u r
    unfolding unit_in soundly take_message
    take_kept k e a = refusal_into u (take_into (length b)) is k e (λ _ g. sym (ap (said (unit_in u)) (take_refused (state_in u) told (length b) g (held_of (unit_in u)) k e))) r a b

    -- the message is in its store, and the lent buffer has room for it
    pub take_room : told ≡ Ok tt → ((out_of (state_in u)).message.held ≤ STORE) × ((out_of (state_in u)).message.held ≤ length b)
    take_room z = take_fits (state_in u) told (length b) (by_rules is z) (state_sound u (is_sound_lem is z)) z

    pub take_given : told ≡ Ok tt → b' ≡ paste b 0 u (state_in u).small.bulkout.message.held → u' ≡ paste u OUT_MESSAGE_AT (out_message_bytes no_message) OUT_MESSAGE
        → r ≡ record { verdict = only DONE; len = (state_in u).small.bulkout.message.held } → Fills (on_bytes u (take_into (length b))) b b' u' r
    unfolding unit_in soundly take_message released
    take_given z f g a =
        let c = take_into (length b) in
        let e = is_sound_lem is z in
        let st = state_in u in
        let fit = take_room z in
        let held = held_of (unit_in u) in
        let same : held ≡ take (out_of st).message.held u = take-take (out_of st).message.held STORE u fit.0 in
        let whole : (out_of st).message.held ≡ length held = sym (ap length same ∙ omega (arith, length-take (out_of st).message.held u, is.lent.long)) in
        fills u is.lent c e _ (sym (ap (said (unit_in u)) (take_done st told (length b) (by_rules is z) held z))) u' r
        ((out_message_put no_message).to (holds u is.lent e) g)
        (a ∙ ap {B = TmcAnswer} (λ (k : ℕ). record { verdict = only DONE; len = k }) whole)
        b b' (f ∙ front_pasted b u (out_of st).message.held (omega (arith, is.lent.long)) ∙ ap (λ (l : List ℕ). into l b) (sym same))

  -- ** an offer

  module _ (bytes : List ℕ) (is : IsGate u (offer_rules (state_in u) (length bytes)) told) where
    pub offer_kept : (k : Refusal) → told ≡ Err k → r ≡ answer_of (numbered (number_of k)) → Returns (on_bytes u (quiet (offer_reply bytes))) u r
    unfolding unit_in soundly quietly offer
    offer_kept k e a =
        refusal u (quiet (offer_reply bytes)) is k e
        (λ _ g. ap (with_reply (unit_in u) bytes) (sym (offer_refused (state_in u) told (length bytes) g k e)) ∙ unstored (unit_in u) bytes (number_of k)) r a

    pub offer_room : told ≡ Ok tt → length bytes ≤ STORE
    offer_room z = offer_fits (state_in u) told (length bytes) (by_rules is z) z

    pub offer_given : told ≡ Ok tt → (v : List ℕ) → v ≡ paste u REPLY_AT bytes (length bytes) → u' ≡ paste v IN_REPLY_AT (in_reply_bytes (record { at = 0; unsent = length bytes })) IN_REPLY
        → r ≡ answer_of (numbered DONE) → Returns (on_bytes u (quiet (offer_reply bytes))) u' r
    unfolding unit_in soundly quietly offer offered
    offer_given z v f g a =
        let c = quiet (offer_reply bytes) in
        let e = is_sound_lem is z in
        let fit = offer_room z in
        returning u is.lent c e _ (sym (ap (with_reply (unit_in u) bytes) (offer_done (state_in u) told (length bytes) (by_rules is z) z))) u' r
        ((in_reply_put (record { at = 0; unsent = length bytes })).to ((reply_put bytes (length bytes) fit (omega arith)).to (holds u is.lent e) f) g) a
