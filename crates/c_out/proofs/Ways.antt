-- What a Bulk-OUT packet returning of a unit in bytes, by what it comes to.
-- Assumes nothing.
use Prim.Native.Nat.{ℕ, ◌+◌, ◌≤◌, min}
use mathlib.Core.Path.{◌≡◌, refl, sym, ap, ◌∙◌, subst}
use mathlib.Core.List.{List, [], ◌∷◌}
use native.Mathlib.Omega.{arith}
use lib.ListN.{length, drop, length-drop}
use lib.Seq.{paste, paste-zero}
use Rattle.rules.specs.Choice.{◌=ᵇ◌}
use Rattle.rules.specs.Answers.{DONE, UNSOUND, TELLS_TRIGGER}
use Rattle.rules.proofs.Choice.{at_true, at_false, pick_all}
use Rattle.wire.specs.Header.{HEADER}
use Rattle.wire.specs.declared.types.Header.{Header}
use Rattle.wire.specs.declared.types.Header.TheVariants.{Message, Request, Trigger}
use Rattle.port.specs.Parts.{STORE, port_of, out_of, asked_in, holding, with_out, with_remote, broken}
use Rattle.port.specs.Remote.{headed, with_ren_on}
use Rattle.port.specs.Answer.{numbered}
use Rattle.port.specs.Out.{completed, continued, absorbed, opened as opens, accepted, planned, out_plan, CanAbsorb}
use Rattle.port.specs.Device.{with_state}
use Rattle.port.specs.Calls.{with_message, bulk_out}
use Rattle.port.specs.Step.{Call, out_packet, soundly}
use Rattle.port.specs.declared.types.BulkOut.{BulkOut}
use Rattle.port.specs.declared.types.State.{State}
use Rattle.port.specs.declared.types.Outcome.{Outcome}
use Rattle.port.specs.declared.types.Outcome.TheVariants.{Keep, Halt, Data, Accept}
use Rattle.port.proofs.Calls.{unplanned}
use Rattle.out_step.proofs.Packets.{Carried, outcome_carried}
use Rattle.c_bytes.specs.Layout.{OUT_MESSAGE, OUT_TRANSFER, IN_TRANSFER, REMOTE_AT, OUT_MESSAGE_AT, OUT_TRANSFER_AT, OUT_RECENT_AT, IN_TRANSFER_AT}
use Rattle.c_bytes.specs.Layout.{IN_RECENT_AT, out_message_bytes, out_transfer_bytes, in_transfer_bytes, remote_number, state_in, unit_in}
use Rattle.c_bytes.specs.Sides.{OUT, out_bytes}
use Rattle.c_parts.proofs.Puts.{Holds, remote_put, out_message_put, out_transfer_put, out_recent_put, in_transfer_put, in_recent_put, out_put, message_put}
use Rattle.c_promise.specs.Promise.{ComesTo, on_bytes, answer_of, Returns}
use Rattle.c_promise.specs.declared.types.TmcAnswer.{TmcAnswer}
use Rattle.c_promise.proofs.Called.{state_sound, holds, returning, stays, kept, sound_unit, comes}

-- the message and the transfer are all that data changes of a side
absorbed_parts : (o : BulkOut) (count : ℕ) → holding o (absorbed o count).message (absorbed o count).transfer ≡ absorbed o count
unfolding absorbed
absorbed_parts o count = pick_all (λ (x : BulkOut). holding o x.message x.transfer ≡ x) (o.transfer.left =ᵇ count) (completed o count) (continued o count) (λ _. refl) (λ _. refl)

halt_other : {n : ℕ} → Halt n ≡ Keep UNSOUND → ⊥
halt_other e = cc

data_other : {count : ℕ} → Data count ≡ Keep UNSOUND → ⊥
data_other e = cc

accept_other : {h : Header} {count : ℕ} → Accept h count ≡ Keep UNSOUND → ⊥
accept_other e = cc

-- ** data that is to be stored finds room

module _ (u s : List ℕ) where
  carried : {x : Outcome} → (x ≡ Keep UNSOUND → ⊥) → ComesTo u s x → Carried (state_in u) s x
  carried other h = subst (Carried (state_in u) s) (comes h other) (outcome_carried (state_in u) s (state_sound u (sound_unit h other)))

  pub data_fits : (count : ℕ) → ComesTo u s (Data count) → CanAbsorb (out_of (state_in u)) count × (count ≤ length s)
  unfolding Carried
  data_fits count h = carried data_other h

  pub message_fits : (tag size end count : ℕ) → ComesTo u s (Accept (Message tag size end) count) → CanAbsorb (opens (out_of (state_in u)) tag size end) count × (count + HEADER ≤ length s)
  unfolding Carried
  message_fits tag size end count h = let k = carried accept_other h in (k.0, omega (arith, k.1, k.2))

-- ** what is left

module _ (u s : List ℕ) (u' : List ℕ) (r : TmcAnswer) where
  abbrev call : Call
  call = out_packet s

  pub kept_out : (n : ℕ) → ComesTo u s (Keep n) → r ≡ answer_of (numbered n) → Returns (on_bytes u call) u r
  unfolding unit_in soundly bulk_out out_plan planned
  kept_out n h a =
      kept u h.lent call n r a
      (stays u h.lent call n
      (λ e. ap (λ (x : Outcome). with_message (unit_in u) s (planned (state_in u) x)) (sym (h.is ∙ at_true _ _ _ e)) ∙ unplanned (unit_in u) s n)
      (λ e. let k = h.is ∙ at_false _ _ _ e in cc))

  -- an outcome that is not Keep is that of a sound unit
  module _ {x : Outcome} (other : x ≡ Keep UNSOUND → ⊥) (h : ComesTo u s x) where
    before : Holds (unit_in u) u
    before = holds u h.lent (sound_unit h other)

    returned : Holds (with_message (unit_in u) s (planned (state_in u) x)).unit u' → r ≡ answer_of (with_message (unit_in u) s (planned (state_in u) x)).answer → Returns (on_bytes u call) u' r
    unfolding unit_in soundly bulk_out out_plan
    returned k a = returning u h.lent call (sound_unit h other) _ (ap (λ (y : Outcome). with_message (unit_in u) s (planned (state_in u) y)) (comes h other)) u' r k a

  -- with no data the message store stays
  plainly : (st : State) → Holds (with_state (unit_in u) st) u'
      → Holds (record { message = paste (unit_in u).message (out_of (state_in u)).message.held s 0; reply = (unit_in u).reply; state = st }) u'
  plainly st k = subst (λ (m : List ℕ). Holds (record { message = m; reply = (unit_in u).reply; state = st }) u') (paste-zero (unit_in u).message (out_of (state_in u)).message.held s) k

  pub halted : (n : ℕ) → ComesTo u s (Halt n) → u' ≡ paste u OUT_MESSAGE_AT (out_bytes (broken 1 (out_of (state_in u)))) OUT → r ≡ answer_of (numbered n) → Returns (on_bytes u call) u' r
  unfolding unit_in planned
  halted n h f a = returned halt_other h (plainly _ ((out_put (broken 1 (out_of (state_in u)))).to (before halt_other h) f)) a

  pub data_done : (count : ℕ) → ComesTo u s (Data count) → (v w : List ℕ) → v ≡ paste u (out_of (state_in u)).message.held s count
      → w ≡ paste v OUT_MESSAGE_AT (out_message_bytes (absorbed (out_of (state_in u)) count).message) OUT_MESSAGE
      → u' ≡ paste w OUT_TRANSFER_AT (out_transfer_bytes (absorbed (out_of (state_in u)) count).transfer) OUT_TRANSFER
      → r ≡ answer_of (numbered DONE) → Returns (on_bytes u call) u' r
  unfolding unit_in planned
  data_done count h v w f g k a =
      let fit = data_fits u s count h in
      let o = out_of (state_in u) in
      let stored = (message_put o.message.held s count (omega (arith, fit.0.0, fit.0.1)) fit.1).to (before data_other h) f in
      let put = (out_transfer_put (absorbed o count).transfer).to ((out_message_put (absorbed o count).message).to stored g) k in
      returned data_other h
      (subst (λ (p : BulkOut). Holds (record { message = paste (unit_in u).message o.message.held s count; reply = (unit_in u).reply; state = with_out (state_in u) p }) u')
      (absorbed_parts o count) put) a

  module _ (tag size end count : ℕ) where
    abbrev opening : BulkOut
    opening = opens (out_of (state_in u)) tag size end

    pub message_done : ComesTo u s (Accept (Message tag size end) count) → (v w x y : List ℕ) → v ≡ paste u (out_of (state_in u)).message.held (drop HEADER s) count
        → w ≡ paste v OUT_MESSAGE_AT (out_message_bytes (absorbed opening count).message) OUT_MESSAGE
        → x ≡ paste w OUT_TRANSFER_AT (out_transfer_bytes (absorbed opening count).transfer) OUT_TRANSFER
        → y ≡ paste x OUT_RECENT_AT (tag ∷ []) 1
        → u' ≡ paste y REMOTE_AT (remote_number (with_ren_on headed (port_of (state_in u)).ren (state_in u).remote) ∷ []) 1
        → r ≡ answer_of (numbered DONE) → Returns (on_bytes u call) u' r
    unfolding unit_in planned accepted
    message_done h v w x y f g k l m a =
        let fit = message_fits u s tag size end count h in
        let o = out_of (state_in u) in
        let remote = with_ren_on headed (port_of (state_in u)).ren (state_in u).remote in
        let stored = (message_put o.message.held (drop HEADER s) count (omega (arith, fit.0.0, fit.0.1)) (omega (arith, fit.1, length-drop HEADER s))).to (before accept_other h) f in
        let put = (out_transfer_put (absorbed opening count).transfer).to ((out_message_put (absorbed opening count).message).to stored g) k in
        let whole = (remote_put remote).to ((out_recent_put tag).to put l) m in
        returned accept_other h
        (subst (λ (p : BulkOut). Holds
        (record { message = paste (unit_in u).message o.message.held (drop HEADER s) count; reply = (unit_in u).reply; state = with_remote (with_out (state_in u) p) remote }) u')
        (absorbed_parts opening count) whole) a

  pub request_done : (tag size enabled term count : ℕ) → ComesTo u s (Accept (Request tag size enabled term) count) → (v w : List ℕ) → v ≡ paste u OUT_RECENT_AT (tag ∷ []) 1
      → w ≡ paste v IN_TRANSFER_AT (in_transfer_bytes (asked_in tag (min size STORE) enabled term)) IN_TRANSFER → u' ≡ paste w IN_RECENT_AT (tag ∷ []) 1
      → r ≡ answer_of (numbered DONE) → Returns (on_bytes u call) u' r
  unfolding unit_in planned accepted
  request_done tag size enabled term count h v w f g k a =
      returned accept_other h (plainly _ ((in_recent_put tag).to ((in_transfer_put (asked_in tag (min size STORE) enabled term)).to ((out_recent_put tag).to (before accept_other h) f) g) k)) a

  pub trigger_done : (tag count : ℕ) → ComesTo u s (Accept (Trigger tag) count) → u' ≡ paste u OUT_RECENT_AT (tag ∷ []) 1
      → r ≡ answer_of (record { verdict = record { number = DONE; tells = TELLS_TRIGGER }; bytes = [] }) → Returns (on_bytes u call) u' r
  unfolding unit_in planned accepted
  trigger_done tag count h f a = returned accept_other h (plainly _ ((out_recent_put tag).to (before accept_other h) f)) a
