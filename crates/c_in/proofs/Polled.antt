-- What a Bulk-IN poll leaves of a unit in bytes.
-- Assumes nothing.
use Prim.Native.Nat.{ℕ}
use mathlib.Core.Path.{◌≡◌, refl, sym, ap, ◌∙◌, subst}
use mathlib.Core.List.{List}
use lib.ListN.{length}
use lib.Seq.{paste}
use Rattle.std.specs.Prelude.{Ok, Err}
use Rattle.rules.specs.Answers.{number_of}
use Rattle.rules.specs.declared.refusal.Refusal.{Refusal}
use Rattle.rules.specs.Choice.{◌=ᵇ◌}
use Rattle.rules.specs.Answers.{done}
use Rattle.rules.proofs.Choice.{pick_all, refuses, passes}
use Rattle.port.specs.Parts.{STORE, ASKED, is_owed, in_of, packet_size, with_in, carrying, shut}
use Rattle.port.specs.Answer.{numbered, refuse}
use Rattle.port.specs.In.{Packet, fixed, started, gone, send, next_packet, in_rules, poll}
use Rattle.port.specs.Device.{unsent_in, unsent_of}
use Rattle.port.specs.Calls.{said, bulk_in}
use Rattle.port.specs.Step.{Call, quiet, in_poll, quietly, soundly}
use Rattle.port.specs.declared.types.BulkIn.{BulkIn}
use Rattle.in_step.specs.Poll.{CanPoll, Cuts}
use Rattle.in_step.specs.declared.types.InPacket.{InPacket}
use Rattle.in_step.proofs.PollLaws.{poll_can}
use Rattle.c_bytes.specs.Layout.{IN_REPLY, IN_TRANSFER, REPLY_AT, IN_REPLY_AT, IN_TRANSFER_AT, in_reply_bytes, in_transfer_bytes, part, state_in, unit_in}
use Rattle.c_parts.proofs.Puts.{Holds, in_reply_put, in_transfer_put}
use Rattle.c_promise.specs.Promise.{IsGate, on_bytes, answer_of, Fills}
use Rattle.c_promise.specs.declared.types.TmcAnswer.{TmcAnswer}
use Rattle.c_promise.proofs.Called.{Gate, holds, fills, refusal_into, is_sound_lem, by_rules, state_sound}

-- the reply and the transfer are all that a packet changes of a side
abbrev Parts : BulkIn → BulkIn → Type 0
Parts b x = carrying b x.reply x.transfer ≡ x

started_parts : (b : BulkIn) (unsent : List ℕ) → Parts b (started b unsent)
unfolding started fixed
started_parts b unsent = pick_all (Parts b) (b.transfer.phase =ᵇ ASKED) (fixed b unsent) b (λ _. refl) (λ _. refl)

gone_parts : (b x : BulkIn) (count : ℕ) → Parts b x → Parts b (gone x count)
unfolding gone
gone_parts b x count e = ap (λ (y : BulkIn). carrying y (gone x count).reply (gone x count).transfer) e

packet_parts : (p : ℕ) (b : BulkIn) (unsent : List ℕ) → Parts b (next_packet p b unsent).side
unfolding next_packet send shut
packet_parts p b unsent =
    pick_all (λ (k : Packet). Parts b k.side) (is_owed b) _ (send p b unsent) (λ _. refl)
    (λ _. pick_all (Parts b) _ _ _ (λ _. ap (λ (y : BulkIn). shut y) (gone_parts b (started b unsent) _ (started_parts b unsent))) (λ _. gone_parts b (started b unsent) _ (started_parts b unsent)))

module _ (u b : List ℕ) (told : Gate) (is : IsGate u (in_rules (state_in u) (length b)) told) where
  pub poll_fits : told ≡ Ok tt → CanPoll (packet_size (state_in u)) (in_of (state_in u)) (length b)
  poll_fits z unowed = poll_can (state_in u) (length b) (state_sound u (is_sound_lem is z)) told (by_rules is z) z unowed

module _ (u b : List ℕ) (told : Gate) (is : IsGate u (in_rules (state_in u) (length b)) told) (b' u' : List ℕ) (r : TmcAnswer) where
  abbrev call : Call
  call = quiet (in_poll (length b))

  pub poll_kept : (k : Refusal) → told ≡ Err k → r ≡ answer_of (numbered (number_of k)) → Fills (on_bytes u call) b b u r
  unfolding unit_in soundly quietly bulk_in poll
  poll_kept k e a = refusal_into u call is k e (λ _ g. sym (ap (said (unit_in u)) (refuses (refuse (state_in u)) (in_rules (state_in u) (length b)) _ told g k e))) r a b

  module _ (z : told ≡ Ok tt) where
    pub poll_done : (packet : InPacket) → Cuts (next_packet (packet_size (state_in u)) (in_of (state_in u)) (unsent_in (in_of (state_in u)) (part REPLY_AT STORE u))) packet b b'
        → (v : List ℕ) → v ≡ paste u IN_REPLY_AT (in_reply_bytes packet.side.reply) IN_REPLY → u' ≡ paste v IN_TRANSFER_AT (in_transfer_bytes packet.side.transfer) IN_TRANSFER
        → r ≡ record { verdict = done; len = packet.len } → Fills (on_bytes u call) b b' u' r
    unfolding unit_in soundly quietly bulk_in poll
    poll_done packet cuts v f g a =
        let st = state_in u in
        let e = is_sound_lem is z in
        let next = next_packet (packet_size st) (in_of st) (unsent_of (unit_in u)) in
        let put = (in_transfer_put packet.side.transfer).to ((in_reply_put packet.side.reply).to (holds u is.lent e) f) g in
        let same : carrying (in_of st) packet.side.reply packet.side.transfer ≡ next.side =
        ap (λ (k : InPacket). carrying (in_of st) k.side.reply k.side.transfer) cuts.0 ∙ packet_parts (packet_size st) (in_of st) (unsent_of (unit_in u)) in
        fills u is.lent call e _ (sym (ap (said (unit_in u)) (passes (refuse st) (in_rules st (length b)) _ told (by_rules is z) z))) u' r
        (subst (λ (k : BulkIn). Holds (record { message = (unit_in u).message; reply = (unit_in u).reply; state = with_in st k }) u') same put)
        (a ∙ ap {B = TmcAnswer} (λ (k : InPacket). record { verdict = done; len = k.len }) cuts.0)
        b b' cuts.1
