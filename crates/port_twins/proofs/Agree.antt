-- Every call treats a unit and its twin alike; so two sound units that agree in their live part answer alike for ever.
-- Assumes nothing.
use Prim.Native.Nat.{ℕ, ◌+◌, ◌-◌, ◌≤◌}
use mathlib.Core.Path.{◌≡◌, refl, sym, ap, ◌∙◌, subst}
use mathlib.Core.Bool.{Bool}
use mathlib.Core.List.{List, ◌++◌}
use native.Mathlib.Omega.{arith}
use native.Mathlib.Nat.{zero-add}
use lib.ListN.{length, take, drop, length-drop}
use lib.Seq.{paste, paste-zero, take-paste}
use borrow.Author.Tests.{ltb-false}
use Rattle.std.specs.Prelude.{Option, Some, None}
use Rattle.rules.specs.declared.refusal.Refusal.{Refusal}
use Rattle.rules.specs.Answers.{number_of, refusing}
use Rattle.rules.specs.Choice.{◌=ᵇ◌, ◌<ᵇ◌, pick, decide}
use Rattle.rules.specs.Answers.{DONE, only}
use Rattle.rules.proofs.Choice.{pick_all, pick_both, decide_both, none_right}
use Rattle.rules.specs.Flags.{ON}
use Rattle.wire.specs.Header.{HEADER, read_header}
use Rattle.wire.specs.Setup.{read_setup}
use Rattle.wire.specs.declared.types.Endpoint.TheVariants.{Out, In, Interrupt}
use Rattle.wire.specs.declared.types.Header.{Header}
use Rattle.wire.specs.declared.types.Header.TheVariants.{Message, Request, Trigger}
use Rattle.wire.specs.Header.{Read}
use Rattle.std.specs.Prelude.{Ok, Err}
use Rattle.wire.specs.declared.types.Row.{Row}
use Rattle.wire.specs.declared.types.Row.TheVariants.{InitiateAbortBulkOut, CheckAbortBulkOutStatus, InitiateAbortBulkIn, CheckAbortBulkInStatus}
use Rattle.wire.specs.declared.types.Row.TheVariants.{InitiateClear, CheckClearStatus, GetCapabilities, IndicatorPulse, ReadStatusByte}
use Rattle.wire.specs.declared.types.Row.TheVariants.{RenControl, GoToLocal, LocalLockout, ClearFeature, SetFeature, GetStatus}
use Rattle.wire.specs.declared.types.Setup.{Setup}
use Rattle.wire.specs.declared.types.Setup.TheVariants.{Configure, Asks}
use Rattle.port.specs.Parts.{STORE, ASKED, on, is_open_out, is_open_in, is_owed, packet_size, out_of, in_of, with_in, carrying, broken, shut}
use Rattle.port.specs.Remote.{local_now}
use Rattle.port.specs.Answer.{Answer, Said, numbered, refuse}
use Rattle.port.specs.Out.{keep_of, plain, more, header_says, out_rules, outcome, absorbed, opened, accepted, planned, out_plan}
use Rattle.port.specs.In.{Packet, fixed, header, started, to_go, gone, send, next_packet, in_rules, sends, poll}
use Rattle.port.specs.Interrupt.{interrupt_rules, poll_interrupt}
use Rattle.port.specs.Rows.{Reaction, initiate_abort_out, initiate_abort_in, check_abort_in, clearing, initiate_clear}
use Rattle.port.specs.Rows.{check_clear, clear_feature_out, clear_feature_in, answer_row, effected, reacted}
use Rattle.port.specs.Device.{Device, Result, held_in, unsent_in, held_of, unsent_of}
use Rattle.port.specs.Calls.{said, with_message, bulk_out, bulk_in, interrupt_in, setup_rules, asked, setup_outcome, answered}
use Rattle.port.specs.Calls.{setup, take_rules, released, taking, take_message, offer_rules, offered, offer_plan, with_reply}
use Rattle.port.specs.Calls.{offer, thermostat_rules, status_set, set_status_byte, returned, panel, reset_by_bus, suspend}
use Rattle.port.specs.Step.{in_poll, interrupt_poll, offer_reply, set_status, front_panel, bus_suspend, Call}
use Rattle.port.specs.Step.{setup_packet, out_packet, take_into, bus_reset, quiet, quietly, soundly, step}
use Rattle.port.specs.Live.{Live, at_front, live, alive}
use Rattle.port.specs.Laws.{Stored, LiveAgrees}
use Rattle.port.specs.declared.types.OutMessage.{OutMessage}
use Rattle.port.specs.declared.types.BulkOut.{BulkOut}
use Rattle.port.specs.declared.types.InTransfer.{InTransfer}
use Rattle.port.specs.declared.types.BulkIn.{BulkIn}
use Rattle.port.specs.declared.types.Plan.{Plan}
use Rattle.port.specs.declared.types.Split.{Split}
use Rattle.port.specs.declared.types.Split.TheVariants.{None, AbortOut, AbortIn, Clear}
use Rattle.port.specs.declared.types.State.{State}
use Rattle.port.specs.declared.types.Outcome.{Outcome}
use Rattle.port.specs.declared.types.Outcome.TheVariants.{Keep, Halt, Data, Accept}
use Rattle.port.specs.Answer.{SetupOutcome}
use Rattle.std.specs.Prelude.{Err}
use Rattle.std.specs.Prelude.{Ok}
use Rattle.port.specs.declared.types.Effect.{Effect}
use Rattle.port.specs.declared.types.Effect.TheVariants.{Stays, AbortsOut, AbortsIn, Clears, EndsSplit, SetsRen}
use Rattle.port.specs.declared.types.Effect.TheVariants.{GoesToLocal, LocksOut, ClearsHalt, SetsHalt, Queues}
use Rattle.port.proofs.Soundness.{Sound, sound_of, sound_to}
use Rattle.port.proofs.Ways.{outcome_ways}
use Rattle.port.proofs.KeepsOut.{out_held}
use Rattle.port.proofs.Calls.{kept, unstored, halted, step_sound}
use Rattle.port.proofs.Alive.{held_alive, unsent_alive, alive_sound, alive_stored, Alike, alike, twin, same_message, same_reply}

-- the same answer, and units that differ in the place of the reply and in dead bytes alone
abbrev Same : Result → Result → Type 0
Same r q =
    (r.answer ≡ q.answer)
    × (with_in r.unit.state (at_front (in_of r.unit.state)) ≡ with_in q.unit.state (at_front (in_of q.unit.state)))
    × (held_of r.unit ≡ held_of q.unit)
    × (unsent_of r.unit ≡ unsent_of q.unit)

along : {r r' q q' : Result} → r ≡ r' → q ≡ q' → Same r' q' → Same r q
along e f s = rw (e, f) s

alike_of : {r q : Result} → Same r q → Alike r q
unfolding live
alike_of s = alike s.0 (λ i. record { state = s.1 i; message = s.2 i; reply = s.3 i })

module _ (u : Device) (stored : Stored u) (h : Sound u.state) where
  abbrev w : Device
  w = twin u stored h

  -- ** what a call can make of the state, over the same stores

  whole_reply : unsent_of u ≡ unsent_of w
  whole_reply = sym (unsent_alive u stored h)

  -- the message as it was, or a beginning of it
  whole_message : held_of u ≡ held_of w
  whole_message = sym (held_alive u stored h)

  broken_message : (halted : ℕ) → held_in (broken halted (out_of u.state)) u.message ≡ held_in (broken halted (out_of w.state)) w.message
  unfolding alive live broken
  broken_message halted = same_message u stored h _ (pick_all (λ (m : OutMessage). m.held ≤ (out_of u.state).message.held) (on (out_of u.state).message.ready) _ _ (λ _. omega arith)
      (λ _. omega arith))

  kept_both : (a : Answer) → Same (record { unit = u; answer = a }) (record { unit = w; answer = a })
  unfolding alive live
  kept_both a = (refl, refl, whole_message, whole_reply)

  abbrev Saids : Said → Said → Type 0
  Saids r q = Same (said u r) (said w q)

  behind : (rs : List (Bool × Refusal)) (r q : Said) → Saids r q → Saids (decide (refuse u.state) rs r) (decide (refuse w.state) rs q)
  behind rs r q s = decide_both Saids (refuse u.state) (refuse w.state) rs r q (λ k. kept_both (numbered (number_of k))) (λ _. s)

  -- ** setup packets

  -- what a row answers and does looks at neither store nor the reply's place
  reacts_alike : (row : Row) → answer_row u.state row ≡ answer_row w.state row
  unfolding answer_row initiate_abort_out initiate_abort_in check_abort_in initiate_clear check_clear alive live
  reacts_alike (InitiateAbortBulkOut tag) = refl
  reacts_alike CheckAbortBulkOutStatus = refl
  reacts_alike (InitiateAbortBulkIn tag) = refl
  reacts_alike CheckAbortBulkInStatus = by u.state.split
    where
      by : (s : Split) → check_abort_in (in_of u.state) s ≡ check_abort_in (in_of w.state) s
      by None = refl
      by (AbortOut count) = refl
      by (AbortIn count) = refl
      by Clear = refl
  reacts_alike InitiateClear = refl
  reacts_alike CheckClearStatus = refl
  reacts_alike GetCapabilities = refl
  reacts_alike IndicatorPulse = refl
  reacts_alike (ReadStatusByte tag) = refl
  reacts_alike (RenControl ren) = refl
  reacts_alike GoToLocal = refl
  reacts_alike LocalLockout = refl
  reacts_alike (ClearFeature endpoint) = refl
  reacts_alike (SetFeature endpoint) = refl
  reacts_alike (GetStatus Out) = refl
  reacts_alike (GetStatus In) = refl
  reacts_alike (GetStatus Interrupt) = refl

  abbrev States : Answer → State → State → Type 0
  States a st st' = Saids (record { state = st; answer = a }) (record { state = st'; answer = a })

  effect_agrees : (a : Answer) (e : Effect) → States a (effected u.state e) (effected w.state e)
  unfolding effected clearing clear_feature_out clear_feature_in shut local_now alive live
  effect_agrees a Stays = kept_both a
  effect_agrees a AbortsOut = (refl, refl, broken_message ON, whole_reply)
  effect_agrees a AbortsIn = (refl, refl, whole_message, refl)
  effect_agrees a Clears = (refl, refl, refl, pick_all (λ (b : BulkIn). unsent_in b u.reply ≡ unsent_in b w.reply) (is_open_in (in_of u.state)) _ _ (λ _. refl) (λ _. refl))
  effect_agrees a EndsSplit = (refl, refl, whole_message, whole_reply)
  effect_agrees a (SetsRen ren) = pick_both (States a) (on ren) _ _ _ _ (λ _. (refl, refl, whole_message, whole_reply)) (λ _. (refl, refl, whole_message, whole_reply))
  effect_agrees a GoesToLocal = (refl, refl, whole_message, whole_reply)
  effect_agrees a LocksOut = (refl, refl, whole_message, whole_reply)
  effect_agrees a (ClearsHalt Out) = (refl, refl, broken_message _, whole_reply)
  effect_agrees a (ClearsHalt In) =
      pick_both Ins (is_owed (in_of u.state)) _ _ _ _ (λ _. (refl, refl, whole_message, whole_reply))
      (λ _. pick_both Ins (is_open_in (in_of u.state)) _ _ _ _ (λ _. (refl, refl, whole_message, refl)) (λ _. (refl, refl, whole_message, whole_reply)))
    where
      Ins : BulkIn → BulkIn → Type 0
      Ins b b' = States a (with_in u.state b) (with_in w.state b')
  effect_agrees a (ClearsHalt Interrupt) = (refl, refl, whole_message, whole_reply)
  effect_agrees a (SetsHalt Out) = (refl, refl, broken_message ON, whole_reply)
  effect_agrees a (SetsHalt In) = (refl, refl, whole_message, whole_reply)
  effect_agrees a (SetsHalt Interrupt) = (refl, refl, whole_message, whole_reply)
  effect_agrees a (Queues tag) = (refl, refl, whole_message, whole_reply)

  answer_agrees : (x : SetupOutcome) → Same (answered u x) (answered w x)
  unfolding answered alive live
  answer_agrees (Err n) = kept_both _
  answer_agrees (Ok (Configure value)) = (refl, refl, refl, refl)
  answer_agrees (Ok (Asks row)) = subst (λ (r : Reaction). Same (answered u (Ok (Asks row))) (said w (reacted w.state r))) (reacts_alike row) (effect_agrees _ (answer_row u.state row).effect)

  asked_alike : (x : Option Setup) → asked u.state x ≡ asked w.state x
  unfolding asked alive live
  asked_alike (Some (Configure value)) = refl
  asked_alike (Some (Asks row)) = refl
  asked_alike None = refl

  setup_agrees : (s : List ℕ) (room : ℕ) → Same (setup u s room) (setup w s room)
  unfolding setup setup_outcome
  setup_agrees s room = subst (λ (x : SetupOutcome). Same (setup u s room) (answered w (decide Err (setup_rules (length s) room) x))) (asked_alike (read_setup s))
      (answer_agrees (setup_outcome u.state s room))

  -- ** Bulk-OUT

  header_agrees : (s : List ℕ) (r : Read) → header_says u.state s r ≡ header_says w.state s r
  unfolding header_says alive live
  header_agrees s (Err numbered) = refl
  header_agrees s (Ok (Message tag size end)) = refl
  header_agrees s (Ok (Request tag size enabled term)) = refl
  header_agrees s (Ok (Trigger tag)) = refl

  outcome_agrees : (s : List ℕ) → outcome u.state s ≡ outcome w.state s
  unfolding outcome alive live
  outcome_agrees s =
      ap (λ (z : Outcome). decide keep_of (out_rules u.state (length s))
      (pick (is_open_out (out_of u.state)) (more (packet_size u.state) (out_of u.state).transfer.left s) (pick (length s =ᵇ 0) (Keep DONE) z))) (header_agrees s (read_header s))

  abbrev Outs : List ℕ → Outcome → Type 0
  Outs s x = Same (with_message u s (planned u.state x)) (with_message w s (planned w.state x))

  keep_agrees : (s : List ℕ) (n : ℕ) → Outs s (Keep n)
  keep_agrees s n = along (kept u s n) (kept w s n) (kept_both _)

  halt_agrees : (s : List ℕ) (n : ℕ) → Outs s (Halt n)
  unfolding effected
  halt_agrees s n = along (halted u h s n) (halted w (alive_sound u stored h) s n) (effect_agrees (numbered n) (SetsHalt Out))

  -- data put behind what is held, of the open transfer or of one that a header opens
  put_message : (o : BulkOut) (d : List ℕ) (count : ℕ) → o.message ≡ (out_of u.state).message → count ≤ length d
      → held_in (absorbed o count) (paste u.message (out_of u.state).message.held d count) ≡ held_in (absorbed o count) (paste w.message (out_of w.state).message.held d count)
  unfolding absorbed alive live
  put_message o d count m e = pick_all (λ (o : BulkOut). held_in o (paste u.message k d count) ≡ held_in o (paste w.message k d count)) (o.transfer.left =ᵇ count) _ _ (λ _. both) (λ _. both)
    where
      k : ℕ
      k = (out_of u.state).message.held

      both : take (o.message.held + count) (paste u.message k d count) ≡ take (o.message.held + count) (paste w.message k d count)
      both =
          let b = out_held u.state h in
          rw m (take-paste u.message k d count (let a = stored.message in omega arith) e
          ∙ ap (λ (l : List ℕ). l ++ take count d) whole_message
          ∙ sym (take-paste w.message k d count (let a = (alive_stored u stored h).message in omega arith) e))

  -- nothing is put
  no_message_lem : (d : List ℕ) → take (out_of u.state).message.held (paste u.message (out_of u.state).message.held d 0) ≡ take (out_of w.state).message.held
      (paste w.message (out_of w.state).message.held d 0)
  no_message_lem d = rw (← paste-zero u.message, ← paste-zero w.message) whole_message

  data_agrees : (s : List ℕ) (count : ℕ) → count ≤ length s → Outs s (Data count)
  unfolding planned alive live
  data_agrees s count e = (refl, refl, put_message (out_of u.state) s count refl e, whole_reply)

  head_agrees : (s : List ℕ) (x : Header) (count : ℕ) → count ≤ length (drop HEADER s) → Outs s (Accept x count)
  unfolding planned accepted alive live
  head_agrees s (Message tag size end) count e = (refl, refl, put_message (opened (out_of u.state) tag size end) (drop HEADER s) count refl e, whole_reply)
  head_agrees s (Request tag size enabled term) count e = (refl, refl, no_message_lem s, whole_reply)
  head_agrees s (Trigger tag) count e = (refl, refl, no_message_lem s, whole_reply)

  out_agrees : (s : List ℕ) → Same (bulk_out u s) (bulk_out w s)
  unfolding bulk_out out_plan
  out_agrees s =
      subst (λ (x : Outcome). Same (bulk_out u s) (with_message w s (planned w.state x))) (outcome_agrees s)
      (outcome_ways u.state s (Outs s) (record {
        keeps = (λ _. keep_agrees s _, (λ _. keep_agrees s _, (λ _. keep_agrees s _, (λ _. keep_agrees s _, tt))));
        empty = λ _. keep_agrees s DONE;
        halts = λ _. (halt_agrees s _, (halt_agrees s _, (halt_agrees s _, (halt_agrees s _, (halt_agrees s _, (halt_agrees s _, (halt_agrees s _, (halt_agrees s _, tt))))))));
        continues = λ _. data_agrees s _ (omega arith);
        heads = λ x _. head_agrees s x _ (let l = length-drop HEADER s in omega arith);
      }))

  -- ** Bulk-IN

  -- the packet of a transfer that is on its way, as `send` has it
  abbrev packet_of : Device → List ℕ → BulkIn → Packet
  packet_of d x b =
      let packet = take (packet_size d.state) (header (in_of d.state) x ++ take b.transfer.left x) in
      let after = gone b (length packet - length (header (in_of d.state) x)) in
      record { side = pick (length packet <ᵇ packet_size d.state) (shut after) after; bytes = packet }

  abbrev Packets : List ℕ → BulkIn → BulkIn → Type 0
  Packets x b b' = Saids (sends u.state (packet_of u x b)) (sends w.state (packet_of w x b'))

  packet_agrees : (x : List ℕ) (t : InTransfer) → Packets x (carrying (in_of u.state) (in_of u.state).reply t) (carrying (in_of w.state) (in_of w.state).reply t)
  unfolding header gone shut alive live
  packet_agrees x t =
      let packet = take (packet_size u.state) (header (in_of u.state) x ++ take t.left x) in
      let rest = same_reply u stored h (length packet - length (header (in_of u.state) x)) in
      pick_both (λ (b b' : BulkIn). Saids (sends u.state (record { side = b; bytes = packet })) (sends w.state (record { side = b'; bytes = packet })))
      (length packet <ᵇ packet_size u.state) _ _ _ _
      (λ _. (refl, refl, whole_message, rest))
      (λ _. (refl, refl, whole_message, rest))

  send_agrees : (x : List ℕ) → Saids (sends u.state (next_packet (packet_size u.state) (in_of u.state) x)) (sends w.state (next_packet (packet_size w.state) (in_of w.state) x))
  unfolding next_packet send to_go started fixed gone shut alive live
  send_agrees x =
      let b = in_of u.state in
      pick_both (λ (p q : Packet). Saids (sends u.state p) (sends w.state q)) (is_owed b) _ _ _ _ (λ _. (refl, refl, whole_message, whole_reply))
      (λ _. pick_both (Packets x) (b.transfer.phase =ᵇ ASKED) _ _ _ _ (λ _. packet_agrees x (fixed b x).transfer) (λ _. packet_agrees x b.transfer))

  poll_agrees : (room : ℕ) → Same (bulk_in u room) (bulk_in w room)
  unfolding bulk_in poll alive live
  poll_agrees room =
      subst (λ (x : List ℕ). Same (bulk_in u room) (said w (poll w.state x room))) whole_reply
      (behind (in_rules u.state room) _ _ (send_agrees (unsent_of u)))

  -- ** the thermostat's calls and the bus's

  take_agrees : (room : ℕ) → Same (take_message u room) (take_message w room)
  unfolding take_message taking released alive live
  take_agrees room = behind (take_rules u.state room) _ _ (λ i. record { verdict = only DONE; bytes = whole_message i }, refl, refl, whole_reply)

  -- a reply at the front of either store
  front : (d bytes : List ℕ) → length bytes ≤ length d → take (length bytes) (paste d 0 bytes (length bytes)) ≡ take (length bytes) bytes
  front d bytes e = subst (λ (m : ℕ). take m (paste d 0 bytes (length bytes)) ≡ take (length bytes) bytes) (zero-add (length bytes)) (take-paste d 0 bytes (length bytes) (omega arith) (omega arith))

  offer_agrees : (bytes : List ℕ) → Same (offer u bytes) (offer w bytes)
  unfolding offer offer_plan offered alive live
  offer_agrees bytes =
      decide_both (λ (p q : Plan). Same (with_reply u bytes p) (with_reply w bytes q)) (λ k. plain u.state (refusing k)) (λ k. plain w.state (refusing k)) (offer_rules u.state (length bytes)) _ _
      (λ k. along (unstored u bytes (number_of k)) (unstored w bytes (number_of k)) (kept_both _))
      (λ n.
      let fits : length bytes ≤ STORE = ltb-false _ _ (none_right (length bytes =ᵇ 0) _ n.1.0) in
      (refl, refl, whole_message, front u.reply bytes (let l = stored.reply in omega arith) ∙ sym (front w.reply bytes (let l = (alive_stored u stored h).reply in omega arith))))

  soundly_agrees : (c : Call) → Same (soundly u c) (soundly w c)
  unfolding soundly quietly interrupt_in poll_interrupt set_status_byte status_set panel returned reset_by_bus suspend local_now alive live
  soundly_agrees (setup_packet p) = setup_agrees p.packet p.room
  soundly_agrees (out_packet s) = out_agrees s
  soundly_agrees (take_into room) = take_agrees room
  soundly_agrees bus_reset = (refl, refl, refl, refl)
  soundly_agrees (quiet (in_poll room)) = poll_agrees room
  soundly_agrees (quiet (interrupt_poll room)) = behind (interrupt_rules u.state room) _ _ (refl, refl, whole_message, whole_reply)
  soundly_agrees (quiet (offer_reply bytes)) = offer_agrees bytes
  soundly_agrees (quiet (set_status status)) = behind (thermostat_rules u.state) _ _ (refl, refl, whole_message, whole_reply)
  soundly_agrees (quiet front_panel) = behind (thermostat_rules u.state) _ _ (refl, refl, whole_message, whole_reply)
  soundly_agrees (quiet bus_suspend) = (refl, refl, whole_message, whole_reply)

  pub call_agrees : (c : Call) → Alike (step u c) (step w c)
  call_agrees c = alike_of (along (step_sound u c (sound_to _ h)) (step_sound w c (sound_to _ (alive_sound u stored h))) (soundly_agrees c))

-- THE LAW
pub live_agrees : LiveAgrees step
live_agrees u v c su sv hu hv e =
    let a = call_agrees u su (sound_of _ hu) c in
    let b = call_agrees v sv (sound_of _ hv) c in
    (a.answers ∙ ap (λ (l : Live). (step (alive l) c).answer) e ∙ sym b.answers, a.units ∙ ap (λ (l : Live). live (step (alive l) c).unit) e ∙ sym b.units)
