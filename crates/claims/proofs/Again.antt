-- After SUCCESS, and whatever comes that is no break, CLEAR_FEATURE on 0x01 leaves a unit that waits for a command; so a whole command arrives.
-- Assumes nothing.
use Prim.Native.Nat.{ℕ}
use mathlib.Core.Path.{◌≡◌, refl, sym, ap, ◌∙◌, subst}
use mathlib.Core.Bool.{true, false}
use mathlib.Core.List.{List, [], ◌∷◌, ◌++◌}
use mathlib.Core.Logic.{inl, inr, ⊎_elim}
use native.Mathlib.Omega.{arith}
use borrow.Author.Tests.{eq-eqb}
use lib.ListN.{length, take}
use Rattle.std.specs.Prelude.{Option, Some, None}
use Rattle.rules.specs.Answers.{refusing}
use Rattle.rules.specs.Choice.{◌=ᵇ◌, ◌and◌, no, pick}
use Rattle.rules.proofs.Choice.{pick_all, decide_all, at_true, at_false}
use Rattle.wire.specs.Setup.{read_setup}
use Rattle.wire.specs.declared.types.Endpoint.TheVariants.{Out, In, Interrupt}
use Rattle.wire.specs.declared.types.Header.TheVariants.{Message, Request, Trigger}
use Rattle.wire.specs.declared.types.Row.{Row}
use Rattle.wire.specs.declared.types.Row.TheVariants.{InitiateAbortBulkOut, CheckAbortBulkOutStatus, InitiateAbortBulkIn, CheckAbortBulkInStatus}
use Rattle.wire.specs.declared.types.Row.TheVariants.{InitiateClear, CheckClearStatus, GetCapabilities, IndicatorPulse, ReadStatusByte}
use Rattle.wire.specs.declared.types.Row.TheVariants.{RenControl, GoToLocal, LocalLockout, ClearFeature, SetFeature, GetStatus}
use Rattle.wire.specs.declared.types.Setup.{Setup}
use Rattle.wire.specs.declared.types.Setup.TheVariants.{Configure, Asks}
use Rattle.port.specs.Parts.{on, packet_size, is_open_out, is_open_in, is_owed, is_clear, keeps_halt, out_of, in_of, interrupt_of, is_configured, broken, fresh}
use Rattle.port.specs.Remote.{local_now}
use Rattle.port.specs.Answer.{Answer, Said, refuse}
use Rattle.port.specs.Out.{plain, outcome, planned, accepted as acceptance, out_plan}
use Rattle.port.specs.In.{in_rules, poll}
use Rattle.port.specs.Interrupt.{is_waiting, interrupt_rules, poll_interrupt}
use Rattle.port.specs.Rows.{Reaction, answering, abort_rules, out_tag, in_tag, initiate_abort_out, initiate_abort_in, check_abort_out}
use Rattle.port.specs.Rows.{check_abort_in, initiate_clear, check_clear, read_status, clear_feature_out, answer_row, effected}
use Rattle.port.specs.Device.{Device, Result, is_sound, made}
use Rattle.port.specs.Calls.{bulk_out, bulk_in, interrupt_in, setup_rules, asked, setup_outcome, answered, setup, take_rules, taking, take_message}
use Rattle.port.specs.Calls.{offer_rules, offer_plan, offer, thermostat_rules, status_set, set_status_byte, returned, panel, reset_by_bus, suspend}
use Rattle.port.specs.Step.{Quiet, in_poll, interrupt_poll, offer_reply, set_status, front_panel, bus_suspend, SetupPacket, Call}
use Rattle.port.specs.Step.{setup_packet, out_packet, take_into, bus_reset, quiet, setup_of, quietly, soundly, step, after}
use Rattle.port.specs.Laws.{Stored, CHECK_CLEAR_STATUS, Succeeds}
use Rattle.port.specs.Trace.{trace, Octets, InOctets, AllInOctets}
use Rattle.port.specs.declared.types.BulkOut.{BulkOut}
use Rattle.port.specs.declared.types.Plan.{Plan}
use Rattle.port.specs.declared.types.Split.{Split}
use Rattle.port.specs.declared.types.Split.TheVariants.{None, AbortOut, AbortIn, Clear}
use Rattle.port.specs.declared.types.State.{State}
use Rattle.port.specs.Answer.{SetupOutcome}
use Rattle.std.specs.Prelude.{Err}
use Rattle.port.specs.declared.types.Outcome.{Outcome}
use Rattle.port.specs.declared.types.Outcome.TheVariants.{Keep, Halt, Data, Accept}
use Rattle.port.proofs.KeepsOut.{cases}
use Rattle.port.proofs.Opened.{computed}
use Rattle.port.proofs.Soundness.{sound_of}
use Rattle.port.proofs.Calls.{step_sound, keeps_sound, keeps_stored}
use Rattle.port.proofs.When.{rule_for_every}
use Rattle.claims.specs.Fresh.{CLEAR_FEATURE_OUT}
use Rattle.claims.specs.Wire.{Heard, nothing, heard_packet, heard_setup, heard}
use Rattle.claims.specs.Arrival.{coming, NoBreak, NoBreaks}
use Rattle.claims.specs.Command.{Piece, command, Sendable, sending}
use Rattle.claims.specs.Claims.{CommandAfterClear}
use Rattle.claims.proofs.Bytes.{octets_of}
use Rattle.claims.proofs.Setups.{in_row, Told, told, heard_done}
use Rattle.claims.proofs.Between.{row_kept}
use Rattle.claims.proofs.Effects.{View, view, Broken, Effect}
use Rattle.claims.proofs.Steps.{effect}
use Rattle.claims.proofs.Handed.{step_size}
use Rattle.claims.proofs.Arrives.{setup_nothing, Serving, arrives, starts_following}
use Rattle.claims.proofs.Landing.{Stand, lacks}
use Rattle.claims.proofs.History.{follows_as}
use Rattle.claims.proofs.Cleared.{cleared, out_is}

-- ** no call but a break begins a clear or an abort of Bulk-OUT, which would keep the halt

module _ (u : Device) (free : keeps_halt u.state.split ≡ false) where
  abbrev st : State
  st = u.state

  abbrev Free : State → Type 0
  Free s = keeps_halt s.split ≡ false

  abbrev Rows : (Answer → Heard) → Reaction → Type 0
  Rows heeds r = NoBreak (heeds r.answer) → Free (effected st r.effect)

  row_free : (row : Row) → Rows (in_row row) (answer_row st row)
  unfolding answer_row initiate_abort_out initiate_abort_in check_abort_out check_abort_in initiate_clear check_clear read_status effected local_now pick
  row_free (InitiateAbortBulkOut tag) =
      decide_all (Rows (in_row (InitiateAbortBulkOut tag))) (λ status. answering (status ∷ out_tag (out_of st) ∷ [])) (abort_rules st.split (is_open_out (out_of st)) (out_tag (out_of st)) tag) _
      ((λ _. free), ((λ _. free), ((λ _. free), tt))) (λ _ n. absurd n)
  row_free CheckAbortBulkOutStatus = by st.split
    where
      by : (s : Split) → Rows (λ _. nothing) (check_abort_out s)
      by None = λ _. free
      by (AbortOut count) = λ _. refl
      by (AbortIn count) = λ _. free
      by Clear = λ _. free
  row_free (InitiateAbortBulkIn tag) =
      decide_all (Rows (λ _. nothing)) (λ status. answering (status ∷ in_tag (in_of st) ∷ [])) (abort_rules st.split (is_open_in (in_of st)) (in_tag (in_of st)) tag) _
      ((λ _. free), ((λ _. free), ((λ _. free), tt))) (λ _ _. refl)
  row_free CheckAbortBulkInStatus = by st.split
    where
      by : (s : Split) → Rows (λ _. nothing) (check_abort_in (in_of st) s)
      by None = λ _. free
      by (AbortOut count) = λ _. free
      by (AbortIn count) = pick_all (Rows (λ _. nothing)) (is_owed (in_of st)) _ _ (λ _ _. free) (λ _ _. refl)
      by Clear = λ _. free
  row_free InitiateClear = pick_all (Rows (in_row InitiateClear)) (is_clear st.split) _ _ (λ _ _. free) (λ _ n. absurd n)
  row_free CheckClearStatus = pick_all (Rows (λ _. nothing)) (no (is_clear st.split)) _ _ (λ _ _. free) (λ _. pick_all (Rows (λ _. nothing)) (is_owed (in_of st)) _ _ (λ _ _. free) (λ _ _. refl))
  row_free GetCapabilities = λ _. free
  row_free IndicatorPulse = λ _. free
  row_free (ReadStatusByte tag) = λ _. pick_all (λ (r : Reaction). Free (effected st r.effect)) (is_waiting (interrupt_of st)) _ _ (λ _. free) (λ _. free)
  row_free (RenControl ren) = λ _. pick_all Free (on ren) _ _ (λ _. free) (λ _. free)
  row_free GoToLocal = λ _. free
  row_free LocalLockout = λ _. free
  row_free (ClearFeature Out) = λ _. free
  row_free (ClearFeature In) = λ _. free
  row_free (ClearFeature Interrupt) = λ _. free
  row_free (SetFeature Out) = λ _. free
  row_free (SetFeature In) = λ _. free
  row_free (SetFeature Interrupt) = λ _. free
  row_free (GetStatus endpoint) = λ _. free

  module _ (p : SetupPacket) where
    abbrev Stays : SetupOutcome → Type 0
    Stays x = NoBreak (heard (setup_packet p) (answered u x).answer) → Free (answered u x).unit.state

    asked_free : (x : Option Setup) → Told p.packet x → Stays (asked st x)
    unfolding heard answered asked made fresh
    asked_free (Some (Configure value)) k = λ _. refl
    asked_free (Some (Asks row)) k = pick_all Stays (is_configured st) _ _
        (λ _ n. row_free row (subst NoBreak (heard_done p.packet _ (row_kept u row).0 ∙ k _) n)) (λ _ _. free)
    asked_free None k = λ _. free

    setup_free : NoBreak (heard (setup_packet p) (setup u p.packet p.room).answer) → Free (setup u p.packet p.room).unit.state
    unfolding setup setup_outcome answered
    setup_free = decide_all Stays Err (setup_rules (length p.packet) p.room) _ ((λ _. free), tt) (λ _. asked_free (read_setup p.packet) (told p.packet))

  planned_free : (x : Outcome) → Free (planned st x).state
  unfolding planned acceptance
  planned_free (Keep n) = free
  planned_free (Halt n) = free
  planned_free (Data count) = free
  planned_free (Accept (Message tag size end) count) = free
  planned_free (Accept (Request tag size enabled term) count) = free
  planned_free (Accept (Trigger tag) count) = free

  quiet_free : (q : Quiet) → Free (quietly u q).unit.state
  unfolding quietly bulk_in poll interrupt_in poll_interrupt offer offer_plan set_status_byte status_set panel returned suspend local_now
  quiet_free (in_poll room) = decide_all (λ (r : Said). Free r.state) (refuse st) (in_rules st room) _ (free, (free, (free, (free, tt)))) (λ _. free)
  quiet_free (interrupt_poll room) = decide_all (λ (r : Said). Free r.state) (refuse st) (interrupt_rules st room) _ (free, (free, (free, (free, tt)))) (λ _. free)
  quiet_free (offer_reply bytes) = decide_all (λ (r : Plan). Free r.state) (λ k. plain st (refusing k)) (offer_rules st (length bytes)) _ (free, (free, (free, tt))) (λ _. free)
  quiet_free (set_status status) = decide_all (λ (r : Said). Free r.state) (refuse st) (thermostat_rules st) _ (free, tt) (λ _. free)
  quiet_free front_panel = decide_all (λ (r : Said). Free r.state) (refuse st) (thermostat_rules st) _ (free, tt) (λ _. free)
  quiet_free bus_suspend = free

  stays_free : is_sound u ≡ true → (c : Call) → NoBreak (heard c (step u c).answer) → Free (step u c).unit.state
  unfolding soundly bulk_out out_plan take_message taking reset_by_bus made fresh
  stays_free sound c = subst (λ (r : Result). NoBreak (heard c r.answer) → Free r.unit.state) (sym (step_sound u c sound)) (by c)
    where
      by : (c : Call) → NoBreak (heard c (soundly u c).answer) → Free (soundly u c).unit.state
      by (setup_packet p) = setup_free p
      by (out_packet s) = λ _. planned_free (outcome st s)
      by (take_into room) = λ _. decide_all (λ (r : Said). Free r.state) (refuse st) (take_rules st room) _ (free, (free, (free, tt))) (λ _. free)
      by bus_reset = λ _. refl
      by (quiet q) = λ _. quiet_free q

-- ** while Bulk-OUT is halted and nothing is held, no call but a break changes that

pub record HaltedClean (u : Device) : Type 0 where
  pub free : keeps_halt u.state.split ≡ false
  pub configured : (view u).configured ≡ true
  pub halted : (view u).halted ≡ 1
  pub held : (view u).held ≡ []
  pub left : (view u).left ≡ 0
  pub end : (view u).end ≡ 0
  pub ready : (view u).ready ≡ 0

module _ (u : Device) (stored : Stored u) (sound : is_sound u ≡ true) (k : HaltedClean u) where
  -- a packet to a halted Bulk-OUT
  packet_nothing : (s : List ℕ) → heard (out_packet s) (step u (out_packet s)).answer ≡ nothing
  unfolding heard heard_packet ◌and◌ pick
  packet_nothing s =
      ⊎_elim (λ e. by 1 e refl) (λ a. ⊎_elim (λ e. by 2 e.0 refl) (λ b. ⊎_elim (λ e. by 3 e.0 refl) (λ c. ⊎_elim (λ e. by 4 e.0 refl) (λ d. absurd (d.0 k.halted)) c.1) b.1) a.1)
      (⊎_elim (λ e. inl e.0) inr (rule_for_every u (out_packet s)))
    where
      by : (n : ℕ) → (step u (out_packet s)).answer.verdict.number ≡ n → heard_packet s n ≡ nothing → heard_packet s (step u (out_packet s)).answer.verdict.number ≡ nothing
      by n e f = ap (heard_packet s) e ∙ f

  -- any call
  unheard : (c : Call) → InOctets c → NoBreak (heard c (step u c).answer) → view (step u c).unit ≡ view u
  unfolding heard
  unheard (setup_packet p) i n = subst (λ (h : Heard). Effect (view u) h (view (step u (setup_packet p)).unit)) (setup_nothing p.packet (step u (setup_packet p)).answer n)
      (effect u stored sound (setup_packet p) i)
  unheard (out_packet s) i n = subst (λ (h : Heard). Effect (view u) h (view (step u (out_packet s)).unit)) (packet_nothing s) (effect u stored sound (out_packet s) i)
  unheard (take_into room) i n =
      ⊎_elim (λ e. let h = subst (λ (h : Heard). Effect (view u) h (view (step u (take_into room)).unit)) (at_true _ _ _ e) (effect u stored sound (take_into room) i) in let a = h.ready in
      let b = k.ready in absurd (omega arith))
      (λ e. subst (λ (h : Heard). Effect (view u) h (view (step u (take_into room)).unit)) (at_false _ _ _ e) (effect u stored sound (take_into room) i))
      (cases ((step u (take_into room)).answer.verdict.number =ᵇ 0))
  unheard bus_reset i n =
      ⊎_elim (λ e. absurd (subst NoBreak (at_true _ _ _ e) n)) (λ e. subst (λ (h : Heard). Effect (view u) h (view (step u bus_reset).unit)) (at_false _ _ _ e) (effect u stored sound bus_reset i))
      (cases ((step u bus_reset).answer.verdict.number =ᵇ 0))
  unheard (quiet q) i n = effect u stored sound (quiet q) i

  stays_clean : (c : Call) → InOctets c → NoBreak (heard c (step u c).answer) → HaltedClean (step u c).unit
  stays_clean c i n =
      let e = unheard c i n in
      record {
        free = stays_free u k.free sound c n;
        configured = ap (λ (w : View). w.configured) e ∙ k.configured;
        halted = ap (λ (w : View). w.halted) e ∙ k.halted;
        held = ap (λ (w : View). w.held) e ∙ k.held;
        left = ap (λ (w : View). w.left) e ∙ k.left;
        end = ap (λ (w : View). w.end) e ∙ k.end;
        ready = ap (λ (w : View). w.ready) e ∙ k.ready;
      }

between_clean : (calls : List Call) (u : Device) → Stored u → is_sound u ≡ true → HaltedClean u → AllInOctets calls → NoBreaks (trace step u calls)
    → Stored (after step u calls) × (is_sound (after step u calls) ≡ true) × HaltedClean (after step u calls) × (packet_size (after step u calls).state ≡ packet_size u.state)
unfolding trace after
between_clean [] u st so k i n = (st, so, k, refl)
between_clean (c ∷ calls) u st so k i n =
    let r = between_clean calls (step u c).unit (keeps_stored u c st) (keeps_sound u c so) (stays_clean u st so k c i.0 n.0) i.1 n.1 in
    (r.0, r.1, r.2, r.3 ∙ step_size u c st so i.0)

-- ** CLEAR_FEATURE on 0x01 then ends the halt

read_feature : read_setup CLEAR_FEATURE_OUT ≡ Some (Asks (ClearFeature Out))
unfolding computed
read_feature = refl

check_octets : Octets CHECK_CLEAR_STATUS
unfolding ◌and◌
check_octets = octets_of CHECK_CLEAR_STATUS refl

feature_octets : Octets CLEAR_FEATURE_OUT
unfolding ◌and◌
feature_octets = octets_of CLEAR_FEATURE_OUT refl

module _ (u : Device) (stored : Stored u) (sound : is_sound u ≡ true) (k : HaltedClean u) (room : ℕ) where
  abbrev Runs : Result → Type 0
  Runs r = r.answer.verdict.number ≡ 0 → (is_configured r.unit.state ≡ true) × ((out_of r.unit.state).halted ≡ 0)

  feature_runs : Runs (step u (setup_of CLEAR_FEATURE_OUT room))
  unfolding soundly setup setup_outcome answered asked answer_row effected clear_feature_out broken
  feature_runs =
      subst Runs (sym (step_sound u (setup_of CLEAR_FEATURE_OUT room) sound))
      (decide_all (λ (x : SetupOutcome). Runs (answered u x)) Err (setup_rules (length CLEAR_FEATURE_OUT) room) _ ((λ e. absurd (omega arith)), tt)
      (λ _. subst (λ (x : Option Setup). Runs (answered u (asked u.state x))) (sym read_feature)
      (pick_all (λ (x : SetupOutcome). Runs (answered u x)) (is_configured u.state) _ _ (λ c _. (c, at_false _ _ _ k.free)) (λ _ e. absurd (omega arith)))))

  abbrev x : View
  x = view (step u (setup_of CLEAR_FEATURE_OUT room)).unit

  feature_breaks : (step u (setup_of CLEAR_FEATURE_OUT room)).answer.verdict.number ≡ 0 → Broken (view u) x
  unfolding heard heard_setup pick ◌and◌
  feature_breaks e = subst (λ (h : Heard). Effect (view u) h x) (at_true _ _ _ (eq-eqb _ _ e)) (effect u stored sound (setup_of CLEAR_FEATURE_OUT room) feature_octets)

  pub after_feature : (pieces : List Piece) → Sendable pieces → (step u (setup_of CLEAR_FEATURE_OUT room)).answer.verdict.number ≡ 0
      → Serving x (Stand (packet_size u.state) x (sending (packet_size u.state) pieces) (command pieces))
  after_feature pieces sendable e =
      let b = feature_breaks e in
      let held = b.drops k.ready in
      record {
        configured = (feature_runs e).0;
        running = (feature_runs e).1;
        at = lacks (command pieces) (b.ready ∙ k.ready)
            (follows_as (packet_size u.state) 0 _ 0 _ 0 _ _ _ (sym b.left) (sym b.end) (sym (ap length held)) (starts_following (packet_size u.state) pieces sendable))
            (ap (λ (l : List ℕ). l ++ command pieces) held);
      }

-- ** what SUCCESS leaves

module _ (u : Device) (control : ℕ) (sound : is_sound u ≡ true) (s : Succeeds (step u (setup_of CHECK_CLEAR_STATUS control)).answer) where
  pub success_clean : HaltedClean (step u (setup_of CHECK_CLEAR_STATUS control)).unit
  success_clean =
      let c = cleared u control s in
      let out = out_is u control (sound_of _ sound) _ c in
      subst HaltedClean (sym c.unit) (record {
        free = refl;
        configured = c.configured;
        halted = ap (λ (o : BulkOut). o.halted) out;
        held = ap (λ (o : BulkOut). take o.message.held u.message) out;
        left = ap (λ (o : BulkOut). o.transfer.left) out;
        end = ap (λ (o : BulkOut). o.transfer.end) out;
        ready = ap (λ (o : BulkOut). o.message.ready) out;
      })

-- THE THEOREM
pub command_after_clear : CommandAfterClear step
command_after_clear u control feature between pieces calls stored sound s unbroken octets done sendable later =
    let v = (step u (setup_of CHECK_CLEAR_STATUS control)).unit in
    let st = keeps_stored u (setup_of CHECK_CLEAR_STATUS control) stored in
    let so = keeps_sound u (setup_of CHECK_CLEAR_STATUS control) sound in
    let b = between_clean between v st so (success_clean u control sound s) octets unbroken in
    let w = after step v between in
    let same = b.3 ∙ step_size u (setup_of CHECK_CLEAR_STATUS control) stored sound check_octets in
    arrives (packet_size u.state) (command pieces) calls _ (coming (sending (packet_size u.state) pieces)) (keeps_stored w (setup_of CLEAR_FEATURE_OUT feature) b.0)
    (keeps_sound w (setup_of CLEAR_FEATURE_OUT feature) b.1)
    (step_size w (setup_of CLEAR_FEATURE_OUT feature) b.0 b.1 feature_octets ∙ same) later
    (subst (λ (p : ℕ). Serving (view (step w (setup_of CLEAR_FEATURE_OUT feature)).unit) (Stand p (view (step w (setup_of CLEAR_FEATURE_OUT feature)).unit) (sending p pieces) (command pieces))) same
    (after_feature w b.0 b.1 b.2 feature pieces sendable done))
