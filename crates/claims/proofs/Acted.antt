-- The thermostat is told just what it is to be told.
-- Assumes nothing.
use Prim.Native.Nat.{ℕ, ◌-◌, ◌≤◌}
use mathlib.Core.Path.{◌≡◌, refl, sym, ap, ◌∙◌, subst}
use mathlib.Core.Bool.{true}
use mathlib.Core.List.{List, [], ◌∷◌, ◌++◌}
use mathlib.Core.Logic.{⊎_elim}
use native.Mathlib.Omega.{arith}
use lib.ListN.{length, drop}
use borrow.Author.Tests.{eq-eqb, ne_eqb, lt-ltb, le-ltb}
use Rattle.rules.specs.Answers.{refusing}
use Rattle.rules.specs.When.{Not}
use Rattle.rules.proofs.Choice.{pick_all, decide_all, at_true, at_false}
use Rattle.wire.specs.When.{at, four_at}
use Rattle.rules.specs.Answers.{Leaves, as_ruled, unchanged, out_halted, leaves}
use Rattle.wire.specs.declared.types.Header.TheVariants.{Message, Request, Trigger}
use Rattle.wire.proofs.When.{header_law}
use Rattle.port.specs.Parts.{is_size, out_of, fresh}
use Rattle.port.specs.Answer.{Answer, Said, refuse}
use Rattle.port.specs.Out.{plain, outcome, planned, accepted as acceptance, out_plan}
use Rattle.port.specs.In.{in_rules, poll}
use Rattle.port.specs.Interrupt.{interrupt_rules, poll_interrupt}
use Rattle.port.specs.Device.{Device, Result, is_sound, made, power_on}
use Rattle.port.specs.Calls.{with_message, bulk_out, bulk_in, interrupt_in, take_rules, taking, take_message, offer_rules, offer_plan}
use Rattle.port.specs.Calls.{offer, thermostat_rules, status_set, set_status_byte, returned, panel, reset_by_bus, suspend}
use Rattle.port.specs.Step.{Quiet, in_poll, interrupt_poll, offer_reply, set_status, front_panel, bus_suspend}
use Rattle.port.specs.Step.{Call, setup_packet, out_packet, take_into, bus_reset, quiet, quietly, soundly, step}
use Rattle.port.specs.Laws.{Stored, LeftAs}
use Rattle.port.specs.Trace.{trace, Octets, InOctets, AllInOctets}
use Rattle.port.specs.When.{given}
use Rattle.port.specs.Reply.{due_after}
use Rattle.port.specs.declared.types.Plan.{Plan}
use Rattle.port.specs.declared.types.State.{State}
use Rattle.port.specs.declared.types.Outcome.{Outcome}
use Rattle.port.specs.declared.types.Outcome.TheVariants.{Keep, Halt, Data, Accept}
use Rattle.port.proofs.Calls.{power_on_sound, power_on_stored, step_sound, leaves_table, keeps_sound, keeps_stored}
use Rattle.port.proofs.When.{rule_for_every}
use Rattle.claims.specs.Command.{header, IsTrigger}
use Rattle.claims.specs.Wire.{Heard, nothing, accepted, broken_off, wiped_out, handed_over, heard_packet, heard}
use Rattle.claims.specs.Acted.{due_behind, Triggering, Pulsing, Acts, Acting}
use Rattle.claims.specs.Claims.{ActsOnlyOn, ActsOnlyOnEver}
use Rattle.claims.proofs.Digits.{in_four}
use Rattle.claims.proofs.Packets.{Facts, outcome_facts, passing}
use Rattle.claims.proofs.Accepted.{triggers}
use Rattle.claims.proofs.Effects.{View, view, Taken, empty, other, all_at_once, begins, ends, goes_on, Effect}
use Rattle.claims.proofs.Steps.{effect}
use Rattle.claims.proofs.Handed.{fine}
use Rattle.claims.proofs.Pulses.{setup_acts}

-- ** what is to come behind a packet

due_closed : (s : List ℕ) → Not (at s 0 ≡ 1) → due_after 0 s ≡ 0
due_closed s n = at_false _ _ _ (le-ltb 0 0 (omega arith)) ∙ at_false _ _ _ (ne_eqb (at s 0) 1 n)

due_header : (s : List ℕ) (tag size end : ℕ) (r : List ℕ) → size ≤ 1024 → s ≡ header tag size end ++ r → due_after 0 s ≡ size - length r
due_header s tag size end r fits is =
    at_false _ _ _ (le-ltb 0 0 (omega arith))
    ∙ at_true _ _ _ (eq-eqb (at s 0) 1 (ap (λ (l : List ℕ). at l 0) is))
    ∙ (λ i. (ap (λ (l : List ℕ). four_at l 4) is ∙ in_four size fits) i - (length (is i) - 12))
    ∙ less
  where
    less : size - (length (header tag size end ++ r) - 12) ≡ size - length r
    less = omega arith

due_open : (due : ℕ) (s : List ℕ) → Not (due ≡ 0) → due_after due s ≡ due - length s
due_open due s n = at_true _ _ _ (lt-ltb 0 due (omega arith))

pub due_taken : (w : View) (s : List ℕ) (x : View) → Taken w s x → x.left ≡ due_after w.left s
due_taken w s x (empty is closed e) = ap (λ (v : View). v.left) e ∙ closed
    ∙ sym (ap (λ (d : ℕ). due_after d s) closed ∙ due_closed s (λ z. let k : ◌≡◌ {A = ℕ} 0 1 = ap (λ (l : List ℕ). at l 0) (sym is) ∙ z in omega arith))
due_taken w s x (other is closed none e) =
    ap (λ (v : View). v.left) e ∙ closed
    ∙ sym (ap (λ (d : ℕ). due_after d s) closed
    ∙ due_closed s (⊎_elim (λ k z. let a : ◌≡◌ {A = ℕ} 2 1 = ap (λ (l : List ℕ). at l 0) (sym k.bytes) ∙ z in omega arith)
    (λ k z. let a : ◌≡◌ {A = ℕ} 128 1 = ap (λ (l : List ℕ). at l 0) (sym k.bytes) ∙ z in omega arith) is))
due_taken w s x (all_at_once o closed long fits e) =
    ap (λ (v : View). v.left) e
    ∙ sym (ap (λ (k : ℕ). due_after k s) closed ∙ due_header s o.tag o.size o.end (drop 12 s) (let k = o.room in omega arith) o.bytes
    ∙ omega arith)
due_taken w s x (begins o closed full less e) =
    ap (λ (v : View). v.left) e ∙ sym (ap (λ (k : ℕ). due_after k s) closed ∙ due_header s o.tag o.size o.end (drop 12 s) (let k = o.room in omega arith) o.bytes)
due_taken w s x (ends opened long fits e) = ap (λ (v : View). v.left) e ∙ sym (due_open w.left s opened ∙ omega arith)
due_taken w s x (goes_on opened full less e) = ap (λ (v : View). v.left) e ∙ sym (due_open w.left s opened)

-- ** a call that is not answered 0

pub refusal_gives_nothing : (u : Device) (c : Call) → Not ((step u c).answer.verdict.number ≡ 0) → ((step u c).answer.bytes ≡ []) × ((step u c).answer.verdict.tells ≡ 0)
refusal_gives_nothing u c n = by (leaves (step u c).answer.verdict.number) (leaves_table u c n)
  where
    by : (l : Leaves) → LeftAs l u (step u c) → ((step u c).answer.bytes ≡ []) × ((step u c).answer.verdict.tells ≡ 0)
    by as_ruled k = absurd k
    by unchanged k = (ap (λ (r : Result). r.answer.bytes) k, ap (λ (r : Result). r.answer.verdict.tells) k)
    by out_halted k = (ap (λ (r : Result). r.answer.bytes) k, ap (λ (r : Result). r.answer.verdict.tells) k)

-- ** a packet

-- what is heard, as a number
abbrev sort : Heard → ℕ
sort nothing = 0
sort (accepted s) = 1
sort broken_off = 2
sort wiped_out = 3
sort (handed_over bytes) = 4

accepts_0 : (s : List ℕ) (n k : ℕ) (h : Heard) → n ≡ 0 → heard_packet s n ≡ h → sort h ≡ k → k ≡ 1
accepts_0 s n k h z e f = sym f ∙ ap sort (sym e ∙ ap (heard_packet s) z ∙ passing s)

first_byte : (s : List ℕ) → IsTrigger s → at s 0 ≡ 128
first_byte s t = ap (λ (l : List ℕ). at l 0) t.bytes

module _ (u : Device) (sound : is_sound u ≡ true) where
  abbrev st : State
  st = u.state

  module _ (p : List ℕ) (octets : Octets p) where
    -- tells nothing, and is no TRIGGER
    quiet_packet : (a : Answer) → a.verdict.tells ≡ 0 → (Triggering (out_of st).transfer.left (out_packet p) → Not (a.verdict.number ≡ 0))
        → (Not (a.verdict.number ≡ 0) → (a.bytes ≡ []) × (a.verdict.tells ≡ 0)) → Acts (out_of st).transfer.left (out_packet p) a
    quiet_packet a e n r = record {
      tells = omega arith;
      triggered = λ z. absurd (omega arith);
      triggers = λ t z. absurd (n t z);
      pulsed = λ z. absurd (omega arith);
      pulses = λ z. absurd z;
      refused = r;
    }

    packet_acts : (x : Outcome) → Facts st p x → given u (out_packet p) (planned st x).verdict.number → Acts (out_of st).transfer.left (out_packet p) (with_message u p (planned st x)).answer
    unfolding planned acceptance
    packet_acts (Keep n) f g =
        quiet_packet _ refl (λ t z. ⊎_elim (λ k. let l = ap length t.1.bytes in let m = k.1 in omega arith) (λ k. let e = accepts_0 p n 0 nothing z k refl in omega arith) f)
        (λ _. (refl, refl))
    packet_acts (Halt n) f g = quiet_packet _ refl (λ t z. let e = accepts_0 p n 2 broken_off z f refl in omega arith) (λ _. (refl, refl))
    packet_acts (Data count) f g = quiet_packet _ refl (λ t z. f.0 t.0) (λ n. absurd (n refl))
    packet_acts (Accept (Message tag size end) count) f g =
        quiet_packet _ refl (λ t z. let m = (header_law.meaning p (Message tag size end) f.3).0 in let k = first_byte p t.1 in omega arith) (λ n. absurd (n refl))
    packet_acts (Accept (Request tag size enabled term) count) f g =
        quiet_packet _ refl (λ t z. let m = (header_law.meaning p (Request tag size enabled term) f.3).0 in let k = first_byte p t.1 in omega arith) (λ n. absurd (n refl))
    packet_acts (Accept (Trigger tag) count) f g =
        let m = header_law.meaning p (Trigger tag) f.3 in
        record {
          tells = omega arith;
          triggered = λ _. ((f.0, triggers u p g f.0 f.1 octets tag (four_at p 4) m.1 refl m.0), refl);
          triggers = λ _ _. refl;
          pulsed = λ z. absurd (omega arith);
          pulses = λ z. absurd z;
          refused = λ n. absurd (n refl);
        }

    out_acts : Acts (out_of st).transfer.left (out_packet p) (step u (out_packet p)).answer
    unfolding soundly bulk_out out_plan
    out_acts =
        subst (λ (r : Result). Acts (out_of st).transfer.left (out_packet p) r.answer) (sym (step_sound u (out_packet p) sound))
        (packet_acts (outcome st p) (outcome_facts st p) (subst (λ (r : Result). given u (out_packet p) r.answer.verdict.number) (step_sound u (out_packet p) sound)
        (rule_for_every u (out_packet p))))

  -- ** calls that tell nothing

  untold : (q : Quiet) → (quietly u q).answer.verdict.tells ≡ 0
  unfolding quietly bulk_in poll interrupt_in poll_interrupt offer offer_plan set_status_byte status_set panel returned suspend
  untold (in_poll room) = decide_all (λ (r : Said). r.answer.verdict.tells ≡ 0) (refuse st) (in_rules st room) _ (refl, (refl, (refl, (refl, tt)))) (λ _. refl)
  untold (interrupt_poll room) = decide_all (λ (r : Said). r.answer.verdict.tells ≡ 0) (refuse st) (interrupt_rules st room) _ (refl, (refl, (refl, (refl, tt)))) (λ _. refl)
  untold (offer_reply bytes) = decide_all (λ (r : Plan). r.verdict.tells ≡ 0) (λ k. plain st (refusing k)) (offer_rules st (length bytes)) _ (refl, (refl, (refl, tt))) (λ _. refl)
  untold (set_status status) = decide_all (λ (r : Said). r.answer.verdict.tells ≡ 0) (refuse st) (thermostat_rules st) _ (refl, tt) (λ _. refl)
  untold front_panel = decide_all (λ (r : Said). r.answer.verdict.tells ≡ 0) (refuse st) (thermostat_rules st) _ (refl, tt) (λ _. refl)
  untold bus_suspend = refl

  take_untold : (room : ℕ) → (take_message u room).answer.verdict.tells ≡ 0
  unfolding take_message taking
  take_untold room = decide_all (λ (r : Said). r.answer.verdict.tells ≡ 0) (refuse st) (take_rules st room) _ (refl, (refl, (refl, tt))) (λ _. refl)

  -- ** any call

  silent_acts : (c : Call) → (Triggering (out_of st).transfer.left c → ⊥) → (Pulsing c → ⊥) → (step u c).answer.verdict.tells ≡ 0 → Acts (out_of st).transfer.left c (step u c).answer
  silent_acts c t p e = record {
    tells = omega arith;
    triggered = λ z. absurd (omega arith);
    triggers = λ k. absurd (t k);
    pulsed = λ z. absurd (omega arith);
    pulses = λ k. absurd (p k);
    refused = refusal_gives_nothing u c;
  }

  by_step : (c : Call) → (soundly u c).answer.verdict.tells ≡ 0 → (step u c).answer.verdict.tells ≡ 0
  by_step c e = ap (λ (r : Result). r.answer.verdict.tells) (step_sound u c sound) ∙ e

  acts : (c : Call) → InOctets c → Acts (out_of st).transfer.left c (step u c).answer
  unfolding soundly reset_by_bus
  acts (setup_packet p) i = setup_acts u (out_of st).transfer.left p sound
  acts (out_packet s) i = out_acts s i
  acts (take_into room) i = silent_acts (take_into room) (λ z. z) (λ z. z) (by_step (take_into room) (take_untold room))
  acts bus_reset i = silent_acts bus_reset (λ z. z) (λ z. z) (by_step bus_reset refl)
  acts (quiet q) i = silent_acts (quiet q) (λ z. z) (λ z. z) (by_step (quiet q) (untold q))

-- ** a run

due_on : (w : View) (h : Heard) (x : View) → (w.ready ≡ 1 → w.left ≡ 0) → Effect w h x → x.left ≡ due_behind w.left h
due_on w nothing x f k = ap (λ (v : View). v.left) k
due_on w (accepted s) x f k = due_taken w s x k.1
due_on w broken_off x f k = k.left
due_on w wiped_out x f k = k.left
due_on w (handed_over m) x f k = ap (λ (v : View). v.left) k.after

acting : (calls : List Call) (u : Device) → Stored u → is_sound u ≡ true → AllInOctets calls → Acting (out_of u.state).transfer.left (trace step u calls)
unfolding trace
acting [] u st so i = tt
acting (c ∷ calls) u st so i = (
  acts u so c i.0,
  subst (λ (n : ℕ). Acting n (trace step (step u c).unit calls)) (due_on (view u) (heard c (step u c).answer) (view (step u c).unit) (fine u st so).closed (effect u st so c i.0))
      (acting calls (step u c).unit (keeps_stored u c st) (keeps_sound u c so) i.1),
)

pub acts_only_on : ActsOnlyOn step
acts_only_on u calls st so i = acting calls u st so i

pub acts_only_on_ever : ActsOnlyOnEver step
unfolding power_on made fresh
acts_only_on_ever setting calls i = subst (λ (n : ℕ). Acting n (trace step (power_on setting).unit calls)) none
    (acting calls (power_on setting).unit (power_on_stored setting) (power_on_sound setting) i)
  where
    none : (out_of (power_on setting).unit.state).transfer.left ≡ 0
    none = pick_all (λ (r : Result). (out_of r.unit.state).transfer.left ≡ 0) (is_size setting.packet) _ _ (λ _. refl) (λ _. refl)
