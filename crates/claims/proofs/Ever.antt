-- A whole command arrives, over calls and answers from power-on: where no packet of a command was accepted since the message or break before, none is held.
-- Assumes nothing.
use Prim.Native.Nat.{ℕ}
use mathlib.Core.Path.{◌≡◌, refl, sym, ap, ◌∙◌, subst}
use mathlib.Core.Bool.{true}
use mathlib.Core.List.{List, [], ◌∷◌, ◌++◌, append-nil, append_assoc}
use mathlib.Core.Logic.{◌⊎◌, inl, inr}
use native.Mathlib.Omega.{arith}
use lib.ListN.{length, get_or}
use Rattle.std.specs.Prelude.{Option, Some}
use Rattle.rules.specs.declared.refusal.Refusal.{Refusal}
use Rattle.rules.specs.Answers.{number_of}
use Rattle.rules.specs.Answers.{done}
use Rattle.rules.proofs.Choice.{pick_all, decide_all}
use Rattle.wire.specs.Setup.{read_setup}
use Rattle.wire.specs.declared.types.Endpoint.TheVariants.{Out}
use Rattle.wire.specs.declared.types.Row.TheVariants.{GetStatus}
use Rattle.wire.specs.declared.types.Setup.{Setup}
use Rattle.wire.specs.declared.types.Setup.TheVariants.{Asks}
use Rattle.port.specs.Parts.{packet_size, out_of, is_configured}
use Rattle.port.specs.Answer.{Answer}
use Rattle.port.specs.Rows.{answer_row}
use Rattle.port.specs.Device.{Device, Result, is_sound, power_on}
use Rattle.port.specs.Calls.{setup_rules, asked, setup_outcome, answered, setup}
use Rattle.port.specs.Step.{setup_of, soundly, step, after}
use Rattle.port.specs.Trace.{Event, trace}
use Rattle.port.specs.Laws.{Stored}
use Rattle.port.specs.Answer.{SetupOutcome}
use Rattle.std.specs.Prelude.{Err}
use Rattle.port.proofs.Opened.{computed}
use Rattle.port.proofs.Calls.{power_on_sound, power_on_stored, step_sound}
use Rattle.claims.specs.Command.{command, sending, Others}
use Rattle.claims.specs.Wire.{Heard, nothing, accepted, broken_off, wiped_out, handed_over, heard_of, accepted_of}
use Rattle.claims.specs.Wire.{accepted_in, Passes, Unbroken, Divides, Divided, since_by, accepted_since}
use Rattle.claims.specs.Handed.{begun}
use Rattle.claims.specs.Arrival.{older, coming, Arrives}
use Rattle.claims.specs.Fresh.{GET_STATUS_OUT}
use Rattle.claims.specs.Claims.{WholeCommandEver}
use Rattle.claims.proofs.Effects.{view}
use Rattle.claims.proofs.History.{follows_as, Since, Known, idle, partly, partly_from, ready}
use Rattle.claims.proofs.Handed.{known_after, nothing_held}
use Rattle.claims.proofs.Landing.{lacks}
use Rattle.claims.proofs.Arrives.{arrives, starts_following}

-- ** the packets accepted since the message or break before

since_append : (ps : List (List ℕ)) (a b : List Event) → accepted_since ps (a ++ b) ≡ accepted_since (accepted_since ps a) b
since_append ps [] b = refl
since_append ps (e ∷ a) b = since_append (since_by ps (heard_of e)) a b

since_unbroken : (ps : List (List ℕ)) (b : List Event) → Unbroken b → accepted_since ps b ≡ ps ++ accepted_in b
since_unbroken ps [] u = sym (append-nil ps)
since_unbroken ps (e ∷ b) u = since_unbroken (since_by ps (heard_of e)) b u.1 ∙ ap (λ (l : List (List ℕ)). l ++ accepted_in b) (one (heard_of e) u.0)
    ∙ append_assoc ps (accepted_of (heard_of e)) (accepted_in b)
  where
    one : (h : Heard) → Passes h → since_by ps h ≡ ps ++ accepted_of h
    one nothing p = sym (append-nil ps)
    one (accepted s) p = refl
    one broken_off p = absurd p
    one wiped_out p = absurd p
    one (handed_over m) p = absurd p

divided_any : (ps : List (List ℕ)) (e : Event) (a : List Event) → Divided (e ∷ a) → accepted_since ps (e ∷ a) ≡ []
divided_any ps e [] d = one (heard_of e) d
  where
    one : (h : Heard) → Divides h → since_by ps h ≡ []
    one nothing p = absurd p
    one (accepted s) p = absurd p
    one broken_off p = refl
    one wiped_out p = refl
    one (handed_over m) p = refl
divided_any ps e (f ∷ a) d = divided_any (since_by ps (heard_of e)) f a d

since_divided : (a : List Event) → Divided a → accepted_since [] a ≡ []
since_divided [] d = refl
since_divided (e ∷ a) d = divided_any [] e a d

since_is : (es : List Event) (ps : List (List ℕ)) → Since es ps → accepted_since [] es ≡ ps
since_is es ps k =
    ap (accepted_since []) k.stretches
    ∙ since_append [] k.earlier k.bringing
    ∙ ap (λ (l : List (List ℕ)). accepted_since l k.bringing) (since_divided k.earlier k.first)
    ∙ since_unbroken [] k.bringing k.unbroken
    ∙ k.packets

-- ** GET_STATUS on 0x01 says that the unit is configured and Bulk-OUT runs

read_status_lem : read_setup GET_STATUS_OUT ≡ Some (Asks (GetStatus Out))
unfolding computed
read_status_lem = refl

module _ (u : Device) (sound : is_sound u ≡ true) (control : ℕ) where
  abbrev Runs : Result → Type 0
  Runs r = r.answer ≡ record { verdict = done; bytes = 0 ∷ 0 ∷ [] } → (is_configured u.state ≡ true) × ((out_of u.state).halted ≡ 0)

  refuses : (k : Refusal) → (number_of k ≡ 0 → ⊥) → Runs (answered u (Err k))
  unfolding answered
  refuses k n e = absurd (n (ap (λ (a : Answer). a.verdict.number) e))

  runs : Runs (step u (setup_of GET_STATUS_OUT control))
  unfolding soundly setup setup_outcome answered asked answer_row
  runs =
      subst Runs (sym (step_sound u (setup_of GET_STATUS_OUT control) sound))
      (decide_all (λ (x : SetupOutcome). Runs (answered u x)) Err (setup_rules (length GET_STATUS_OUT) control) _ (refuses Refusal.WrongSize (λ e. omega arith), tt)
      (λ _. subst (λ (x : Option Setup). Runs (answered u (asked u.state x))) (sym read_status_lem)
      (pick_all (λ (x : SetupOutcome). Runs (answered u x)) (is_configured u.state) _ _ (λ c e. (c, ap (λ (a : Answer). get_or a.bytes 0 0) e)) (λ _. refuses Refusal.UnknownRow (λ e. omega arith)))))

-- THE THEOREM
pub whole_command_ever : WholeCommandEver step
whole_command_ever setting before control pieces calls octets says others sendable later =
    let d = (power_on setting).unit in
    let k = known_after (packet_size d.state) (begun d) ⊥ before d [] (power_on_stored setting) (power_on_sound setting) refl octets (nothing_held setting) in
    by k.0 (runs (after step d before) k.3 control says) k.2 k.3
  where
    by : {P : ℕ} → Known P (begun (power_on setting).unit) ⊥ (trace step (power_on setting).unit before) (view (after step (power_on setting).unit before))
        → (is_configured (after step (power_on setting).unit before).state ≡ true) × ((out_of (after step (power_on setting).unit before).state).halted ≡ 0)
        → Stored (after step (power_on setting).unit before) → is_sound (after step (power_on setting).unit before) ≡ true
        → let P' = packet_size (after step (power_on setting).unit before).state in
        Arrives P' (command pieces) (older (sending P' pieces)) (trace step (after step (power_on setting).unit before) calls)
        ⊎ Arrives P' (command pieces) (coming (sending P' pieces)) (trace step (after step (power_on setting).unit before) calls)
    by (idle ps k o held left end r) runs st so =
        let P = packet_size (after step (power_on setting).unit before).state in
        inr (arrives P (command pieces) calls _ (coming (sending P pieces)) st so refl later
        (record {
          configured = runs.0;
          running = runs.1;
          at = lacks (command pieces) r
              (follows_as P 0 _ 0 _ 0 _ _ _ (sym left) (sym end) (sym (ap length held)) (starts_following P pieces sendable)) (ap (λ (l : List ℕ). l ++ command pieces) held);
        }))
    by (partly ps k becomes some n r) runs st so = absurd (n (subst Others (since_is _ ps k) others))
    by (partly_from ps from k becomes some r) runs st so = absurd from
    by (ready source r) runs st so =
        let P = packet_size (after step (power_on setting).unit before).state in
        inl (arrives P (command pieces) calls _ (older (sending P pieces)) st so refl later (record { configured = runs.0; running = runs.1; at = (r, starts_following P pieces sendable) }))
