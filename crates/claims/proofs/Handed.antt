-- No half command: every message of a run was brought.
-- Assumes nothing.
use Prim.Native.Nat.{ℕ, ◌+◌}
use mathlib.Core.Path.{◌≡◌, refl, sym, ap, ◌∙◌, subst}
use mathlib.Core.Bool.{true}
use mathlib.Core.List.{List, [], ◌∷◌, ◌++◌, append-nil, append_assoc}
use mathlib.Core.Logic.{◌⊎◌, inl, inr, ⊎_elim}
use native.Mathlib.Omega.{arith}
use lib.ListN.{length, length-append, length-take}
use borrow.Author.Tests.{eqb-true, eqb-false}
use Rattle.rules.specs.Choice.{◌=ᵇ◌}
use Rattle.rules.proofs.Choice.{pick_all}
use Rattle.port.specs.Parts.{packet_size, is_size, out_of, fresh}
use Rattle.port.specs.Device.{Device, Result, is_sound, made, power_on}
use Rattle.port.specs.Step.{Call, step, after}
use Rattle.port.specs.Trace.{Event, trace, InOctets, AllInOctets}
use Rattle.port.specs.Laws.{Stored}
use Rattle.port.specs.declared.types.Setting.{Setting}
use Rattle.port.specs.declared.types.BulkOut.{BulkOut}
use Rattle.port.proofs.Sizes.{size_of}
use Rattle.port.proofs.Soundness.{sound_of}
use Rattle.port.proofs.KeepsOut.{cases, out_held}
use Rattle.port.proofs.Calls.{power_on_sound, power_on_stored, keeps_sound, keeps_stored}
use Rattle.claims.specs.Wire.{Heard, nothing, accepted, broken_off, wiped_out, handed_over, heard, heard_of}
use Rattle.claims.specs.Handed.{Brought, Begun, Finished, Allowed, Legal, begun}
use Rattle.claims.specs.Claims.{NoHalfCommand, NoHalfCommandEver}
use Rattle.claims.proofs.Effects.{View, view, Taken, empty, other, all_at_once, begins, ends, goes_on, Effect}
use Rattle.claims.proofs.Steps.{effect}
use Rattle.claims.proofs.Follows.{nil, none_sent}
use Rattle.claims.proofs.History.{Fine, Since, Known, idle, partly_from, ready, event_on}

-- ** units

module _ (u : Device) (stored : Stored u) (sound : is_sound u ≡ true) where
  pub fine : Fine (packet_size u.state) (view u)
  fine =
      let s = (sound_of u.state sound).out in
      let o = out_of u.state in
      record {
        same = refl;
        flag = ⊎_elim (λ k. inl k.1.unready) (λ k. ⊎_elim (λ e. inr (eqb-true o.message.ready 1 e))
            (λ e. inl (let n = eqb-false o.message.ready 1 e in let f = k.1.ready in omega arith)) (cases (o.message.ready =ᵇ 1))) s;
        closed = λ r. ⊎_elim (λ k. let z = k.1.unready in absurd (omega arith)) (λ k. k.0) s;
        resting = λ e. ⊎_elim (λ k. absurd (k.0 e)) (λ k. k.1.end) s;
        fits = let h = out_held u.state (sound_of u.state sound) in let k = length-take o.message.held u.message in omega arith;
      }

-- P stays
taken_size : (w : View) (s : List ℕ) (x : View) → Taken w s x → x.size ≡ w.size
taken_size w s x (empty _ _ e) = ap (λ (v : View). v.size) e
taken_size w s x (other _ _ _ e) = ap (λ (v : View). v.size) e
taken_size w s x (all_at_once _ _ _ _ e) = ap (λ (v : View). v.size) e
taken_size w s x (begins _ _ _ _ e) = ap (λ (v : View). v.size) e
taken_size w s x (ends _ _ _ e) = ap (λ (v : View). v.size) e
taken_size w s x (goes_on _ _ _ e) = ap (λ (v : View). v.size) e

size_kept : (w : View) (h : Heard) (x : View) → Effect w h x → x.size ≡ w.size
size_kept w nothing x k = ap (λ (v : View). v.size) k
size_kept w (accepted s) x k = taken_size w s x k.1
size_kept w broken_off x k = k.size
size_kept w wiped_out x k = k.size
size_kept w (handed_over m) x k = ap (λ (v : View). v.size) k.after

pub step_size : (u : Device) (c : Call) → Stored u → is_sound u ≡ true → InOctets c → packet_size (step u c).unit.state ≡ packet_size u.state
step_size u c stored sound i = size_kept (view u) (heard c (step u c).answer) (view (step u c).unit) (effect u stored sound c i)

-- ** a run

module _ (P : ℕ) (b : Begun) (From : Type 0) where
  abbrev Source : List Event → List ℕ → Type 0
  Source es m = Brought P es m ⊎ (From × Finished P b es m)

  -- one call
  one_on : (c : Call) (u : Device) (es : List Event) → Stored u → is_sound u ≡ true → packet_size u.state ≡ P → InOctets c → Known P b From es (view u)
      → let e : Event = record { call = c; answer = (step u c).answer } in Allowed Source es (heard_of e) × Known P b From (es ++ (e ∷ [])) (view (step u c).unit)
  one_on c u es st so size i k =
      let v = (step u c).unit in
      let big = size_of P (subst (λ (p : ℕ). is_size p ≡ true) size (sound_of u.state so).port.size) in
      let e : Event = record { call = c; answer = (step u c).answer } in
      event_on P b From es e big.least big.fours (view u) (view v) (subst (λ (p : ℕ). Fine p (view u)) size (fine u st so))
      (subst (λ (p : ℕ). Fine p (view v)) (step_size u c st so i ∙ size) (fine v (keeps_stored u c st) (keeps_sound u c so))) (heard_of e) refl (effect u st so c i) k

  legal : (calls : List Call) (u : Device) (es : List Event) → Stored u → is_sound u ≡ true → packet_size u.state ≡ P → AllInOctets calls → Known P b From es (view u)
      → Legal Source es (trace step u calls)
  unfolding trace
  legal [] u es st so size i k = tt
  legal (c ∷ calls) u es st so size i k =
      let g = one_on c u es st so size i.0 k in
      (g.0, legal calls (step u c).unit _ (keeps_stored u c st) (keeps_sound u c so) (step_size u c st so i.0 ∙ size) i.1 g.1)

  -- and how the history and the unit go together behind it
  pub known_after : (calls : List Call) (u : Device) (es : List Event) → Stored u → is_sound u ≡ true → packet_size u.state ≡ P → AllInOctets calls → Known P b From es (view u)
      → Known P b From (es ++ trace step u calls) (view (after step u calls)) × (packet_size (after step u calls).state ≡ P) × Stored (after step u calls) × (is_sound (after step u calls) ≡ true)
  unfolding trace after
  known_after [] u es st so size i k = (subst (λ (l : List Event). Known P b From l (view u)) (sym (append-nil es)) k, size, st, so)
  known_after (c ∷ calls) u es st so size i k =
      let e : Event = record { call = c; answer = (step u c).answer } in
      let n = one_on c u es st so size i.0 k in
      let r = known_after calls (step u c).unit (es ++ (e ∷ [])) (keeps_stored u c st) (keeps_sound u c so) (step_size u c st so i.0 ∙ size) i.1 n.1 in
      (subst (λ (l : List Event). Known P b From l (view (after step (step u c).unit calls))) (append_assoc es (e ∷ []) (trace step (step u c).unit calls)) r.0, r.1, r.2, r.3)

legal_by : (A B : List Event → List ℕ → Type 0) → ((es : List Event) (m : List ℕ) → A es m → B es m) → (before es : List Event) → Legal A before es → Legal B before es
legal_by A B f before [] l = tt
legal_by A B f before (e ∷ es) l = (one (heard_of e) l.0, legal_by A B f (before ++ (e ∷ [])) es l.1)
  where
    one : (h : Heard) → Allowed A before h → Allowed B before h
    one nothing a = tt
    one (accepted s) a = tt
    one broken_off a = tt
    one wiped_out a = tt
    one (handed_over m) a = f before m a

-- ** from any sound unit

module _ (u : Device) (stored : Stored u) (sound : is_sound u ≡ true) where
  abbrev P : ℕ
  P = packet_size u.state

  starts : Known P (begun u) (Unit {0}) [] (view u)
  starts =
      let f = fine u stored sound in
      let w = view u in
      ⊎_elim (λ r. ⊎_elim
      (λ z. let closed = fine_closed z in idle [] (record { earlier = []; bringing = []; stretches = refl; first = tt; unbroken = tt; packets = refl }) tt
      (nil w.held (eqb-true _ _ z)) closed (f.resting closed) r)
      (λ z. partly_from [] tt (record { unbroken = tt; packets = refl }) (λ q t k. record {
        rest = k.rest;
        alignment = k.alignment;
        pieces = k.pieces;
        lacking = k.lacking;
        aligns = k.aligns;
        good = k.good;
        end = k.mark_is ∙ sym (unmarked r);
        fits = let l = length-append w.held t in let n = k.fits in omega arith;
        sent = k.packets_are;
        message = ap (λ (l : List ℕ). w.held ++ l) k.data_are;
      }) (λ n. eqb-false (length w.held) 0 z (ap length n)) r)
      (cases (length w.held =ᵇ 0)))
      (λ r.
      ready (inr (
        tt,
        record {
          bringing = [];
          later = [];
          stretches = refl;
          unbroken = tt;
          rest = record {
            rest = [];
            alignment = [];
            pieces = [];
            lacking = sym (f.closed r);
            aligns = refl;
            good = tt;
            end = ended r;
            fits = f.fits;
            sent = none_sent P;
            message = sym (append-nil w.held);
          };
          waits = tt;
        },
      )) r)
      f.flag
    where
      o : BulkOut
      o = out_of u.state

      unmarked : o.message.ready ≡ 0 → o.message.ready + o.transfer.end ≡ o.transfer.end
      unmarked r = omega arith

      ended : o.message.ready ≡ 1 → 1 ≡ o.message.ready + o.transfer.end
      ended r = let e = (fine u stored sound).resting ((fine u stored sound).closed r) in omega arith

      -- an open transfer has brought a byte
      fine_closed : (length (view u).held =ᵇ 0) ≡ true → o.transfer.left ≡ 0
      fine_closed z =
          let e : length (view u).held ≡ 0 = eqb-true _ _ z in
          let h = out_held u.state (sound_of u.state sound) in
          let k = length-take o.message.held u.message in
          let l = stored.message in
          ⊎_elim (λ v. let a = v.1.some in let b = v.1.within in absurd (a (omega arith))) (λ v. v.0) (sound_of u.state sound).out

pub no_half_command : NoHalfCommand step
no_half_command u calls st so i =
    legal_by _ _ (λ es m k. ⊎_elim inl (λ f. inr f.1) k) [] (trace step u calls) (legal (packet_size u.state) (begun u) (Unit {0}) calls u [] st so refl i (starts u st so))

-- ** from power-on, where nothing is held

abbrev pub Empty : Result → Type 0
Empty r = Known (packet_size r.unit.state) (begun r.unit) ⊥ [] (view r.unit)

pub nothing_held : (setting : Setting) → Empty (power_on setting)
unfolding power_on made fresh
nothing_held setting =
    pick_all Empty (is_size setting.packet) _ _ (λ _. idle [] since tt refl refl refl refl) (λ _. idle [] since tt refl refl refl refl)
  where
    since : Since [] []
    since = record { earlier = []; bringing = []; stretches = refl; first = tt; unbroken = tt; packets = refl }

pub no_half_command_ever : NoHalfCommandEver step
no_half_command_ever setting calls i =
    let u = (power_on setting).unit in
    legal_by _ _ (λ es m k. ⊎_elim (λ f. f) (λ f. absurd f.0) k) [] (trace step u calls)
    (legal (packet_size u.state) (begun u) ⊥ calls u [] (power_on_stored setting) (power_on_sound setting) refl i (nothing_held setting))
