-- A whole command arrives: each of its packets has the answer that is due, whatever comes between, and the take gives exactly its bytes.
-- Assumes nothing.
use Prim.Native.Nat.{ℕ, ◌%◌, ◌≤◌, ◌<◌}
use mathlib.Core.Path.{◌≡◌, refl, sym, ap, ◌∙◌, subst}
use mathlib.Core.Bool.{true, false, true≢false}
use mathlib.Core.List.{List, [], ◌∷◌, ◌++◌, nil≢cons}
use mathlib.Core.Logic.{◌⊎◌, inl, inr, ⊎_elim}
use native.Mathlib.Omega.{arith}
use lib.ListN.{length, take, length-take}
use borrow.Author.Tests.{eqb-true, eqb-false, eq-eqb, ne_eqb}
use Rattle.rules.specs.Choice.{◌=ᵇ◌, ◌and◌, pick}
use Rattle.rules.specs.Answers.{done}
use Rattle.rules.specs.When.{Not}
use Rattle.rules.proofs.Choice.{pick_all, decide_all, at_true, at_false, neb_eq, not_both}
use Rattle.port.specs.Parts.{packet_size, is_size, out_of}
use Rattle.port.specs.Answer.{Answer, Said, refuse}
use Rattle.port.specs.Device.{Device, Result, is_sound}
use Rattle.port.specs.Step.{Call, setup_packet, out_packet, take_into, bus_reset, quiet, soundly, step}
use Rattle.port.specs.Calls.{take_rules, taking, take_message}
use Rattle.port.specs.Trace.{trace, InOctets, AllInOctets}
use Rattle.port.specs.Laws.{Stored}
use Rattle.port.proofs.Sizes.{Size, size_of}
use Rattle.port.proofs.Soundness.{sound_of}
use Rattle.port.proofs.KeepsOut.{out_held}
use Rattle.port.proofs.Calls.{step_sound, keeps_sound, keeps_stored}
use Rattle.port.proofs.When.{rule_for_every}
use Rattle.claims.specs.Command.{Piece, command, Sendable, sending}
use Rattle.claims.specs.Wire.{Heard, nothing, heard_packet, heard_setup, heard}
use Rattle.claims.specs.Arrival.{Stage, older, coming, over, Next, ahead, NoBreak, MayCome, packet_due}
use Rattle.claims.specs.Arrival.{take_due, Due, sent_on, taken_on, onward, Arrives, stage_of}
use Rattle.claims.specs.Claims.{WholeCommand}
use Rattle.claims.proofs.Cuts.{packets_none}
use Rattle.claims.proofs.Accepted.{not_less}
use Rattle.claims.proofs.Effects.{View, view, holds, Handed, Effect}
use Rattle.claims.proofs.Steps.{effect}
use Rattle.claims.proofs.Follows.{Follows}
use Rattle.claims.proofs.History.{Fine, follows_as}
use Rattle.claims.proofs.Handed.{fine, step_size}
use Rattle.claims.proofs.First.{First, first_packet, first_fits, something_ahead}
use Rattle.claims.proofs.Landing.{landing, taken_landing, Stand, lacks, has_all, stand_on}
use Rattle.claims.proofs.Numbers.{skip, waits, first_done}

-- a setup packet that is no break is heard as nothing
pub setup_nothing : (s : List ℕ) (a : Answer) → NoBreak (heard_setup s a) → heard_setup s a ≡ nothing
unfolding heard_setup
setup_nothing s a =
    pick_all Q _ _ _ (λ _. pick_all Q _ _ _ (λ _ k. absurd k) (λ _. pick_all Q _ _ _ (λ _ k. absurd k)
    (λ _. pick_all Q _ _ _ (λ _. pick_all Q _ _ _ (λ _ k. absurd k) (λ _ _. refl))
    (λ _. pick_all Q _ _ _ (λ _. pick_all Q _ _ _ (λ _ k. absurd k) (λ _ _. refl)) (λ _ _. refl))))) (λ _ _. refl)
  where
    Q : Heard → Type 0
    Q h = NoBreak h → h ≡ nothing

-- a packet keeps what it is not about
landing_keeps : (w : View) (s : List ℕ) → ((landing w s).configured ≡ w.configured) × ((landing w s).halted ≡ w.halted)
unfolding landing
landing_keeps w s = pick_all Q _ _ _ (λ _. pick_all Q _ _ _ (λ _. pick_all Q _ _ _ (λ _. (refl, refl)) (λ _. (refl, refl))) (λ _. (refl, refl)))
    (λ _. pick_all Q _ _ _ (λ _. (refl, refl)) (λ _. (refl, refl)))
  where
    Q : View → Type 0
    Q v = (v.configured ≡ w.configured) × (v.halted ≡ w.halted)

-- a unit that runs, and how far it is
pub record Serving (w : View) (At : Type 0) : Type 0 where
  pub configured : w.configured ≡ true
  pub running : w.halted ≡ 0
  pub at : At

module _ (P : ℕ) (m : List ℕ) where
  -- ** how far it is, of a unit

  abbrev Standing : Stage → View → Type 0
  Standing (older ps) w = Serving w ((w.ready ≡ 1) × Follows P 0 0 0 ps m)
  Standing (coming ps) w = Serving w (Stand P w ps m)
  Standing over w = Unit {0}

  module _ (u : Device) (stored : Stored u) (sound : is_sound u ≡ true) (same : packet_size u.state ≡ P) where
    abbrev w : View
    w = view u

    f : Fine (packet_size u.state) w
    f = fine u stored sound

    sizes : Size P
    sizes = size_of P (subst (λ (p : ℕ). is_size p ≡ true) same (sound_of u.state sound).port.size)

    held_is : (out_of u.state).message.held ≡ length w.held
    held_is = let h = out_held u.state (sound_of u.state sound) in let k = length-take (out_of u.state).message.held u.message in let l = stored.message in omega arith

    flag : w.end ≤ 1
    flag = ⊎_elim (λ k. k.1.end) (λ k. let e = k.1.end in omega arith) (sound_of u.state sound).out

    -- ** a packet

    module _ (s : List ℕ) (octets : InOctets (out_packet s)) (configured : w.configured ≡ true) (running : w.halted ≡ 0) where
      abbrev n : ℕ
      n = (step u (out_packet s)).answer.verdict.number

      abbrev x : View
      x = view (step u (out_packet s)).unit

      its_effect : (k : ℕ) → n ≡ k → Effect w (heard_packet s k) x
      unfolding heard
      its_effect k e = subst (λ (j : ℕ). Effect w (heard_packet s j) x) e (effect u stored sound (out_packet s) octets)

      -- one that has to wait changes nothing
      waiting : length s ≤ P → w.ready ≡ 1 → (n ≡ 5) × (x ≡ w)
      unfolding heard_packet ◌and◌ pick
      waiting fits r =
          let e = waits u s n (rule_for_every u (out_packet s)) sound configured running (omega arith) r in
          (e, its_effect 5 e)

      -- the first of those that are to come
      pub taken_in : (q : List (List ℕ)) (t : List ℕ) → w.ready ≡ 0 → Follows P w.left w.end (length w.held) (s ∷ q) t → w.held ++ t ≡ m → (n ≡ 0) × (x ≡ landing w s) × Stand P x q m
      unfolding heard_packet pick
      taken_in q t unready k whole =
          let fp = first_packet P sizes.fours sizes.least w.left w.end (length w.held) s q t k in
          let fits = first_fits P sizes.fours sizes.least w.left w.end (length w.held) s q t fp in
          let own : First (packet_size u.state) w.left w.end (length w.held) s q t = subst (λ (p : ℕ). First p w.left w.end (length w.held) s q t) (sym same) fp in
          let e = first_done u s n (rule_for_every u (out_packet s)) sound configured running (omega arith) unready w.end (length w.held) q t (ap (λ (p : ℕ). p % 4) same ∙ sizes.fours)
          (let b = sizes.least in omega arith) held_is own in
          let l = taken_landing w s x (its_effect 0 e).1 in
          (e, l, subst (λ (v : View). Stand P v q m) (sym l) (stand_on P w q m s t flag unready whole fp))

    -- ** a take

    module _ (room : ℕ) (configured : w.configured ≡ true) where
      abbrev a : Answer
      a = (step u (take_into room)).answer

      abbrev y : View
      y = view (step u (take_into room)).unit

      take_effect : Effect w (heard (take_into room) a) y
      take_effect = effect u stored sound (take_into room) tt

      refused_still : (a.verdict.number =ᵇ 0) ≡ false → y ≡ w
      unfolding heard
      refused_still e = subst (λ (h : Heard). Effect w h y) (at_false _ _ _ e) take_effect

      handed : (a.verdict.number =ᵇ 0) ≡ true → Handed w a.bytes y
      unfolding heard
      handed e = subst (λ (h : Heard). Effect w h y) (at_true _ _ _ e) take_effect

      take_gate : ((a.verdict.number ≡ 16) × Not (w.ready ≡ 1)) ⊎
          (Not (Not (w.ready ≡ 1)) × (((a.verdict.number ≡ 3) × (room < (out_of u.state).message.held)) ⊎ (Not (room < (out_of u.state).message.held) × (a.verdict.number ≡ 0))))
      take_gate =
          let g = rule_for_every u (take_into room) in
          let b = skip g (λ e. true≢false (sym sound ∙ e)) in
          skip b (λ e. let k = eqb-true _ _ configured in let z : ◌≡◌ {A = ℕ} 0 1 = sym e ∙ k in omega arith)

      take_untold : a.verdict.tells ≡ 0
      unfolding soundly take_message taking
      take_untold =
          ap (λ (r : Result). r.answer.verdict.tells) (step_sound u (take_into room) sound)
          ∙ decide_all (λ (r : Said). r.answer.verdict.tells ≡ 0) (refuse u.state) (take_rules u.state room) _ (refl, (refl, (refl, tt))) (λ _. refl)

      nothing_yet : w.ready ≡ 0 → a.verdict.number ≡ 16
      nothing_yet r = ⊎_elim (λ k. k.0) (λ k. absurd (k.0 (λ z. omega arith))) take_gate

      given_whole : w.ready ≡ 1 → w.held ≡ m → take_due m (coming []) room a
      given_whole r is =
          let l : (out_of u.state).message.held ≡ length m = held_is ∙ ap length is in
          ⊎_elim (λ k. absurd (k.1 r))
          (λ k. ⊎_elim (λ e. let z = e.1 in inl (omega arith, e.0))
          (λ e. inr (not_less room (length m) (λ z. e.0 (omega arith)), whole_answer e.1))
          k.1)
          take_gate
        where
          whole_answer : a.verdict.number ≡ 0 → a ≡ record { verdict = done; bytes = m }
          whole_answer e = λ i. record { verdict = record { number = e i; tells = take_untold i }; bytes = ((handed (eq-eqb _ _ e)).message ∙ is) i }

    -- ** any call

    -- nothing that counts has changed
    stands_by : (g : Stage) (v : View) → v ≡ w → Standing g w → Standing g v
    stands_by g v e k = subst (Standing g) (sym e) k

    out_one : (g : Stage) (s : List ℕ) → InOctets (out_packet s) → Standing g w → Next P (ahead g) s
        → packet_due g (step u (out_packet s)).answer.verdict.number × Standing (sent_on g) (view (step u (out_packet s)).unit)
    out_one (older []) s i k may = absurd (something_ahead P sizes.fours sizes.least 0 0 0 m (λ _. refl) k.at.1)
    out_one (older (p ∷ ps)) s i k may =
        let fp = first_packet P sizes.fours sizes.least 0 0 0 p ps m k.at.1 in
        let fits = first_fits P sizes.fours sizes.least 0 0 0 p ps m fp in
        let v = waiting s i k.configured k.running (subst (λ (l : List ℕ). length l ≤ P) (sym may) fits) k.at.0 in
        (v.0, stands_by (older (p ∷ ps)) _ v.1 k)
    out_one (coming []) s i k may = by k.at
      where
        by : Stand P w [] m → ((step u (out_packet s)).answer.verdict.number ≡ 5) × Standing (coming []) (view (step u (out_packet s)).unit)
        by (lacks t unready g whole) = absurd (something_ahead P sizes.fours sizes.least w.left w.end (length w.held) t f.resting g)
        by (has_all r none is) = let v = waiting s i k.configured k.running may r in (v.0, stands_by (coming []) _ v.1 k)
    out_one (coming (p ∷ ps)) s i k may = by k.at
      where
        by : Stand P w (p ∷ ps) m → ((step u (out_packet s)).answer.verdict.number ≡ 0) × Standing (coming ps) (view (step u (out_packet s)).unit)
        by (lacks t unready g whole) =
            let v = taken_in s i k.configured k.running ps t unready (subst (λ (l : List ℕ). Follows P w.left w.end (length w.held) (l ∷ ps) t) (sym may) g) whole in
            let l = landing_keeps w s in
            (v.0, record { configured = ap (λ (x : View). x.configured) v.1 ∙ l.0 ∙ k.configured; running = ap (λ (x : View). x.halted) v.1 ∙ l.1 ∙ k.running; at = v.2 })
        by (has_all r none is) = absurd (nil≢cons (sym none))
    out_one over s i k may = (tt, tt)

    take_one : (g : Stage) (room : ℕ) → Standing g w → take_due m g room (step u (take_into room)).answer
        × Standing (pick ((step u (take_into room)).answer.verdict.number =ᵇ 0) (taken_on g) g) (view (step u (take_into room)).unit)
    take_one (older ps) room k = (
      tt,
      pick_all (λ (g : Stage). Standing g (view (step u (take_into room)).unit)) _ _ _
          (λ e.
          let h = handed room k.configured e in
          let closed = f.closed k.at.0 in
          let unmarked = f.resting closed in
          let start : Stand P (holds w [] w.left w.end 0) ps m =
          lacks m refl (subst (λ (j : ℕ). Follows P j w.end 0 ps m) (sym closed) (subst (λ (j : ℕ). Follows P 0 j 0 ps m) (sym unmarked) k.at.1)) refl in
          record {
            configured = ap (λ (v : View). v.configured) h.after ∙ k.configured;
            running = ap (λ (v : View). v.halted) h.after
                ∙ k.running;
            at = subst (λ (v : View). Stand P v ps m) (sym h.after) start;
          })
          (λ e. stands_by (older ps) _ (refused_still room k.configured e) k),
    )
    take_one (coming []) room k = by k.at
      where
        by : Stand P w [] m → take_due m (coming []) room (step u (take_into room)).answer × Standing (pick ((step u (take_into room)).answer.verdict.number =ᵇ 0) over (coming []))
            (view (step u (take_into room)).unit)
        by (lacks t unready g whole) = absurd (something_ahead P sizes.fours sizes.least w.left w.end (length w.held) t f.resting g)
        by (has_all r none is) = (
          given_whole room k.configured r is,
          pick_all (λ (g : Stage). Standing g (view (step u (take_into room)).unit)) _ _ _ (λ _. tt)
              (λ e. stands_by (coming []) _ (refused_still room k.configured e) k),
        )
    take_one (coming (p ∷ ps)) room k = by k.at
      where
        by : Stand P w (p ∷ ps) m → ((step u (take_into room)).answer.verdict.number ≡ 16) × Standing (pick ((step u (take_into room)).answer.verdict.number =ᵇ 0) over (coming (p ∷ ps)))
            (view (step u (take_into room)).unit)
        by (lacks t unready g whole) =
            let e = nothing_yet room k.configured unready in
            let z : ((step u (take_into room)).answer.verdict.number =ᵇ 0) ≡ false = ne_eqb (step u (take_into room)).answer.verdict.number 0 (λ z. omega arith) in
            (e, subst (λ (g : Stage). Standing g (view (step u (take_into room)).unit)) (sym (at_false _ _ _ z)) (stands_by (coming (p ∷ ps)) _ (refused_still room k.configured z) k))
        by (has_all r none is) = absurd (nil≢cons (sym none))
    take_one over room k = (tt, pick_all (λ (g : Stage). Standing g (view (step u (take_into room)).unit)) _ _ _ (λ _. tt) (λ _. tt))

    one : (g : Stage) (c : Call) → InOctets c → Standing g w → MayCome P g c (step u c).answer → Due m g c (step u c).answer × Standing (onward g c (step u c).answer) (view (step u c).unit)
    unfolding heard
    one g (setup_packet p) i k may = (
      tt,
      stands_by g _ (subst (λ (h : Heard). Effect w h (view (step u (setup_packet p)).unit)) (setup_nothing p.packet (step u (setup_packet p)).answer may)
          (effect u stored sound (setup_packet p) i)) k,
    )
    one g (out_packet s) i k may = out_one g s i k may
    one g (take_into room) i k may = take_one g room k
    one g bus_reset i k may = absurd may
    one g (quiet q) i k may = (tt, stands_by g _ (effect u stored sound (quiet q) i) k)

  -- ** a run

  pub arrives : (calls : List Call) (u : Device) (g : Stage) → Stored u → is_sound u ≡ true → packet_size u.state ≡ P → AllInOctets calls → Standing g (view u) → Arrives P m g (trace step u calls)
  unfolding trace
  arrives [] u g st so size i k = tt
  arrives (c ∷ calls) u g st so size i k = λ may.
      let r = one u st so size g c i.0 k may in
      (r.0, arrives calls (step u c).unit (onward g c (step u c).answer) (keeps_stored u c st) (keeps_sound u c so) (step_size u c st so i.0 ∙ size) i.1 r.1)

-- ** a unit that waits for a command

pub starts_following : (P : ℕ) (pieces : List Piece) → Sendable pieces → Follows P 0 0 0 (sending P pieces) (command pieces)
starts_following P [] s = let k = s.some in absurd (omega arith)
starts_following P (p ∷ ps) s = record {
  rest = [];
  alignment = [];
  pieces = p ∷ ps;
  lacking = refl;
  aligns = refl;
  good = s.good;
  mark_is = refl;
  fits = let k = s.fits in omega arith;
  packets_are = sym (ap (λ (l : List (List ℕ)). l ++ sending P (p ∷ ps)) (packets_none P));
  data_are = refl;
}

-- THE THEOREM
pub whole_command : WholeCommand step
whole_command u pieces calls stored waiting sendable i =
    let P = packet_size u.state in
    arrives P (command pieces) calls u (stage_of u (sending P pieces)) stored waiting.sound refl i
    (pick_all (λ (g : Stage). Standing P (command pieces) g (view u)) _ _ _
    (λ r. record { configured = waiting.configured; running = waiting.running; at = (eqb-true _ _ r, starts_following P pieces sendable) })
    (λ r. record { configured = waiting.configured; running = waiting.running; at = begins (eqb-false _ _ r) }))
  where
    begins : Not ((out_of u.state).message.ready ≡ 1) → Stand (packet_size u.state) (view u) (sending (packet_size u.state) pieces) (command pieces)
    begins n =
        let P = packet_size u.state in
        let f = fine u stored waiting.sound in
        let r : (out_of u.state).message.ready ≡ 0 = ⊎_elim (λ z. z) (λ z. absurd (n z)) f.flag in
        let none : (out_of u.state).message.held ≡ 0 = neb_eq _ _ (not_both _ _ waiting.finished (eq-eqb _ _ r)) in
        let held : (view u).held ≡ [] = ap (λ (k : ℕ). take k u.message) none in
        let closed = neb_eq _ _ waiting.closed in
        lacks (command pieces) r
        (follows_as P 0 _ 0 _ 0 _ (sending P pieces) (command pieces) (sym closed) (sym (f.resting closed)) (sym (ap length held)) (starts_following P pieces sendable))
        (ap (λ (l : List ℕ). l ++ command pieces) held)
