-- A service request is told, and none is made up: both follow from what one counts who sees calls and answers (port, StatusTold), by lists alone.
-- Assumes nothing.
use Prim.Native.Nat.{ℕ, ◌+◌, ◌-◌, ◌/◌, ◌%◌}
use mathlib.Core.Path.{◌≡◌, refl, sym, ap, ◌∙◌, subst}
use mathlib.Core.Bool.{Bool, true, false, true≢false, false≢true}
use mathlib.Core.List.{List, [], ◌∷◌, ◌++◌, append_assoc, append-nil}
use native.Mathlib.Omega.{arith}
use borrow.Author.Tests.{eq-eqb, eqb-true}
use Rattle.rules.specs.Choice.{◌=ᵇ◌, ◌and◌, pick}
use Rattle.rules.specs.When.{Not}
use Rattle.rules.proofs.Choice.{pick_all, at_true, at_false, both_left, both_right}
use Rattle.wire.specs.When.{at}
use Rattle.port.specs.Answer.{Answer}
use Rattle.port.specs.Device.{power_on}
use Rattle.port.specs.Service.{Watch, unwatched, bit6, none, behind, after_status, reads_status, after_request, watch_call, watched, watch, Tells, Watching}
use Rattle.port.specs.Step.{in_poll, interrupt_poll, offer_reply, set_status, front_panel, bus_suspend, SetupPacket}
use Rattle.port.specs.Step.{Call, setup_packet, out_packet, take_into, bus_reset, quiet, step}
use Rattle.port.specs.Trace.{Event, trace}
use Rattle.port.proofs.Service.{status_told_ever}
use Rattle.claims.specs.Service.{polls, reads, Takes, Undisturbed, set_by, last_set, Brings, NoRequestLost, StatusComes}
use Rattle.claims.specs.Service.{made, wiped, requests_after, brought, UsesUp, NoneMadeUpFrom, NoneMadeUp}

-- ** lists and histories

some_waits : (l : List ℕ) → Not (l ≡ []) → none l ≡ false
some_waits [] n = absurd (n refl)
some_waits (b ∷ l) n = refl

none_waits : (l : List ℕ) → none l ≡ true → l ≡ []
none_waits [] e = refl
none_waits (b ∷ l) e = absurd (false≢true e)

never_none : {a : ℕ} {l : List ℕ} → ◌≡◌ {A = List ℕ} (a ∷ l) [] → ⊥
never_none e = let z : ◌≡◌ {A = ℕ} 0 1 = cc in omega arith

-- the first part of a history, and what is behind it
front : (w : Watch) (a b : List Event) → Watching w (a ++ b) → Watching w a
front w [] b h = tt
front w (e ∷ a) b h = (h.0, front (watched w e.call e.answer) a b h.1)

rest : (w : Watch) (a b : List Event) → Watching w (a ++ b) → Watching (watch w a) b
rest w [] b h = h
rest w (e ∷ a) b h = rest (watched w e.call e.answer) a b h.1

-- bit 6 goes off
off : (status : ℕ) → bit6 status ≡ true → bit6 (status - 64) ≡ true → ⊥
off status e f = let h : status / 64 % 2 ≡ 1 = eqb-true _ _ e in let k : (status - 64) / 64 % 2 ≡ 1 = eqb-true _ _ f in omega arith

behind_on : (status : ℕ) → bit6 status ≡ true → behind status ≡ record { held = status - 64; next = 0x81 ∷ status ∷ [] }
unfolding behind
behind_on status e = at_true _ _ _ e

behind_off : (status : ℕ) → bit6 status ≡ false → behind status ≡ record { held = status; next = [] }
unfolding behind
behind_off status e = at_false _ _ _ e

-- an event that is answered 0, and one that is not
done : (w : Watch) (c : Call) (a : Answer) → a.verdict.number ≡ 0 → watched w c a ≡ watch_call w c a.bytes
unfolding watched
done w c a z = at_true _ _ _ (eq-eqb _ _ z)

-- ** while a packet waits, nothing but what takes it moves it

module _ (w : Watch) (waits : none w.next ≡ false) where
  abbrev held_now : ℕ → Watch
  held_now status = record { held = status; next = w.next }

  moved : (c : Call) (a : Answer) → Tells w c a → a.verdict.number ≡ 0 → Not (Takes c) → watch_call w c a.bytes ≡ held_now (set_by w.held c)
  unfolding after_request after_status
  moved (setup_packet p) a t z n =
      pick_all (λ (x : Watch). x ≡ w) (at p.packet 0 =ᵇ 0x00) _ _ (λ e. absurd (n (eqb-true _ _ e)))
      (λ _. pick_all (λ (x : Watch). x ≡ w) (reads_status p.packet and at a.bytes 0 =ᵇ 0x01) _ _ (λ e. absurd (busy e)) (λ _. refl))
    where
      -- READ_STATUS_BYTE is told that it is busy
      busy : (reads_status p.packet and at a.bytes 0 =ᵇ 0x01) ≡ true → ⊥
      busy e =
          let first : at a.bytes 0 ≡ 0x20 = ap (λ (l : List ℕ). at l 0) (t z (both_left _ _ e)) ∙ at_false _ _ _ waits in
          let success : at a.bytes 0 ≡ 0x01 = eqb-true _ _ (both_right (reads_status p.packet) _ e) in
          omega arith
  moved (out_packet s) a t z n = refl
  moved (take_into room) a t z n = refl
  moved bus_reset a t z n = absurd (n tt)
  moved (quiet (in_poll room)) a t z n = refl
  moved (quiet (interrupt_poll room)) a t z n = absurd (n tt)
  moved (quiet (offer_reply bytes)) a t z n = refl
  moved (quiet (set_status status)) a t z n = at_false _ _ _ waits
  moved (quiet front_panel) a t z n = refl
  moved (quiet bus_suspend) a t z n = refl

  one : (e : Event) → Tells w e.call e.answer → Not ((e.answer.verdict.number ≡ 0) × Takes e.call)
      → watched w e.call e.answer ≡ held_now (pick (e.answer.verdict.number =ᵇ 0) (set_by w.held e.call) w.held)
  unfolding watched pick
  one e t n = by (e.answer.verdict.number =ᵇ 0) refl
    where
      by : (b : Bool) → (e.answer.verdict.number =ᵇ 0) ≡ b → pick b (watch_call w e.call e.answer.bytes) w ≡ held_now (pick b (set_by w.held e.call) w.held)
      by true k = let z = eqb-true _ _ k in moved e.call e.answer t z (λ x. n (z, x))
      by false k = refl

undisturbed : (w : Watch) (es : List Event) → none w.next ≡ false → Watching w es → Undisturbed es → watch w es ≡ record { held = last_set w.held es; next = w.next }
undisturbed w [] waits h u = refl
undisturbed w (e ∷ es) waits h u =
    let k = one w waits e h.0 u.0 in
    ap (λ (x : Watch). watch x es) k
    ∙ undisturbed (record { held = pick (e.answer.verdict.number =ᵇ 0) (set_by w.held e.call) w.held; next = w.next }) es waits (subst (λ (x : Watch). Watching x es) k h.1) u.1

-- a poll, where a packet waits behind a stretch that does not disturb it
brings : (w : Watch) (packet : List ℕ) (between later : List Event) (room : ℕ) (b : Answer) → w.next ≡ packet → Not (packet ≡ [])
    → Watching w (between ++ (polls room b ∷ later)) → Undisturbed between → Brings packet b
brings w packet between later room b e n h u =
    let waits = some_waits w.next (λ z. n (sym e ∙ z)) in
    let next : (watch w between).next ≡ packet = ap (λ (x : Watch). x.next) (undisturbed w between waits (front w between _ h) u) ∙ e in
    let t = (rest w between _ h).0 in
    record { waits = λ z. n (sym next ∙ t.1 z); bytes = λ z. (t.0 z).1 ∙ next }

-- ** NO SERVICE REQUEST IS LOST

pub no_request_lost : NoRequestLost step
unfolding after_status
no_request_lost = record {
  at_once = λ setting calls before between later status room a b e z on none-waiting calm.
      let w = watch unwatched before in
      let h = rest unwatched before _ (subst (Watching unwatched) e (status_told_ever setting calls)) in
      let k = done w (quiet (set_status status)) a z ∙ at_true _ _ _ (ap none none-waiting) ∙ behind_on status on in
      brings _ (0x81 ∷ status ∷ []) between later room b (ap (λ (x : Watch). x.next) k) never_none h.1 calm;
  kept = λ setting calls before between more later status room first a b c e z on waiting calm y still on_then.
      let w = watch unwatched before in
      let waits = some_waits w.next waiting in
      let h = rest unwatched before _ (subst (Watching unwatched) e (status_told_ever setting calls)) in
      let v : Watch = record { held = status; next = w.next } in
      let k = subst (λ (x : Watch). Watching x (between ++ (polls first b ∷ (more ++ (polls room c ∷ later))))) (done w (quiet (set_status status)) a z ∙ at_false _ _ _ waits) h.1 in
      let last = last_set status between in
      let seen = ap (λ (x : Watch). behind x.held) (undisturbed v between waits (front v between _ k) calm) in
      let m = done (watch v between) (quiet (interrupt_poll first)) b y ∙ seen ∙ behind_on last on_then in
      brings _ (0x81 ∷ last ∷ []) more later room c (ap (λ (x : Watch). x.next) m) never_none (rest v between _ k).1 still;
}

pub status_comes : StatusComes step
unfolding after_request pick ◌and◌
status_comes setting calls before between later tag control room a b e s calm =
    let w = watch unwatched before in
    let h = rest unwatched before _ (subst (Watching unwatched) e (status_told_ever setting calls)) in
    let k = done w (reads tag control a).call a s.number ∙ at_true _ _ _ (eq-eqb _ _ s.status) in
    brings _ ((0x80 + tag) ∷ w.held ∷ []) between later room b (ap (λ (x : Watch). x.next) k) never_none h.1 calm

-- ** AND NONE IS MADE UP

-- a kept request stands behind the one that waits
abbrev Kept : ℕ → List (List ℕ) → Type 0
Kept held requests = bit6 held ≡ true → (older : List (List ℕ)) × (newer : List (List ℕ)) × (requests ≡ older ++ ((0x81 ∷ held ∷ []) ∷ newer))

-- what waits was made, and is not used up
data Due (w : Watch) (requests : List (List ℕ)) : Type 0 where
  rests : w.next ≡ [] → bit6 w.held ≡ false → Due w requests
  waits : none w.next ≡ false → (older newer : List (List ℕ)) → requests ≡ older ++ (w.next ∷ newer) → Kept w.held newer → Due w requests

due_to : {w v : Watch} {l m : List (List ℕ)} → v ≡ w → m ≡ l → Due w l → Due v m
due_to {w} {v} {l} {m} e f d = subst (λ (x : Watch). Due x m) (sym e) (subst (Due w) (sym f) d)

-- nothing waits, and a status byte is looked at
looked : (requests : List (List ℕ)) (status : ℕ) → Kept status requests → Due (behind status) requests
looked requests status k = by (bit6 status) refl
  where
    by : (t : Bool) → bit6 status ≡ t → Due (behind status) requests
    by true e = let m = k e in due_to (behind_on status e) refl (waits refl m.0 m.1 m.2 (λ f. absurd (off status e f)))
    by false e = due_to (behind_off status e) refl (rests refl e)

record GoesOn (w : Watch) (requests : List (List ℕ)) (e : Event) : Type 0 where
  newer : List (List ℕ)
  uses : UsesUp (brought e.call e.answer) requests newer
  due : Due (watched w e.call e.answer) (requests_after w newer e)

module _ (w : Watch) (requests : List (List ℕ)) (d : Due w requests) where
  -- ** events that are answered 0

  abbrev After : Call → Answer → List (List ℕ) → Type 0
  After c a l = Due (watch_call w c a.bytes) (wiped c l ++ made w c a)

  nothing_made : Due w (requests ++ [])
  nothing_made = due_to refl (append-nil requests) d

  setup_made : (p : SetupPacket) (a : Answer) → Tells w (setup_packet p) a → a.verdict.number ≡ 0 → After (setup_packet p) a requests
  unfolding after_request pick
  setup_made p a t z = by (at s 0 =ᵇ 0x00) (reads_status s and at a.bytes 0 =ᵇ 0x01) refl refl d
    where
      s : List ℕ
      s = p.packet

      packet : List ℕ
      packet = (0x80 + at s 2) ∷ w.held ∷ []

      -- SUCCESS says that none waits
      resting : (reads_status s and at a.bytes 0 =ᵇ 0x01) ≡ true → none w.next ≡ false → ⊥
      resting e f =
          let first : at a.bytes 0 ≡ 0x20 = ap (λ (l : List ℕ). at l 0) (t z (both_left _ _ e)) ∙ at_false _ _ _ f in
          let success : at a.bytes 0 ≡ 0x01 = eqb-true _ _ (both_right (reads_status s) _ e) in
          omega arith

      by : (b c : Bool) → (at s 0 =ᵇ 0x00) ≡ b → (reads_status s and at a.bytes 0 =ᵇ 0x01) ≡ c → Due w requests
          → Due (pick b unwatched (pick c (record { held = w.held; next = packet }) w)) (pick b [] requests ++ pick c (packet ∷ []) [])
      by true c e f k =
          let z : at s 0 ≡ 0 = eqb-true _ _ e in
          rests refl refl
      by false true e f (rests n o) = waits refl requests [] refl (λ g. absurd (true≢false (sym g ∙ o)))
      by false true e f (waits n _ _ _ _) = absurd (resting f n)
      by false false e f k = nothing_made

  status_made : (status : ℕ) (a : Answer) → After (quiet (set_status status)) a requests
  unfolding after_status pick
  status_made status a = by (bit6 status) refl d
    where
      by : (t : Bool) → bit6 status ≡ t → Due w requests → Due (pick (none w.next) (behind status) (record { held = status; next = w.next })) (requests ++ pick t ((0x81 ∷ status ∷ []) ∷ []) [])
      by true e (rests n o) = due_to (at_true _ _ _ (ap none n)) refl (looked _ status (λ _. (requests, [], refl)))
      by true e (waits n older newer f k) =
          due_to (at_false _ _ _ n) refl
          (waits n older (newer ++ ((0x81 ∷ status ∷ []) ∷ [])) (ap (λ (l : List (List ℕ)). l ++ ((0x81 ∷ status ∷ []) ∷ [])) f ∙ append_assoc older _ _) (λ _. (newer, [], refl)))
      by false e (rests n o) = due_to (at_true _ _ _ (ap none n)) refl (looked _ status (λ g. absurd (true≢false (sym g ∙ e))))
      by false e (waits n older newer f k) = due_to (at_false _ _ _ n) (append-nil requests) (waits n older newer f (λ g. absurd (true≢false (sym g ∙ e))))

  -- ** any event

  quietly_on : (e : Event) → brought e.call e.answer ≡ [] → (e.answer.verdict.number ≡ 0 → After e.call e.answer requests) → GoesOn w requests e
  unfolding watched requests_after pick
  quietly_on e n k = record { newer = requests; uses = subst (λ (l : List (List ℕ)). UsesUp l requests requests) (sym n) refl; due = by (e.answer.verdict.number =ᵇ 0) refl }
    where
      by : (t : Bool) → (e.answer.verdict.number =ᵇ 0) ≡ t
          → Due (pick t (watch_call w e.call e.answer.bytes) w) (pick t (wiped e.call requests ++ made w e.call e.answer) requests)
      by true z = k (eqb-true _ _ z)
      by false z = d

  poll_on : (room : ℕ) (a : Answer) → Tells w (quiet (interrupt_poll room)) a → GoesOn w requests (polls room a)
  unfolding watched requests_after pick
  poll_on room a t = by (a.verdict.number =ᵇ 0) refl d
    where
      by : (b : Bool) → (a.verdict.number =ᵇ 0) ≡ b → Due w requests → GoesOn w requests (polls room a)
      by true z (rests n o) = absurd ((t.0 (eqb-true _ _ z)).0 n)
      by true z (waits n older newer f k) = record {
        newer = newer;
        uses = subst (λ (b : Bool). UsesUp (pick b (a.bytes ∷ []) []) requests newer) (sym z) (older, f ∙ ap (λ (l : List ℕ). older ++ (l ∷ newer)) (sym (t.0 (eqb-true _ _ z)).1));
        due = subst (λ (b : Bool). Due (pick b (behind w.held) w) (pick b (newer ++ []) newer)) (sym z) (due_to refl (append-nil newer) (looked newer w.held k));
      }
      by false z k = record {
        newer = requests;
        uses = subst (λ (b : Bool). UsesUp (pick b (a.bytes ∷ []) []) requests requests) (sym z) refl;
        due = subst (λ (b : Bool). Due (pick b (behind w.held) w) (pick b (requests ++ []) requests)) (sym z) k;
      }

  goes_on : (c : Call) (a : Answer) → Tells w c a → GoesOn w requests (record { call = c; answer = a })
  goes_on (setup_packet p) a t = quietly_on _ refl (setup_made p a t)
  goes_on (out_packet s) a t = quietly_on _ refl (λ _. nothing_made)
  goes_on (take_into room) a t = quietly_on _ refl (λ _. nothing_made)
  goes_on bus_reset a t = quietly_on _ refl (λ _. rests refl refl)
  goes_on (quiet (in_poll room)) a t = quietly_on _ refl (λ _. nothing_made)
  goes_on (quiet (interrupt_poll room)) a t = poll_on room a t
  goes_on (quiet (offer_reply bytes)) a t = quietly_on _ refl (λ _. nothing_made)
  goes_on (quiet (set_status status)) a t = quietly_on _ refl (λ _. status_made status a)
  goes_on (quiet front_panel) a t = quietly_on _ refl (λ _. nothing_made)
  goes_on (quiet bus_suspend) a t = quietly_on _ refl (λ _. nothing_made)

none_from : (w : Watch) (requests : List (List ℕ)) (es : List Event) → Due w requests → Watching w es → NoneMadeUpFrom w requests es
none_from w requests [] d h = tt
none_from w requests (e ∷ es) d h = let k = goes_on w requests d e.call e.answer h.0 in (k.newer, k.uses, none_from (watched w e.call e.answer) (requests_after w k.newer e) es k.due h.1)

pub none_made_up : NoneMadeUp step
none_made_up setting calls = none_from unwatched [] (trace step (power_on setting).unit calls) (rests refl refl) (status_told_ever setting calls)
