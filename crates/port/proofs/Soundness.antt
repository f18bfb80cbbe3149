-- Soundness as facts, for proofs: each test of `sound` with its meaning, and the way back from the facts to the test.
-- Assumes nothing.
use Prim.Native.Nat.{ℕ, ◌+◌, ◌-◌, ◌≤◌}
use mathlib.Core.Path.{◌≡◌, refl, sym, ◌∙◌}
use mathlib.Core.Bool.{Bool, true, false, false≢true}
use mathlib.Core.List.{List, []}
use mathlib.Core.Logic.{◌⊎◌, inl, inr, ⊎_elim}
use native.Mathlib.Omega.{arith}
use borrow.Author.Tests.{le-leb, leb-true, eq-eqb, ne_eqb, eqb-true, eqb-false}
use Rattle.rules.specs.Choice.{◌=ᵇ◌, ◌≠ᵇ◌, ◌≤ᵇ◌, no, ◌or◌, ◌and◌, pick, ◌⇒◌∣◌, first, ◌&◌, all, implies}
use Rattle.rules.proofs.Choice.{all_of, of_all, at_true, at_false, pick_all, neb_ne, neb_eq, ne_neb, eq_neb}
use Rattle.rules.proofs.Choice.{or_left, or_right, no_true, is_no, and_both, both_left, both_right, either}
use Rattle.rules.specs.Flags.{OFF}
use Rattle.port.specs.Parts.{STORE, is_size, CLOSED, ASKED, SENDING, OWED, on, is_open_out, is_owed, port_of, out_of, in_of, interrupt_of}
use Rattle.port.specs.Interrupt.{asks_service, is_waiting}
use Rattle.port.specs.Sound.{is_flag, port_sound, open_sound, held_sound, resting_sound, out_sound, unasked, unsending}
use Rattle.port.specs.Sound.{idle, asked_sound, sending_sound, phase_sound, in_sound, packet_sound, waiting_sound, silent_sound}
use Rattle.port.specs.Sound.{interrupt_sound, clear_sound, not_owed, abort_out_sound, split_sound, sound}
use Rattle.port.specs.declared.types.Port.{Port}
use Rattle.port.specs.declared.types.OutMessage.{OutMessage}
use Rattle.port.specs.declared.types.BulkOut.{BulkOut}
use Rattle.port.specs.declared.types.InTransfer.{InTransfer}
use Rattle.port.specs.declared.types.BulkIn.{BulkIn}
use Rattle.port.specs.declared.types.InterruptIn.{InterruptIn}
use Rattle.port.specs.declared.types.Split.{Split}
use Rattle.port.specs.declared.types.Split.TheVariants.{None, AbortOut, AbortIn, Clear}
use Rattle.port.specs.declared.types.State.{State}

-- ** tests that imply

imply_of : (a b : Bool) → implies a b ≡ true → a ≡ true → b ≡ true
unfolding no ◌or◌
imply_of true b e h = e
imply_of false b e h = absurd (false≢true h)

imply_to : (a b : Bool) → (a ≡ true → b ≡ true) → implies a b ≡ true
unfolding no ◌or◌
imply_to true b h = h refl
imply_to false b h = refl

-- the ways of a choice, with the test
way_of : (P Q : Type 0) (t a b : Bool) → pick t a b ≡ true → (a ≡ true → P) → (b ≡ true → Q) → ((t ≡ true) × P) ⊎ ((t ≡ false) × Q)
unfolding pick
way_of P Q true a b e f g = inl (refl, f e)
way_of P Q false a b e f g = inr (refl, g e)

-- ** the port

pub record PortSound (p : Port) : Type 0 where
  pub size : is_size p.setting.packet ≡ true
  pub configured : p.configured ≤ 1
  pub ren : p.ren ≤ 1

port_of_lem : (p : Port) → port_sound p ≡ true → PortSound p
unfolding port_sound
port_of_lem p e =
    let h = all_of (is_size p.setting.packet & is_flag p.configured & is_flag p.ren & []) e in
    record { size = h.0; configured = leb-true _ _ h.1.0; ren = leb-true _ _ h.1.1.0 }

port_to : (p : Port) → PortSound p → port_sound p ≡ true
unfolding port_sound
port_to p h = of_all (is_size p.setting.packet & is_flag p.configured & is_flag p.ren & []) (h.size, (le-leb _ _ h.configured, (le-leb _ _ h.ren, tt)))

-- ** Bulk-OUT

pub record OpenOut (o : BulkOut) : Type 0 where
  pub running : o.halted ≡ 0
  pub unready : o.message.ready ≡ 0
  pub end : o.transfer.end ≤ 1
  pub tag : o.recent ≡ 0 → ⊥
  pub some : o.transfer.got ≡ 0 → ⊥
  pub within : o.transfer.got ≤ o.message.held
  pub room : o.message.held + o.transfer.left ≤ STORE

abbrev open_tests : BulkOut → List Bool
open_tests o = o.halted =ᵇ OFF & o.message.ready =ᵇ OFF & is_flag o.transfer.end & o.recent ≠ᵇ 0 & o.transfer.got ≠ᵇ 0 & o.transfer.got ≤ᵇ o.message.held & o.message.held ≤ᵇ
    STORE & o.transfer.left ≤ᵇ STORE - o.message.held & []

pub open_of : (o : BulkOut) → open_sound o ≡ true → OpenOut o
unfolding open_sound
open_of o e =
    let h = all_of (open_tests o) e in
    let a : o.message.held ≤ STORE = leb-true _ _ h.1.1.1.1.1.1.0 in
    let b : o.transfer.left ≤ STORE - o.message.held = leb-true _ _ h.1.1.1.1.1.1.1.0 in
    record {
      running = eqb-true _ _ h.0;
      unready = eqb-true _ _ h.1.0;
      end = leb-true _ _ h.1.1.0;
      tag = neb_ne _ _ h.1.1.1.0;
      some = neb_ne _ _ h.1.1.1.1.0;
      within = leb-true _ _ h.1.1.1.1.1.0;
      room = omega arith;
    }

open_to : (o : BulkOut) → OpenOut o → open_sound o ≡ true
unfolding open_sound
open_to o h =
    of_all (open_tests o) (
      eq-eqb _ _ h.running,
      (
        eq-eqb _ _ h.unready,
        (
          le-leb _ _ h.end,
          (
            ne_neb _ _ h.tag,
            (
              ne_neb _ _ h.some,
              (
                le-leb _ _ h.within,
                (le-leb o.message.held STORE (let r = h.room in omega arith), (le-leb o.transfer.left (STORE - o.message.held) (let r = h.room in omega arith), tt)),
              ),
            ),
          ),
        ),
      ),
    )

pub record RestingOut (o : BulkOut) : Type 0 where
  pub halted : o.halted ≤ 1
  pub ready : o.message.ready ≤ 1
  pub end : o.transfer.end ≡ 0
  pub got : o.transfer.got ≡ 0
  pub held : o.message.held ≤ STORE
  pub whole : o.message.ready ≡ 1 → o.message.held ≡ 0 → ⊥
  pub dropped : o.halted ≡ 1 → (o.message.ready ≡ 1 → ⊥) → o.message.held ≡ 0

abbrev held_tests : ℕ → OutMessage → List Bool
held_tests halted m = implies (on m.ready) (m.held ≠ᵇ 0) & implies (on halted and no (on m.ready)) (m.held =ᵇ 0) & []

abbrev resting_tests : BulkOut → List Bool
resting_tests o = is_flag o.halted & is_flag o.message.ready & o.transfer.end =ᵇ OFF & o.transfer.got =ᵇ 0 & o.message.held ≤ᵇ STORE & held_sound o.halted o.message & []

pub resting_of : (o : BulkOut) → resting_sound o ≡ true → RestingOut o
unfolding resting_sound held_sound
resting_of o e =
    let h = all_of (resting_tests o) e in
    let k = all_of (held_tests o.halted o.message) h.1.1.1.1.1.0 in
    record {
      halted = leb-true _ _ h.0;
      ready = leb-true _ _ h.1.0;
      end = eqb-true _ _ h.1.1.0;
      got = eqb-true _ _ h.1.1.1.0;
      held = leb-true _ _ h.1.1.1.1.0;
      whole = λ r. neb_ne _ _ (imply_of (on o.message.ready) _ k.0 (eq-eqb _ _ r));
      dropped = λ r n. eqb-true _ _ (imply_of (on o.halted and no (on o.message.ready)) _ k.1.0 (and_both _ _ (eq-eqb _ _ r) (no_true _ (ne_eqb _ _ n))));
    }

resting_to : (o : BulkOut) → RestingOut o → resting_sound o ≡ true
unfolding resting_sound held_sound
resting_to o h =
    of_all (resting_tests o) (
      le-leb _ _ h.halted,
      (
        le-leb _ _ h.ready,
        (
          eq-eqb _ _ h.end,
          (
            eq-eqb _ _ h.got,
            (
              le-leb _ _ h.held,
              (
                of_all (held_tests o.halted o.message) (
                  imply_to (on o.message.ready) _ (λ r. ne_neb _ _ (h.whole (eqb-true _ _ r))),
                  (
                    imply_to (on o.halted and no (on o.message.ready)) _
                        (λ r. eq-eqb _ _ (h.dropped (eqb-true _ _ (both_left _ _ r)) (eqb-false _ _ (is_no _ (both_right (on o.halted) _ r))))),
                    tt,
                  ),
                ),
                tt,
              ),
            ),
          ),
        ),
      ),
    )

abbrev pub OutSound : BulkOut → Type 0
OutSound o = ((o.transfer.left ≡ 0 → ⊥) × OpenOut o) ⊎ ((o.transfer.left ≡ 0) × RestingOut o)

pub out_of_lem : (o : BulkOut) → out_sound o ≡ true → OutSound o
unfolding out_sound
out_of_lem o e =
    ⊎_elim (λ w. inl (neb_ne _ _ w.0, w.1)) (λ w. inr (neb_eq _ _ w.0, w.1))
    (way_of (OpenOut o) (RestingOut o) (is_open_out o) _ _ e (open_of o) (resting_of o))

out_to : (o : BulkOut) → OutSound o → out_sound o ≡ true
unfolding out_sound
out_to o h =
    ⊎_elim (λ w. at_true _ _ _ (ne_neb _ _ w.0) ∙ open_to o w.1) (λ w. at_false _ _ _ (eq_neb _ _ w.0) ∙ resting_to o w.1) h

-- ** Bulk-IN

pub record Idle (t : InTransfer) : Type 0 where
  pub asked : t.asked ≡ 0
  pub enabled : t.enabled ≡ 0
  pub term : t.term ≡ 0
  pub left : t.left ≡ 0
  pub sent : t.sent ≡ 0

abbrev unasked_tests : InTransfer → List Bool
unasked_tests t = t.asked =ᵇ 0 & t.enabled =ᵇ OFF & t.term =ᵇ 0 & []

abbrev unsending_tests : InTransfer → List Bool
unsending_tests t = t.left =ᵇ 0 & t.sent =ᵇ 0 & []

idle_of : (t : InTransfer) → idle t ≡ true → Idle t
unfolding idle unasked unsending
idle_of t e =
    let h = all_of (unasked t & unsending t & []) e in
    let k = all_of (unasked_tests t) h.0 in
    let l = all_of (unsending_tests t) h.1.0 in
    record { asked = eqb-true _ _ k.0; enabled = eqb-true _ _ k.1.0; term = eqb-true _ _ k.1.1.0; left = eqb-true _ _ l.0; sent = eqb-true _ _ l.1.0 }

idle_to : (t : InTransfer) → Idle t → idle t ≡ true
unfolding idle unasked unsending
idle_to t h =
    of_all (unasked t & unsending t & []) (
      of_all (unasked_tests t) (eq-eqb _ _ h.asked, (eq-eqb _ _ h.enabled, (eq-eqb _ _ h.term, tt))),
      (of_all (unsending_tests t) (eq-eqb _ _ h.left, (eq-eqb _ _ h.sent, tt)), tt),
    )

pub record AskedIn (t : InTransfer) : Type 0 where
  pub tag : t.tag ≡ 0 → ⊥
  pub some : t.asked ≡ 0 → ⊥
  pub most : t.asked ≤ STORE
  pub enabled : t.enabled ≤ 1
  pub term : t.enabled ≡ 0 → t.term ≡ 0
  pub left : t.left ≡ 0
  pub sent : t.sent ≡ 0

abbrev asked_tests : InTransfer → List Bool
asked_tests t = t.tag ≠ᵇ 0 & t.asked ≠ᵇ 0 & t.asked ≤ᵇ STORE & is_flag t.enabled & implies (t.enabled =ᵇ OFF) (t.term =ᵇ 0) & unsending t & []

asked_of : (t : InTransfer) → asked_sound t ≡ true → AskedIn t
unfolding asked_sound unsending
asked_of t e =
    let h = all_of (asked_tests t) e in
    let l = all_of (unsending_tests t) h.1.1.1.1.1.0 in
    record {
      tag = neb_ne _ _ h.0;
      some = neb_ne _ _ h.1.0;
      most = leb-true _ _ h.1.1.0;
      enabled = leb-true _ _ h.1.1.1.0;
      term = λ z. eqb-true _ _ (imply_of (t.enabled =ᵇ OFF) _ h.1.1.1.1.0 (eq-eqb _ _ z));
      left = eqb-true _ _ l.0;
      sent = eqb-true _ _ l.1.0;
    }

asked_to : (t : InTransfer) → AskedIn t → asked_sound t ≡ true
unfolding asked_sound unsending
asked_to t h =
    of_all (asked_tests t) (
      ne_neb _ _ h.tag,
      (
        ne_neb _ _ h.some,
        (
          le-leb _ _ h.most,
          (
            le-leb _ _ h.enabled,
            (
              imply_to (t.enabled =ᵇ OFF) _ (λ z. eq-eqb _ _ (h.term (eqb-true _ _ z))),
              (of_all (unsending_tests t) (eq-eqb _ _ h.left, (eq-eqb _ _ h.sent, tt)), tt),
            ),
          ),
        ),
      ),
    )

pub record SendingIn (unsent : ℕ) (t : InTransfer) : Type 0 where
  pub tag : t.tag ≡ 0 → ⊥
  pub stored : t.left ≤ unsent
  pub count : t.sent + t.left ≤ STORE
  pub asked : t.asked ≡ 0
  pub enabled : t.enabled ≡ 0
  pub term : t.term ≡ 0

abbrev sending_tests : ℕ → InTransfer → List Bool
sending_tests unsent t = t.tag ≠ᵇ 0 & t.left ≤ᵇ unsent & t.sent ≤ᵇ STORE & t.left ≤ᵇ STORE - t.sent & unasked t & []

sending_of : (unsent : ℕ) (t : InTransfer) → sending_sound unsent t ≡ true → SendingIn unsent t
unfolding sending_sound unasked
sending_of unsent t e =
    let h = all_of (sending_tests unsent t) e in
    let k = all_of (unasked_tests t) h.1.1.1.1.0 in
    let m : t.sent ≤ STORE = leb-true _ _ h.1.1.0 in
    let n : t.left ≤ STORE - t.sent = leb-true _ _ h.1.1.1.0 in
    record { tag = neb_ne _ _ h.0; stored = leb-true _ _ h.1.0; count = omega arith; asked = eqb-true _ _ k.0; enabled = eqb-true _ _ k.1.0; term = eqb-true _ _ k.1.1.0 }

sending_to : (unsent : ℕ) (t : InTransfer) → SendingIn unsent t → sending_sound unsent t ≡ true
unfolding sending_sound unasked
sending_to unsent t h =
    of_all (sending_tests unsent t) (
      ne_neb _ _ h.tag,
      (
        le-leb _ _ h.stored,
        (
          le-leb t.sent STORE (let r = h.count in omega arith),
          (
            le-leb t.left (STORE - t.sent) (let r = h.count in omega arith),
            (of_all (unasked_tests t) (eq-eqb _ _ h.asked, (eq-eqb _ _ h.enabled, (eq-eqb _ _ h.term, tt))), tt),
          ),
        ),
      ),
    )

-- how far the transfer is, of a reply with so many bytes unsent
pub data Phase (unsent : ℕ) (t : InTransfer) : Type 0 where
  is_closed : t.phase ≡ CLOSED → t.tag ≡ 0 → Idle t → Phase unsent t
  is_asked : t.phase ≡ ASKED → AskedIn t → Phase unsent t
  is_sending : t.phase ≡ SENDING → SendingIn unsent t → Phase unsent t
  is_owed_lem : t.phase ≡ OWED → (t.tag ≡ 0 → ⊥) → Idle t → Phase unsent t

-- a transfer that stays, and a reply of which as much is unsent where that matters
pub phase_kept : (unsent unsent' : ℕ) (t : InTransfer) → (t.phase ≡ SENDING → unsent' ≡ unsent) → Phase unsent t → Phase unsent' t
phase_kept unsent unsent' t k (is_closed e z i) = is_closed e z i
phase_kept unsent unsent' t k (is_asked e a) = is_asked e a
phase_kept unsent unsent' t k (is_sending e a) =
    is_sending e (record { tag = a.tag; stored = let w = k e in let m = a.stored in omega arith; count = a.count; asked = a.asked; enabled = a.enabled; term = a.term })
phase_kept unsent unsent' t k (is_owed_lem e z i) = is_owed_lem e z i

pub phase_of : (unsent : ℕ) (t : InTransfer) → phase_sound unsent t ≡ true → Phase unsent t
unfolding phase_sound
phase_of unsent t =
    pick_all P (t.phase =ᵇ CLOSED) _ _ (λ p e. let h = all_of (t.tag =ᵇ 0 & idle t & []) e in is_closed (eqb-true _ _ p) (eqb-true _ _ h.0) (idle_of t h.1.0))
    (λ _. pick_all P (t.phase =ᵇ ASKED) _ _ (λ p e. is_asked (eqb-true _ _ p) (asked_of t e))
    (λ _. pick_all P (t.phase =ᵇ SENDING) _ _ (λ p e. is_sending (eqb-true _ _ p) (sending_of unsent t e))
    (λ _. pick_all P (t.phase =ᵇ OWED) _ _ (λ p e. let h = all_of (t.tag ≠ᵇ 0 & idle t & []) e in is_owed_lem (eqb-true _ _ p) (neb_ne _ _ h.0) (idle_of t h.1.0))
    (λ _ e. absurd (false≢true e)))))
  where
    P : Bool → Type 0
    P holds = holds ≡ true → Phase unsent t

-- the phase's own line of the list
phase_line : (unsent : ℕ) (t : InTransfer) (phase : ℕ) → t.phase ≡ phase → phase_sound unsent t
    ≡ first (phase =ᵇ CLOSED ⇒ all (t.tag =ᵇ 0 & idle t & []) ∣ phase =ᵇ ASKED ⇒ asked_sound t ∣ phase =ᵇ SENDING ⇒ sending_sound unsent t ∣ phase =ᵇ OWED ⇒ all (t.tag ≠ᵇ 0 & idle t & []) ∣ []) false
unfolding phase_sound
phase_line unsent t phase e = rw e

pub phase_to : (unsent : ℕ) (t : InTransfer) → Phase unsent t → phase_sound unsent t ≡ true
unfolding pick
phase_to unsent t (is_closed e z i) = phase_line unsent t CLOSED e ∙ of_all (t.tag =ᵇ 0 & idle t & []) (eq-eqb _ _ z, (idle_to t i, tt))
phase_to unsent t (is_asked e h) = phase_line unsent t ASKED e ∙ asked_to t h
phase_to unsent t (is_sending e h) = phase_line unsent t SENDING e ∙ sending_to unsent t h
phase_to unsent t (is_owed_lem e z i) = phase_line unsent t OWED e ∙ of_all (t.tag ≠ᵇ 0 & idle t & []) (ne_neb _ _ z, (idle_to t i, tt))

pub record InSound (b : BulkIn) : Type 0 where
  pub halted : b.halted ≤ 1
  pub reply : b.reply.at + b.reply.unsent ≤ STORE
  pub phase : Phase b.reply.unsent b.transfer

abbrev in_tests : BulkIn → List Bool
in_tests b = is_flag b.halted & b.reply.at ≤ᵇ STORE & b.reply.unsent ≤ᵇ STORE - b.reply.at & phase_sound b.reply.unsent b.transfer & []

in_of_lem : (b : BulkIn) → in_sound b ≡ true → InSound b
unfolding in_sound
in_of_lem b e =
    let h = all_of (in_tests b) e in
    let m : b.reply.at ≤ STORE = leb-true _ _ h.1.0 in
    let n : b.reply.unsent ≤ STORE - b.reply.at = leb-true _ _ h.1.1.0 in
    record { halted = leb-true _ _ h.0; reply = omega arith; phase = phase_of _ _ h.1.1.1.0 }

in_to : (b : BulkIn) → InSound b → in_sound b ≡ true
unfolding in_sound
in_to b h =
    of_all (in_tests b) (
      le-leb _ _ h.halted,
      (
        le-leb b.reply.at STORE (let r = h.reply in omega arith),
        (le-leb b.reply.unsent (STORE - b.reply.at) (let r = h.reply in omega arith), (phase_to _ _ h.phase, tt)),
      ),
    )

-- ** Interrupt-IN

pub record InterruptSound (i : InterruptIn) : Type 0 where
  pub halted : i.halted ≤ 1
  pub waiting : is_waiting i ≡ true → packet_sound i.waiting ≡ true
  pub silent : is_waiting i ≡ false → (i.waiting.notify2 ≡ 0) × (asks_service i.status ≡ false)

abbrev waiting_tests : InterruptIn → List Bool
waiting_tests i = is_flag i.halted & packet_sound i.waiting & []

abbrev silent_tests : InterruptIn → List Bool
silent_tests i = is_flag i.halted & i.waiting.notify2 =ᵇ 0 & no (asks_service i.status) & []

interrupt_of_lem : (i : InterruptIn) → interrupt_sound i ≡ true → InterruptSound i
unfolding interrupt_sound waiting_sound silent_sound
interrupt_of_lem i =
    pick_all (λ (b : Bool). b ≡ true → InterruptSound i) (is_waiting i) _ _
    (λ w e. let h = all_of (waiting_tests i) e in record { halted = leb-true _ _ h.0; waiting = λ _. h.1.0; silent = λ f. absurd (false≢true (sym f ∙ w)) })
    (λ w e. let h = all_of (silent_tests i) e in record { halted = leb-true _ _ h.0; waiting = λ f. absurd (false≢true (sym w ∙ f)); silent = λ _. (eqb-true _ _ h.1.0, is_no _ h.1.1.0) })

interrupt_to : (i : InterruptIn) → InterruptSound i → interrupt_sound i ≡ true
unfolding interrupt_sound waiting_sound silent_sound
interrupt_to i h =
    pick_all (λ (b : Bool). b ≡ true) (is_waiting i) _ _
    (λ w. of_all (waiting_tests i) (le-leb _ _ h.halted, (h.waiting w, tt)))
    (λ w. of_all (silent_tests i) (le-leb _ _ h.halted, (eq-eqb _ _ (h.silent w).0, (no_true _ (h.silent w).1, tt))))

-- ** the split

pub record ClearSound (o : BulkOut) (b : BulkIn) : Type 0 where
  pub halted : o.halted ≡ 1
  pub held : o.message.held ≡ 0
  pub no_out_tag : o.recent ≡ 0
  pub unsent : b.reply.unsent ≡ 0
  pub no_in_tag : b.recent ≡ 0
  pub phase : (b.transfer.phase ≡ CLOSED) ⊎ (b.transfer.phase ≡ OWED)

abbrev clear_tests : BulkOut → BulkIn → List Bool
clear_tests o b = on o.halted & o.message.held =ᵇ 0 & o.recent =ᵇ 0 & b.reply.unsent =ᵇ 0 & b.recent =ᵇ 0 & (b.transfer.phase =ᵇ CLOSED or is_owed b) & []

clear_of : (o : BulkOut) (b : BulkIn) → clear_sound o b ≡ true → ClearSound o b
unfolding clear_sound
clear_of o b e =
    let h = all_of (clear_tests o b) e in
    record {
      halted = eqb-true _ _ h.0;
      held = eqb-true _ _ h.1.0;
      no_out_tag = eqb-true _ _ h.1.1.0;
      unsent = eqb-true _ _ h.1.1.1.0;
      no_in_tag = eqb-true _ _ h.1.1.1.1.0;
      phase = ⊎_elim (λ t. inl (eqb-true _ _ t)) (λ t. inr (eqb-true _ _ t)) (either (b.transfer.phase =ᵇ CLOSED) (is_owed b) h.1.1.1.1.1.0);
    }

clear_to : (o : BulkOut) (b : BulkIn) → ClearSound o b → clear_sound o b ≡ true
unfolding clear_sound
clear_to o b h =
    of_all (clear_tests o b) (
      eq-eqb _ _ h.halted,
      (
        eq-eqb _ _ h.held,
        (
          eq-eqb _ _ h.no_out_tag,
          (
            eq-eqb _ _ h.unsent,
            (
              eq-eqb _ _ h.no_in_tag,
              (⊎_elim (λ t. or_left _ _ (eq-eqb _ _ t)) (λ t. or_right (b.transfer.phase =ᵇ CLOSED) _ (eq-eqb _ _ t)) h.phase, tt),
            ),
          ),
        ),
      ),
    )

abbrev pub SplitSound : Split → BulkOut → BulkIn → Type 0
SplitSound None o b = b.transfer.phase ≡ OWED → ⊥
SplitSound (AbortOut count) o b = (count ≤ STORE) × (o.halted ≡ 1) × (b.transfer.phase ≡ OWED → ⊥)
SplitSound (AbortIn count) o b = count ≤ STORE
SplitSound Clear o b = ClearSound o b

split_of_lem : (s : Split) (o : BulkOut) (b : BulkIn) → split_sound s o b ≡ true → SplitSound s o b
unfolding split_sound not_owed abort_out_sound
split_of_lem None o b e = neb_ne _ _ (all_of (b.transfer.phase ≠ᵇ OWED & []) e).0
split_of_lem (AbortOut count) o b e =
    let h = all_of (count ≤ᵇ STORE & on o.halted & not_owed b & []) e in
    (leb-true _ _ h.0, eqb-true _ _ h.1.0, neb_ne _ _ (all_of (b.transfer.phase ≠ᵇ OWED & []) h.1.1.0).0)
split_of_lem (AbortIn count) o b e = leb-true _ _ e
split_of_lem Clear o b e = clear_of o b e

split_to : (s : Split) (o : BulkOut) (b : BulkIn) → SplitSound s o b → split_sound s o b ≡ true
unfolding split_sound not_owed abort_out_sound
split_to None o b h = of_all (b.transfer.phase ≠ᵇ OWED & []) (ne_neb _ _ h, tt)
split_to (AbortOut count) o b h =
    of_all (count ≤ᵇ STORE & on o.halted & not_owed b & []) (le-leb _ _ h.0, (eq-eqb _ _ h.1, (of_all (b.transfer.phase ≠ᵇ OWED & []) (ne_neb _ _ h.2, tt), tt)))
split_to (AbortIn count) o b h = le-leb _ _ h
split_to Clear o b h = clear_to o b h

-- ** a state

pub record Sound (st : State) : Type 0 where
  pub port : PortSound (port_of st)
  pub out : OutSound (out_of st)
  pub inward : InSound (in_of st)
  pub interrupt : InterruptSound (interrupt_of st)
  pub split : SplitSound st.split (out_of st) (in_of st)

abbrev tests : State → List Bool
tests st = port_sound (port_of st) & out_sound (out_of st) & in_sound (in_of st) & interrupt_sound (interrupt_of st) & split_sound st.split (out_of st) (in_of st) & []

pub sound_of : (st : State) → sound st ≡ true → Sound st
unfolding sound
sound_of st e =
    let h = all_of (tests st) e in
    record { port = port_of_lem _ h.0; out = out_of_lem _ h.1.0; inward = in_of_lem _ h.1.1.0; interrupt = interrupt_of_lem _ h.1.1.1.0; split = split_of_lem st.split _ _ h.1.1.1.1.0 }

pub sound_to : (st : State) → Sound st → sound st ≡ true
unfolding sound
sound_to st h = of_all (tests st) (port_to _ h.port, (out_to _ h.out, (in_to _ h.inward, (interrupt_to _ h.interrupt, (split_to st.split _ _ h.split, tt)))))
