-- What the claims on replies shut out: histories that no port may leave on the wire, refuted by computation with no unit named; and ports that lose a reply
-- or never send it.
-- Assumes nothing.
use Prim.Native.Nat.{ℕ, suc}
use mathlib.Core.Path.{◌≡◌, refl, ap}
use mathlib.Core.List.{List, [], ◌∷◌, ◌++◌}
use mathlib.Core.Logic.{inl}
use native.Mathlib.Omega.{arith}
use lib.ListN.{length, get_or, take, replicate, length-replicate}
use Rattle.rules.specs.Choice.{◌and◌, pick}
use Rattle.rules.specs.Answers.{WAIT, only}
use Rattle.rules.specs.Flags.{OFF, ON}
use Rattle.port.specs.Parts.{STORE, in_of, closed_in, with_in, empty_in}
use Rattle.port.specs.Device.{Device, Result, with_state, made}
use Rattle.port.specs.Calls.{refused}
use Rattle.port.specs.Step.{in_poll, interrupt_poll, offer_reply, set_status, front_panel, bus_suspend, Call}
use Rattle.port.specs.Step.{setup_packet, out_packet, take_into, bus_reset, quiet, setup_of, Stepping, step}
use Rattle.port.specs.Trace.{Event, trace}
use Rattle.port.specs.Idle.{constant, refusing}
use Rattle.port.specs.Reply.{portion, flags, in_transfer, in_packets, unread, after_packet, after_setup, Reading}
use Rattle.port.proofs.Opened.{computed}
use Rattle.claims.specs.Command.{IsRequest}
use Rattle.claims.specs.Replies.{Ready, ReplyArrives}

-- ** how the histories are written

abbrev told : Call → ℕ → List ℕ → Event
told c number bytes = record { call = c; answer = record { verdict = only number; bytes = bytes } }

abbrev offered : List ℕ → Event
offered reply = told (quiet (offer_reply reply)) 0 []

-- a REQUEST of up to 100 bytes, with no TermChar
abbrev request : List ℕ
request = 2 ∷ 1 ∷ 254 ∷ 0 ∷ 100 ∷ 0 ∷ 0 ∷ 0 ∷ 0 ∷ 0 ∷ 0 ∷ 0 ∷ []

abbrev requested : Event
requested = told (out_packet request) 0 []

abbrev polled : List ℕ → Event
polled bytes = told (quiet (in_poll 64)) 0 bytes

-- the header of a transfer of n bytes
abbrev header : ℕ → ℕ → List ℕ
header n attributes = 2 ∷ 1 ∷ 254 ∷ 0 ∷ n ∷ 0 ∷ 0 ∷ 0 ∷ attributes ∷ 0 ∷ 0 ∷ 0 ∷ []

-- 27.5 and 27.6, with a newline
abbrev SET_27_5 : List ℕ
SET_27_5 = 0x32 ∷ 0x37 ∷ 0x2E ∷ 0x35 ∷ 0x0A ∷ []

abbrev SET_27_6 : List ℕ
SET_27_6 = 0x32 ∷ 0x37 ∷ 0x2E ∷ 0x36 ∷ 0x0A ∷ []

-- INITIATE_ABORT_BULK_IN of tag 1, granted
abbrev abort : Event
abort = told (setup_of (0xA2 ∷ 3 ∷ 1 ∷ 0 ∷ 0x82 ∷ 0 ∷ 2 ∷ 0 ∷ []) 24) 0 (0x01 ∷ 1 ∷ [])

-- two lists with different bytes at a place
unlike : (i : ℕ) (l r : List ℕ) → (get_or l i 0 ≡ get_or r i 0 → ⊥) → l ≡ r → ⊥
unlike i l r n e = n (ap (λ (k : List ℕ). get_or k i 0) e)

some : (b : ℕ) (l : List ℕ) → b ∷ l ≡ [] → ⊥
some b l e = let z : suc (length l) ≡ 0 = ap length e in omega arith

-- every definition that a history computes with
opened : ℕ
unfolding portion flags in_transfer in_packets after_packet after_setup pick ◌and◌
opened = 0

-- ** a good one: the setpoint is offered, asked for and read back

pub read : Reading 64 unread (offered SET_27_5 ∷ requested ∷ polled (header 5 1 ++ SET_27_5) ∷ offered SET_27_6 ∷ [])
unfolding opened
read = (λ _. (refl, tt, some 0x32 _), ((λ _ _. tt), ((λ _. (some 0x32 _, refl)), ((λ _. (refl, tt, some 0x32 _)), tt))))

-- in two packets, 64 bytes and 8
pub read_in_two : Reading 64 unread (offered (replicate 60 7) ∷ requested ∷ polled (header 60 1 ++ replicate 52 7) ∷ polled (replicate 8 7) ∷ [])
unfolding opened
read_in_two = (λ _. (refl, tt, some 7 _), ((λ _ _. tt), ((λ _. (some 7 _, refl)), ((λ _. refl), tt))))

-- ** bad ones

-- the same reply twice: with no REQUEST, and with another
pub twice : Reading 64 unread (offered SET_27_5 ∷ requested ∷ polled (header 5 1 ++ SET_27_5) ∷ polled (header 5 1 ++ SET_27_5) ∷ []) → ⊥
unfolding opened
twice l = l.1.1.1.0 refl

pub twice_asked : Reading 64 unread (offered SET_27_5 ∷ requested ∷ polled (header 5 1 ++ SET_27_5) ∷ requested ∷ polled (header 5 1 ++ SET_27_5) ∷ []) → ⊥
unfolding opened
twice_asked l = (l.1.1.1.1.0 refl).0 refl

-- a byte altered
pub altered : Reading 64 unread (offered SET_27_5 ∷ requested ∷ polled (header 5 1 ++ SET_27_6) ∷ []) → ⊥
unfolding opened
altered l = unlike 15 (header 5 1 ++ SET_27_6) (header 5 1 ++ SET_27_5) (λ e. omega arith) (l.1.1.0 refl).1

-- a header with a wrong count, and one that does not say that this is the end
pub miscounted : Reading 64 unread (offered SET_27_5 ∷ requested ∷ polled (header 4 1 ++ SET_27_5) ∷ []) → ⊥
unfolding opened
miscounted l = unlike 4 (header 4 1 ++ SET_27_5) (header 5 1 ++ SET_27_5) (λ e. omega arith) (l.1.1.0 refl).1

pub endless : Reading 64 unread (offered SET_27_5 ∷ requested ∷ polled (header 5 0 ++ SET_27_5) ∷ []) → ⊥
unfolding opened
endless l = unlike 8 (header 5 0 ++ SET_27_5) (header 5 1 ++ SET_27_5) (λ e. omega arith) (l.1.1.0 refl).1

-- half of it, said to be all
pub cut_short : Reading 64 unread (offered (replicate 60 7) ∷ requested ∷ polled (header 52 1 ++ replicate 52 7) ∷ []) → ⊥
unfolding opened
cut_short l = unlike 4 (header 52 1) (header 60 1) (λ e. omega arith) (ap (take 12) (l.1.1.0 refl).1)

-- a packet that nobody asked for
pub unasked : Reading 64 unread (offered SET_27_5 ∷ polled (header 5 1 ++ SET_27_5) ∷ []) → ⊥
unfolding opened
unasked l = l.1.0 refl

-- bytes that nobody offered
pub invented : (bytes : List ℕ) → Reading 64 unread (requested ∷ polled bytes ∷ []) → ⊥
unfolding opened
invented bytes l = (l.1.0 refl).0 refl

-- data behind an abort that was granted: instead of the empty packet, and behind it
pub aborted_runs_on : Reading 64 unread (offered SET_27_5 ∷ requested ∷ abort ∷ polled (header 5 1 ++ SET_27_5) ∷ []) → ⊥
unfolding opened
aborted_runs_on l = some 2 _ (l.1.1.1.0 refl)

pub aborted_comes_back : Reading 64 unread (offered SET_27_5 ∷ requested ∷ abort ∷ polled [] ∷ requested ∷ polled (header 5 1 ++ SET_27_5) ∷ []) → ⊥
unfolding opened
aborted_comes_back l = (l.1.1.1.1.1.0 refl).0 refl

-- ** ports that lose a reply, or never send it

-- as ours, but for polls
unfoldable pub polling : (Device → ℕ → Result) → Stepping
polling does u (setup_packet p) = step u (setup_packet p)
polling does u (out_packet s) = step u (out_packet s)
polling does u (take_into room) = step u (take_into room)
polling does u bus_reset = step u bus_reset
polling does u (quiet (in_poll room)) = does u room
polling does u (quiet (interrupt_poll room)) = step u (quiet (interrupt_poll room))
polling does u (quiet (offer_reply bytes)) = step u (quiet (offer_reply bytes))
polling does u (quiet (set_status status)) = step u (quiet (set_status status))
polling does u (quiet front_panel) = step u (quiet front_panel)
polling does u (quiet bus_suspend) = step u (quiet bus_suspend)

-- it answers as ours, and has forgotten the reply and the transfer
abbrev pub forgetting : Device → ℕ → Result
forgetting u room =
    let q = step u (quiet (in_poll room)) in
    record { unit = with_state q.unit (with_in q.unit.state (empty_in closed_in OFF (in_of q.unit.state).recent)); answer = q.answer }

-- it says "wait", always
abbrev pub stalling : Device → ℕ → Result
stalling u room = refused u WAIT

configured : Device
configured = made (record { packet = 64 }) ON

ready : Ready configured
unfolding configured computed
ready = record {
  stored = record { message = length-replicate {A = ℕ} STORE 0; reply = length-replicate {A = ℕ} STORE 0 };
  sound = refl;
  configured = refl;
  out_runs = refl;
  in_runs = refl;
  out_closed = refl;
  unready = refl;
  unheld = refl;
  in_closed = refl;
  unstored = refl;
}

is_request : IsRequest request
is_request = record {
  request = record { tag = 1; size = 100; attributes = 0; char = 0 };
  good = record { tag_some = omega arith; tag_fits = omega arith; size_some = omega arith; size_fits = omega arith; flag = inl refl };
  bytes = refl;
}

-- a reply of two packets is offered, asked for and polled twice
abbrev reading : List Call
reading = quiet (offer_reply (replicate 60 7)) ∷ out_packet request ∷ quiet (in_poll 64) ∷ quiet (in_poll 64) ∷ []

pub no_forgetting : ReplyArrives (polling forgetting) → ⊥
unfolding configured computed polling trace opened
no_forgetting claim = let e : ◌≡◌ {A = ℕ} 5 0 = ((((claim configured reading ready tt).1 (is_request, tt)).1 (omega arith)).1 (omega arith)).0 in omega arith

pub no_stalling : ReplyArrives (polling stalling) → ⊥
unfolding configured computed polling trace opened
no_stalling claim = let e : ◌≡◌ {A = ℕ} 5 0 = (((claim configured reading ready tt).1 (is_request, tt)).1 (omega arith)).0 in omega arith

-- one that says "wait" to every call
pub no_refusing : ReplyArrives (refusing WAIT) → ⊥
unfolding configured computed constant trace opened
no_refusing claim = let e : ◌≡◌ {A = ℕ} 5 0 = (claim configured reading ready tt).0 (omega arith) (omega arith) refl tt in omega arith
