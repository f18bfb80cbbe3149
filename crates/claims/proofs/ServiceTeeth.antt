-- Ports that are ours but for Interrupt-IN, each wrong in one way: what NoRequestLost and NoneMadeUp are there to shut out.
-- Assumes nothing.
use Prim.Native.Nat.{ℕ}
use mathlib.Core.Path.{◌≡◌, refl, sym, ap}
use mathlib.Core.List.{List, [], ◌∷◌, ◌++◌, tail-eq_of_cons-eq}
use native.Mathlib.Omega.{arith}
use lib.ListN.{length, length-append}
use Rattle.rules.specs.Choice.{◌=ᵇ◌, ◌and◌, pick}
use Rattle.rules.specs.Answers.{WAIT}
use Rattle.wire.specs.When.{at}
use Rattle.port.specs.Parts.{interrupt_of, with_interrupt, with_waiting, no_packet}
use Rattle.port.specs.Answer.{numbered}
use Rattle.port.specs.Interrupt.{asks_service, without_bit_6, service_request, is_waiting}
use Rattle.port.specs.Device.{Result, with_state}
use Rattle.port.specs.Calls.{refused}
use Rattle.port.specs.Cases.{gives}
use Rattle.port.specs.Laws.{INITIATE_CLEAR, SET_CONFIGURATION}
use Rattle.port.specs.Service.{behind, after_status, after_request, watched}
use Rattle.port.specs.Step.{Quiet, in_poll, interrupt_poll, offer_reply, set_status, front_panel, bus_suspend, SetupPacket}
use Rattle.port.specs.Step.{Call, setup_packet, out_packet, take_into, bus_reset, quiet, setup_of, Stepping, step}
use Rattle.port.specs.Trace.{Event, trace}
use Rattle.port.specs.declared.types.InterruptIn.{InterruptIn}
use Rattle.port.specs.declared.types.Setting.{Setting}
use Rattle.port.proofs.Opened.{computed}
use Rattle.claims.specs.Service.{event, NoRequestLost, NoneMadeUp, requests_after}

-- ** ports that do more to the endpoint than ours, or less: by the call, the endpoint before it and the endpoint behind it

abbrev pub Meddler : Type 0
Meddler = Call → InterruptIn → InterruptIn → InterruptIn

unfoldable pub meddling : Meddler → Stepping
meddling with u c =
    let q = step u c in
    record { unit = with_state q.unit (with_interrupt q.unit.state (with c (interrupt_of u.state) (interrupt_of q.unit.state))); answer = q.answer }

-- at a poll, and at a status byte
abbrev polls_quiet : (InterruptIn → InterruptIn) → (ℕ → InterruptIn) → Quiet → InterruptIn → InterruptIn
polls_quiet polled set (in_poll room) i = i
polls_quiet polled set (interrupt_poll room) i = polled i
polls_quiet polled set (offer_reply bytes) i = i
polls_quiet polled set (set_status status) i = set status
polls_quiet polled set front_panel i = i
polls_quiet polled set bus_suspend i = i

abbrev meddles : (SetupPacket → InterruptIn → InterruptIn) → (InterruptIn → InterruptIn) → (ℕ → InterruptIn) → Call → InterruptIn → InterruptIn
meddles setup polled set (setup_packet p) i = setup p i
meddles setup polled set (out_packet s) i = i
meddles setup polled set (take_into room) i = i
meddles setup polled set bus_reset i = i
meddles setup polled set (quiet q) i = polls_quiet polled set q i

-- behind a poll nothing waits: a request made while one waits is lost
abbrev pub losing : Meddler
losing c before i = meddles (λ _ j. j) (λ j. record { status = without_bit_6 before.status; waiting = no_packet; halted = j.halted }) (λ _. i) c i

-- bit 6 set off takes the packet away
abbrev pub withdrawing : Meddler
withdrawing c before i = meddles (λ _ j. j) (λ j. j) (λ status. pick (asks_service status) i (with_waiting i no_packet)) c i

-- a later status byte stands in the packet
abbrev pub overwriting : Meddler
overwriting c before i = meddles (λ _ j. j) (λ j. j) (λ status. pick (is_waiting before) (with_waiting i (service_request status)) i) c i

-- a clear takes the packet away
abbrev pub clearing : Meddler
clearing c before i = meddles (λ p j. pick (at p.packet 0 =ᵇ 0xA1 and at p.packet 1 =ᵇ 5) (with_waiting j no_packet) j) (λ j. j) (λ _. i) c i

-- a packet that was polled waits on
abbrev pub repeating : Meddler
repeating c before i = meddles (λ _ j. j) (λ _. before) (λ _. i) c i

-- ** ports whose polls are answered otherwise

unfoldable pub answering : (Result → Result) → Stepping
answering with u (setup_packet p) = step u (setup_packet p)
answering with u (out_packet s) = step u (out_packet s)
answering with u (take_into room) = step u (take_into room)
answering with u bus_reset = step u bus_reset
answering with u (quiet (in_poll room)) = step u (quiet (in_poll room))
answering with u (quiet (interrupt_poll room)) = with (step u (quiet (interrupt_poll room)))
answering with u (quiet (offer_reply bytes)) = step u (quiet (offer_reply bytes))
answering with u (quiet (set_status status)) = step u (quiet (set_status status))
answering with u (quiet front_panel) = step u (quiet front_panel)
answering with u (quiet bus_suspend) = step u (quiet bus_suspend)

-- "wait", always; and a request that nobody made, where there is none
abbrev pub stalling : Result → Result
stalling q = refused q.unit WAIT

abbrev pub inventing : Result → Result
inventing q = record { unit = q.unit; answer = pick (q.answer.verdict.number =ᵇ WAIT) (gives (0x81 ∷ 0x40 ∷ [])) q.answer }

-- ** they are refuted

abbrev size : Setting
size = record { packet = 64 }

abbrev configure : Call
configure = setup_of (SET_CONFIGURATION 1) 24

abbrev set : ℕ → Call
set status = quiet (set_status status)

abbrev poll : Call
poll = quiet (interrupt_poll 2)

abbrev done : Call → Event
done c = event c (numbered 0)

-- every definition that a history computes with
opened : ℕ
unfolding computed trace watched behind after_status after_request meddling answering requests_after
opened = 0

some : {b : ℕ} {l : List ℕ} → ◌≡◌ {A = List ℕ} (b ∷ l) [] → ⊥
some e = let z : ◌≡◌ {A = ℕ} 0 1 = cc in omega arith

-- a request, and another while the first one waits: the second poll waits
pub no_losing : NoRequestLost (meddling losing) → ⊥
unfolding opened
no_losing claim =
    (claim.kept size (configure ∷ set 0x40 ∷ set 0x41 ∷ poll ∷ poll ∷ []) (done configure ∷ done (set 0x40) ∷ []) [] [] [] 0x41 2 2
    (numbered 0) (gives (0x81 ∷ 0x40 ∷ [])) (numbered 5) refl refl refl some tt refl tt refl).waits refl

-- a request, and bit 6 set off: the poll waits
pub no_withdrawing : NoRequestLost (meddling withdrawing) → ⊥
unfolding opened
no_withdrawing claim =
    (claim.at_once size (configure ∷ set 0x40 ∷ set 0 ∷ poll ∷ []) (done configure ∷ []) (done (set 0) ∷ []) [] 0x40 2 (numbered 0) (numbered 5) refl refl refl refl (λ x. x.1, tt)).waits refl

-- a request, and another byte: the poll brings that
pub no_overwriting : NoRequestLost (meddling overwriting) → ⊥
unfolding opened
no_overwriting claim =
    let e = ap (λ (l : List ℕ). at l 1)
    ((claim.at_once size (configure ∷ set 0x40 ∷ set 0x51 ∷ poll ∷ []) (done configure ∷ []) (done (set 0x51) ∷ []) [] 0x40 2 (numbered 0) (gives (0x81 ∷ 0x51 ∷ []))
    refl refl refl refl (λ x. x.1, tt)).bytes refl) in
    let z : ◌≡◌ {A = ℕ} 0x51 0x40 = e in omega arith

-- a request, and a clear: the poll waits
pub no_clearing : NoRequestLost (meddling clearing) → ⊥
unfolding opened
no_clearing claim =
    let clear = setup_of INITIATE_CLEAR 24 in
    (claim.at_once size (configure ∷ set 0x40 ∷ clear ∷ poll ∷ []) (done configure ∷ []) (event clear (gives (0x01 ∷ [])) ∷ []) [] 0x40 2 (numbered 0) (numbered 5)
    refl refl refl refl ((λ x. let z = x.1 in omega arith), tt)).waits refl

pub no_stalling : NoRequestLost (answering stalling) → ⊥
unfolding opened
no_stalling claim =
    (claim.at_once size (configure ∷ set 0x40 ∷ poll ∷ []) (done configure ∷ []) [] [] 0x40 2 (numbered 0) (numbered 5) refl refl refl refl tt).waits refl

-- ** none is made up: each packet takes one request

short : {A : Type 0} (x : A) (older newer : List A) → ◌≡◌ {A = List A} [] (older ++ (x ∷ newer)) → ⊥
short x older newer e = let l = simp length-append at (ap length e) in omega arith

one : {A : Type 0} (y x : A) (older newer : List A) → ◌≡◌ {A = List A} (y ∷ []) (older ++ (x ∷ newer)) → newer ≡ []
one y x [] newer e = sym (tail-eq_of_cons-eq e)
one y x (z ∷ older) newer e = absurd (short x older newer (tail-eq_of_cons-eq e))

pub no_inventing : NoneMadeUp (answering inventing) → ⊥
unfolding opened
no_inventing claim = let k = claim size (configure ∷ poll ∷ []) in let p = k.2.1 in short _ p.0 _ p.1

-- a request, and two polls
pub no_repeating : NoneMadeUp (meddling repeating) → ⊥
unfolding opened
no_repeating claim =
    let k = claim size (configure ∷ set 0x40 ∷ poll ∷ poll ∷ []) in
    let first = k.2.2.1 in
    let none = one _ _ first.0 _ (rw (← k.2.1) at first.1) in
    let second = k.2.2.2.1 in
    short _ second.0 _ (rw none at second.1)
