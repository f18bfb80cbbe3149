-- Each number of each call's list is answered, by computation: a unit and a call for each, in the order of the list, 0 first. All units but
-- the unsound one are made by calls from power-on.
-- Assumes nothing.
use Prim.Native.Nat.{ℕ}
use mathlib.Core.Path.{◌≡◌, refl, sym, ap, ◌∙◌}
use mathlib.Core.Bool.{false}
use mathlib.Core.List.{List, [], ◌∷◌}
use mathlib.Core.Logic.{◌⊎◌, inl, inr, ⊎_elim}
use lib.ListN.{replicate}
use Rattle.rules.specs.Answers.{DONE, UNSOUND}
use Rattle.rules.specs.Flags.{OFF}
use Rattle.port.specs.Device.{Device, Result, is_sound, made, power_on}
use Rattle.port.specs.Step.{in_poll, interrupt_poll, offer_reply, set_status, front_panel, bus_suspend}
use Rattle.port.specs.Step.{Call, out_packet, take_into, bus_reset, quiet, setup_of, step, after}
use Rattle.port.specs.Lists.{Kind, setups, outs, polls, interrupts, takes, offers, statuses, panels, resets, suspends, kind_of, own}
use Rattle.port.specs.Laws.{OneOf, Reachable, Answered, EachAnswered}
use Rattle.port.specs.Cases.{packet, message, request}
use Rattle.port.proofs.Opened.{computed}
use Rattle.port.proofs.Calls.{unsound_refused}

-- ** witnesses

-- a witness: the calls that make its unit, or the unsound one, and the call that is answered
data Witness : Type 0 where
  on_fresh : Call → Witness
  on_behind : List Call → Call → Witness
  on_unsound : Call → Witness

abbrev call_of : Witness → Call
call_of (on_fresh c) = c
call_of (on_behind before c) = c
call_of (on_unsound c) = c

-- SET_CONFIGURATION 1
abbrev configure : Call
configure = setup_of (0x00 ∷ 9 ∷ 1 ∷ 0 ∷ 0 ∷ 0 ∷ 0 ∷ 0 ∷ []) 24

abbrev behind : List Call → Device
behind calls = after step (power_on (record { packet = 64 })).unit calls

-- no packet size is 7
abbrev unit_of : Witness → Device
unit_of (on_fresh c) = behind []
unit_of (on_behind before c) = behind (configure ∷ before)
unit_of (on_unsound c) = made (record { packet = 7 }) OFF

-- a halt of an endpoint, by the host
abbrev halt : ℕ → Call
halt endpoint = setup_of (0x02 ∷ 3 ∷ 0 ∷ 0 ∷ endpoint ∷ 0 ∷ 0 ∷ 0 ∷ []) 24

-- a message of one byte with EOM, and one without
abbrev whole : Call
whole = message 1 1 1 (7 ∷ 0 ∷ 0 ∷ 0 ∷ [])

abbrev half : Call
half = message 1 1 0 (7 ∷ 0 ∷ 0 ∷ 0 ∷ [])

-- ** the witnesses

unfoldable witnesses : Kind → List Witness
witnesses setups =
    on_fresh (setup_of (0x00 ∷ 9 ∷ 1 ∷ 0 ∷ 0 ∷ 0 ∷ 0 ∷ 0 ∷ []) 24)
    ∷ on_unsound (setup_of [] 24)
    ∷ on_fresh (setup_of [] 24)
    ∷ on_fresh (setup_of (replicate 8 0) 24)
    ∷ []
witnesses outs =
    on_behind [] (out_packet [])
    ∷ on_unsound (out_packet [])
    ∷ on_fresh (out_packet [])
    ∷ on_behind [] (out_packet (replicate 65 0))
    ∷ on_behind (halt 0x01 ∷ []) (out_packet [])
    ∷ on_behind (whole ∷ []) (out_packet [])
    ∷ on_behind [] (out_packet (replicate 13 0))
    ∷ on_behind [] (out_packet (replicate 8 0))
    ∷ on_behind [] (message 0 1 1 [])
    ∷ on_behind [] (packet 3 1 1 1 [])
    ∷ on_behind [] (message 1 0 1 [])
    ∷ on_behind (request 1 1 ∷ []) (request 1 1)
    ∷ on_behind [] (message 1 1025 1 [])
    ∷ on_behind [] (message 1 1 1 [])
    ∷ []
witnesses polls =
    on_behind (quiet (offer_reply (7 ∷ [])) ∷ request 1 1 ∷ []) (quiet (in_poll 64))
    ∷ on_unsound (quiet (in_poll 64))
    ∷ on_fresh (quiet (in_poll 64))
    ∷ on_behind [] (quiet (in_poll 63))
    ∷ on_behind (halt 0x82 ∷ []) (quiet (in_poll 64))
    ∷ on_behind [] (quiet (in_poll 64))
    ∷ []
witnesses interrupts =
    on_behind (quiet (set_status 64) ∷ []) (quiet (interrupt_poll 2))
    ∷ on_unsound (quiet (interrupt_poll 2))
    ∷ on_fresh (quiet (interrupt_poll 2))
    ∷ on_behind (quiet (set_status 64) ∷ []) (quiet (interrupt_poll 1))
    ∷ on_behind (quiet (set_status 64) ∷ halt 0x83 ∷ []) (quiet (interrupt_poll 2))
    ∷ on_behind [] (quiet (interrupt_poll 2))
    ∷ []
witnesses takes =
    on_behind (whole ∷ []) (take_into 1)
    ∷ on_unsound (take_into 1)
    ∷ on_fresh (take_into 1)
    ∷ on_behind (half ∷ []) (take_into 1)
    ∷ on_behind (whole ∷ []) (take_into 0)
    ∷ []
witnesses offers =
    on_behind [] (quiet (offer_reply (7 ∷ [])))
    ∷ on_unsound (quiet (offer_reply (7 ∷ [])))
    ∷ on_fresh (quiet (offer_reply (7 ∷ [])))
    ∷ on_behind [] (quiet (offer_reply []))
    ∷ on_behind (quiet (offer_reply (7 ∷ [])) ∷ []) (quiet (offer_reply (7 ∷ [])))
    ∷ []
witnesses statuses = on_behind [] (quiet (set_status 0)) ∷ on_unsound (quiet (set_status 0)) ∷ on_fresh (quiet (set_status 0)) ∷ []
witnesses panels = on_behind [] (quiet front_panel) ∷ on_unsound (quiet front_panel) ∷ on_fresh (quiet front_panel) ∷ []
witnesses resets = on_fresh bus_reset ∷ on_unsound bus_reset ∷ []
witnesses suspends = on_fresh (quiet bus_suspend) ∷ on_unsound (quiet bus_suspend) ∷ []

-- ** they answer what the list says

abbrev numbers : List Witness → List ℕ
numbers [] = []
numbers (w ∷ ws) = (step (unit_of w) (call_of w)).answer.verdict.number ∷ numbers ws

-- all are of the kind
abbrev Fitting : Kind → List Witness → Type 0
Fitting k [] = Unit {0}
Fitting k (w ∷ ws) = (kind_of (call_of w) ≡ k) × Fitting k ws

answer : (k : Kind) → numbers (witnesses k) ≡ DONE ∷ own k
unfolding computed witnesses own
answer setups = refl
answer outs = refl
answer polls = refl
answer interrupts = refl
answer takes = refl
answer offers = refl
answer statuses = refl
answer panels = refl
answer resets = refl
answer suspends = refl

fitting : (k : Kind) → Fitting k (witnesses k)
unfolding witnesses
fitting setups = (refl, (refl, (refl, (refl, tt))))
fitting outs = (refl, (refl, (refl, (refl, (refl, (refl, (refl, (refl, (refl, (refl, (refl, (refl, (refl, (refl, tt))))))))))))))
fitting polls = (refl, (refl, (refl, (refl, (refl, (refl, tt))))))
fitting interrupts = (refl, (refl, (refl, (refl, (refl, (refl, tt))))))
fitting takes = (refl, (refl, (refl, (refl, (refl, tt)))))
fitting offers = (refl, (refl, (refl, (refl, (refl, tt)))))
fitting statuses = (refl, (refl, (refl, tt)))
fitting panels = (refl, (refl, (refl, tt)))
fitting resets = (refl, (refl, tt))
fitting suspends = (refl, (refl, tt))

not_seven : is_sound (made (record { packet = 7 }) OFF) ≡ false
unfolding computed
not_seven = refl

reachable : (w : Witness) → ((step (unit_of w) (call_of w)).answer.verdict.number ≡ UNSOUND) ⊎ Reachable step (unit_of w)
unfolding after
reachable (on_fresh c) = inr (record { setting = record { packet = 64 }; calls = []; made = refl })
reachable (on_behind before c) = inr (record { setting = record { packet = 64 }; calls = configure ∷ before; made = refl })
reachable (on_unsound c) = inl (ap (λ (r : Result). r.answer.verdict.number) (unsound_refused (made (record { packet = 7 }) OFF) c not_seven))

found : (k : Kind) (n : ℕ) (ws : List Witness) → Fitting k ws → OneOf n (numbers ws) → Answered step k n
found k n [] a x = elim x [ ]
found k n (w ∷ ws) a (inl e) = record { unit = unit_of w; call = call_of w; kind = a.0; gives = sym e; reached = ⊎_elim (λ z. inl (e ∙ z)) inr (reachable w) }
found k n (w ∷ ws) a (inr o) = found k n ws a.1 o

pub each_answered : EachAnswered step
each_answered k n o = found k n (witnesses k) (fitting k) (rw (answer k) o)
