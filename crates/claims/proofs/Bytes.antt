-- That literal packets are bytes, by a test.
-- Assumes nothing.
use Prim.Native.Nat.{ℕ, zero, suc}
use mathlib.Core.Path.{◌≡◌}
use mathlib.Core.Bool.{Bool, true}
use mathlib.Core.List.{List, [], ◌∷◌}
use native.Mathlib.Omega.{arith}
use borrow.Author.Tests.{ltb-true}
use Rattle.rules.specs.Choice.{◌<ᵇ◌, ◌and◌}
use Rattle.rules.proofs.Choice.{both_left, both_right}
use Rattle.port.specs.Step.{Quiet, in_poll, interrupt_poll, offer_reply, set_status, front_panel, bus_suspend}
use Rattle.port.specs.Step.{Call, setup_packet, out_packet, take_into, bus_reset, quiet}
use Rattle.port.specs.Trace.{Octets, QuietInOctets, InOctets, AllInOctets}

abbrev pub small : List ℕ → Bool
small [] = true
small (b ∷ s) = b <ᵇ 256 and small s

pub octets_of : (s : List ℕ) → small s ≡ true → Octets s
octets_of [] e i = omega arith
octets_of (b ∷ s) e zero = ltb-true b 256 (both_left (b <ᵇ 256) (small s) e)
octets_of (b ∷ s) e (suc i) = octets_of s (both_right (b <ᵇ 256) (small s) e) i

abbrev small_quiet : Quiet → Bool
small_quiet (in_poll room) = true
small_quiet (interrupt_poll room) = true
small_quiet (offer_reply bytes) = small bytes
small_quiet (set_status status) = status <ᵇ 256
small_quiet front_panel = true
small_quiet bus_suspend = true

abbrev small_call : Call → Bool
small_call (setup_packet p) = small p.packet
small_call (out_packet s) = small s
small_call (take_into room) = true
small_call bus_reset = true
small_call (quiet q) = small_quiet q

abbrev pub small_calls : List Call → Bool
small_calls [] = true
small_calls (c ∷ cs) = small_call c and small_calls cs

quiet_octets : (q : Quiet) → small_quiet q ≡ true → QuietInOctets q
quiet_octets (in_poll room) e = tt
quiet_octets (interrupt_poll room) e = tt
quiet_octets (offer_reply bytes) e = octets_of bytes e
quiet_octets (set_status status) e = ltb-true status 256 e
quiet_octets front_panel e = tt
quiet_octets bus_suspend e = tt

call_octets : (c : Call) → small_call c ≡ true → InOctets c
call_octets (setup_packet p) e = octets_of p.packet e
call_octets (out_packet s) e = octets_of s e
call_octets (take_into room) e = tt
call_octets bus_reset e = tt
call_octets (quiet q) e = quiet_octets q e

pub calls_octets : (cs : List Call) → small_calls cs ≡ true → AllInOctets cs
calls_octets [] e = tt
calls_octets (c ∷ cs) e = (call_octets c (both_left _ _ e), calls_octets cs (both_right (small_call c) _ e))
