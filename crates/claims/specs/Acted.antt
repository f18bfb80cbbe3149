-- What the thermostat is told to do, and when: a trigger for a whole TRIGGER between transfers and for nothing else, a pulse for INDICATOR_PULSE; and what a
-- call that is not answered 0 gives.
-- Assumes nothing.
use Rattle.std.specs.Prelude.{ℕ, ◌≤◌, ◌≡◌, List, [], ◌∷◌}
use Rattle.rules.specs.When.{Not}
use Rattle.port.specs.Answer.{Answer}
use Rattle.port.specs.Step.{Call, setup_packet, out_packet, take_into, bus_reset, quiet}
use Rattle.port.specs.Trace.{Event}
use Rattle.port.specs.Reply.{due_after}
use Rattle.claims.specs.Command.{IsTrigger}
use Rattle.claims.specs.Wire.{Heard, nothing, accepted, broken_off, wiped_out, handed_over, heard_of}

-- the data bytes that are to come of the Bulk-OUT transfer under way, behind an event; 0 between transfers
abbrev pub due_behind : ℕ → Heard → ℕ
due_behind due nothing = due
due_behind due (accepted s) = due_after due s
due_behind due broken_off = 0
due_behind due wiped_out = 0
due_behind due (handed_over bytes) = due

-- a whole TRIGGER, between transfers: the same bytes can be data of a transfer
abbrev pub Triggering : ℕ → Call → Type 0
Triggering due (setup_packet p) = ⊥
Triggering due (out_packet s) = (due ≡ 0) × IsTrigger s
Triggering due (take_into room) = ⊥
Triggering due bus_reset = ⊥
Triggering due (quiet q) = ⊥

-- INDICATOR_PULSE, all eight bytes
abbrev pub Pulsing : Call → Type 0
Pulsing (setup_packet p) = p.packet ≡ 0xA1 ∷ 64 ∷ 0 ∷ 0 ∷ 0 ∷ 0 ∷ 1 ∷ 0 ∷ []
Pulsing (out_packet s) = ⊥
Pulsing (take_into room) = ⊥
Pulsing bus_reset = ⊥
Pulsing (quiet q) = ⊥

-- an answer tells nothing (0), to trigger (1) or to pulse (2)
pub record Acts (due : ℕ) (c : Call) (a : Answer) : Type 0 where
  pub tells : a.verdict.tells ≤ 2
  pub triggered : a.verdict.tells ≡ 1 → Triggering due c × (a.verdict.number ≡ 0)
  pub triggers : Triggering due c → a.verdict.number ≡ 0 → a.verdict.tells ≡ 1
  pub pulsed : a.verdict.tells ≡ 2 → Pulsing c × (a.verdict.number ≡ 0)
  pub pulses : Pulsing c → a.verdict.number ≡ 0 → a.verdict.tells ≡ 2
  pub refused : Not (a.verdict.number ≡ 0) → (a.bytes ≡ []) × (a.verdict.tells ≡ 0)

-- THE STATEMENT about a history
abbrev pub Acting : ℕ → List Event → Type 0
Acting due [] = Unit {0}
Acting due (e ∷ es) = Acts due e.call e.answer × Acting (due_behind due (heard_of e)) es
