-- The answers that have no bytes: of power-on, and of the calls that write no lent buffer.
-- Assumes nothing.
use Prim.Native.Nat.{ℕ}
use mathlib.Core.Path.{◌≡◌, refl}
use mathlib.Core.List.{List, []}
use Rattle.rules.proofs.Choice.{pick_all, decide_all}
use Rattle.port.specs.Parts.{is_size}
use Rattle.port.specs.Answer.{Said, refuse}
use Rattle.port.specs.Device.{Device, Result, is_sound, power_on}
use Rattle.port.specs.Calls.{bulk_out, offer, thermostat_rules, status_set, set_status_byte, returned, panel, reset_by_bus, suspend}
use Rattle.port.specs.Step.{offer_reply, set_status, front_panel, bus_suspend, Call, out_packet, bus_reset, quiet, quietly, soundly, step}
use Rattle.port.specs.declared.types.Setting.{Setting}

abbrev Silent : Result → Type 0
Silent q = q.answer.bytes ≡ []

pub power_silent : (setting : Setting) → (power_on setting).answer.bytes ≡ []
unfolding power_on
power_silent setting = pick_all Silent (is_size setting.packet) _ _ (λ _. refl) (λ _. refl)

-- a call that is lent no buffer
pub data Mute : Call → Type 0 where
  packet : (s : List ℕ) → Mute (out_packet s)
  offers : (bytes : List ℕ) → Mute (quiet (offer_reply bytes))
  sets : (status : ℕ) → Mute (quiet (set_status status))
  panels : Mute (quiet front_panel)
  suspends : Mute (quiet bus_suspend)
  resets : Mute bus_reset

pub silent : (u : Device) (c : Call) → Mute c → (step u c).answer.bytes ≡ []
unfolding step soundly quietly bulk_out offer set_status_byte status_set panel returned reset_by_bus suspend
silent u c m = pick_all Silent (is_sound u) _ _ (λ _. by m) (λ _. refl)
  where
    by : {c : Call} → Mute c → Silent (soundly u c)
    by (packet s) = refl
    by (offers bytes) = refl
    by (sets status) = decide_all (λ (q : Said). q.answer.bytes ≡ []) (refuse u.state) (thermostat_rules u.state) _ (refl, tt) (λ _. refl)
    by panels = decide_all (λ (q : Said). q.answer.bytes ≡ []) (refuse u.state) (thermostat_rules u.state) _ (refl, tt) (λ _. refl)
    by suspends = refl
    by resets = refl
