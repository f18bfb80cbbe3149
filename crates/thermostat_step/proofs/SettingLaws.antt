-- What the thermostat's calls come to, soundness asked first: a law for each way that their code takes.
-- Assumes nothing.
use Prim.Native.Nat.{ℕ}
use mathlib.Core.Path.{◌≡◌}
use mathlib.Core.Bool.{true}
use mathlib.Core.List.{[]}
use Rattle.std.specs.Prelude.{Result, Ok, Err}
use Rattle.rules.specs.Choice.{pick, gate}
use Rattle.rules.specs.declared.refusal.Refusal.{Refusal}
use Rattle.rules.specs.declared.refusal.Refusal.TheVariants.{Unsound}
use Rattle.rules.proofs.Choice.{refuses, passes}
use Rattle.port.specs.Parts.{interrupt_of, with_interrupt, with_remote}
use Rattle.port.specs.Interrupt.{status_held}
use Rattle.port.specs.Remote.{by_panel}
use Rattle.port.specs.Sound.{sound}
use Rattle.port.specs.Answer.{says, refuse}
use Rattle.port.specs.Given.{given_of}
use Rattle.port.specs.Calls.{thermostat_rules, status_set, returned}
use Rattle.port.specs.declared.types.State.{State}
use Rattle.port.specs.declared.types.Given.{Given}
use Rattle.state_parts.proofs.Handed.{unsound_given, sound_given}

module _ (st : State) (g : Given) (s : sound st ≡ true) (told : Result (Unit {0}) Refusal) (is : told ≡ gate (thermostat_rules st)) where
  pub status_refused : (status : ℕ) (r : Refusal) → told ≡ Err r → g ≡ given_of (refuse st r) → g ≡ given_of (pick (sound st) (status_set st status) (refuse st Unsound))
  unfolding status_set
  status_refused status r e f = sound_given st _ g s _ f (refuses (refuse st) (thermostat_rules st) _ told is r e)

  pub status_done : (status : ℕ) → told ≡ Ok tt → g ≡ given_of (says (with_interrupt st (status_held (interrupt_of st) status)) [])
      → g ≡ given_of (pick (sound st) (status_set st status) (refuse st Unsound))
  unfolding status_set
  status_done status e f = sound_given st _ g s _ f (passes (refuse st) (thermostat_rules st) _ told is e)

  pub return_refused : (r : Refusal) → told ≡ Err r → g ≡ given_of (refuse st r) → g ≡ given_of (pick (sound st) (returned st) (refuse st Unsound))
  unfolding returned
  return_refused r e f = sound_given st _ g s _ f (refuses (refuse st) (thermostat_rules st) _ told is r e)

  pub return_done : told ≡ Ok tt → g ≡ given_of (says (with_remote st (by_panel st.remote)) []) → g ≡ given_of (pick (sound st) (returned st) (refuse st Unsound))
  unfolding returned
  return_done e f = sound_given st _ g s _ f (passes (refuse st) (thermostat_rules st) _ told is e)

pub ruleset status_ways = (unsound_given, status_refused, status_done)

pub ruleset return_ways = (unsound_given, return_refused, return_done)
