use mathlib.Core.Path.{sym, ◌∙◌}
use Rattle.thermostat_step.proofs.SettingLaws.{status_refused}
use Rattle.thermostat_step.proofs.settings.status_set.Goals as goal

pub returns-in-Err : goal.returns-in-Err
returns-in-Err c = status_refused _ _ (sym c.sound.ensures ∙ c.if-not-sound.false) _ c.thermostat_gate.ensures _ _ c.in-Err.is c.refused-in-Err.ensures
