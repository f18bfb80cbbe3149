use Rattle.c_thermostat.proofs.Ways.{panel_refused, panel_goes, panel_stays}
use mathlib.Core.List.{[]}
use mathlib.Core.Logic.{⊎_elim}
use mathlib.Core.Path.{refl, sym, ◌∙◌}
use Rattle.c_thermostat.proofs.panel.Goals as goal

pub returns-in-Err : goal.returns-in-Err
returns-in-Err c = panel_refused c.args.u.now _ [] _ c.setting.ensures _ c.in-Err.is c.refused.ensures

pub returns-in-Rems : goal.returns-in-Rems
returns-in-Rems c =
    panel_goes c.args.u.now _ _ _ c.setting.ensures c.in_default.is _ (sym c.part_of-r.ensures ∙ c.in-Rems.is) c.done.ensures c.put.ensures

pub returns-in-Locs : goal.returns-in-Locs
returns-in-Locs c =
    ⊎_elim (λ is. panel_stays c.args.u.now _ _ _ c.setting.ensures c.in_default.is _ (sym c.part_of-r.ensures ∙ is) c.done-in-Locs.ensures refl refl)
    (⊎_elim (λ is. panel_stays c.args.u.now _ _ _ c.setting.ensures c.in_default.is _ (sym c.part_of-r.ensures ∙ is) c.done-in-Locs.ensures refl refl)
    (λ is. panel_stays c.args.u.now _ _ _ c.setting.ensures c.in_default.is _ (sym c.part_of-r.ensures ∙ is) c.done-in-Locs.ensures refl refl))
    c.in-Locs.is
