use mathlib.Core.Path.{sym, ◌∙◌}
use native.Mathlib.Omega.{arith}
use Rattle.state_parts.proofs.Handed.{sound_hands, unsound_hands}
use Rattle.thermostat_step.proofs.MessageLaws.{take_kept, take_fits, take_given}
use Rattle.thermostat_step.proofs.take.take_step.Goals as goal

pub returns-then-not-sound : goal.returns-then-not-sound
returns-then-not-sound c = unsound_hands _ _ _ _ (sym c.sound.ensures ∙ c.if-not-sound.true) c.refused.ensures

pub returns-in-Err : goal.returns-in-Err
returns-in-Err c =
    let a = c.args in
    sound_hands _ _ _ _ _ (sym c.sound.ensures ∙ c.if-not-sound.false)
    (rw c.refused-in-Err.ensures (take_kept a.st _ a.message.now a.b.now c.take_gate.ensures _ c.in-Err.is))

pub copy_in-requires : goal.copy_in-requires
copy_in-requires c =
    let long = c.told-message in
    let e = take_fits _ _ _ c.take_gate.ensures (sym c.sound.ensures ∙ c.if-not-sound.false) c.in_default.is in
    (rw c.from-len.ensures (omega (arith, e.1)), rw c.from-len.ensures (omega (arith, e.0, long)))

pub returns : goal.returns
returns c =
    let a = c.args in
    let s = sym c.sound.ensures ∙ c.if-not-sound.false in
    let g = c.take_gate.ensures in
    let z = c.in_default.is in
    let long = c.told-message in
    let l = take_given a.st _ a.message.now a.b.now g z (omega (arith, (take_fits _ _ _ g s z).0, long)) in
    sound_hands _ _ _ _ _ s (
      rw (c.only.ensures, c.with_out.ensures, c.released.ensures, c.from-len.ensures) l.0,
      rw c.from-len.ensures at c.copy_in.ensures ∙ l.1,
    )
