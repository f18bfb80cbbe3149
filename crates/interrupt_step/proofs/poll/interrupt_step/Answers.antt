use Rattle.state_parts.proofs.Handed.{sound_hands, unsound_hands}
use mathlib.Core.Path.{sym, ◌∙◌}
use Rattle.interrupt_step.proofs.PollLaws.{poll_refused, poll_room, poll_packet}
use Rattle.interrupt_step.proofs.poll.interrupt_step.Goals as goal

pub returns-then-not-sound : goal.returns-then-not-sound
returns-then-not-sound c = unsound_hands _ _ _ _ (sym c.sound.ensures ∙ c.if-not-sound.true) c.refused.ensures

pub returns-in-Err : goal.returns-in-Err
returns-in-Err c =
    sound_hands _ _ _ _ _ (sym c.sound.ensures ∙ c.if-not-sound.false)
    (rw c.refused-in-Err.ensures (poll_refused _ _ _ c.interrupt_gate.ensures _ _ c.in-Err.is))

pub write_notify-requires : goal.write_notify-requires
write_notify-requires c = poll_room c.args.st _ _ c.interrupt_gate.ensures c.in_default.is

pub returns : goal.returns
returns c =
    sound_hands _ _ _ _ _ (sym c.sound.ensures ∙ c.if-not-sound.false)
    (rw (c.only.ensures, c.with_interrupt.ensures, c.polled.ensures) (poll_packet _ _ _ c.interrupt_gate.ensures _ _ c.in_default.is c.write_notify.ensures))
