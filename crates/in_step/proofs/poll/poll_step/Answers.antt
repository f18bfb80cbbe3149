use Rattle.state_parts.proofs.Handed.{sound_hands, unsound_hands}
use mathlib.Core.Path.{refl, sym, ◌∙◌}
use Rattle.in_step.proofs.PollLaws.{poll_refused, poll_can, poll_packet}
use Rattle.in_step.proofs.poll.poll_step.Goals as goal

pub returns-then-not-sound : goal.returns-then-not-sound
returns-then-not-sound c = unsound_hands _ _ _ _ (sym c.sound.ensures ∙ c.if-not-sound.true) c.refused.ensures

pub returns-in-Err : goal.returns-in-Err
returns-in-Err c =
    sound_hands _ _ _ _ _ (sym c.sound.ensures ∙ c.if-not-sound.false) (rw c.refused-in-Err.ensures (poll_refused _ _ _ _ c.in_gate.ensures _ _ c.in-Err.is))

pub next_packet-packet-requires : goal.next_packet-packet-requires
next_packet-packet-requires c =
    rw c.from-size.ensures (λ unowed. poll_can _ _ (sym c.sound.ensures ∙ c.if-not-sound.false) _ c.in_gate.ensures c.in_default.is unowed)

pub returns : goal.returns
returns c =
    sound_hands _ _ _ _ _ (sym c.sound.ensures ∙ c.if-not-sound.false)
    (rw (c.only.ensures, c.with_in.ensures) (poll_packet _ _ _ _ c.in_gate.ensures _ _ _ _
    c.in_default.is refl (rw c.from-size.ensures at c.next_packet-packet.ensures)))
