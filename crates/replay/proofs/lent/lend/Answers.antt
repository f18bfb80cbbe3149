-- `replay::lent::lend` meets its contract: the buffer was filled, so what the call leaves of it is known.
use Prim.Native.Nat.{ℕ, ◌≤◌}
use mathlib.Core.Path.{◌≡◌, sym, ap, ◌∙◌}
use lib.Seq.{length-take-le}
use Rattle.std.specs.Prelude.{Ok}
use Rattle.text_lines.specs.Given.{length_of}
use Rattle.text_lines.specs.Lines.{lent}
use Rattle.port.specs.Step.{step}
use Rattle.unit.specs.Promise.{device_of}
use Rattle.replay.specs.Play.{told}
use Rattle.replay.proofs.Putting.{putting}
use Rattle.replay.proofs.Rooms.{room_fits}
use Rattle.replay.proofs.Spilled.{filled_fill, lent_shown}
use Rattle.replay.proofs.lent.lend.Goals as goal

pub slice_bounds-lent-end : goal.slice_bounds-lent-end
slice_bounds-lent-end g c =
    let fits : c.room-n.result ≤ 2048 = rw c.room-n.ensures (room_fits _ _ _ (sym c.given_length.ensures ∙ c.in-Ok.is) c.requires.1.0) in
    sym (length-take-le _ _ fits)

pub returns : goal.returns
returns g c =
    let u = device_of c.args.unit in
    let n = c.room-n.result in
    let asked : length_of c.args.word.now ≡ Ok c.in-Ok.said = sym c.given_length.ensures ∙ c.in-Ok.is in
    let fits : n ≤ 2048 = rw c.room-n.ensures (room_fits _ _ _ asked c.requires.1.0) in
    let made = c.requires.1.1.1.0 _ _ _ _ c.call-told.ensures in
    rw asked
    (putting
    (lent_shown u g.lending.call _ n _ _ fits (filled_fill 2048) made
    ∙ ap (λ (k : ℕ). told (step u (g.lending.call k))) c.room-n.ensures
    ∙ sym (c.requires.1.1.1.1 (lent c.in-Ok.said)))
    c.answered_with.ensures)
