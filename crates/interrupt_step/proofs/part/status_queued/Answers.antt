use Prim.Native.Nat.{ℕ}
use mathlib.Core.Path.{ap}
use Rattle.port.specs.Parts.{with_waiting}
use Rattle.port.specs.Interrupt.{status_queued}
use Rattle.port.specs.declared.types.InterruptIn.{InterruptIn}
use Rattle.port.proofs.Bits.{top_bit_on}
use Rattle.interrupt_step.proofs.part.status_queued.Goals as goal

pub returns : goal.returns
unfolding status_queued
returns c =
    let given = c.args in
    let queued : ℕ → InterruptIn = λ n. with_waiting given.i (record { notify1 = n; notify2 = given.i.status }) in
    rw c.with_waiting.ensures (ap queued (top_bit_on given.tag c.ranges.tag.fits))
