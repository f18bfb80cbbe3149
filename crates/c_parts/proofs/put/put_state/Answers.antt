use Rattle.c_parts.proofs.Pastes.{none, piece, paste_pieces}
use Rattle.c_bytes.specs.Layout.{PORT_AT, remote_number, port_bytes, interrupt_bytes, split_bytes, state_bytes}
use Rattle.c_bytes.specs.Sides.{out_bytes, in_bytes}
use Rattle.port.specs.Parts.{port_of, out_of, in_of, interrupt_of}
use mathlib.Core.List.{[], ◌∷◌}
use native.Mathlib.Omega.{arith}
use Rattle.c_parts.proofs.put.put_state.Goals as goal

pub returns : goal.returns
unfolding state_bytes
returns c =
    let a = c.args in
    let st = a.st in
    paste_pieces a.u.now PORT_AT (port_bytes (port_of st) ∷ out_bytes (out_of st) ∷ in_bytes (in_of st) ∷ interrupt_bytes (interrupt_of st) ∷ split_bytes
    st.split ∷ (remote_number st.remote ∷ []) ∷ []) _
    (piece c.put.ensures (piece c.put_out.ensures (piece c.put_in.ensures
    (piece c.put-2.ensures (piece c.put-3.ensures (piece c.put-4.ensures none)))))) (omega arith)
