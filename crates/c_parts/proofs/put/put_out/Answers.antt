use Rattle.c_parts.proofs.Pastes.{none, piece, paste_pieces}
use Rattle.c_bytes.specs.Layout.{OUT_MESSAGE_AT, out_message_bytes, out_transfer_bytes}
use mathlib.Core.List.{[], ◌∷◌}
use native.Mathlib.Omega.{arith}
use Rattle.c_parts.proofs.put.put_out.Goals as goal

pub returns : goal.returns
returns c =
    let a = c.args in
    let o = a.o in
    paste_pieces a.u.now OUT_MESSAGE_AT (out_message_bytes o.message ∷ (o.halted ∷ []) ∷ out_transfer_bytes o.transfer ∷ (o.recent ∷ []) ∷ []) _
    (piece c.put.ensures (piece c.put_byte.ensures (piece c.put-2.ensures (piece c.put_byte-2.ensures none)))) (omega arith)
