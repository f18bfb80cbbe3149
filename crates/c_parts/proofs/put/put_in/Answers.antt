use Rattle.c_parts.proofs.Pastes.{none, piece, paste_pieces}
use Rattle.c_bytes.specs.Layout.{IN_REPLY_AT, in_reply_bytes, in_transfer_bytes}
use mathlib.Core.List.{[], ◌∷◌}
use native.Mathlib.Omega.{arith}
use Rattle.c_parts.proofs.put.put_in.Goals as goal

pub returns : goal.returns
returns c =
    let a = c.args in
    let b = a.b in
    paste_pieces a.u.now IN_REPLY_AT (in_reply_bytes b.reply ∷ in_transfer_bytes b.transfer ∷ (b.halted ∷ []) ∷ (b.recent ∷ []) ∷ []) _
    (piece c.put.ensures (piece c.put-2.ensures (piece c.put_byte.ensures (piece c.put_byte-2.ensures none)))) (omega arith)
