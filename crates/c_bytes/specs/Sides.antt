-- Parts that stand one behind the other, as one: the two sides of the bulk pair, and the whole state.
-- Assumes nothing.
use Rattle.std.specs.Prelude.{ℕ, ◌+◌, List, [], ◌∷◌, ◌++◌}
use Rattle.port.specs.declared.types.BulkOut.{BulkOut}
use Rattle.port.specs.declared.types.BulkIn.{BulkIn}
use Rattle.c_bytes.specs.Layout.{PORT, OUT_MESSAGE, OUT_TRANSFER, IN_REPLY, IN_TRANSFER, INTERRUPT, SPLIT}
use Rattle.c_bytes.specs.Layout.{out_message_bytes, out_transfer_bytes, in_reply_bytes, in_transfer_bytes}

-- how many bytes they have
abbrev pub OUT : ℕ
OUT = OUT_MESSAGE + 1 + OUT_TRANSFER + 1

abbrev pub IN : ℕ
IN = IN_REPLY + IN_TRANSFER + 1 + 1

abbrev pub STATE : ℕ
STATE = PORT + OUT + IN + INTERRUPT + SPLIT + 1

-- from OUT-MESSAGE-AT on, and from IN-REPLY-AT on; those of the state are `bytes_of`, from PORT-AT on
abbrev pub out_bytes : BulkOut → List ℕ
out_bytes o = out_message_bytes o.message ++ o.halted ∷ out_transfer_bytes o.transfer ++ o.recent ∷ []

abbrev pub in_bytes : BulkIn → List ℕ
in_bytes b = in_reply_bytes b.reply ++ in_transfer_bytes b.transfer ++ b.halted ∷ b.recent ∷ []
