-- What an answered row comes to in code: what the definitions say, with the length of its bytes in place of the bytes, which the lent buffer has.
-- Assumes nothing.
use Rattle.std.specs.Prelude.{length}
use Rattle.port.specs.Rows.{Reaction}
use Rattle.setup_step.specs.declared.types.Replied.{Replied}

abbrev pub replied_of : Reaction → Replied
replied_of r = record { effect = r.effect; verdict = r.answer.verdict; len = length r.answer.bytes }
