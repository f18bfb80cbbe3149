-- The answer of a row in code: what it does to the state, the verdict, and its bytes at the front of an array of 24 that is 0 elsewhere.
-- Assumes nothing.
use Rattle.std.specs.Prelude.{length, replicate}
use Rattle.wire.specs.Bytes.{into}
use Rattle.wire.specs.Setup.{CONTROL}
use Rattle.port.specs.Rows.{Reaction}
use Rattle.setup_splits.specs.declared.types.Control.{Control}

abbrev pub control_of : Reaction → Control
control_of r = record {
  effect = r.effect;
  verdict = r.answer.verdict;
  len = length r.answer.bytes;
  bytes = into r.answer.bytes (replicate CONTROL 0);
}
