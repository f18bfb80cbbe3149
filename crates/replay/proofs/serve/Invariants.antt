-- The page stays within its buffer from turn to turn.
use Rattle.text_put.specs.Text.{Within}
use Rattle.text_put.specs.Pages.{page_of}
use Rattle.replay.proofs.serve.Given as goal

abbrev pub invariant-loop : goal.invariant-loop
invariant-loop l = Within (page_of l.initial.page) → Within (page_of l.page)
