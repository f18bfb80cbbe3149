-- A list of calls with what was seen of each, and what of it a statement speaks of.
-- Assumes nothing.
use Rattle.std.specs.Prelude.{List, [], ◌∷◌}
use Rattle.port.specs.Answer.{Answer}
use Rattle.port.specs.Trace.{Event}

-- the answers alone
abbrev pub answers_of : List Event → List Answer
answers_of [] = []
answers_of (e ∷ es) = e.answer ∷ answers_of es
