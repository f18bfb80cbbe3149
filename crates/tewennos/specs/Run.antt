-- Calls on the bytes of a unit, one after the other, each as its promise has it.
-- Assumes nothing.
use Rattle.std.specs.Prelude.{ℕ, List, [], ◌∷◌}
use Rattle.port.specs.Answer.{Answer}
use Rattle.port.specs.Step.{Call}
use Rattle.c_promise.specs.Promise.{on_bytes}

-- the answers of a run, and the bytes after it
unfoldable pub run_bytes : List ℕ → List Call → List Answer
run_bytes u [] = []
run_bytes u (c ∷ cs) = (on_bytes u c).answer ∷ run_bytes (on_bytes u c).unit cs

unfoldable pub after_bytes : List ℕ → List Call → List ℕ
after_bytes u [] = u
after_bytes u (c ∷ cs) = after_bytes (on_bytes u c).unit cs
