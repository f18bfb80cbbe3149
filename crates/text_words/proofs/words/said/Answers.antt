-- `text_words::words::said` meets its contract.
use Prim.Native.Nat.{ℕ}
use mathlib.Core.Path.{ap, ◌∙◌}
use mathlib.Core.List.{List}
use Rattle.std.proofs.Common.{rules, tests}
use Rattle.text_words.specs.Text.{is_byte, before}
use Rattle.text_words.specs.Words.{said}
use Rattle.text_words.proofs.words.said.Goals as goal

pub returns : goal.returns
unfolding said
returns c =
    c.split.ensures.front (is_byte 35) (λ b r p. search (rules, tests))
    ∙ ap (λ (s : List ℕ). before (is_byte 35) s) c.without_return.ensures
