-- `text_words::words::first_word` meets its contract.
use mathlib.Core.Path.{ap, ◌∙◌}
use mathlib.Core.List.{List}
use Prim.Native.Nat.{ℕ}
use Rattle.std.proofs.Common.{rules}
use Rattle.rules.specs.Choice.{no}
use Rattle.text_words.specs.Text.{is_blank, is_solid, before, since}
use Rattle.text_words.proofs.words.first_word.Goals as goal

pub returns-clause-front : goal.returns-clause-front
unfolding no
returns-clause-front c =
    c.split-2.ensures.front is_blank (λ b r p. search rules)
    ∙ ap (λ (s : List ℕ). before is_blank s) (c.split.ensures.back is_solid (λ b r p. search rules))

pub returns-clause-back : goal.returns-clause-back
unfolding no
returns-clause-back c =
    c.split-2.ensures.back is_blank (λ b r p. search rules)
    ∙ ap (λ (s : List ℕ). since is_blank s) (c.split.ensures.back is_solid (λ b r p. search rules))
