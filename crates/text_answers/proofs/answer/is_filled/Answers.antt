-- `text_answers::answer::is_filled` meets its contract.
use mathlib.Core.Path.{sym, ◌∙◌}
use lib.Dec.{eqb}
use Rattle.std.proofs.Common.{rules, tests}
use Rattle.std.proofs.lemmas.Iterator.{YieldsList-from_slice}
use Rattle.std.proofs.lemmas.Iterator.Search.{all_from_yields_List}
use Rattle.text_answers.specs.Answer.{FILL}
use Rattle.text_answers.proofs.Filled.{filled_all}
use Rattle.text_answers.proofs.answer.is_filled.Goals as goal

pub returns : goal.returns
returns c =
    all_from_yields_List (λ b. eqb b FILL) _ _ _ c.all.ensures.ran (YieldsList-from_slice c.args.bytes.now cc) (λ x b q k. search (rules, tests))
    ∙ sym (filled_all c.args.bytes.now)
