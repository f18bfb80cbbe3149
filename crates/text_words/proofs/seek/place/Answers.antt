-- `text_words::seek::place` meets its contract.
use mathlib.Core.Path.{◌∙◌}
use Rattle.std.proofs.Common.{rules}
use Rattle.std.proofs.lemmas.Iterator.{YieldsList-from_slice}
use Rattle.std.proofs.lemmas.Iterator.Search.{position_from_yields_List}
use Rattle.text_words.proofs.Searches.{place_found}
use Rattle.text_words.proofs.seek.place.Goals as goal

pub returns-clause-value : goal.returns-clause-value
returns-clause-value g c = λ t h.
    let s = c.args.text.now in
    c.unwrap_or.ensures
    ∙ place_found t s _ (position_from_yields_List t _ _ _ c.position.ensures.ran (YieldsList-from_slice s cc) (λ x b q k. (search rules, h _ _ (search rules))))
