-- `text_words::numbers::no_hex_digit` meets its contract.
use mathlib.Core.Path.{◌∙◌}
use mathlib.Core.Bool.{not}
use Rattle.std.proofs.Common.{rules, tests}
use Rattle.std.specs.Char.{is_ascii_hexdigit}
use Rattle.std.proofs.lemmas.Iterator.{YieldsList-from_slice}
use Rattle.std.proofs.lemmas.Iterator.Search.{find_from_yields_List}
use Rattle.text_words.specs.Text.{is_no_hex_digit}
use Rattle.text_words.proofs.Digits as Digits
use Rattle.text_words.proofs.Found.{find_or_none}
use Rattle.text_words.proofs.numbers.no_hex_digit.Goals as goal

pub returns : goal.returns
returns c =
    let w = c.args.word.now in
    c.copied.ensures
    ∙ find_from_yields_List (λ b. not (is_ascii_hexdigit b)) _ _ _ c.find.ensures.ran (YieldsList-from_slice w cc) (λ x b q k. search (rules, tests))
    ∙ find_or_none is_ascii_hexdigit is_no_hex_digit Digits.no_hex_digit w
