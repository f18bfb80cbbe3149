-- `text_words::numbers::decimal` meets its contract.
use mathlib.Core.Path.{sym, ◌∙◌}
use Rattle.std.proofs.Common.{rules, tests}
use Rattle.std.specs.Char.{is_ascii_digit}
use Rattle.std.proofs.lemmas.Iterator.{YieldsList-from_slice}
use Rattle.std.proofs.lemmas.Iterator.Search.{all_from_yields_List}
use Rattle.rules.proofs.Choice.{at_true, at_false, is_no, not_no}
use Rattle.text_words.specs.Text.{is_no_digit}
use Rattle.text_words.specs.Numbers.{read_decimal}
use Rattle.text_words.proofs.Digits.{no_digit}
use Rattle.text_words.proofs.Found.{all_or_has}
use Rattle.text_words.proofs.numbers.decimal.Goals as goal

pub returns-then-all : goal.returns-then-all
unfolding read_decimal
returns-then-all c =
    let w = c.args.word.now in
    let all = all_from_yields_List is_ascii_digit _ _ c.all.result c.all.ensures.ran (YieldsList-from_slice w cc) (λ x b q k. search (rules, tests)) in
    c.number.ensures ∙ sym (at_false _ _ _ (is_no _ (sym (all_or_has is_ascii_digit is_no_digit no_digit w) ∙ sym all ∙ c.if-all.true)))

pub returns-else-all : goal.returns-else-all
unfolding read_decimal
returns-else-all c =
    let w = c.args.word.now in
    let all = all_from_yields_List is_ascii_digit _ _ c.all.result c.all.ensures.ran (YieldsList-from_slice w cc) (λ x b q k. search (rules, tests)) in
    sym (at_true _ _ _ (not_no _ (sym (all_or_has is_ascii_digit is_no_digit no_digit w) ∙ sym all ∙ c.if-all.false)))
