-- `text_words::words::nth_word` meets its contract: the words of what is left are the later ones of the text.
use Prim.Native.Nat.{ℕ, suc, ◌+◌}
use mathlib.Core.Path.{◌≡◌, ap, ◌∙◌}
use native.Mathlib.Omega.{arith}
use Rattle.text_words.specs.Words.{word}
use Rattle.text_words.proofs.words.nth_word.Goals as goal

pub loop-preserved : goal.loop-preserved
loop-preserved c = λ k.
    let l = c.loop in
    let next : l.counter + suc k ≡ l.counter + 1 + k = omega arith in
    rw c.first_word.ensures.back (l.invariant (suc k) ∙ ap (λ (n : ℕ). word n c.args.text.now) next)

pub returns : goal.returns
returns c =
    let l = c.loop in
    let here : l.counter + 0 ≡ c.args.n = omega arith in
    c.first_word-2.ensures.front ∙ l.invariant 0 ∙ ap (λ (n : ℕ). word n c.args.text.now) here
