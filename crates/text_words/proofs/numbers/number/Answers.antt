-- `text_words::numbers::number` meets its contract: what was read, with what is left, is the number, and it only grows.
use Prim.Native.Nat.{ℕ, ◌+◌, ◌*◌, ◌-◌, ◌≤◌, ◌<◌}
use mathlib.Core.Path.{◌≡◌, sym, ap, ◌∙◌}
use mathlib.Core.List.{List, [], ◌∷◌}
use native.Mathlib.Omega.{arith}
use native.Mathlib.Numerals.{add-one}
use borrow.Author.Tests.{lt-ltb, le-ltb}
use lib.ListN.{length, get_or, drop, drop_of_length-le}
use lib.Seq.{drop-cons}
use Rattle.std.specs.Prelude.{Ok, Err}
use Rattle.rules.proofs.Choice.{at_true, at_false}
use Rattle.text_words.specs.Numbers.{number, number_from, at_most}
use Rattle.text_words.specs.declared.numbers.DecimalError.TheVariants.{Above}
use Rattle.text_words.proofs.numbers.number.Goals as goal

grows : (s : List ℕ) (n : ℕ) → n ≤ number_from n s
grows [] n = omega arith
grows (d ∷ s) n = omega (arith, grows s (n * 10 + (d - 48)))

module _ (w : List ℕ) (i n most : ℕ) (e : number w ≡ number_from n (drop i w)) where
  over : i < length w → most < n * 10 + (get_or w i 0 - 48) → Err (Above most) ≡ at_most most (number w)
  over h l =
      let m = n * 10 + (get_or w i 0 - 48) in
      let step : number w ≡ number_from m (drop (i + 1) w) = rw (drop-cons w i 0 h, ← add-one i) at e in
      sym (at_true _ _ _ (lt-ltb most (number w) (omega (arith, step, grows (drop (i + 1) w) m))))

  done : length w ≤ i → n ≤ most → Ok n ≡ at_most most (number w)
  done h l =
      let d : number w ≡ n = e ∙ ap (λ (s : List ℕ). number_from n s) (drop_of_length-le w {i = i} h) in
      rw d (sym (at_false _ _ _ (le-ltb most n l)))

pub returns-then-n-from : goal.returns-then-n-from
returns-then-n-from c =
    let l = c.loop-digit in
    over c.args.word.now l.digit-index l.n c.args.most l.invariant.1 (omega arith) (omega arith)

pub returns : goal.returns
returns c =
    let l = c.loop-digit in
    done c.args.word.now l.digit-index l.n c.args.most l.invariant.1 (omega arith) (omega arith)
