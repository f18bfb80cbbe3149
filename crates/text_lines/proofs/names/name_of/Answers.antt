-- `text_lines::names::name_of` meets its contract: the table has the names of the definition, in their order.
use Prim.Native.Nat.{ℕ}
use mathlib.Core.Path.{◌≡◌, refl, ap, ◌∙◌}
use mathlib.Core.Bool.{Bool, true, false, cond}
use mathlib.Core.List.{List, [], ◌∷◌}
use denote.Bor.{Bor}
use lib.Dec.{eqb}
use lib.Pointwise.{pointwise}
use Rattle.std.proofs.Common.{rules, tests}
use Rattle.std.specs.Prelude.{Option, Some, None}
use Rattle.std.specs.Option.{option_map}
use Rattle.std.specs.List.{find}
use Rattle.std.proofs.lemmas.Iterator.{YieldsList-from_slice}
use Rattle.std.proofs.lemmas.Iterator.Search.{find_from_yields_List}
use Rattle.rules.specs.Choice.{pick}
use Rattle.text_words.proofs.Same.{same_is}
use Rattle.text_lines.specs.Lines.{row, names, among, name_of}
use Rattle.text_lines.specs.declared.names.Name.{Name}
use Rattle.text_lines.proofs.names.name_of.Goals as goal

abbrev Entry : Type 0
Entry = Bor (List ℕ) × Name

abbrev Lists : List Entry → List Name → Type 0
Lists [] [] = Unit {0}
Lists [] (n ∷ ns) = ⊥
Lists (p ∷ ps) [] = ⊥
Lists (p ∷ ps) (n ∷ ns) = (p.0.now ≡ (row n).name) × (p.1 ≡ n) × Lists ps ns

abbrev found : List ℕ → List Entry → Option Entry
found w ps = find (λ (p : Entry). pointwise eqb w p.0.now) ps

found_among : (w : List ℕ) (ps : List Entry) (ns : List Name) → Lists ps ns → option_map (λ (p : Entry). p.1) (found w ps) ≡ among ns w
unfolding pick
found_among w [] [] h = refl
found_among w [] (n ∷ ns) h = absurd h
found_among w (p ∷ ps) [] h = absurd h
found_among w (p ∷ ps) (n ∷ ns) h = rw (← h.0, same_is w p.0.now) (by (pointwise eqb w p.0.now) (found_among w ps ns h.2))
  where
    by : (t : Bool) → option_map (λ (p : Entry). p.1) (found w ps) ≡ among ns w
        → option_map (λ (p : Entry). p.1) (cond t (Some p) (found w ps)) ≡ pick t (Some n) (among ns w)
    by true e = ap Some h.1
    by false e = e

named : (w : List ℕ) (ps : List Entry) (r : Option (Bor Entry)) → option_map (λ (x : Bor Entry). x.now) r ≡ found w ps → Lists ps names
    → option_map (λ (x : Bor Entry). x.now.1) r ≡ name_of w
unfolding name_of
named w ps None e h = ap (option_map (λ (p : Entry). p.1)) e ∙ found_among w ps names h
named w ps (Some x) e h = ap (option_map (λ (p : Entry). p.1)) e ∙ found_among w ps names h

pub returns : goal.returns
returns c =
    let l : Lists c.iter.result.rest.now names = rw c.iter.ensures.rest (search rules) in
    rw c.in_ok-call.was at (named c.args.word.now _ _ (find_from_yields_List _ _ _ _ c.find.ensures.ran (YieldsList-from_slice _ refl) (λ x b q k. search (rules, tests))) l)

pub returns-in_err-call : goal.returns-in_err-call
returns-in_err-call c =
    let l : Lists c.iter.result.rest.now names = rw c.iter.ensures.rest (search rules) in
    c.from_residual.ensures
    ∙ rw c.in_err-call.was at (named c.args.word.now _ _ (find_from_yields_List _ _ _ _ c.find.ensures.ran (YieldsList-from_slice _ refl) (λ x b q k. search (rules, tests))) l)
