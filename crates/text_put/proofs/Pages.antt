-- A page that is made at the start of its buffer is within it, and stays so: what is put leaves it there, and so does going back to the start.
-- Only `at` and `go_to` can set a place that is past the end.
-- Assumes nothing.
use Prim.Native.Nat.{ℕ}
use mathlib.Core.Path.{◌≡◌, sym, subst}
use mathlib.Core.List.{List}
use native.Mathlib.Omega.{arith}
use Rattle.text_put.specs.Text.{Within}
use Rattle.text_put.specs.Pages.{page_of, Types}
use Rattle.text_put.specs.declared.Page.{Page}
use Rattle.text_put.proofs.Text.{typed_within}

-- of `new` and `clear`
pub start_within : (p : Page) (b : List ℕ) → page_of p ≡ (b, 0) → Within (page_of p)
start_within p b e = subst Within (sym e) (omega arith)

-- of all that puts
pub types_within : (p : Page) (text : List ℕ) (q : Page) → Types p text q → Within (page_of p) → Within (page_of q)
types_within p text q t w = subst Within (sym t.0) (typed_within (page_of p) text w)
