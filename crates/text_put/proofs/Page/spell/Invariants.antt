-- `text_put::Page::spell` meets its contract: after i turns the first i bytes are put, each as its text.
use mathlib.Core.Path.{◌≡◌}
use lib.ListN.{take}
use Rattle.std.proofs.Common.{ℕ, ◌<◌, MutBor}
use Rattle.text_put.specs.Text.{typed, spelled}
use Rattle.text_put.specs.Pages.{page_of, SameBuffer}
use Rattle.text_put.specs.declared.Page.{Page}
use Rattle.text_put.proofs.Page.spell.Given as goal

abbrev pub invariant-loop-byte : goal.invariant-loop-byte
invariant-loop-byte g l =
    (page_of l.self ≡ typed (page_of l.initial.self) (spelled g.spelling (take l.byte-index l.bytes)))
    × (((p : MutBor Page) (b : ℕ) (q : MutBor Page) → b < 256 → goal.F-post g l.put_one p b tt q → SameBuffer p.now q.now) → SameBuffer l.initial.self l.self)
