-- `text_put::Page::put` meets its contract: after i turns the first i bytes of the text are put.
use lib.ListN.{take}
use Rattle.text_put.specs.Pages.{Types}
use Rattle.text_put.proofs.Page.put.Given as goal

abbrev pub invariant-loop-byte : goal.invariant-loop-byte
invariant-loop-byte l = Types l.initial.self (take l.byte-index l.text) l.self
