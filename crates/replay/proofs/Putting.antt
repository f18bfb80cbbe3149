-- What code leaves, under another name of the same.
-- Assumes nothing.
use mathlib.Core.Path.{◌≡◌, ap, ◌∙◌}
use Rattle.text_put.specs.Text.{typed}
use Rattle.text_put.specs.Pages.{page_of}
use Rattle.text_put.specs.declared.Page.{Page}
use Rattle.unit.specs.declared.types.Unit.{Unit}
use Rattle.replay.specs.Play.{After}
use Rattle.replay.specs.Played.{Puts}

pub putting : {a b : After} {p q : Page} {r : Unit} → b ≡ a → Puts b p q r → Puts a p q r
putting {p = p} e h = record { unit = h.unit ∙ ap (λ (x : After). x.unit) e; text = (h.text.0 ∙ ap (λ (x : After). typed (page_of p) x.text) e, h.text.1) }
