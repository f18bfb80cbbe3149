-- Each byte is spelled as itself.
use mathlib.Core.List.{[], ◌∷◌}
use Rattle.text_put.proofs.tests.put_each.Given as goal

abbrev pub ghost-spell : goal.ghost-spell
ghost-spell a b = b ∷ []
