-- A page of the code: what it shows, and what becomes of it. Each time it is said to be over the same buffer as before: whoever lent the buffer
-- knows by that what it holds once the page is gone.
-- Assumes nothing.
use Rattle.std.specs.Prelude.{ℕ, ◌≡◌, List}
use Rattle.text_put.specs.Text as Text
use Rattle.text_put.specs.Text.{typed}
use Rattle.text_put.specs.declared.Page.{Page}

-- the bytes of the buffer, and the place where the next byte goes
abbrev pub page_of : Page → Text.Page
page_of p = (p.out.now, p.at)

-- it is over the same buffer as before
abbrev pub SameBuffer : Page → Page → Type 0
SameBuffer p q = q.out.ghost_name ≡ p.out.ghost_name

-- a text is put on it, which was `p` before and is `q` after
abbrev pub Types : Page → List ℕ → Page → Type 0
Types p text q = (page_of q ≡ typed (page_of p) text) × SameBuffer p q
