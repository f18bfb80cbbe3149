-- `text_put::Page::put_hex` spells each byte as two digits.
use Rattle.text_put.specs.Numbers.{pair_text}
use Rattle.text_put.proofs.Page.put_hex.Given as goal

abbrev pub ghost-spell : goal.ghost-spell
ghost-spell a = pair_text
