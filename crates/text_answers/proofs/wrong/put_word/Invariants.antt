-- `text_answers::wrong::put_word` spells each byte as it is shown.
use Rattle.text_answers.specs.Wrong.{shown_byte}
use Rattle.text_answers.proofs.wrong.put_word.Given as goal

abbrev pub ghost-spell : goal.ghost-spell
ghost-spell a = shown_byte
