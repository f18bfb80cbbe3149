-- `text_answers::wrong::too_large` meets its contract.
use Rattle.text_answers.specs.Wrong.{too_large_text}
use Rattle.text_put.proofs.Text.{typed_then}
use Rattle.text_answers.proofs.wrong.too_large.Goals as goal

pub returns : goal.returns
unfolding too_large_text
returns c = (simp typed_then (cc), cc)
