-- `text_answers::overview::put_more` meets its contract.
use Rattle.text_answers.specs.Overview.{more_text}
use Rattle.text_put.proofs.Text.{typed_then}
use Rattle.text_answers.proofs.overview.put_more.Goals as goal

pub returns : goal.returns
unfolding more_text
returns c = (simp typed_then (cc), cc)
