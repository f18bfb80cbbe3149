-- `text_answers::overview::put_port` meets its contract.
use Rattle.text_answers.specs.Overview.{port_text}
use Rattle.text_put.proofs.Text.{typed_then}
use Rattle.text_answers.proofs.overview.put_port.Goals as goal

pub returns : goal.returns
unfolding port_text
returns c = (simp typed_then (cc), cc)
