use mathlib.Core.Path.{sym, ◌∙◌}
use Rattle.wire_code.proofs.Headers.{reads_message, reads_request, reads_trigger}
use Rattle.wire_code.proofs.header.read_header.Goals as goal

pub returns-in-1 : goal.returns-in-1
returns-in-1 c =
    reads_message _ _ c.in-Some.ensures.cases (sym c.not_in_fours.ensures ∙ c.if-not_in_fours.false) c.if-tag-eq0.false (c.if-h-inverse.false ∙ c.inverse.ensures) _
    c.in-1.is c.read_message.ensures

pub returns-in-2 : goal.returns-in-2
returns-in-2 c =
    reads_request _ _ c.in-Some.ensures.cases (sym c.not_in_fours.ensures ∙ c.if-not_in_fours.false) c.if-tag-eq0.false (c.if-h-inverse.false ∙ c.inverse.ensures) _
    c.in-2.is c.read_request.ensures

pub returns-in-128 : goal.returns-in-128
returns-in-128 c =
    reads_trigger _ _ c.in-Some.ensures.cases (sym c.not_in_fours.ensures ∙ c.if-not_in_fours.false) c.if-tag-eq0.false (c.if-h-inverse.false ∙ c.inverse.ensures) _
    c.in-128.is c.read_trigger.ensures
