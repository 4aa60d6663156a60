use Rattle.page_session.proofs.ScriptLaws.{misplaced, not_utf8, placed}
use Rattle.std.proofs.Common.{◌∙◌, sym}
use Rattle.page_session.proofs.script.good_line.Goals as goal

pub returns-in_default : goal.returns-in_default
returns-in_default c = not_utf8 c.args.is_last c.args.bytes.now c.in_default.ensures.cases.0

pub returns-then-is_extract-is_last : goal.returns-then-is_extract-is_last
returns-then-is_extract-is_last c =
    misplaced c.args.is_last c.is_extract.result c.in-Ok.text.now c.args.bytes.now c.in-Some.line c.in-Ok.ensures.cases.0 c.in-Ok.ensures.cases.1
    (sym c.in_ok-line.ensures ∙ c.in-Some.is) c.is_extract.ensures c.if-is_extract-is_last.true

pub returns : goal.returns
returns c =
    placed c.args.is_last c.is_extract.result c.in-Ok.text.now c.args.bytes.now c.in-Some.line c.in-Ok.ensures.cases.0 c.in-Ok.ensures.cases.1
    (sym c.in_ok-line.ensures ∙ c.in-Some.is) c.is_extract.ensures c.if-is_extract-is_last.false
