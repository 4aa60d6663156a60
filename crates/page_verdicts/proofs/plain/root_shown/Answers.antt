use Rattle.std.proofs.Common.{◌∙◌, sym}
use Rattle.ix_base.specs.Trees.{tree_of}
use Rattle.page_verdicts.proofs.PlainLaws.{found_is, inline_shown, plain_shown}
use Rattle.page_verdicts.proofs.plain.root_shown.Goals as goal

pub returns-then-is_inline_root-clause-shown : goal.returns-then-is_inline_root-clause-shown
returns-then-is_inline_root-clause-shown c =
    inline_shown _ c.args.names.now (tree_of c.args.root.now) c.add.new.self c.reported.result (sym c.is_inline_root.ensures ∙ c.if-is_inline_root.true)
    (found_is c.args.root.now c.add.new.self c.new-found.result c.new-found.ensures c.in_ok-add.ensures.ok) c.reported.ensures.reports

pub plain_page-requires-clause-kept : goal.plain_page-requires-clause-kept
plain_page-requires-clause-kept c = sym c.is_inline_root.ensures ∙ c.if-is_inline_root.false

pub returns-clause-shown : goal.returns-clause-shown
returns-clause-shown c =
    plain_shown _ c.args.names.now (tree_of c.args.root.now) c.in_ok-plain_page.field-0 (sym c.is_inline_root.ensures ∙ c.if-is_inline_root.false)
    c.in_ok-plain_page.ensures.text
