use Rattle.std.proofs.Common.{◌∙◌}
use Rattle.instance_lines.proofs.CanonLaws.{lines_from}
use Rattle.instance_lines.proofs.lines.lines_with.Goals as goal

pub returns : goal.returns
returns c =
    c.of.ensures
    ∙ lines_from c.args.content.now c.args.prefixes.now c.new-lines.result.items c.add_head.new.lines.items c.add_references.new.lines.items c.add_facts.new.lines.items c.add_last.new.lines.items
    c.requires.prefixes c.new-lines.ensures.items c.in_ok-add_head.ensures c.in_ok-add_references.ensures c.in_ok-add_facts.ensures c.in_ok-add_last.ensures
