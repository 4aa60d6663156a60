use Rattle.std.proofs.Common.{rules}
use Rattle.ix_base.specs.declared.tree.Node as node
use Rattle.escape_text.proofs.MarkupLaws.{attrs_laws}
use Rattle.escape_text.proofs.marked_text.push_open.Goals as goal

pub returns : goal.returns
returns c = search (rules, attrs_laws, node.the_lemmas)
