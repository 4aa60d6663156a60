use Rattle.std.proofs.Common.{subst}
use Rattle.ix_base.specs.Trees.{tree_of}
use Rattle.instance_in.proofs.ReadLaws.{denotes-by}
use Rattle.instance_in.specs.Outcomes.{HasRoot}
use Rattle.instance_in.proofs.page.content_of.Goals as goal

pub returns-in-Some : goal.returns-in-Some
returns-in-Some c =
    denotes-by c.args.bytes.now (tree_of c.in-Some.root.now) (subst (HasRoot c.args.bytes.now) c.in-Some.is c.in_ok-root.ensures) c.denoted.result c.denoted.ensures

pub returns : goal.returns
returns c = λ d h. subst (HasRoot c.args.bytes.now) c.in-None.is c.in_ok-root.ensures h.tree h.is
