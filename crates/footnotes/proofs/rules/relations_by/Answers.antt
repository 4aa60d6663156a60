use Rattle.std.proofs.Common.{◌∙◌, subst, sym}
use Rattle.footnotes.specs.Model.{AreRelationsOf}
use Rattle.footnotes.proofs.GroupLaws.{kept-is}
use Rattle.footnotes.proofs.rules.relations_by.Goals as goal

pub returns : goal.returns
returns c =
    subst (λ r. AreRelationsOf r c.args.index.now.spots) (sym c.relations_from.ensures)
    (λ target. kept-is c.in_ok-groups.groups target ∙ c.in_ok-groups.ensures target)
