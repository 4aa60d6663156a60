use Rattle.std.proofs.Common.{◌∙◌, List, ap}
use Rattle.std.specs.List.{flat_map}
use Rattle.ix_base.specs.LocatedElements.{Located}
use Rattle.ix_base.specs.Once.{in_order}
use Rattle.ix_base.specs.SortedLists.{text_cmp}
use Rattle.target_contents.specs.Contents.{targets_at}
use Rattle.target_contents.proofs.GatherLaws.{gathers-all}
use Rattle.target_contents.proofs.contents.names_of.Goals as goal

pub returns : goal.returns
returns c =
    c.each_once.ensures ∙ gathers-all _ _ c.in_ok-names.ensures
    ∙ ap (λ (es : List Located). in_order text_cmp (flat_map targets_at es)) c.spots.ensures.elements
