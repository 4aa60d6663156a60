use Rattle.std.proofs.Common.{◌∙◌}
use Rattle.std.specs.List.{filter}
use Rattle.id_table.specs.Tables.{is_other}
use Rattle.target_contents.proofs.GroupLaws.{linkbases-at, schemas-at}
use Rattle.target_contents.proofs.ListLaws.{linkbases-of, schemas-of}
use Rattle.target_contents.proofs.groups.references_of.Goals as goal

pub returns : goal.returns
returns c =
    let es = c.args.index.now.spots in record {
      schemas = λ q.
          schemas-at c.in_ok-schemas.schemas c.others.result.now (filter is_other es) c.others.ensures.elements c.in_ok-schemas.ensures q ∙ schemas-of q es;
      linkbases = λ q.
          linkbases-at c.in_ok-linkbases.linkbases c.others-2.result.now (filter is_other es) c.others-2.ensures.elements c.in_ok-linkbases.ensures q
          ∙ linkbases-of q es;
    }
