use Rattle.std.proofs.Common.{◌∙◌, ◌++◌, ap, append-nil, sym}
use Rattle.std.specs.List.{filter}
use Rattle.id_table.specs.Tables.{is_other}
use Rattle.target_contents.proofs.GroupLaws.{schemas-at}
use Rattle.target_contents.proofs.ListLaws.{schemas-of}
use Rattle.target_contents.proofs.links.add_lacking_schema.Goals as goal

pub has_default_schema-requires : goal.has_default_schema-requires
has_default_schema-requires c = λ q.
    let es = c.args.index.now.spots in
    schemas-at c.in_ok-schemas.schemas c.others.result.now (filter is_other es) c.others.ensures.elements c.in_ok-schemas.ensures q ∙ schemas-of q es

pub add_schemaless-requires : goal.add_schemaless-requires
add_schemaless-requires c = λ q.
    let es = c.args.index.now.spots in
    schemas-at c.in_ok-schemas.schemas c.others.result.now (filter is_other es) c.others.ensures.elements c.in_ok-schemas.ensures q ∙ schemas-of q es

pub returns-then-has_default_schema : goal.returns-then-has_default_schema
returns-then-has_default_schema c =
    let old = c.args.found.now in
    sym (ap (λ xs. old ++ xs) (c.has_default_schema.ensures.unbroken c.if-has_default_schema.true) ∙ append-nil old)
