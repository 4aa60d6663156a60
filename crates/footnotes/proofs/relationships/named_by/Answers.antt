use Rattle.std.proofs.Common.{◌∙◌, ◌++◌, ap, List}
use Rattle.std.specs.Borrow.{Bor}
use Rattle.ix_base.specs.LinkRules.{named_by}
use Rattle.ix_base.specs.declared.tree.Spot.{Spot}
use Rattle.id_table.specs.Model.{asked}
use Rattle.id_table.specs.Tables.{all_located}
use Rattle.footnotes.specs.ArcLinks.{texts_of}
use Rattle.footnotes.specs.EndTests.{fits_end}
use Rattle.footnotes.proofs.relationships.named_by.Goals as goal

pub returns-clause-spots : goal.returns-clause-spots
returns-clause-spots c =
    ap all_located c.into_bump_slice.ensures ∙ c.in_ok-is_missing.ensures.spots
    ∙ ap (λ (ss : List (Bor Spot)). all_located ss ++ named_by (fits_end c.args.end) (asked c.args.index.now) (texts_of c.args.words.now)) c.new-spots.ensures.items
