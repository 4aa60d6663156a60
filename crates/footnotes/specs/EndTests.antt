-- Which elements fit the ends of relationships.
use Rattle.std.specs.Prelude.{Bool}
use Rattle.ix_base.specs.LinkRules.{is_end}
use Rattle.ix_base.specs.LocatedElements.{Located, is_fact}
use Rattle.footnotes.specs.declared.relationships.End.{End}
use Rattle.footnotes.specs.declared.relationships.End.TheVariants as end

abbrev pub fits_end : End → Located → Bool
fits_end end.From e = is_fact e
fits_end end.To e = is_end e
