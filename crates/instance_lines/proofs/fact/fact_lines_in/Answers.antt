use Rattle.std.proofs.Common.{◌≡◌, ◌∙◌, ap, map, sym}
use Rattle.ix_base.specs.declared.content.Content.{Content}
use Rattle.ix_base.specs.Facts.{facts_of}
use Rattle.ix_base.specs.PlainContents.{said_of}
use Rattle.instance_lines.specs.Canonical.{content_spaces, fact_markups, line}
use Rattle.instance_lines.specs.Elements.{fact_line, fact_markup}
use Rattle.instance_lines.specs.Holdings.{said_spaces}
use Rattle.instance_lines.proofs.MarkupLaws.{fact_markups-are}
use Rattle.instance_lines.proofs.Sorting.{map-map}
use Rattle.instance_lines.proofs.fact.fact_lines_in.Goals as goal

lines-are : (c : Content)
    → map (fact_line (content_spaces c (facts_of c.facts))) c.facts ≡ map line (fact_markups (said_spaces (said_of c)) (facts_of c.facts))
unfolding content_spaces
lines-are c =
    let spaces = said_spaces (said_of c) in sym (ap (map line) (fact_markups-are spaces c.facts) ∙ map-map (fact_markup spaces) line c.facts)

pub returns : goal.returns
returns c =
    let content = c.args.content.now in
    c.in_ok-lines.ensures ∙ ap (map (fact_line c.in_ok-prefixes.prefixes)) c.as_slice.ensures
    ∙ ap (λ s. map (fact_line s) content.facts) (c.in_ok-prefixes.ensures ∙ c.in_ok-spaces.ensures) ∙ lines-are content
