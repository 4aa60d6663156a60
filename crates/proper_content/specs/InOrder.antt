-- The order of a content's lists, by kinds.
use Rattle.std.specs.Prelude.{Bool, ◌&&◌, map}
use Rattle.std.specs.List.{list_all}
use Rattle.ix_base.specs.PlainContents.{Said}
use Rattle.ix_base.specs.SortedLists.{text_cmp}
use Rattle.instance_lines.specs.Canonical.{arcrole_markup, fact_markups, line_cmp, linkbase_markup, role_markup, schema_markup}
use Rattle.instance_lines.specs.Holdings.{said_spaces}
use Rattle.instance_lines.specs.Lists.{rises, strictly}
use Rattle.instance_out.specs.Proper.{link_in_order}

abbrev pub references_in_order : Said → Bool
references_in_order c =
    strictly line_cmp (map schema_markup c.schemas)
    && (strictly line_cmp (map linkbase_markup c.linkbases)
    && (strictly line_cmp (map role_markup c.roles) && strictly line_cmp (map arcrole_markup c.arcroles)))

abbrev pub parts_in_order : Said → Bool
parts_in_order c =
    rises text_cmp (map (λ x. x.id) c.contexts)
    && (rises text_cmp (map (λ u. u.id) c.units) && rises line_cmp (fact_markups (said_spaces c) c.facts))

abbrev pub notes_in_order : Said → Bool
notes_in_order c = rises text_cmp (map (λ l. l.role) c.notes) && list_all link_in_order c.notes
