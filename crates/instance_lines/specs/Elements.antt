-- Parts of elements that the code writes by themselves.
use Rattle.std.specs.Prelude.{ℕ, List, [], ◌∷◌, map, codes}
use Rattle.ix_base.specs.Facts.{before, facts_of, none}
use Rattle.ix_base.specs.SortedLists.{sorted, text_cmp}
use Rattle.ix_base.specs.WrittenMarkup.{Markup, nothing, node, leaf, written}
use Rattle.ix_base.specs.declared.content.Arc.{Arc}
use Rattle.ix_base.specs.declared.content.Footnote.{Footnote}
use Rattle.ix_base.specs.declared.content.RoleRef.{RoleRef}
use Rattle.ix_base.specs.declared.content.Content.{Content}
use Rattle.ix_base.specs.declared.content.Context.{Context}
use Rattle.ix_base.specs.declared.content.Fact.{Fact}
use Rattle.instance_lines.specs.Canonical.{Spaces, arc_markup, around, attr, content_spaces, dim_markup, facts_markup, href_attr, type_attr, footnote_markup, line, locator_markup, period_markup, text_element}

-- what stands in a context
abbrev pub context_parts : Spaces → Context → Markup
context_parts spaces c =
    node (codes "xbrli:entity") []
    (text_element (codes "xbrli:identifier") (attr (codes "scheme") c.scheme ∷ []) c.identifier
    (around (codes "xbrli:segment") (dim_markup spaces) c.segment nothing))
    (node (codes "xbrli:period") [] (period_markup c.period)
    (around (codes "xbrli:scenario") (dim_markup spaces) c.scenario nothing))

-- a fact by itself
abbrev pub fact_markup : Spaces → Fact → Markup
fact_markup spaces f = facts_markup spaces (before f none)

abbrev pub fact_line : Spaces → Fact → List ℕ
fact_line spaces f = line (fact_markup spaces f)

-- the lines of facts, in order
abbrev pub ordered_lines : Spaces → List Fact → List (List ℕ)
ordered_lines spaces fs = sorted text_cmp (map (fact_line spaces) fs)

-- those of the facts of a content
abbrev pub lines_of_facts : Content → List (List ℕ)
lines_of_facts c = ordered_lines (content_spaces c (facts_of c.facts)) c.facts

-- the texts of what stands in a footnote link

abbrev pub locator_text : List ℕ → List ℕ
locator_text id = written (locator_markup id nothing) []

abbrev pub footnote_text : Footnote → List ℕ
footnote_text f = written (footnote_markup f nothing) []

abbrev pub arc_text : Arc → List ℕ
arc_text a = written (arc_markup a nothing) []

-- a role or an arcrole, in an element of this name with its URI in this attribute
abbrev pub reference_markup : (name uri : List ℕ) → RoleRef → Markup
reference_markup name uri r = leaf name (attr uri r.uri ∷ type_attr (codes "simple") ∷ href_attr r.href ∷ []) nothing
