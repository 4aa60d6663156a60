-- The markup of an instance whose lists are in order, bodies of footnotes put in place as markup (XBRL 2.1, sections 3 and 4).
use Rattle.std.specs.Prelude.{ℕ, List, [], ◌∷◌, ◌++◌, map}
use Rattle.ix_base.specs.declared.content.NoteLink.{NoteLink}
use Rattle.ix_base.specs.FilledMarkup.{then, filled}
use Rattle.ix_base.specs.PlainContents.{Said}
use Rattle.ix_base.specs.WrittenMarkup.{Markup, nothing, words, node}
use Rattle.instance_lines.specs.Canonical.{Spaces, root, schema_markup, linkbase_markup, role_markup, arcrole_markup, context_markup, unit_markup, fact_markups, link_markup}
use Rattle.instance_lines.specs.Prefixes.{declaration, declared_for}

-- each on a line of its own
abbrev pub lines_of : List Markup → Markup
lines_of [] = nothing
lines_of (m ∷ ms) = then m (words (10 ∷ []) (lines_of ms))

-- a footnote link, the bodies of its footnotes put in place
abbrev pub bodied : (List ℕ → Markup) → NoteLink → Markup
bodied bodies l = filled bodies (link_markup l)

abbrev pub lines_for : (List ℕ → Markup) → Spaces → Said → List Markup
lines_for bodies spaces c =
    map schema_markup c.schemas ++ (map linkbase_markup c.linkbases ++ (map role_markup c.roles ++ (map arcrole_markup c.arcroles
    ++ (map (context_markup spaces) c.contexts ++ (map (unit_markup spaces) c.units ++ (fact_markups spaces c.facts ++ map (bodied bodies) c.notes))))))

abbrev pub kids_for : (List ℕ → Markup) → Spaces → Said → Markup
kids_for bodies spaces c = words (10 ∷ []) (lines_of (lines_for bodies spaces c))

-- the root, in an instance that has these further namespaces
abbrev pub root_for : (List ℕ → Markup) → Spaces → Said → Markup
root_for bodies spaces c = node root (map declaration (declared_for spaces)) (kids_for bodies spaces c) nothing
