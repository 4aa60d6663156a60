-- A content with each list in the order in which its instance is written: references, locators, footnotes and arcs each once,
-- and all else as often as it stands.
use Rattle.std.specs.Prelude.{ℕ, List, [], ◌∷◌, map, filter, bytes_eq, not}
use Rattle.std.specs.Ordering.{on}
use Rattle.std.specs.declared.cmp.Ordering.{Ordering}
use Rattle.ix_base.specs.declared.content.Content.{Content}
use Rattle.ix_base.specs.declared.content.NoteLink.{NoteLink}
use Rattle.ix_base.specs.Facts.{facts_of}
use Rattle.ix_base.specs.Once.{in_order}
use Rattle.ix_base.specs.SortedLists.{sorted, text_cmp}
use Rattle.ix_base.specs.WrittenMarkup.{Markup}
use Rattle.instance_lines.specs.Canonical.{arc_line_cmp, arcrole_markup, content_spaces, line_cmp, linkbase_markup, role_markup, schema_markup}
use Rattle.instance_lines.specs.Elements.{fact_markup, footnote_text}

-- by the bytes of the line
abbrev pub by_line : {X : Type 0} → (X → Markup) → X → X → Ordering
by_line f = on f line_cmp

-- of those with one text the first
abbrev pub firsts : {X : Type 0} → (X → List ℕ) → List X → List X
firsts f [] = []
firsts f (x ∷ xs) = x ∷ filter (λ y. not (bytes_eq (f x) (f y))) (firsts f xs)

unfoldable pub arranged_link : NoteLink → NoteLink
arranged_link l = record {
  role = l.role;
  locs = in_order text_cmp l.locs;
  footnotes = firsts footnote_text (sorted (on (λ f. f.id) text_cmp) l.footnotes);
  arcs = in_order arc_line_cmp l.arcs;
}

unfoldable pub arranged : Content → Content
arranged c = record {
  schemas = in_order (by_line schema_markup) c.schemas;
  linkbases = in_order (by_line linkbase_markup) c.linkbases;
  roles = in_order (by_line role_markup) c.roles;
  arcroles = in_order (by_line arcrole_markup) c.arcroles;
  contexts = sorted (on (λ x. x.id) text_cmp) c.contexts;
  units = sorted (on (λ u. u.id) text_cmp) c.units;
  facts = sorted (by_line (fact_markup (content_spaces c (facts_of c.facts)))) c.facts;
  notes = map arranged_link (sorted (on (λ l. l.role) text_cmp) c.notes);
}

-- the content whose footnote links alone are arranged
abbrev pub with_arranged_links : Content → Content
with_arranged_links c = record c { notes = map arranged_link c.notes }
