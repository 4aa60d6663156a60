-- The canonical text of a proper content is its markup, bodies put in place.
use Rattle.std.proofs.Common.{◌≡◌, ◌∙◌, ℕ, true, ◌&&◌, List, [], ◌∷◌, ◌++◌, map, refl, sym, ap, append_assoc, append-nil}
use Rattle.std.specs.List.{list_all, concat}
use Rattle.std.specs.Ordering.{on}
use Rattle.std.proofs.lemmas.Bool.{and_parts}
use Rattle.ix_base.specs.declared.content.Arc.{Arc}
use Rattle.ix_base.specs.declared.content.Content.{Content}
use Rattle.ix_base.specs.declared.content.Footnote.{Footnote}
use Rattle.ix_base.specs.declared.content.NoteLink.{NoteLink}
use Rattle.ix_base.specs.Facts.{Facts, facts_of}
use Rattle.ix_base.specs.WrittenMarkup.{Markup, nothing, words, written, start_text}
use Rattle.instance_lines.specs.Prefixes.{declaration, declared_for}
use Rattle.instance_lines.specs.Canonical.{Spaces, root, line, first_line, last_line, root_line, line_cmp, arc_line_cmp, each_markup, schema_markup, linkbase_markup, role_markup, arcrole_markup, context_markup, unit_markup, fact_markups, locator_markup, footnote_markup, arc_markup, link_markup, content_spaces, children, lines_with, canon}
use Rattle.ix_base.specs.SortedLists.{text_cmp}
use Rattle.ix_base.specs.FilledMarkup.{AreBodies}
use Rattle.ix_base.proofs.FilledLemmas.{written-then, written-more, written-filled}
use Rattle.ix_base.specs.PlainContents.{said_of}
use Rattle.instance_out.specs.Instance.{lines_of, bodied, lines_for, root_for}
use Rattle.instance_lines.specs.Lists.{rises, strictly}
use Rattle.instance_lines.specs.Holdings.{said_spaces}
use Rattle.instance_out.specs.Proper.{link_in_order, lists_fit, is_proper}
use Rattle.instance_out.proofs.RunLaws.{Each}
use Rattle.instance_out.proofs.ProperLaws.{sorted-rises, once-strictly, strictly-rises, passed}

lines-written : (ms : List Markup) (more : List ℕ) → concat (map line ms ++ more ∷ []) ≡ written (lines_of ms) more
lines-written [] more = append-nil more
lines-written (m ∷ ms) more =
    ap (λ x. line m ++ x) (lines-written ms more)
    ∙ ap (λ x. x ++ written (lines_of ms) more) (written-more m (10 ∷ []))
    ∙ append_assoc (written m []) (10 ∷ []) (written (lines_of ms) more)
    ∙ sym (written-more m (10 ∷ written (lines_of ms) more))
    ∙ sym (written-then m (words (10 ∷ []) (lines_of ms)) more)

-- Bodies put in place.

-- the markup that is given for a body writes it
abbrev pub Writes : (List ℕ → Markup) → Footnote → Type 0
Writes bodies f = written (bodies f.body) [] ≡ f.body

bodies-arcs : (bodies : List ℕ → Markup) (as' : List Arc) → AreBodies bodies (each_markup arc_markup as' nothing)
bodies-arcs bodies [] = tt
bodies-arcs bodies (a ∷ as') = bodies-arcs bodies as'

bodies-notes : (bodies : List ℕ → Markup) (fs : List Footnote) (rest : Markup) → Each (Writes bodies) fs → AreBodies bodies rest → AreBodies bodies (each_markup footnote_markup fs rest)
bodies-notes bodies [] rest h r = r
bodies-notes bodies (f ∷ fs) rest (h, hs) r = ((h, tt), bodies-notes bodies fs rest hs r)

bodies-locs : (bodies : List ℕ → Markup) (ids : List (List ℕ)) (rest : Markup) → AreBodies bodies rest → AreBodies bodies (each_markup locator_markup ids rest)
bodies-locs bodies [] rest r = r
bodies-locs bodies (id ∷ ids) rest r = bodies-locs bodies ids rest r

bodies-link : (bodies : List ℕ → Markup) (l : NoteLink) → link_in_order l ≡ true → Each (Writes bodies) l.footnotes → AreBodies bodies (link_markup l)
bodies-link bodies l o h =
    let q = and_parts (strictly text_cmp l.locs && strictly (on (λ f. f.id) text_cmp) l.footnotes) (strictly arc_line_cmp l.arcs) o in
    let p = and_parts (strictly text_cmp l.locs) (strictly (on (λ f. f.id) text_cmp) l.footnotes) q.0 in
    rw (once-strictly text_cmp l.locs p.0, sorted-rises (on (λ f. f.id) text_cmp) l.footnotes (strictly-rises (on (λ f. f.id) text_cmp) l.footnotes p.1), sorted-rises arc_line_cmp l.arcs (strictly-rises arc_line_cmp l.arcs q.1))
    (bodies-locs bodies l.locs (each_markup footnote_markup l.footnotes (each_markup arc_markup l.arcs nothing)) (bodies-notes bodies l.footnotes (each_markup arc_markup l.arcs nothing) h (bodies-arcs bodies l.arcs)), tt)

lines-filled : (bodies : List ℕ → Markup) (ls : List NoteLink) (more : List ℕ) → list_all link_in_order ls ≡ true → Each (λ l. Each (Writes bodies) l.footnotes) ls
    → written (lines_of (map (bodied bodies) ls)) more ≡ written (lines_of (map link_markup ls)) more
lines-filled bodies [] more o h = refl
lines-filled bodies (l ∷ ls) more o (h, hs) =
    let q = and_parts (link_in_order l) (list_all link_in_order ls) o in
    written-then (bodied bodies l) (words (10 ∷ []) (lines_of (map (bodied bodies) ls))) more
    ∙ ap (λ x. written (bodied bodies l) (10 ∷ x)) (lines-filled bodies ls more q.1 hs)
    ∙ written-filled bodies (link_markup l) (bodies-link bodies l q.0 h) (10 ∷ written (lines_of (map link_markup ls)) more)
    ∙ sym (written-then (link_markup l) (words (10 ∷ []) (lines_of (map link_markup ls))) more)

-- lines behind others
lines-after : (ms ns ps : List Markup) (more : List ℕ) → written (lines_of ns) more ≡ written (lines_of ps) more → written (lines_of (ms ++ ns)) more ≡ written (lines_of (ms ++ ps)) more
lines-after [] ns ps more e = e
lines-after (m ∷ ms) ns ps more e =
    written-then m (words (10 ∷ []) (lines_of (ms ++ ns))) more
    ∙ ap (λ x. written m (10 ∷ x)) (lines-after ms ns ps more e)
    ∙ sym (written-then m (words (10 ∷ []) (lines_of (ms ++ ps))) more)

-- The lines of a proper content are in order.

abbrev plain_lines : Spaces → Content → Facts → List Markup
plain_lines spaces c facts =
    map schema_markup c.schemas ++ (map linkbase_markup c.linkbases ++ (map role_markup c.roles ++ (map arcrole_markup c.arcroles
    ++ (map (context_markup spaces) c.contexts ++ (map (unit_markup spaces) c.units ++ (fact_markups spaces facts ++ map link_markup c.notes))))))

-- the lists of a content in order
pub record AreInOrder (spaces : Spaces) (c : Content) (facts : Facts) : Type 0 where
  pub schemas : strictly line_cmp (map schema_markup c.schemas) ≡ true
  pub linkbases : strictly line_cmp (map linkbase_markup c.linkbases) ≡ true
  pub roles : strictly line_cmp (map role_markup c.roles) ≡ true
  pub arcroles : strictly line_cmp (map arcrole_markup c.arcroles) ≡ true
  pub contexts : rises (on (λ x. x.id) text_cmp) c.contexts ≡ true
  pub units : rises (on (λ u. u.id) text_cmp) c.units ≡ true
  pub facts_are : rises line_cmp (fact_markups spaces facts) ≡ true
  pub notes : rises (on (λ l. l.role) text_cmp) c.notes ≡ true
  pub links : list_all link_in_order c.notes ≡ true

in-order : (c : Content) → lists_fit (said_of c) ≡ true → AreInOrder (said_spaces (said_of c)) c (facts_of c.facts)
unfolding lists_fit
in-order c h =
    let i = and_parts _ (list_all link_in_order c.notes) h in
    let n = and_parts _ (rises (on (λ l. l.role) text_cmp) c.notes) i.0 in
    let f = and_parts _ (rises line_cmp (fact_markups (said_spaces (said_of c)) (facts_of c.facts))) n.0 in
    let u = and_parts _ (rises (on (λ u. u.id) text_cmp) c.units) f.0 in
    let x = and_parts _ (rises (on (λ x. x.id) text_cmp) c.contexts) u.0 in
    let a = and_parts _ (strictly line_cmp (map arcrole_markup c.arcroles)) x.0 in
    let r = and_parts _ (strictly line_cmp (map role_markup c.roles)) a.0 in
    let s = and_parts (strictly line_cmp (map schema_markup c.schemas)) (strictly line_cmp (map linkbase_markup c.linkbases)) r.0 in
    record { schemas = s.0; linkbases = s.1; roles = r.1; arcroles = a.1; contexts = x.1; units = u.1; facts_are = f.1; notes = n.1; links = i.1 }

children-plain : (spaces : Spaces) (c : Content) (facts : Facts) → AreInOrder spaces c facts → children spaces c facts ≡ plain_lines spaces c facts
unfolding children
children-plain spaces c facts h = rw (
  once-strictly line_cmp (map schema_markup c.schemas) h.schemas,
  once-strictly line_cmp (map linkbase_markup c.linkbases) h.linkbases,
  once-strictly line_cmp (map role_markup c.roles) h.roles,
  once-strictly line_cmp (map arcrole_markup c.arcroles) h.arcroles,
  sorted-rises (on (λ x. x.id) text_cmp) c.contexts h.contexts,
  sorted-rises (on (λ u. u.id) text_cmp) c.units h.units,
  sorted-rises line_cmp (fact_markups spaces facts) h.facts_are,
  sorted-rises (on (λ l. l.role) text_cmp) c.notes h.notes,
) refl

same-spaces : (c : Content) → content_spaces c (facts_of c.facts) ≡ said_spaces (said_of c)
unfolding content_spaces
same-spaces c = refl

-- the lines with the bodies in place
lines-bodied : (bodies : List ℕ → Markup) (spaces : Spaces) (c : Content) (more : List ℕ) → list_all link_in_order c.notes ≡ true → Each (λ l. Each (Writes bodies) l.footnotes) c.notes
    → written (lines_of (plain_lines spaces c (facts_of c.facts))) more ≡ written (lines_of (lines_for bodies spaces (said_of c))) more
lines-bodied bodies spaces c more o h =
    let e7 = lines-after (fact_markups spaces (facts_of c.facts)) _ _ more (sym (lines-filled bodies c.notes more o h)) in
    let e6 = lines-after (map (unit_markup spaces) c.units) _ _ more e7 in
    let e5 = lines-after (map (context_markup spaces) c.contexts) _ _ more e6 in
    let e4 = lines-after (map arcrole_markup c.arcroles) _ _ more e5 in
    let e3 = lines-after (map role_markup c.roles) _ _ more e4 in
    let e2 = lines-after (map linkbase_markup c.linkbases) _ _ more e3 in
    lines-after (map schema_markup c.schemas) _ _ more e2

text-written : (spaces : Spaces) (ms : List Markup) → concat (first_line ∷ root_line spaces ∷ (map line ms ++ last_line ∷ []))
    ≡ first_line ++ (start_text root (map declaration (declared_for spaces)) ++ 10 ∷ written (lines_of ms) last_line)
unfolding root_line
text-written spaces ms =
    let start = start_text root (map declaration (declared_for spaces)) in
    ap (λ x. first_line ++ (root_line spaces ++ x)) (lines-written ms last_line)
    ∙ ap (λ x. first_line ++ x) (append_assoc start (10 ∷ []) (written (lines_of ms) last_line))

pub canon-written : (bodies : List ℕ → Markup) (c : Content) → is_proper (said_of c) ≡ true → Each (λ l. Each (Writes bodies) l.footnotes) c.notes
    → canon c ≡ first_line ++ written (root_for bodies (said_spaces (said_of c)) (said_of c)) (10 ∷ [])
unfolding lines_with
canon-written bodies c p h =
    let spaces = said_spaces (said_of c) in
    let o = in-order c (passed (said_of c) p).lists in
    let start = start_text root (map declaration (declared_for spaces)) in
    ap (λ s. concat (first_line ∷ root_line s ∷ (map line (children s c (facts_of c.facts)) ++ last_line ∷ []))) (same-spaces c)
    ∙ ap (λ ms. concat (first_line ∷ root_line spaces ∷ (map line ms ++ last_line ∷ []))) (children-plain spaces c (facts_of c.facts) o)
    ∙ text-written spaces (plain_lines spaces c (facts_of c.facts))
    ∙ ap (λ x. first_line ++ (start ++ 10 ∷ x)) (lines-bodied bodies spaces c last_line o.links h)
