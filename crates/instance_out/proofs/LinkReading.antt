-- References and footnote links are read as they are written.
use Rattle.std.proofs.Common.{◌≡◌, ◌∙◌, ℕ, ◌+◌, Bool, true, false, ◌||◌, if◌then◌else◌, List, [], ◌∷◌, ◌++◌, length, map, Option, Some, None, refl, sym, ap, codes, append-nil, bytes_eq}
use Rattle.std.specs.Ordering.{on}
use Rattle.ix_base.specs.declared.content.Arc.{Arc}
use Rattle.ix_base.specs.declared.content.Footnote.{Footnote}
use Rattle.ix_base.specs.declared.content.Linkbase.{Linkbase}
use Rattle.ix_base.specs.declared.content.NoteLink.{NoteLink}
use Rattle.ix_base.specs.declared.content.RoleRef.{RoleRef}
use Rattle.ix_base.specs.Elements.{tree_at}
use Rattle.ix_base.specs.ElementContent.{named_in}
use Rattle.ix_base.specs.Once.{in_order}
use Rattle.ix_base.specs.Scope.{namespace_of}
use Rattle.ix_base.specs.Namespaces.{xml_namespace, link_namespace, xlink_namespace}
use Rattle.ix_base.specs.SortedLists.{sorted, text_cmp}
use Rattle.ix_base.specs.Steps.{each}
use Rattle.ix_base.specs.Trees.{Bound, Named, Nodes, none, Tree}
use Rattle.ix_base.specs.WrittenMarkup.{Attribute as Given, Markup, nothing, node, start_text, leaf_text, close_text}
use Rattle.instance_lines.specs.Canonical.{Spaces, attr, attr_if, type_attr, href_attr, each_markup, arc_line_cmp, schema_markup, linkbase_markup, role_markup, arcrole_markup, locator_markup, footnote_markup, arc_markup, link_markup}
use Rattle.ix_base.specs.FilledMarkup.{then as joins, filled}
use Rattle.page_constructs.proofs.SpanLaws.{bytes-one}
use Rattle.ix_base.specs.Markup.{markup}
use Rattle.instance_out.specs.Denotation.{Labelled, schema_in, linkbase_in, reference_in, locator_in, footnote_in, arc_in, labelled, ends_of, notes_in}
use Rattle.instance_lines.specs.Lists.{are_apart, has}
use Rattle.page_tree.specs.FineMarkup.{head_at, nodes_at, past}
use Rattle.instance_out.specs.MarkupTrees.{tree_in}
use Rattle.instance_out.proofs.NameLaws.{Knows, knows-link, knows-xlink, knows-xml}
use Rattle.instance_out.proofs.RunLaws.{Each, IsNamedOf, named_run}

-- References.

pub schema-read : (scope : List Bound) (spaces : Spaces) → Knows scope spaces → (href : List ℕ) (at : ℕ) → schema_in (tree_in (schema_markup href) at scope) ≡ Some href
unfolding schema_in xlink_namespace
schema-read scope spaces k href at = rw (knows-xlink scope spaces k) refl

linkbase-by : (scope : List Bound) → namespace_of scope (codes "xlink") ≡ Some xlink_namespace → (href : List ℕ) (role : Option (List ℕ)) (at : ℕ)
    → linkbase_in (tree_in (linkbase_markup (record { href = href; role = role })) at scope) ≡ Some (record { href = href; role = role })
unfolding linkbase_in xlink_namespace
linkbase-by scope k href None at = rw k refl
linkbase-by scope k href (Some role) at = rw k refl

pub linkbase-read : (scope : List Bound) (spaces : Spaces) → Knows scope spaces → (l : Linkbase) (at : ℕ) → linkbase_in (tree_in (linkbase_markup l) at scope) ≡ Some l
linkbase-read scope spaces k l at = linkbase-by scope (knows-xlink scope spaces k) l.href l.role at

pub role-read : (scope : List Bound) (spaces : Spaces) → Knows scope spaces → (r : RoleRef) (at : ℕ) → reference_in (codes "roleURI") (tree_in (role_markup r) at scope) ≡ Some r
unfolding reference_in xlink_namespace
role-read scope spaces k r at = rw (knows-xlink scope spaces k) refl

pub arcrole-read : (scope : List Bound) (spaces : Spaces) → Knows scope spaces → (r : RoleRef) (at : ℕ) → reference_in (codes "arcroleURI") (tree_in (arcrole_markup r) at scope) ≡ Some r
unfolding reference_in xlink_namespace
arcrole-read scope spaces k r at = rw (knows-xlink scope spaces k) refl

-- Locators, footnotes and arcs.

abbrev pub link_name : List ℕ → Named
link_name local = record { ns = link_namespace; local = local }

abbrev pub twice : List ℕ → Labelled
twice id = (id, id)

abbrev located : Labelled → Markup → Markup
located l rest = locator_markup l.1 rest

each-twice : (ids : List (List ℕ)) (rest : Markup) → each_markup located (map twice ids) rest ≡ each_markup locator_markup ids rest
each-twice [] rest = refl
each-twice (id ∷ ids) rest = ap (locator_markup id) (each-twice ids rest)

locator-element : (scope : List Bound) (spaces : Spaces) → Knows scope spaces → (id : List ℕ) → IsNamedOf (link_name (codes "loc")) located locator_in scope (twice id)
unfolding locator_in xlink_namespace
locator-element scope spaces k id = record {
  element = record {
    head = λ at. head_at at scope (codes "link:loc") (type_attr (codes "locator") ∷ href_attr (35 ∷ id) ∷ attr (codes "xlink:label") id ∷ []);
    inner = λ at. none;
    later = λ at. at + length (leaf_text (codes "link:loc") (type_attr (codes "locator") ∷ href_attr (35 ∷ id) ∷ attr (codes "xlink:label") id ∷ []));
    is = λ rest at. refl;
    read = λ at. rw (knows-xlink scope spaces k) refl;
  };
  named = λ at. rw (knows-link scope spaces k) refl;
}

locators-elements : (scope : List Bound) (spaces : Spaces) → Knows scope spaces → (ids : List (List ℕ)) → Each (IsNamedOf (link_name (codes "loc")) located locator_in scope) (map twice ids)
locators-elements scope spaces k [] = tt
locators-elements scope spaces k (id ∷ ids) = (locator-element scope spaces k id, locators-elements scope spaces k ids)

abbrev pub note_attrs : Footnote → List Given
note_attrs f = type_attr (codes "resource") ∷ attr (codes "xlink:label") f.id ∷ attr (codes "xlink:role") f.role ∷ (attr_if (codes "xlink:title") f.title ++ attr (codes "xml:lang") f.lang ∷ [])

-- a footnote whose body is given as markup
abbrev pub noted : (List ℕ → Markup) → Footnote → Markup → Markup
noted bodies f rest = node (codes "link:footnote") (note_attrs f) (joins (bodies f.body) nothing) rest

-- the body that is given means nodes whose markup is the body
abbrev pub IsBodyOf : (List ℕ → Markup) → List Bound → Footnote → Type 0
IsBodyOf bodies scope f = (at : ℕ) → markup None [] (nodes_at (joins (bodies f.body) nothing) at scope) ≡ f.body

footnote-by : (scope : List Bound) → namespace_of scope (codes "xlink") ≡ Some xlink_namespace → namespace_of scope (codes "link") ≡ Some link_namespace → namespace_of scope (codes "xml") ≡ Some xml_namespace
    → (bodies : List ℕ → Markup) (id role : List ℕ) (title : Option (List ℕ)) (lang body : List ℕ) → IsBodyOf bodies scope (record { id = id; role = role; title = title; lang = lang; body = body })
    → IsNamedOf (link_name (codes "footnote")) (noted bodies) footnote_in scope (record { id = id; role = role; title = title; lang = lang; body = body })
unfolding footnote_in xlink_namespace xml_namespace
footnote-by scope k l m bodies id role None lang body b = record {
  element = record {
    head = λ at. head_at at scope (codes "link:footnote") (note_attrs (record { id = id; role = role; title = None; lang = lang; body = body }));
    inner = λ at. nodes_at (joins (bodies body) nothing) (at + length (start_text (codes "link:footnote") (note_attrs (record { id = id; role = role; title = None; lang = lang; body = body })))) scope;
    later = λ at. past (joins (bodies body) nothing) (at + length (start_text (codes "link:footnote") (note_attrs (record { id = id; role = role; title = None; lang = lang; body = body })))) + length (close_text (codes "link:footnote"));
    is = λ rest at. refl;
    read = λ at. rw (k, m, b) refl;
  };
  named = λ at. rw l refl;
}
footnote-by scope k l m bodies id role (Some title) lang body b = record {
  element = record {
    head = λ at. head_at at scope (codes "link:footnote") (note_attrs (record { id = id; role = role; title = Some title; lang = lang; body = body }));
    inner = λ at. nodes_at (joins (bodies body) nothing) (at + length (start_text (codes "link:footnote") (note_attrs (record { id = id; role = role; title = Some title; lang = lang; body = body })))) scope;
    later = λ at. past (joins (bodies body) nothing) (at + length (start_text (codes "link:footnote") (note_attrs (record { id = id; role = role; title = Some title; lang = lang; body = body })))) + length (close_text (codes "link:footnote"));
    is = λ rest at. refl;
    read = λ at. rw (k, m, b) refl;
  };
  named = λ at. rw l refl;
}

footnotes-elements : (scope : List Bound) (spaces : Spaces) → Knows scope spaces → (bodies : List ℕ → Markup) (fs : List Footnote) → Each (IsBodyOf bodies scope) fs
    → Each (IsNamedOf (link_name (codes "footnote")) (noted bodies) footnote_in scope) fs
footnotes-elements scope spaces k bodies [] h = tt
footnotes-elements scope spaces k bodies (f ∷ fs) (h, hs) =
    (footnote-by scope (knows-xlink scope spaces k) (knows-link scope spaces k) (knows-xml scope spaces k) bodies f.id f.role f.title f.lang f.body h, footnotes-elements scope spaces k bodies fs hs)

labelled-twice : (ids : List (List ℕ)) (id : List ℕ) → has ids id ≡ true → labelled (map twice ids) id ≡ Some id
labelled-twice [] id h = absurd (cc)
labelled-twice (x ∷ ids) id h = by (labelled-twice ids id) (bytes_eq x id) refl h
  where
    by : (has ids id ≡ true → labelled (map twice ids) id ≡ Some id) → (b : Bool) → bytes_eq x id ≡ b → (b || has ids id) ≡ true → (if b then Some x else labelled (map twice ids) id) ≡ Some id
    by ih true e h = ap Some (bytes-one x id e)
    by ih false e h = ih h

-- an arc between two of these ids
pub record IsBetween (ids : List (List ℕ)) (a : Arc) : Type 0 where
  pub first : has ids a.from_id ≡ true
  pub last : has ids a.to_id ≡ true

arc-element : (scope : List Bound) (spaces : Spaces) → Knows scope spaces → (ids : List (List ℕ)) (a : Arc) → IsBetween ids a
    → IsNamedOf (link_name (codes "footnoteArc")) arc_markup (arc_in (map twice ids)) scope a
unfolding arc_in xlink_namespace
arc-element scope spaces k ids a h = record {
  element = record {
    head = λ at. head_at at scope (codes "link:footnoteArc") (type_attr (codes "arc") ∷ attr (codes "xlink:arcrole") a.arcrole ∷ attr (codes "xlink:from") a.from_id ∷ attr (codes "xlink:to") a.to_id ∷ attr (codes "order") a.order ∷ []);
    inner = λ at. none;
    later = λ at. at + length (leaf_text (codes "link:footnoteArc") (type_attr (codes "arc") ∷ attr (codes "xlink:arcrole") a.arcrole ∷ attr (codes "xlink:from") a.from_id ∷ attr (codes "xlink:to") a.to_id ∷ attr (codes "order") a.order ∷ []));
    is = λ rest at. refl;
    read = λ at. rw (knows-xlink scope spaces k, labelled-twice ids a.from_id h.first, labelled-twice ids a.to_id h.last) refl;
  };
  named = λ at. rw (knows-link scope spaces k) refl;
}

arcs-elements : (scope : List Bound) (spaces : Spaces) → Knows scope spaces → (ids : List (List ℕ)) (as' : List Arc) → Each (IsBetween ids) as'
    → Each (IsNamedOf (link_name (codes "footnoteArc")) arc_markup (arc_in (map twice ids)) scope) as'
arcs-elements scope spaces k ids [] h = tt
arcs-elements scope spaces k ids (a ∷ as') (h, hs) = (arc-element scope spaces k ids a h, arcs-elements scope spaces k ids as' hs)

-- The whole link.

abbrev pub ids_of : List (List ℕ) → List Footnote → List (List ℕ)
ids_of locs notes = locs ++ map (λ f. f.id) notes

ends-twice : (locs : List (List ℕ)) (notes : List Footnote) → ends_of (map twice locs) notes ≡ map twice (ids_of locs notes)
ends-twice [] [] = refl
ends-twice [] (f ∷ notes) = ap (λ x. twice f.id ∷ x) (ends-twice [] notes)
ends-twice (l ∷ locs) notes = ap (λ x. twice l ∷ x) (ends-twice locs notes)

first-twice : (ids : List (List ℕ)) → map (λ l. l.0) (map twice ids) ≡ ids
first-twice [] = refl
first-twice (x ∷ ids) = ap (λ y. x ∷ y) (first-twice ids)

last-twice : (ids : List (List ℕ)) → map (λ l. l.1) (map twice ids) ≡ ids
last-twice [] = refl
last-twice (x ∷ ids) = ap (λ y. x ∷ y) (last-twice ids)

pub record IsNormalLink (bodies : List ℕ → Markup) (scope : List Bound) (l : NoteLink) : Type 0 where
  pub locs : in_order text_cmp l.locs ≡ l.locs
  pub footnotes : sorted (on (λ f. f.id) text_cmp) l.footnotes ≡ l.footnotes
  pub arcs : sorted arc_line_cmp l.arcs ≡ l.arcs
  pub apart : are_apart (ids_of l.locs l.footnotes) ≡ true
  pub between : Each (IsBetween (ids_of l.locs l.footnotes)) l.arcs
  pub bodied : Each (IsBodyOf bodies scope) l.footnotes

-- the children of a link, each kind in its order
abbrev link_kids : (List ℕ → Markup) → NoteLink → Markup
link_kids bodies l = each_markup located (map twice l.locs) (each_markup (noted bodies) l.footnotes (each_markup arc_markup l.arcs nothing))

filled-locs : (bodies : List ℕ → Markup) (ids : List (List ℕ)) (rest : Markup) → filled bodies (each_markup locator_markup ids rest) ≡ each_markup locator_markup ids (filled bodies rest)
filled-locs bodies [] rest = refl
filled-locs bodies (id ∷ ids) rest = ap (locator_markup id) (filled-locs bodies ids rest)

filled-notes : (bodies : List ℕ → Markup) (fs : List Footnote) (rest : Markup) → filled bodies (each_markup footnote_markup fs rest) ≡ each_markup (noted bodies) fs (filled bodies rest)
filled-notes bodies [] rest = refl
filled-notes bodies (f ∷ fs) rest = ap (noted bodies f) (filled-notes bodies fs rest)

filled-arcs : (bodies : List ℕ → Markup) (as' : List Arc) → filled bodies (each_markup arc_markup as' nothing) ≡ each_markup arc_markup as' nothing
filled-arcs bodies [] = refl
filled-arcs bodies (a ∷ as') = ap (arc_markup a) (filled-arcs bodies as')

filled-kids : (bodies : List ℕ → Markup) (l : NoteLink)
    → filled bodies (each_markup locator_markup l.locs (each_markup footnote_markup l.footnotes (each_markup arc_markup l.arcs nothing))) ≡ link_kids bodies l
filled-kids bodies l =
    filled-locs bodies l.locs (each_markup footnote_markup l.footnotes (each_markup arc_markup l.arcs nothing))
    ∙ ap (each_markup locator_markup l.locs) (filled-notes bodies l.footnotes (each_markup arc_markup l.arcs nothing) ∙ ap (each_markup (noted bodies) l.footnotes) (filled-arcs bodies l.arcs))
    ∙ sym (each-twice l.locs (each_markup (noted bodies) l.footnotes (each_markup arc_markup l.arcs nothing)))

abbrev pub link_attrs : List ℕ → List Given
link_attrs role = type_attr (codes "extended") ∷ attr (codes "xlink:role") role ∷ []

pub filled-link : (bodies : List ℕ → Markup) (scope : List Bound) (l : NoteLink) → IsNormalLink bodies scope l
    → filled bodies (link_markup l) ≡ node (codes "link:footnoteLink") (link_attrs l.role) (link_kids bodies l) nothing
filled-link bodies scope l n = rw (n.locs, n.footnotes, n.arcs) (ap (λ m. node (codes "link:footnoteLink") (link_attrs l.role) m nothing) (filled-kids bodies l))

-- what the children of a link denote
record HasEnds (ns : Nodes) (l : NoteLink) : Type 0 where
  locs : List Tree
  notes : List Tree
  arcs : List Tree
  locs_are : named_in link_namespace (codes "loc") ns ≡ locs
  notes_are : named_in link_namespace (codes "footnote") ns ≡ notes
  arcs_are : named_in link_namespace (codes "footnoteArc") ns ≡ arcs
  locs_read : each locator_in locs ≡ Some (map twice l.locs)
  notes_read : each footnote_in notes ≡ Some l.footnotes
  arcs_read : each (arc_in (map twice (ids_of l.locs l.footnotes))) arcs ≡ Some l.arcs

has-ends : (scope : List Bound) (spaces : Spaces) → Knows scope spaces → (bodies : List ℕ → Markup) (l : NoteLink) → IsNormalLink bodies scope l → (at : ℕ) → HasEnds (nodes_at (link_kids bodies l) at scope) l
unfolding link_namespace
has-ends scope spaces k bodies l n at =
    let a = named_run (link_name (codes "loc")) located locator_in scope (map twice l.locs) (locators-elements scope spaces k l.locs) (each_markup (noted bodies) l.footnotes (each_markup arc_markup l.arcs nothing)) at in
    let b = named_run (link_name (codes "footnote")) (noted bodies) footnote_in scope l.footnotes (footnotes-elements scope spaces k bodies l.footnotes n.bodied) (each_markup arc_markup l.arcs nothing) a.later in
    let c = named_run (link_name (codes "footnoteArc")) arc_markup (arc_in (map twice (ids_of l.locs l.footnotes))) scope l.arcs (arcs-elements scope spaces k (ids_of l.locs l.footnotes) l.arcs n.between) nothing b.later in
    record {
      locs = a.trees;
      notes = b.trees;
      arcs = c.trees;
      locs_are = a.same link_namespace (codes "loc") refl ∙ ap (λ x. a.trees ++ x) (b.other link_namespace (codes "loc") refl ∙ c.other link_namespace (codes "loc") refl) ∙ append-nil a.trees;
      notes_are = a.other link_namespace (codes "footnote") refl ∙ b.same link_namespace (codes "footnote") refl ∙ ap (λ x. b.trees ++ x) (c.other link_namespace (codes "footnote") refl) ∙ append-nil b.trees;
      arcs_are = a.other link_namespace (codes "footnoteArc") refl ∙ b.other link_namespace (codes "footnoteArc") refl ∙ c.same link_namespace (codes "footnoteArc") refl ∙ append-nil c.trees;
      locs_read = a.read;
      notes_read = b.read;
      arcs_read = c.read;
    }

notes-from : (scope : List Bound) → namespace_of scope (codes "xlink") ≡ Some xlink_namespace → (l : NoteLink) (ns : Nodes) → HasEnds ns l → are_apart (ids_of l.locs l.footnotes) ≡ true → (at : ℕ)
    → notes_in (tree_at (head_at at scope (codes "link:footnoteLink") (link_attrs l.role)) ns) ≡ Some l
unfolding notes_in xlink_namespace
notes-from scope k l ns h apart at =
    rw (k, h.locs_are, h.notes_are, h.arcs_are, h.locs_read, h.notes_read, ends-twice l.locs l.footnotes, h.arcs_read, first-twice (ids_of l.locs l.footnotes), apart, last-twice l.locs) refl

pub link-read : (scope : List Bound) (spaces : Spaces) → Knows scope spaces → (bodies : List ℕ → Markup) (l : NoteLink) → IsNormalLink bodies scope l → (at : ℕ)
    → notes_in (tree_in (filled bodies (link_markup l)) at scope) ≡ Some l
link-read scope spaces k bodies l n at =
    ap (λ m. notes_in (tree_in m at scope)) (filled-link bodies scope l n)
    ∙ notes-from scope (knows-xlink scope spaces k) l _ (has-ends scope spaces k bodies l n _) n.apart at
