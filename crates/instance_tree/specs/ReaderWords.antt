-- Words on what the reader reads.
use Rattle.std.specs.Prelude.{◌≡◌, ℕ, Bool, false, ◌&&◌, if◌then◌else◌, List, [], ◌∷◌, map, Option, Some, None, option_map, bytes_eq, codes}
use Rattle.std.specs.Borrow.{Bor}
use Rattle.std.specs.Option.{option_map_or}
use Rattle.text_map.specs.Texts.{Texts, get_in}
use Rattle.ix_base.specs.declared.content.Arc.{Arc}
use Rattle.ix_base.specs.declared.content.Fact.{Fact}
use Rattle.ix_base.specs.declared.content.Footnote.{Footnote}
use Rattle.ix_base.specs.declared.content.NoteLink.{NoteLink}
use Rattle.ix_base.specs.declared.content.Value.{Value}
use Rattle.ix_base.specs.declared.content.Value.TheVariants as value
use Rattle.ix_base.specs.Attributes.{value_of}
use Rattle.ix_base.specs.Facts.{Facts, before, tuple}
use Rattle.ix_base.specs.ElementContent.{is_blank_beside, is_of, named_in, text_alone}
use Rattle.ix_base.specs.Namespaces.{link_namespace, xbrli_namespace}
use Rattle.ix_base.specs.OwnNames.{own}
use Rattle.ix_base.specs.Steps.{◌>>=◌, each}
use Rattle.ix_base.specs.Trees.{Nodes, Tree}
use Rattle.instance_out.specs.Denotation.{Labelled, arc_in, ends_of, fact_by, facts_in, is_nil, labelled, members_by, outside, typed_as, xlink_at}
use Rattle.instance_lines.specs.Lists.{are_apart}
use Rattle.instance_tree.specs.declared.ends.End.{End}

-- the element has this xlink:type
abbrev pub is_typed : List ℕ → Tree → Bool
is_typed kind t = option_map_or (bytes_eq kind) (xlink_at (codes "type") t) false

-- the only two elements
abbrev pub pair_of : List Tree → Option (Tree × Tree)
pair_of (t ∷ u ∷ []) = Some (t, u)
pair_of ts = None

-- the texts of a numerator and a denominator
abbrev pub fraction_of : Tree → Tree → Option Value
fraction_of t u = text_alone t.children >>= λ above. text_alone u.children >>= λ below. Some (value.Fraction above below)

-- two elements among some nodes as a numerator and a denominator
abbrev pub ratio_in : Tree → Tree → Nodes → Option Value
ratio_in t u nodes =
    if is_of t.head.name xbrli_namespace (codes "numerator") && is_of u.head.name xbrli_namespace (codes "denominator") && is_blank_beside nodes
    then fraction_of t u
    else None

-- a text alone
abbrev pub plain_in : Nodes → Option Value
plain_in nodes = text_alone nodes >>= λ text. Some (value.Plain text)

-- the tuple that an element denotes, before the facts after it
abbrev pub tuple_at : Tree → Facts → Option Facts
tuple_at t more =
    members_by (is_nil t.head.attrs) (facts_in t.children)
    >>= λ ms. Some (tuple (own t.head.name) (value_of t.head.attrs [] (codes "id")) (is_nil t.head.attrs) ms more)

-- the fact that an element denotes, before those after it
abbrev pub fact_at : Tree → Facts → Option Facts
fact_at t more = outside t.head.name (fact_by (value_of t.head.attrs [] (codes "contextRef")) t.head t.children (facts_in t.children) more)

-- facts in front of others
abbrev pub in_front : List Fact → Facts → Facts
in_front [] rest = rest
in_front (f ∷ fs) rest = before f (in_front fs rest)

-- The ends of arcs.

abbrev pub end_of : End → Labelled
end_of e = (e.label.now, e.id.now)

abbrev pub labels_of : List Labelled → List (List ℕ)
labels_of ends = map (λ l. l.0) ends

-- the id at a label of a table
abbrev pub id_at : Texts (Bor (List ℕ)) → List ℕ → Option (List ℕ)
id_at table label = option_map (λ id. id.now) (get_in table label)

-- the table has the id of the first end with each label
abbrev pub HasEnds : Texts (Bor (List ℕ)) → List Labelled → Type 0
HasEnds table ends = (label : List ℕ) → id_at table label ≡ labelled ends label

-- the id at the label in an attribute of XLink
abbrev pub end_at : (List ℕ → Option (List ℕ)) → List ℕ → Tree → Option (List ℕ)
end_at ids local t = xlink_at local t >>= λ label. ids label

abbrev pub arc_with : List ℕ → List ℕ → List ℕ → List ℕ → Arc
arc_with arcrole from_id to_id order = record { arcrole = arcrole; from_id = from_id; to_id = to_id; order = order }

-- an arc, with the id at each label
abbrev pub arc_by : (List ℕ → Option (List ℕ)) → Tree → Option Arc
arc_by ids t = typed_as (codes "arc") t (
    xlink_at (codes "arcrole") t >>= λ arcrole. end_at ids (codes "from") t >>= λ from_id. end_at ids (codes "to") t >>= λ to_id.
    value_of t.head.attrs [] (codes "order") >>= λ order.
    Some (arc_with arcrole from_id to_id order)
    )

-- the arcs among some nodes, where no two ends have one label
abbrev pub arcs_in : List Labelled → Nodes → Option (List Arc)
arcs_in ends nodes = if are_apart (labels_of ends) then each (arc_in ends) (named_in link_namespace (codes "footnoteArc") nodes) else None

-- a footnote link, from what was read
abbrev pub link_with : List ℕ → List Labelled → List Footnote → List Arc → NoteLink
link_with role locs footnotes arcs = record { role = role; locs = map (λ l. l.1) locs; footnotes = footnotes; arcs = arcs }

-- a footnote link whose locators and footnotes were read
abbrev pub link_by : List ℕ → List Labelled → List Footnote → Nodes → Option NoteLink
link_by role locs footnotes nodes = arcs_in (ends_of locs footnotes) nodes >>= λ arcs. Some (link_with role locs footnotes arcs)
