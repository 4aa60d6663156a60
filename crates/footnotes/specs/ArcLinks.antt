-- The footnote links of some arcs, from what stands for each footnote.
use Rattle.std.specs.Prelude.{ℕ, List, [], ◌∷◌, map, flat_map, filter, Option, Some, None, bytes_eq, if◌then◌else◌}
use Rattle.std.specs.Borrow.{Bor}
use Rattle.std.specs.List.{filter_map}
use Rattle.std.specs.Option.{option_map_or}
use Rattle.text_map.specs.Texts.{Texts, get_in}
use Rattle.ix_base.specs.declared.content.Footnote.{Footnote}
use Rattle.ix_base.specs.declared.content.NoteLink.{NoteLink}
use Rattle.ix_base.specs.declared.tree.Spot.{Spot}
use Rattle.ix_base.specs.LinkRules.{is_footnote}
use Rattle.ix_base.specs.LocatedElements.{Located, is_fact, offset_of}
use Rattle.ix_base.specs.Once.{in_order}
use Rattle.ix_base.specs.SortedLists.{text_cmp}
use Rattle.continuations.specs.Model.{chain_at}
use Rattle.footnotes.specs.declared.arcs.ArcGroup.{ArcGroup}
use Rattle.footnotes.specs.FootnoteLinks.{Between, arc_texts_cmp, ends, label, footnote_along}

abbrev pub texts_of : List (Bor (List ℕ)) → List (List ℕ)
texts_of xs = map (λ s. s.now) xs

-- the last of some elements that is called so
abbrev pub last_called : List ℕ → List Located → Option Located → Option Located
last_called id [] found = found
last_called id (e ∷ es) found = last_called id es (if bytes_eq id (label e) then Some e else found)

-- the element that is kept for a name
abbrev pub kept_at : Texts (Bor Spot) → List ℕ → Option (Bor Spot)
kept_at m id = get_in m id

-- the chain that is kept for an element
abbrev pub chain_kept : List ((ℕ × ℕ) × List Located) → Located → List Located
chain_kept chains e = option_map_or (λ l. l) (chain_at chains e.page (offset_of e)) []

-- a footnote whose text goes along the chain that is kept for it
abbrev pub note_in : (Located → List ℕ) → List ((ℕ × ℕ) × List Located) → Located → Footnote
note_in bases chains e = footnote_along bases (chain_kept chains e) e

-- the footnotes to which some arcs go
abbrev pub end_footnotes : List Between → List Located
end_footnotes xs = filter is_footnote (map (λ x. x.to) xs)

-- a link of these arcs
abbrev pub link_by : (Located → Footnote) → List ℕ → List Between → NoteLink
link_by note role xs = record {
  role = role;
  locs = in_order text_cmp (map label (filter is_fact (ends xs)));
  footnotes = map note (filter_map (λ id. last_called id (end_footnotes xs) None) (in_order text_cmp (map label (end_footnotes xs))));
  arcs = in_order arc_texts_cmp (map (λ x. x.arc) xs);
}

-- the links of these arcs, by role
abbrev pub links_by : (Located → Footnote) → List Between → List NoteLink
links_by note xs = map (λ role. link_by note role (filter (λ x. bytes_eq role x.role) xs)) (in_order text_cmp (map (λ x. x.role) xs))

-- the role of a group that has arcs
abbrev pub role_by : List (Bor Spot) → List ℕ → List (List ℕ)
role_by [] role = []
role_by (s ∷ ss) role = role ∷ []

abbrev pub roles_along : List ArcGroup → List (List ℕ)
roles_along groups = flat_map (λ g. role_by g.ends.now g.attributes.role.now) groups
