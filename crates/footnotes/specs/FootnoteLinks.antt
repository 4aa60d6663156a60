-- The footnote links of a target, from the relationships of a set (XBRL 2.1, section 4.11; Inline XBRL 1.1, relationship
-- and footnote).
use Rattle.std.specs.Prelude.{ℕ, Bool, true, false, ◌&&◌, not, ◌==◌, if◌then◌else◌, List, [], ◌∷◌, map, flat_map, filter, Some, unwrap_or, bytes_eq, codes}
use Rattle.std.specs.List.{filter_map}
use Rattle.std.specs.Option.{option_map_or}
use Rattle.std.specs.declared.cmp.Ordering.{Ordering}
use Rattle.std.specs.Ordering.{on, then_cmp}
use Rattle.ix_base.specs.declared.content.Arc.{Arc}
use Rattle.ix_base.specs.declared.content.Footnote.{Footnote}
use Rattle.ix_base.specs.declared.content.NoteLink.{NoteLink}
use Rattle.ix_base.specs.Asks.{Asks, asks}
use Rattle.ix_base.specs.Chain.{chain}
use Rattle.ix_base.specs.Decimals.{front_of, back_of, whole}
use Rattle.ix_base.specs.Elements.{path_of}
use Rattle.ix_base.specs.Forms.{is_decimal, is_negative, unsigned_of}
use Rattle.ix_base.specs.Ids.{id_of, one_such}
use Rattle.ix_base.specs.LinkRules.{from_ids, to_ids, is_relationship, is_footnote, is_end, named_by, target_of}
use Rattle.ix_base.specs.LocatedElements.{Located, is_fact, token_at}
use Rattle.ix_base.specs.Markup.{markup_along}
use Rattle.ix_base.specs.Once.{in_order}
use Rattle.ix_base.specs.Readers.{attr, lang_along}
use Rattle.ix_base.specs.SortedLists.{text_cmp}
use Rattle.ix_base.specs.Token.{token_of}
use Rattle.scale_sign.specs.Scaled.{signed}
use Rattle.scale_sign.specs.WrittenDigits.{written}

abbrev pub link_role : Located → List ℕ
link_role r = unwrap_or (token_at (codes "linkRole") r) (codes "http://www.xbrl.org/2003/role/link")

abbrev pub arcrole : Located → List ℕ
arcrole r = unwrap_or (token_at (codes "arcrole") r) (codes "http://www.xbrl.org/2003/arcrole/fact-footnote")

abbrev pub footnote_role : Located → List ℕ
footnote_role e = unwrap_or (token_at (codes "footnoteRole") e) (codes "http://www.xbrl.org/2003/role/footnote")

-- a decimal with a sign in its one canonical form; zero has no sign
abbrev pub canonical_decimal : List ℕ → List ℕ
canonical_decimal text = signed (is_negative text && not (whole (unsigned_of text) == 0))
    (written (front_of (unsigned_of text)) (back_of (unsigned_of text)))

-- a text that isn't a decimal stands as it is: an element that has such an order breaks a rule of elements
abbrev pub canonical_order : List ℕ → List ℕ
canonical_order text = if is_decimal text then canonical_decimal text else text

abbrev pub arc_order : Located → List ℕ
arc_order r = option_map_or canonical_order (token_at (codes "order") r) (codes "1")

-- what an element is called in arcs
abbrev pub label : Located → List ℕ
label e = unwrap_or (id_of e) []

-- an arc of a role, with the elements at its ends
pub record Between : Type 0 where
  pub role : List ℕ
  pub arc : Arc
  pub from : Located
  pub to : Located

-- the arc of a relationship from a fact to a fact or a footnote
abbrev pub between : Located → Located → Located → Between
between r f x = record {
  role = link_role r;
  arc = record { arcrole = arcrole r; from_id = label f; to_id = label x; order = arc_order r };
  from = f;
  to = x;
}

-- the facts of this target among those from which a relationship goes
abbrev pub sources : Asks Located → List ℕ → Located → List Located
sources a target r = filter (λ f. bytes_eq target (target_of f)) (named_by is_fact a (from_ids r))

abbrev pub arcs_by : Bool → Asks Located → List ℕ → Located → List Between
arcs_by true a target r = flat_map (λ f. map (between r f) (named_by is_end a (to_ids r))) (sources a target r)
arcs_by false a target r = []

-- the arcs that a set has in a target
abbrev pub arcs_in : List Located → List ℕ → List Between
arcs_in es target = flat_map (λ r. arcs_by (is_relationship r) (asks es) target r) es

-- arcs by their arcroles, their two ids and their orders
abbrev pub arc_texts_cmp : Arc → Arc → Ordering
arc_texts_cmp = then_cmp (on (λ x. x.arcrole) text_cmp) (then_cmp (on (λ x. x.from_id) text_cmp)
    (then_cmp (on (λ x. x.to_id) text_cmp) (on (λ x. x.order) text_cmp)))

-- a footnote whose text goes along some elements
abbrev pub footnote_along : (Located → List ℕ) → List Located → Located → Footnote
footnote_along bases along e = record {
  id = label e;
  role = footnote_role e;
  title = attr (codes "title") e.placed.tree;
  lang = option_map_or token_of (lang_along (path_of e.placed)) [];
  body = markup_along (λ x. Some (bases x)) [] along;
}

-- a footnote: its text goes along its chain
abbrev pub footnote_of : (Located → List ℕ) → Asks Located → Located → Footnote
footnote_of bases a e = footnote_along bases (chain a e) e

-- the ends of some arcs
abbrev pub ends : List Between → List Located
ends xs = flat_map (λ x. x.from ∷ x.to ∷ []) xs

-- the link of a role, from its arcs: facts and footnotes by their ids, each list in order and without repeats
abbrev pub link_of : (Located → List ℕ) → Asks Located → List ℕ → List Between → NoteLink
link_of bases a role xs = record {
  role = role;
  locs = in_order text_cmp (map label (filter is_fact (ends xs)));
  footnotes = map (footnote_of bases a) (filter_map (one_such is_footnote a) (in_order text_cmp (map label (filter is_footnote (ends xs)))));
  arcs = in_order arc_texts_cmp (map (λ x. x.arc) xs);
}

-- the footnote links of a target, by role
abbrev pub notes : (Located → List ℕ) → List Located → List ℕ → List NoteLink
notes bases es target =
    map (λ role. link_of bases (asks es) role (filter (λ x. bytes_eq role x.role) (arcs_in es target)))
    (in_order text_cmp (map (λ x. x.role) (arcs_in es target)))
