-- What a set has of elements stands in the list of an index that is gone through for it.
use Rattle.std.proofs.Common.{◌≡◌, ◌∙◌, ◌++◌, Bool, true, false, true≢false, ℕ, List, [], None, ap, refl, sym}
use Rattle.std.proofs.lemmas.Bool.{and_left, and_parts}
use Rattle.std.proofs.lemmas.List.Elements.{All-contains_itself, All-filter}
use Rattle.std.specs.Borrow.{Bor}
use Rattle.std.specs.List.{Contains, filter, flat_map}
use Rattle.std.specs.Prelude.{◌&&◌, ◌||◌, is_some, map, not}
use Rattle.ix_base.specs.declared.kind.Kind.{Kind}
use Rattle.ix_base.specs.declared.kind.Kind.TheVariants as kind
use Rattle.ix_base.specs.declared.rule.Rule.{Rule}
use Rattle.ix_base.specs.declared.rule.Rule.TheVariants.{L2, L3, L14, L17}
use Rattle.ix_base.specs.declared.tree.Spot.{Spot}
use Rattle.ix_base.specs.Asks.{Asks}
use Rattle.ix_base.specs.Kinds.{is_fact as fact_kind, kind_of, same_kind}
use Rattle.ix_base.specs.LinkRules.{address_of, broken_at, breaks_link, found_at, has_two_addresses, is_schema_for, uri_by, uri_of}
use Rattle.ix_base.specs.LocatedElements.{Located, has_unit, is_fact, is_item, is_kind}
use Rattle.ix_base.specs.Rows.{row}
use Rattle.id_table.specs.Tables.{all_located, is_other}
use Rattle.id_table.proofs.SortedKinds.{arcrole-other, item-fact, linkbase-other, role-other, schema-other}
use Rattle.id_table.proofs.Sorting.{filter-within, flat-within}
use Rattle.target_contents.specs.Contents.{is_linkbase_for}
use Rattle.target_contents.specs.Faults.{redirected_at, refs_at}
use Rattle.target_contents.specs.Groups.{is_fact_of}
use Rattle.target_contents.specs.RoleAddresses.{SeesAll, refers_to, seen_from}
use Rattle.target_contents.specs.declared.addresses.SeenRoles.{SeenRoles}
use Rattle.target_contents.specs.Visits.{AreAmong}
use Rattle.target_contents.proofs.AmongLaws.{spots-are}

-- each element of a list is one of the set
pub among-such : (p : Located → Bool) (spots : List (Bor Spot)) (es : List Located) → all_located spots ≡ filter p es → AreAmong es spots
among-such p spots es e = spots-are (Contains es) spots (filter p es) e (All-filter p (Contains es) es (All-contains_itself es))

pub facts-of : (q : List ℕ) (es : List Located) → filter (is_fact_of q) (filter is_fact es) ≡ filter (is_fact_of q) es
facts-of q = filter-within (is_fact_of q) is_fact (λ e h. (and_parts _ _ h).0)

pub schemas-of : (q : List ℕ) (es : List Located) → filter (is_schema_for q) (filter is_other es) ≡ filter (is_schema_for q) es
schemas-of q = filter-within (is_schema_for q) is_other (λ e h. schema-other e (and_parts _ _ h).0)

pub linkbases-of : (q : List ℕ) (es : List Located) → filter (is_linkbase_for q) (filter is_other es) ≡ filter (is_linkbase_for q) es
linkbases-of q = filter-within (is_linkbase_for q) is_other (λ e h. linkbase-other e (and_parts _ _ h).0)

pub items-of : (es : List Located) → filter is_item (filter is_fact es) ≡ filter is_item es
items-of = filter-within is_item is_fact item-fact

-- what isn't in the wider one isn't in the narrower one
outside : (b c : Bool) → (b ≡ true → c ≡ true) → c ≡ false → b ≡ false
outside true c h f = absurd (true≢false (sym (h refl) ∙ f))
outside false c h f = refl

unit-kind : (k : Kind) → (same_kind k kind.NonFraction || same_kind k kind.Fraction) ≡ true → fact_kind k ≡ true
unit-kind kind.NonFraction h = refl
unit-kind kind.Fraction h = refl
unit-kind k h = absurd (let z : false ≡ true = h in cc)

pub unbroken : (e : Located) (r : Rule) (b : Bool) → b ≡ false → row b (found_at e r) ≡ []
unbroken e r b h = ap (λ x. row x (found_at e r)) h

pub refs-of : (a : Asks Located) (es : List Located) → flat_map (refs_at a) (filter is_fact es) ≡ flat_map (refs_at a) es
refs-of a = flat-within (refs_at a) is_fact none where
  none : (e : Located) → is_fact e ≡ false → refs_at a e ≡ []
  none e h =
      let item = outside (is_item e) (is_fact e) (item-fact e) h in
      let unit = outside (has_unit e) (is_fact e) (unit-kind (kind_of e.placed)) h in
      ap (λ x. x ++ broken_at a L3 e) (unbroken e L2 (breaks_link a e L2) (and_left (is_item e) _ item))
      ∙ unbroken e L3 (breaks_link a e L3) (and_left (has_unit e) _ unit)

pub schemaless-of : (a : Asks Located) (es : List Located) → flat_map (broken_at a L14) (filter is_fact es) ≡ flat_map (broken_at a L14) es
schemaless-of a = flat-within (broken_at a L14) is_fact (λ e h. unbroken e L14 (breaks_link a e L14) (and_left (is_fact e) _ h))

uri-kind : (k : Kind) (e : Located) → is_some (uri_by k e) ≡ true
    → (not (fact_kind k) && not ((same_kind k kind.NonNumeric || same_kind k kind.Footnote) || same_kind k kind.Continuation)) ≡ true
uri-kind kind.RoleRef e h = refl
uri-kind kind.ArcroleRef e h = refl
uri-kind k e h = absurd (let z : false ≡ true = h in cc)

pub redirected-of : (bases : Located → List ℕ) (a : Asks Located) (es : List Located)
    → flat_map (redirected_at bases a) (filter is_other es) ≡ flat_map (redirected_at bases a) es
redirected-of bases a = flat-within (redirected_at bases a) is_other none where
  none : (e : Located) → is_other e ≡ false → redirected_at bases a e ≡ []
  none e h =
      unbroken e L17 (has_two_addresses bases a e)
      (and_left (is_some (uri_of e)) _ (outside (is_some (uri_of e)) (is_other e) (uri-kind (kind_of e.placed) e) h))

-- what is seen of roles by the references in the list
referring : (k : Kind) → ((e : Located) → is_kind k e ≡ true → is_other e ≡ true) → (q : List ℕ) (es : List Located)
    → filter (refers_to k q) (filter is_other es) ≡ filter (refers_to k q) es
referring k other q = filter-within (refers_to k q) is_other (λ e h. other e (and_parts _ _ h).0)

pub seen-of : (bases : Located → List ℕ) (es : List Located) (r : SeenRoles) → SeesAll bases (filter is_other es) r → SeesAll bases es r
seen-of bases es r h = record {
  roles = λ q. h.roles q ∙ ap (λ xs. seen_from None (map (address_of bases) xs)) (referring kind.RoleRef role-other q es);
  arcroles = λ q. h.arcroles q ∙ ap (λ xs. seen_from None (map (address_of bases) xs)) (referring kind.ArcroleRef arcrole-other q es);
}
