-- The ids of contexts and of units that items name.
use Rattle.std.proofs.Common.{◌≡◌, ◌∙◌, ◌++◌, Bool, true, false, ℕ, List, [], ◌∷◌, Option, Some, None, ap, not, refl, subst, sym}
use Rattle.std.proofs.lemmas.Bool.{and_parts}
use Rattle.std.proofs.lemmas.List.Concat.{flat_map-cons}
use Rattle.std.proofs.lemmas.List.Elements.{All-contains}
use Rattle.std.proofs.lemmas.List.Folds.{list_all-map}
use Rattle.std.proofs.lemmas.List.Sums.{AllPass-from_list_all}
use Rattle.std.specs.Borrow.{Bor}
use Rattle.std.specs.List.{Contains, filter, filter_map, flat_map, list_all}
use Rattle.std.specs.Prelude.{◌&&◌, ◌||◌, codes}
use Rattle.ix_base.proofs.OnceLemmas.{Contains-filter, Contains-first, Contains-later, in_order-members}
use Rattle.ix_base.proofs.OnceOrdered.{same_text}
use Rattle.ix_base.specs.declared.kind.Kind.{Kind}
use Rattle.ix_base.specs.declared.kind.Kind.TheVariants as kind
use Rattle.ix_base.specs.declared.rule.Rule.TheVariants.{L2, L3}
use Rattle.ix_base.specs.Asks.{asks}
use Rattle.ix_base.specs.Ids.{context_for, stands_for, unit_for}
use Rattle.ix_base.specs.Kinds.{kind_of, same_kind}
use Rattle.ix_base.specs.LinkRules.{breaks_link, broken_at, lacks}
use Rattle.ix_base.specs.LocatedElements.{Located, has_unit, is_item}
use Rattle.ix_base.specs.Once.{in_order}
use Rattle.ix_base.specs.Readers.{token_at, unit_of}
use Rattle.ix_base.specs.SortedLists.{text_cmp}
use Rattle.ix_base.specs.Trees.{Tree}
use Rattle.link_ids.specs.Links.{context_named, unit_named}
use Rattle.id_table.specs.declared.named.NamedIds.{NamedIds}
use Rattle.target_contents.specs.Contents.{contexts_of, is_item_of, units_of}
use Rattle.target_contents.specs.Faults.{refs_at}
use Rattle.target_contents.specs.Named.{AreNamed, all_stand}
use Rattle.target_contents.specs.Visits.{values_of}
use Rattle.target_contents.proofs.ListLaws.{unbroken}
use Rattle.target_contents.proofs.MemberLaws.{in-given}

-- nothing comes of a list where nothing comes of each of it
none-flat : {X Y : Type 0} (f : X → List Y) (xs : List X) → ((x : X) → Contains xs x → f x ≡ []) → flat_map f xs ≡ []
none-flat f [] h = refl
none-flat f (x ∷ xs) h =
    flat_map-cons f x xs ∙ ap (λ ys. ys ++ flat_map f xs) (h x (Contains-first x xs)) ∙ none-flat f xs (λ y at. h y (Contains-later x xs y at))

where-true : (b c : Bool) → (b ≡ true → c ≡ false) → (b && c) ≡ false
where-true true c h = h refl
where-true false c h = refl

-- an element with a unit names it
unit-at : (k : Kind) (t : Tree) → (same_kind k kind.NonFraction || same_kind k kind.Fraction) ≡ true → unit_of k t ≡ token_at (codes "unitRef") t
unit-at kind.NonFraction t h = refl
unit-at kind.Fraction t h = refl
unit-at k t h = absurd (let z : false ≡ true = h in cc)

unit-item : (k : Kind) → (same_kind k kind.NonFraction || same_kind k kind.Fraction) ≡ true
    → (same_kind k kind.NonNumeric || same_kind k kind.NonFraction || same_kind k kind.Fraction) ≡ true
unit-item kind.NonFraction h = refl
unit-item kind.Fraction h = refl
unit-item k h = absurd (let z : false ≡ true = h in cc)

-- where for each id that items name by this reference an element of the kind stands, no item lacks one
module _ (es : List Located) (k : Kind) (ref : Located → Option (List ℕ)) (ids : List (Bor (List ℕ)))
    (are : values_of ids ≡ in_order text_cmp (filter_map ref (filter is_item es)))
    (stand : list_all (λ (id : Bor (List ℕ)). stands_for k (asks es) id.now) ids ≡ true) where
  each-stands : (id : List ℕ) → Contains (filter_map ref (filter is_item es)) id → stands_for k (asks es) id ≡ true
  each-stands id at =
      All-contains (λ x. stands_for k (asks es) x ≡ true) (values_of ids) id
      (AllPass-from_list_all (stands_for k (asks es)) (values_of ids) (list_all-map (stands_for k (asks es)) (λ (x : Bor (List ℕ)). x.now) ids ∙ stand))
      (subst (λ xs. Contains xs id) (sym are) ((in_order-members same_text (filter_map ref (filter is_item es))).there id at))

  lacks-none : (e : Located) → Contains es e → is_item e ≡ true → lacks k (asks es) (ref e) ≡ false
  lacks-none e at item = by (ref e) refl where
    by : (o : Option (List ℕ)) → ref e ≡ o → lacks k (asks es) o ≡ false
    by None is = refl
    by (Some id) is = ap not (each-stands id (in-given ref (filter is_item es) e id (Contains-filter is_item es e at item) is))

-- where all that items name is there, no element misses a context or a unit
pub none-missing : (es : List Located) (n : NamedIds) → AreNamed es n → all_stand es n ≡ true → flat_map (refs_at (asks es)) es ≡ []
none-missing es n are stand = none-flat (refs_at (asks es)) es at where
  both : (list_all (λ (id : Bor (List ℕ)). stands_for kind.Context (asks es) id.now) n.contexts.items ≡ true)
      × (list_all (λ (id : Bor (List ℕ)). stands_for kind.Unit (asks es) id.now) n.units.items ≡ true)
  both = and_parts _ _ stand

  context : (e : Located) → Contains es e → breaks_link (asks es) e L2 ≡ false
  context e h = where-true (is_item e) _ (lacks-none es kind.Context context_named n.contexts.items are.contexts both.0 e h)

  unit : (e : Located) → Contains es e → breaks_link (asks es) e L3 ≡ false
  unit e h =
      where-true (has_unit e) _
      (λ has. ap (lacks kind.Unit (asks es)) (sym (unit-at (kind_of e.placed) e.placed.tree has))
      ∙ lacks-none es kind.Unit unit_named n.units.items are.units both.1 e h (unit-item (kind_of e.placed) has))

  at : (e : Located) → Contains es e → refs_at (asks es) e ≡ []
  at e h =
      ap (λ x. x ++ broken_at (asks es) L3 e) (unbroken e L2 (breaks_link (asks es) e L2) (context e h))
      ∙ unbroken e L3 (breaks_link (asks es) e L3) (unit e h)

-- what stands for the ids that the items of a target name
module _ (es xs : List Located) (target : List ℕ) (n : NamedIds) (are : AreNamed xs n) (items : filter is_item xs ≡ filter (is_item_of target) es) where
  pub contexts-named : filter_map (context_for es) (values_of n.contexts.items) ≡ contexts_of es target
  contexts-named = ap (filter_map (context_for es)) (are.contexts ∙ ap (λ ys. in_order text_cmp (filter_map context_named ys)) items)

  pub units-named : filter_map (unit_for es) (values_of n.units.items) ≡ units_of es target
  units-named = ap (filter_map (unit_for es)) (are.units ∙ ap (λ ys. in_order text_cmp (filter_map unit_named ys)) items)
