-- What elements in another order say of a target: the same, references and facts in that order.
use Rattle.std.proofs.Common.{◌≡◌, ◌∙◌, ◌++◌, ap, refl, subst, sym, ℕ, List, [], ◌∷◌, map, Option, Some, None, Ok}
use Rattle.std.specs.Prelude.{option_map}
use Rattle.std.specs.List.{Contains, filter, filter_map, flat_map, cons_option}
use Rattle.std.specs.List.Sorted.{IsPermutation}
use Rattle.std.proofs.lemmas.List.Sorted.{Contains-permutation, IsPermutation-map, IsPermutation-sym}
use Rattle.ix_base.specs.declared.content.Content.{Content}
use Rattle.ix_base.specs.declared.content.Item.{Item}
use Rattle.ix_base.specs.declared.kind.Kind.{Kind}
use Rattle.ix_base.specs.declared.kind.Kind.TheVariants as kind
use Rattle.ix_base.specs.Asks.{asks, Asks, first_of}
use Rattle.ix_base.specs.Facts.{facts_of}
use Rattle.ix_base.specs.Ids.{context_for, unit_for}
use Rattle.ix_base.specs.LinkRules.{address_of, is_schema_for}
use Rattle.ix_base.specs.LocatedElements.{Located}
use Rattle.ix_base.specs.Membership.{deepest, members}
use Rattle.ix_base.proofs.OnceLemmas.{Contains-first, Contains-nil}
use Rattle.facts.specs.ItemValue.{IsItem}
use Rattle.footnotes.proofs.NotesSame.{IsPermutation-flat_map, filter-moved, notes-same, texts-same}
use Rattle.id_table.proofs.Rearranged.{asks-same}
use Rattle.target_contents.specs.Contents.{IsGathered, contexts_of, ids_named, is_item_of, is_linkbase_for, is_outer, linkbase_at, role_at, role_to, roles_for, units_of, uris_in, roles_in, arcroles_in}
use Rattle.link_ids.specs.Links.{context_named, unit_named}
use Rattle.target_contents.specs.RoleAddresses.{refers_to}
use Rattle.target_contents.specs.TargetFacts.{AreFacts}
use Rattle.targets.proofs.ContentsMoved.{given-same}
use Rattle.targets.proofs.FactsMoved.{facts-same}
use Rattle.targets.proofs.FactsShuffled.{facts-shuffled}
use Rattle.target_contents.proofs.SaidLaws.{context-shuffled, unit-shuffled}
use Rattle.targets.proofs.Shuffled.{IsShuffled}

abbrev of_some : {Y : Type 0} → Option Y → List Y
of_some None = []
of_some (Some y) = y ∷ []

given-flat : {X Y : Type 0} (f : X → Option Y) (xs : List X) → filter_map f xs ≡ flat_map (λ x. of_some (f x)) xs
given-flat f [] = refl
given-flat f (x ∷ xs) = ap (cons_option (f x)) (given-flat f xs) ∙ by (f x) (flat_map (λ z. of_some (f z)) xs)
  where
    by : {Y : Type 0} (o : Option Y) (l : List Y) → cons_option o l ≡ of_some o ++ l
    by None l = refl
    by (Some y) l = refl

given-permuted : {X Y : Type 0} (f : X → Option Y) (xs ys : List X) → IsPermutation xs ys → IsPermutation (filter_map f xs) (filter_map f ys)
given-permuted {X} {Y} f xs ys m =
    let g : X → List Y = λ x. of_some (f x) in
    subst (λ l. IsPermutation l (filter_map f ys)) (sym (given-flat f xs))
    (subst (IsPermutation (flat_map g xs)) (sym (given-flat f ys)) (IsPermutation-flat_map g xs ys m))

-- where all are one, the first is
first-same : {X : Type 0} (xs ys : List X) → ((x y : X) → Contains xs x → Contains xs y → x ≡ y) → IsPermutation xs ys → first_of xs ≡ first_of ys
first-same [] [] h m = refl
first-same [] (y ∷ ys) h m = absurd (Contains-nil y (Contains-permutation (y ∷ ys) [] y (IsPermutation-sym [] (y ∷ ys) m) (Contains-first y ys)))
first-same (x ∷ xs) [] h m = absurd (Contains-nil x (Contains-permutation (x ∷ xs) [] x m (Contains-first x xs)))
first-same (x ∷ xs) (y ∷ ys) h m =
    ap Some (h x y (Contains-first x xs) (Contains-permutation (y ∷ ys) (x ∷ xs) y (IsPermutation-sym (x ∷ xs) (y ∷ ys) m) (Contains-first y ys)))

module _ (bases : Located → List ℕ) (xs ys : List Located) (m : IsPermutation xs ys) (target : List ℕ) where
  ids-same : (ref : Located → Option (List ℕ)) → ids_named ref target xs ≡ ids_named ref target ys
  ids-same ref = texts-same (filter_map ref (filter (is_item_of target) xs)) (filter_map ref (filter (is_item_of target) ys))
      (given-permuted ref (filter (is_item_of target) xs) (filter (is_item_of target) ys) (filter-moved (is_item_of target) xs ys m))

  contexts-same : contexts_of xs target ≡ contexts_of ys target
  contexts-same =
      ap (filter_map (context_for xs)) (ids-same context_named)
      ∙ given-same (context_for xs) (context_for ys) (context-shuffled xs ys m) (ids_named context_named target ys)

  units-same : units_of xs target ≡ units_of ys target
  units-same =
      ap (filter_map (unit_for xs)) (ids-same unit_named)
      ∙ given-same (unit_for xs) (unit_for ys) (unit-shuffled xs ys m) (ids_named unit_named target ys)

  -- all references of a kind for a URI have one address
  abbrev pub HasOne : Kind → Type 0
  HasOne k = (uri : List ℕ) (x y : List ℕ) → Contains (map (address_of bases) (filter (refers_to k uri) xs)) x
      → Contains (map (address_of bases) (filter (refers_to k uri) xs)) y → x ≡ y

  role-same : (k : Kind) → HasOne k → (uri : List ℕ) → role_at bases xs k uri ≡ role_at bases ys k uri
  role-same k one uri =
      let p = refers_to k uri in
      ap (option_map (role_to uri)) (first-same (map (address_of bases) (filter p xs)) (map (address_of bases) (filter p ys)) (one uri)
      (IsPermutation-map (address_of bases) (filter p xs) (filter p ys) (filter-moved p xs ys m)))

  roles-same : (k : Kind) → HasOne k → (uris : List (List ℕ)) → roles_for bases xs k uris ≡ roles_for bases ys k uris
  roles-same k one uris = given-same (role_at bases xs k) (role_at bases ys k) (role-same k one) uris

  module _ (roles : HasOne kind.RoleRef) (arcroles : HasOne kind.ArcroleRef) where
    -- the same of a target, in another order
    pub gathered-shuffled : ((t : Located) → members xs t ≡ members ys t) → (c : Content) → IsGathered bases xs target c → (d : Content) × IsGathered bases ys target d × IsShuffled c d
    gathered-shuffled same c g =
        let outer = λ (a : Asks Located). is_outer a target in
        let says = λ (a : Asks Located) (e : Located) (i : Item). IsItem bases a e (Ok i) in
        let there : AreFacts (says (asks xs)) ys deepest (filter (outer (asks xs)) xs) (facts_of c.facts) =
        facts-same (says (asks xs)) xs ys same deepest (filter (outer (asks xs)) xs) (facts_of c.facts) g.facts in
        let moved = facts-shuffled (says (asks xs)) ys deepest (filter (outer (asks xs)) xs) (filter (outer (asks xs)) ys) (filter-moved (outer (asks xs)) xs ys m) c.facts there in
        let facts : AreFacts (says (asks ys)) ys deepest (filter (outer (asks ys)) ys) (facts_of moved.0) =
        subst (λ a. AreFacts (says a) ys deepest (filter (outer a) ys) (facts_of moved.0)) (asks-same xs ys m) moved.1 in
        let links = notes-same bases xs ys target m in
        let d : Content = record c {
          schemas = map (address_of bases) (filter (is_schema_for target) ys);
          linkbases = map (linkbase_at bases) (filter (is_linkbase_for target) ys);
          facts = moved.0;
        } in (
          d,
          record {
            schemas = refl;
            linkbases = refl;
            contexts = g.contexts ∙ contexts-same;
            units = g.units ∙ units-same;
            facts = facts;
            roles = g.roles ∙ ap (λ ls. roles_for bases xs kind.RoleRef (uris_in roles_in ls)) links ∙ roles-same kind.RoleRef roles _;
            arcroles = g.arcroles ∙ ap (λ ls. roles_for bases xs kind.ArcroleRef (uris_in arcroles_in ls)) links ∙ roles-same kind.ArcroleRef arcroles _;
            notes = g.notes ∙ links;
          },
          record {
            schemas = subst (λ l. IsPermutation l d.schemas) (sym g.schemas)
                (IsPermutation-map (address_of bases) (filter (is_schema_for target) xs) (filter (is_schema_for target) ys) (filter-moved (is_schema_for target) xs ys m));
            linkbases = subst (λ l. IsPermutation l d.linkbases) (sym g.linkbases)
                (IsPermutation-map (linkbase_at bases) (filter (is_linkbase_for target) xs) (filter (is_linkbase_for target) ys) (filter-moved (is_linkbase_for target) xs ys m));
            facts = moved.2;
            roles = refl;
            arcroles = refl;
            contexts = refl;
            units = refl;
            notes = refl;
          },
        )
