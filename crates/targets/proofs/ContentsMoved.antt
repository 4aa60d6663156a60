-- What elements say of a target, under other page numbers.
use Rattle.std.proofs.Common.{◌≡◌, ◌∙◌, ap, refl, subst, sym, ℕ, Bool, List, [], ◌∷◌, map, Option, Some, None, Ok}
use Rattle.std.specs.Prelude.{◌&&◌, ◌==◌, bytes_eq, is_some, not, option_map}
use Rattle.std.specs.List.{filter, filter_map, cons_option}
use Rattle.ix_base.specs.declared.content.Content.{Content}
use Rattle.ix_base.specs.declared.content.Item.{Item}
use Rattle.ix_base.specs.declared.kind.Kind.{Kind}
use Rattle.ix_base.specs.declared.kind.Kind.TheVariants as kind
use Rattle.ix_base.specs.Asks.{asks, first_of}
use Rattle.ix_base.specs.Facts.{facts_of}
use Rattle.ix_base.specs.Ids.{context_for, unit_for}
use Rattle.ix_base.specs.LinkRules.{address_of, is_schema_for, target_of}
use Rattle.ix_base.specs.LocatedElements.{Located, is_fact, is_kind, is_text}
use Rattle.ix_base.specs.Membership.{deepest, owner}
use Rattle.ix_base.specs.Once.{in_order}
use Rattle.ix_base.specs.SortedLists.{text_cmp}
use Rattle.footnotes.proofs.NotesMoved.{notes-moved}
use Rattle.facts.proofs.Renumbered.{item-moved}
use Rattle.id_table.specs.Renumbering.{moved}
use Rattle.id_table.proofs.Asking.{map-filter}
use Rattle.id_table.proofs.Renumbered.{filter-same, map-same, map-twice, owner-moved}
use Rattle.target_contents.specs.Contents.{IsGathered, SaysItem, contexts_of, ids_named, is_item_of, is_linkbase_for, is_outer, linkbase_at, role_at, role_to, roles_for, units_of, uris_in, roles_in, arcroles_in}
use Rattle.link_ids.specs.Links.{context_named, unit_named}
use Rattle.target_contents.specs.RoleAddresses.{refers_to}
use Rattle.target_contents.specs.TargetFacts.{AreFacts}
use Rattle.targets.proofs.FactsMoved.{facts-moved}
use Rattle.targets.proofs.FaultsMoved.{address-moved, uri-moved}
use Rattle.target_contents.proofs.SaidLaws.{context-moved, unit-moved}

given-map : {X Y Z : Type 0} (g : Y → Option Z) (f : X → Y) (xs : List X) → filter_map g (map f xs) ≡ filter_map (λ x. g (f x)) xs
given-map g f [] = refl
given-map g f (x ∷ xs) = ap (cons_option (g (f x))) (given-map g f xs)

pub given-same : {X Y : Type 0} (f g : X → Option Y) → ((x : X) → f x ≡ g x) → (xs : List X) → filter_map f xs ≡ filter_map g xs
given-same f g h [] = refl
given-same f g h (x ∷ xs) = λ i. cons_option (h x i) (given-same f g h xs i)

module _ (r : ℕ → ℕ) where
  -- those that pass a test
  passed : (p q : Located → Bool) → ((e : Located) → p (moved r e) ≡ q e) → (es : List Located) → filter p (map (moved r) es) ≡ map (moved r) (filter q es)
  passed p q h es = sym (map-filter (moved r) p es) ∙ ap (map (moved r)) (filter-same (λ e. p (moved r e)) q h es)

  -- what those say that pass a test
  said : {Y : Type 0} (p q : Located → Bool) (f g : Located → Y) → ((e : Located) → p (moved r e) ≡ q e) → ((e : Located) → f (moved r e) ≡ g e)
      → (es : List Located) → map f (filter p (map (moved r) es)) ≡ map g (filter q es)
  said p q f g h k es = ap (map f) (passed p q h es) ∙ map-twice f (moved r) (filter q es) ∙ map-same (λ e. f (moved r e)) g k (filter q es)

  given : {Y : Type 0} (p q : Located → Bool) (f g : Located → Option Y) → ((e : Located) → p (moved r e) ≡ q e) → ((e : Located) → f (moved r e) ≡ g e)
      → (es : List Located) → filter_map f (filter p (map (moved r) es)) ≡ filter_map g (filter q es)
  given p q f g h k es = ap (filter_map f) (passed p q h es) ∙ given-map f (moved r) (filter q es) ∙ given-same (λ e. f (moved r e)) g k (filter q es)

unit-by : (r : ℕ → ℕ) (e : Located) → unit_named (moved r e) ≡ unit_named e
unit-by r e = refl

refers-moved : (r : ℕ → ℕ) (k : Kind) (q : List ℕ) (e : Located) → refers_to k q (moved r e) ≡ refers_to k q e
refers-moved r k q e = ap (λ o. is_kind k e && is_text q o) (uri-moved r e)

module _ (r : ℕ → ℕ) (apart : (x y : ℕ) → (r x == r y) ≡ (x == y)) (bases others : Located → List ℕ) (same : (e : Located) → others (moved r e) ≡ bases e) where
  address : (e : Located) → address_of others (moved r e) ≡ address_of bases e
  address = address-moved r apart bases others same

  linkbase-moved : (e : Located) → linkbase_at others (moved r e) ≡ linkbase_at bases e
  linkbase-moved e = λ i. record (linkbase_at bases e) { href = address e i }

  ids-moved : (ref : Located → Option (List ℕ)) → ((e : Located) → ref (moved r e) ≡ ref e) → (target : List ℕ) (es : List Located)
      → ids_named ref target (map (moved r) es) ≡ ids_named ref target es
  ids-moved ref h target es = ap (in_order text_cmp) (given r (is_item_of target) (is_item_of target) ref ref (λ e. refl) h es)

  contexts-moved : (es : List Located) (target : List ℕ) → contexts_of (map (moved r) es) target ≡ contexts_of es target
  contexts-moved es target =
      ap (filter_map (context_for (map (moved r) es))) (ids-moved context_named (λ e. refl) target es)
      ∙ given-same (context_for (map (moved r) es)) (context_for es) (context-moved r apart es) (ids_named context_named target es)

  units-moved : (es : List Located) (target : List ℕ) → units_of (map (moved r) es) target ≡ units_of es target
  units-moved es target =
      ap (filter_map (unit_for (map (moved r) es))) (ids-moved unit_named (unit-by r) target es)
      ∙ given-same (unit_for (map (moved r) es)) (unit_for es) (unit-moved r apart es) (ids_named unit_named target es)

  role-moved : (es : List Located) (k : Kind) (uri : List ℕ) → role_at others (map (moved r) es) k uri ≡ role_at bases es k uri
  role-moved es k uri = ap (λ xs. option_map (role_to uri) (first_of xs)) (said r (refers_to k uri) (refers_to k uri) (address_of others) (address_of bases) (refers-moved r k uri) address es)

  roles-moved : (es : List Located) (k : Kind) (uris : List (List ℕ)) → roles_for others (map (moved r) es) k uris ≡ roles_for bases es k uris
  roles-moved es k uris = given-same (role_at others (map (moved r) es) k) (role_at bases es k) (role-moved es k) uris

  outer-moved : (es : List Located) (target : List ℕ) (e : Located) → is_outer (asks (map (moved r) es)) target (moved r e) ≡ is_outer (asks es) target e
  outer-moved es target e = ap (λ b. is_fact e && bytes_eq target (target_of e) && not b) (ap is_some (owner-moved r apart es e) ∙ by (owner (asks es) e))
    where
      by : (o : Option Located) → is_some (option_map (moved r) o) ≡ is_some o
      by None = refl
      by (Some x) = refl

  says-moved : (es : List Located) (e : Located) (i : Item) → SaysItem bases es e i → SaysItem others (map (moved r) es) (moved r e) i
  says-moved es e i h = item-moved bases others r apart same es e (Ok i) h

  -- they say the same
  pub gathered-moved : (es : List Located) (target : List ℕ) (c : Content) → IsGathered bases es target c → IsGathered others (map (moved r) es) target c
  gathered-moved es target c g = record {
    schemas = g.schemas ∙ sym (said r (is_schema_for target) (is_schema_for target) (address_of others) (address_of bases) (λ e. refl) address es);
    linkbases = g.linkbases ∙ sym (said r (is_linkbase_for target) (is_linkbase_for target) (linkbase_at others) (linkbase_at bases) (λ e. refl) linkbase-moved es);
    contexts = g.contexts ∙ sym (contexts-moved es target);
    units = g.units ∙ sym (units-moved es target);
    facts = subst (λ l. AreFacts (SaysItem others (map (moved r) es)) (map (moved r) es) deepest l (facts_of c.facts))
        (sym (passed r (is_outer (asks (map (moved r) es)) target) (is_outer (asks es) target) (outer-moved es target) es))
        (facts-moved r apart (SaysItem bases es) (SaysItem others (map (moved r) es)) (says-moved es) es deepest (filter (is_outer (asks es) target) es) (facts_of c.facts) g.facts);
    roles = g.roles ∙ sym (roles-moved es kind.RoleRef _ ∙ ap (λ ls. roles_for bases es kind.RoleRef (uris_in roles_in ls)) (notes-moved r apart bases others same es target));
    arcroles = g.arcroles ∙ sym (roles-moved es kind.ArcroleRef _ ∙ ap (λ ls. roles_for bases es kind.ArcroleRef (uris_in arcroles_in ls)) (notes-moved r apart bases others same es target));
    notes = g.notes ∙ sym (notes-moved r apart bases others same es target);
  }
