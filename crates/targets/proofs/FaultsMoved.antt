-- The rules on links and of elements that pages break, under other page numbers and in another order of the elements.
use Rattle.std.proofs.Common.{◌≡◌, ◌∙◌, ◌++◌, ℕ, Bool, true, false, List, [], ◌∷◌, length, map, refl, ap, sym, subst}
use Rattle.std.specs.Prelude.{◌&&◌, ◌==◌, not, nat_lt, is_some, bytes_eq, slice_index_or}
use Rattle.std.specs.List.{flat_map}
use Rattle.std.specs.Option.{option_map_or}
use Rattle.std.specs.List.Sorted.{IsPermutation}
use Rattle.std.proofs.lemmas.List.{map-append}
use Rattle.std.proofs.lemmas.List.Sorted.{IsPermutation-append, IsPermutation-refl}
use Rattle.ix_base.specs.declared.breach.Class.{Class}
use Rattle.ix_base.specs.declared.breach.Class.TheVariants as class
use Rattle.ix_base.specs.declared.breach.Found.{Found}
use Rattle.ix_base.specs.declared.rule.Rule.{Rule}
use Rattle.ix_base.specs.declared.rule.Rule.TheVariants as rule
use Rattle.ix_base.specs.Asks.{Asks, asks}
use Rattle.ix_base.specs.Breaches.{class_of, named, shown}
use Rattle.ix_base.specs.ElementRules.{element_rules, found, found_on}
use Rattle.ix_base.specs.ElementRules as elements
use Rattle.ix_base.specs.Elements.{Placed, elements_of}
use Rattle.ix_base.specs.LinkRules.{address_of, breaks, broken, found_at, has_two_addresses, link_rules, redirects, uri_by, uri_of}
use Rattle.ix_base.specs.declared.kind.Kind.{Kind}
use Rattle.ix_base.specs.declared.kind.Kind.TheVariants as kind
use Rattle.ix_base.specs.Kinds.{kind_of, same_kind}
use Rattle.ix_base.specs.LocatedElements.{Located, is_text}
use Rattle.ix_base.specs.Rows.{row}
use Rattle.ix_base.specs.Trees.{Tree}
use Rattle.id_table.specs.Renumbering.{moved}
use Rattle.id_table.proofs.Asking.{count-map}
use Rattle.id_table.proofs.Rearranged.{asks-same}
use Rattle.id_table.proofs.Renumbered.{breaks-moved, filter-same}
use Rattle.footnotes.proofs.NotesMoved.{flat-map}
use Rattle.footnotes.proofs.NotesSame.{IsPermutation-flat_map}

-- the breach at the page with its number now
abbrev pub found_moved : (ℕ → ℕ) → Found → Found
found_moved r f = record { place = record { page = r f.place.page; offset = f.place.offset }; rule = f.rule }

shown-same : (c : Class) (ns ms : List (List ℕ)) (f g : Found) → f.rule ≡ g.rule → f.place.offset ≡ g.place.offset
    → slice_index_or ns f.place.page [] ≡ slice_index_or ms g.place.page [] → shown c ns f ≡ shown c ms g
shown-same class.S ns ms f g r o n = λ i. record { page = []; offset = 0; rule = r i }
shown-same _ ns ms f g r o n = λ i. record { page = n i; offset = o i; rule = r i }

-- with names that moved as the numbers did, it is the same breach
pub named-moved : (r : ℕ → ℕ) (ns ms : List (List ℕ)) → ((n : ℕ) → slice_index_or ms (r n) [] ≡ slice_index_or ns n [])
    → (f : Found) → named ms (found_moved r f) ≡ named ns f
named-moved r ns ms same f = shown-same (class_of f.rule) ms ns (found_moved r f) f refl refl (same f.place.page)

row-map : {X Y : Type 0} (g : X → Y) (b : Bool) (x : X) → row b (g x) ≡ map g (row b x)
row-map g true x = refl
row-map g false x = refl

pub flat-same : {X Z W : Type 0} (g : X → List Z) (h : X → List W) (k : W → Z) → ((x : X) → g x ≡ map k (h x))
    → (xs : List X) → flat_map g xs ≡ map k (flat_map h xs)
flat-same g h k e [] = refl
flat-same g h k e (x ∷ xs) = (λ i. e x i ++ flat-same g h k e xs i) ∙ sym (map-append k (h x) (flat_map h xs))

-- Rules of elements: those that a page's elements break don't depend on its number.

pub on-page-moved : (r : ℕ → ℕ) (n : ℕ) (t : Tree) → map (found_moved r) (found_on n t) ≡ found_on (r n) t
unfolding found
on-page-moved r n t = sym (flat-same _ _ (found_moved r)
    (λ (e : Placed). flat-same _ _ (found_moved r) (λ (k : Rule). row-map (found_moved r) (elements.breaks e k) (record { place = record { page = n; offset = e.tree.head.offset }; rule = k })) element_rules)
    (elements_of t))

-- Rules on links.

uri-by : (r : ℕ → ℕ) (k : Kind) (e : Located) → uri_by k (moved r e) ≡ uri_by k e
uri-by r kind.RoleRef e = refl
uri-by r kind.ArcroleRef e = refl
uri-by r k e = refl

-- a row of the table of rules
abbrev pub row_at : (Located → List ℕ) → Asks Located → Rule → Located → List Found
row_at bases a k e = row (breaks bases a e k) (found_at e k)

pub uri-moved : (r : ℕ → ℕ) (e : Located) → uri_of (moved r e) ≡ uri_of e
uri-moved r e = uri-by r (kind_of e.placed) e

module _ (r : ℕ → ℕ) (apart : (x y : ℕ) → (r x == r y) ≡ (x == y)) (bases others : Located → List ℕ) (same : (e : Located) → others (moved r e) ≡ bases e) where
  pub address-moved : (e : Located) → address_of others (moved r e) ≡ address_of bases e
  address-moved e = ap (λ b. address_of (λ x. b) e) (same e)

  redirects-moved : (e x : Located) → redirects others (moved r e) (moved r x) ≡ redirects bases e x
  redirects-moved e x = λ i. same_kind (kind_of e.placed) (kind_of x.placed)
      && option_map_or (λ uri. is_text uri (uri-moved r x i)) (uri-moved r e i) false && not (bytes_eq (address-moved e i) (address-moved x i))

  addresses-moved : (es : List Located) (e : Located) → has_two_addresses others (asks (map (moved r) es)) (moved r e) ≡ has_two_addresses bases (asks es) e
  addresses-moved es e = ap (λ o. is_some o && nat_lt 0 ((asks (map (moved r) es)).count (redirects others (moved r e)))) (uri-moved r e)
      ∙ ap (λ n. is_some (uri_of e) && nat_lt 0 n)
      (sym (count-map (moved r) (redirects others (moved r e)) es)
      ∙ ap length (filter-same (λ x. redirects others (moved r e) (moved r x)) (redirects bases e) (redirects-moved e) es))

  pub all-moved : (es : List Located) (e : Located) (k : Rule) → breaks others (asks (map (moved r) es)) (moved r e) k ≡ breaks bases (asks es) e k
  all-moved es e rule.L17 = addresses-moved es e
  all-moved es e k = breaks-moved r apart es e k

  pub broken-moved : (es : List Located) → broken others (map (moved r) es) ≡ map (found_moved r) (broken bases es)
  broken-moved es = flat-same (λ k. flat_map (row_at others (asks (map (moved r) es)) k) (map (moved r) es)) (λ k. flat_map (row_at bases (asks es) k) es) (found_moved r)
      (λ (k : Rule). flat-map (moved r) (row_at others (asks (map (moved r) es)) k) (row_at bases (asks es) k) (found_moved r)
      (λ (e : Located). ap (λ b. row b (found_at (moved r e) k)) (all-moved es e k) ∙ row-map (found_moved r) (breaks bases (asks es) e k) (found_at e k)) es)
      link_rules

-- Elements in another order.

both-permuted : {X A : Type 0} (f g : X → List A) → ((x : X) → IsPermutation (f x) (g x)) → (xs : List X) → IsPermutation (flat_map f xs) (flat_map g xs)
both-permuted f g h [] = IsPermutation-refl []
both-permuted f g h (x ∷ xs) = IsPermutation-append (f x) (g x) (flat_map f xs) (flat_map g xs) (h x) (both-permuted f g h xs)

pub broken-rearranged : (bases : Located → List ℕ) (xs ys : List Located) → IsPermutation xs ys → IsPermutation (broken bases xs) (broken bases ys)
broken-rearranged bases xs ys m =
    both-permuted (λ k. flat_map (row_at bases (asks xs) k) xs) (λ k. flat_map (row_at bases (asks ys) k) ys)
    (λ k. subst (λ a. IsPermutation (flat_map (row_at bases (asks xs) k) xs) (flat_map (row_at bases a k) ys)) (asks-same xs ys m)
    (IsPermutation-flat_map (row_at bases (asks xs) k) xs ys m))
    link_rules
