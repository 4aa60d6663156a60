-- How the code binds prefixes in a scope.
use Rattle.std.proofs.Common.{◌≡◌, ℕ, ◌<◌, ◌+◌, List, [], ◌∷◌, length, drop, map, get_or, Some, None, refl, sym, ap, ◌∙◌, bytes_eq, Ordering, Less, Equal, Greater}
use Rattle.std.specs.Borrow.{Bor}
use Rattle.std.specs.BTreeMap.{insert_entry}
use Rattle.std.specs.List.{filter_map, cons_option}
use Rattle.std.specs.Ordering.{nat_cmp, is_eq}
use Rattle.std.specs.Cmp.Lexicographic.{slice_cmp}
use Rattle.std.proofs.lemmas.List.{drop_more}
use Rattle.std.proofs.lemmas.Map.Text.{is_eq-slice_cmp}
use Rattle.ix_base.specs.Trees.{Bound}
use Rattle.ix_base.specs.Scope.{bound_over}
use Rattle.page_tree.specs.Orders.{bound_under, entered}
use Rattle.page_tree.specs.Tags.{binding_of}
use Rattle.page_constructs.specs.Model.{attribute_of}
use Rattle.page_constructs.specs.declared.token.Attribute.{Attribute}
use Rattle.ix_base.proofs.ScopeLemmas.{same-order}
use Rattle.page_constructs.proofs.SpanLaws.{bytes-one}

-- a map's entries as the bindings of a scope
abbrev Key : Type 0
Key = Bor (List ℕ)

abbrev compared : Key → Key → Ordering
compared a b = slice_cmp nat_cmp a.now b.now

over-entry : (es : List (Key × Key)) (k v : Key) → map entered (insert_entry compared es k v) ≡ bound_over (map entered es) (entered (k, v))
over-entry [] k v = refl
over-entry (e ∷ es) k v = by_order (over-entry es k v) (compared k e.0) refl where
  same : bytes_eq e.0.now k.now ≡ is_eq (compared k e.0)
  same = same-order e.0.now k.now ∙ sym (is_eq-slice_cmp k.now e.0.now)

  by_order : map entered (insert_entry compared es k v) ≡ bound_over (map entered es) (entered (k, v)) → (o : Ordering) → compared k e.0 ≡ o
      → map entered (insert_entry compared (e ∷ es) k v) ≡ bound_over (map entered (e ∷ es)) (entered (k, v))
  by_order ih Less h = rw (same, h) refl
  by_order ih Equal h =
      let one : e.0.now ≡ k.now = bytes-one e.0.now k.now (same ∙ ap is_eq h) in rw (same, h) (ap (λ p. record { prefix = p; ns = v.now } ∷ map entered es) one)
  by_order ih Greater h = rw (same, h) (ap (λ l. entered e ∷ l) ih)

-- the declarations of the attributes from a place on
abbrev from : ℕ → List Attribute → List Bound
from i all = filter_map binding_of (map attribute_of (drop i all))

module _ (all : List Attribute) (i : ℕ) (a : Attribute) (r : List Bound) (is : a ≡ get_or all i a) (l : i < length all) where
  first : from i all ≡ cons_option (binding_of (attribute_of a)) (from (i + 1) all)
  first =
      ap (λ as'. filter_map binding_of (map attribute_of as')) (drop_more all i a l)
      ∙ ap (λ (y : Attribute). cons_option (binding_of (attribute_of y)) (from (i + 1) all)) (sym is)

  pub declared-next : (old new : List (Key × Key)) (k v : Key) → new ≡ insert_entry compared old k v → Some (entered (k, v)) ≡ binding_of (attribute_of a)
      → bound_under (map entered old) (from i all) ≡ r → bound_under (map entered new) (from (i + 1) all) ≡ r
  declared-next old new k v put b so =
      ap (λ s. bound_under s (from (i + 1) all)) (ap (map entered) put ∙ over-entry old k v)
      ∙ sym (ap (bound_under (map entered old)) (first ∙ ap (λ o. cons_option o (from (i + 1) all)) (sym b))) ∙ so

  pub declared-past : (old : List (Key × Key)) → None ≡ binding_of (attribute_of a)
      → bound_under (map entered old) (from i all) ≡ r → bound_under (map entered old) (from (i + 1) all) ≡ r
  declared-past old b so = sym (ap (bound_under (map entered old)) (first ∙ ap (λ o. cons_option o (from (i + 1) all)) (sym b))) ∙ so
