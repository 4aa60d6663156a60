-- Elements in another order: where no two members of a tuple have equal orders, and none is without one, each tuple has the
-- members that it had, in their order.
use Rattle.std.proofs.Common.{◌≡◌, ◌∙◌, ap, refl, sym, ⊎_elim, ℕ, Bool, true, false, List, [], ◌∷◌, length, Option, Some, None, arith}
use Rattle.std.specs.Prelude.{◌&&◌, ◌==◌, is_none, is_some, nat_lt}
use Rattle.std.specs.List.{Contains, filter}
use Rattle.std.specs.List.Sorted.{IsPermutation}
use Rattle.std.specs.Option.{option_map_or}
use Rattle.std.specs.Ordering.{is_eq, on}
use Rattle.std.specs.declared.cmp.Ordering.TheVariants.{Equal}
use Rattle.std.proofs.lemmas.Bool.{and_parts}
use Rattle.std.proofs.lemmas.Bool.Decides.{Decides-eqb, nat_tests}
use Rattle.std.proofs.lemmas.Cmp.{on_total, tied_itself}
use Rattle.ix_base.specs.Asks.{asks}
use Rattle.ix_base.specs.LinkRules.{lacks_order, repeats_order, ties}
use Rattle.ix_base.specs.LocatedElements.{Located, is_fact, offset_of, same_place}
use Rattle.ix_base.specs.Membership.{is_owned_by, members, order_of, owner}
use Rattle.ix_base.specs.Orders.{order_cmp, same_decimal}
use Rattle.ix_base.specs.SortedLists.{sorted}
use Rattle.ix_base.proofs.OnceLemmas.{Contains-cases, Contains-filter, Contains-from_filter, Contains-nil}
use Rattle.ix_base.proofs.SortedLemmas.{sorted-same}
use Rattle.id_table.proofs.Rearranged.{asks-same}
use Rattle.tuples.proofs.OrderLaws.{order_total}
use Rattle.footnotes.proofs.NotesSame.{filter-moved}

-- a list of one at most
one-most : {X : Type 0} (xs : List X) (x y : X) → nat_lt 1 (length xs) ≡ false → Contains xs x → Contains xs y → x ≡ y
one-most [] x y h p q = absurd (Contains-nil x p)
one-most (z ∷ []) x y h p q = ⊎_elim (λ (a : z ≡ x). ⊎_elim (λ (b : z ≡ y). sym a ∙ b) (λ k. absurd (Contains-nil y k)) (Contains-cases z [] y q))
    (λ k. absurd (Contains-nil x k)) (Contains-cases z [] x p)
one-most (z ∷ w ∷ xs) x y h p q = absurd (grind (arith, nat_tests))

same-middle : (t o q : Located) → same_place t o ≡ true → same_place t q ≡ true → same_place o q ≡ true
same-middle t o q h k =
    let a = and_parts (t.page == o.page) (offset_of t == offset_of o) h in
    let b = and_parts (t.page == q.page) (offset_of t == offset_of q) k in
    let page : o.page ≡ q.page = sym ((Decides-eqb t.page o.page).0 a.0) ∙ (Decides-eqb t.page q.page).0 b.0 in
    let offset : offset_of o ≡ offset_of q = sym ((Decides-eqb (offset_of t) (offset_of o)).0 a.1) ∙ (Decides-eqb (offset_of t) (offset_of q)).0 b.1 in
    rw ((Decides-eqb o.page q.page).1 page, (Decides-eqb (offset_of o) (offset_of q)).1 offset) refl

-- two facts with one owner, of which both have an order
siblings : (t : Located) (x y : Option Located) → option_map_or (same_place t) x false ≡ true → option_map_or (same_place t) y false ≡ true
    → option_map_or (λ o. option_map_or (same_place o) y false) x false ≡ true
siblings t None y h k = absurd (cc)
siblings t (Some o) None h k = absurd (cc)
siblings t (Some o) (Some q) h k = same-middle t o q h k

equal-orders : (x y : Option (List ℕ)) → is_none x ≡ false → order_cmp x y ≡ Equal → option_map_or (λ n. option_map_or (same_decimal n) y false) x false ≡ true
equal-orders None y h e = absurd (cc)
equal-orders (Some n) None h e = absurd (cc)
equal-orders (Some n) (Some m) h e = ap is_eq e

-- a fact with an owner that doesn't lack an order has one
has-order : (b : Bool) (t : Located) (o : Option Located) (n : Option (List ℕ)) → b ≡ true → option_map_or (same_place t) o false ≡ true
    → (b && is_some o && is_none n) ≡ false → is_none n ≡ false
has-order true t None n h k e = absurd (cc)
has-order true t (Some o) n h k e = e
has-order false t o n h k e = absurd (cc)

few : (b c : Bool) → b ≡ true → (b && c) ≡ false → c ≡ false
few true c h e = e
few false c h e = absurd (cc)

module _ (xs : List Located) (once : (e : Located) → Contains xs e → repeats_order (asks xs) e ≡ false) (full : (e : Located) → Contains xs e → lacks_order (asks xs) e ≡ false) where
  -- two members of a tuple that tie are one
  tied : (t x y : Located) → Contains (filter (is_owned_by (asks xs) t) xs) x → Contains (filter (is_owned_by (asks xs) t) xs) y
      → on order_of order_cmp x y ≡ Equal → x ≡ y
  tied t x y p q e =
      let a = asks xs in
      let at = Contains-from_filter (is_owned_by a t) xs x p in
      let to = Contains-from_filter (is_owned_by a t) xs y q in
      let mine = and_parts (is_fact x) (option_map_or (same_place t) (owner a x) false) at.1 in
      let other = and_parts (is_fact y) (option_map_or (same_place t) (owner a y) false) to.1 in
      let order : is_none (order_of x) ≡ false = has-order (is_fact x) t (owner a x) (order_of x) mine.0 mine.1 (full x at.0) in
      let self : ties a x x ≡ true = rw (mine.0, siblings t (owner a x) (owner a x) mine.1 mine.1, equal-orders (order_of x) (order_of x) order (tied_itself order_total (order_of x))) refl in
      let both : ties a x y ≡ true = rw (other.0, siblings t (owner a x) (owner a y) mine.1 other.1, equal-orders (order_of x) (order_of y) order e) refl in
      one-most (filter (ties a x) xs) x y (few (is_fact x) _ mine.0 (once x at.0)) (Contains-filter (ties a x) xs x at.0 self) (Contains-filter (ties a x) xs y to.0 both)

  pub members-same : (ys : List Located) → IsPermutation xs ys → (t : Located) → members xs t ≡ members ys t
  members-same ys m t =
      sorted-same (on_total order_of order_total) (filter (is_owned_by (asks xs) t) xs) (filter (is_owned_by (asks xs) t) ys) (tied t)
      (filter-moved (is_owned_by (asks xs) t) xs ys m)
      ∙ ap (λ a. sorted (on order_of order_cmp) (filter (is_owned_by a t) ys)) (asks-same xs ys m)
