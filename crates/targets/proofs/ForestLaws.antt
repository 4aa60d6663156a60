-- The elements that the facts of a target stand for, tuples' members within: each fact of the target is one of them, and once.
use Rattle.std.proofs.Common.{◌≡◌, ◌∙◌, ap, sym, refl, ℕ, zero, suc, ◌+◌, Bool, true, false, cond, List, [], ◌∷◌, Option, Some, None, arith}
use Rattle.std.specs.Prelude.{◌&&◌}
use Rattle.std.specs.List.{Contains, filter, flat_map}
use Rattle.std.specs.Option.{option_map_or}
use Rattle.std.specs.Ordering.{on}
use Rattle.std.specs.declared.cmp.Ordering.{Ordering}
use Rattle.ix_base.specs.Asks.{Asks, asks}
use Rattle.ix_base.specs.LocatedElements.{Located, is_fact, is_tuple, same_place}
use Rattle.ix_base.specs.Membership.{is_owned_by, members, order_of, owner}
use Rattle.ix_base.specs.Orders.{order_cmp}
use Rattle.ix_base.specs.SortedLists.{sorted}
use Rattle.targets.proofs.TotalLaws.{total, total-filter, total-flat, total-plus, total-same, total-sorted, total-turned, total-when, total-zero, when, when-plus, when-zero}

-- these elements, behind each tuple its members, and so on to n tuples deep
abbrev pub walk : ℕ → List Located → List Located → List Located
walk zero all es = es
walk (suc n) all es = flat_map (λ e. e ∷ cond (is_tuple e) (walk n all (members all e)) []) es

-- what an element has by its owner, which is a tuple
abbrev pub by_owner : (Located → ℕ) → Option Located → ℕ
by_owner F None = 0
by_owner F (Some o) = when (is_tuple o) (F o)

abbrev pub above : Asks Located → (Located → ℕ) → Located → ℕ
above a F f = when (is_fact f) (by_owner F (owner a f))

-- a weight, as often as the test holds among a fact, its owner and so on, n owners high
abbrev pub heard : Asks Located → ℕ → (Located → Bool) → ℕ → Located → ℕ
heard a zero p v f = when (p f) v
heard a (suc n) p v f = when (p f) v + above a (heard a n p v) f

-- at each place one element stands
abbrev pub StandOnce : List Located → Type 0
StandOnce es = (o : Located) → Contains es o → (F : Located → ℕ) → total (λ e. when (same_place e o) (F e)) es ≡ F o

when-both : (b c : Bool) (n : ℕ) → when (b && c) n ≡ when c (when b n)
when-both true c n = refl
when-both false c n = sym (when-zero c)

when-within : (b c : Bool) (n : ℕ) → when b (when c n) ≡ when (b && c) n
when-within true c n = refl
when-within false c n = refl

when-turned : (b c : Bool) (n : ℕ) → when b (when c n) ≡ when c (when b n)
when-turned true c n = refl
when-turned false c n = sym (when-zero c)

tuple-total : (w : Located → ℕ) (b : Bool) (es : List Located) → total w (cond b es []) ≡ when b (total w es)
tuple-total w true es = refl
tuple-total w false es = refl

walk-sorted : (n : ℕ) (all : List Located) (w : Located → ℕ) (R : Located → Located → Ordering) (es : List Located)
    → total w (walk n all (sorted R es)) ≡ total w (walk n all es)
walk-sorted zero all w R es = total-sorted w R es
walk-sorted (suc n) all w R es =
    let inner : Located → List Located = λ e. e ∷ cond (is_tuple e) (walk n all (members all e)) [] in
    total-flat w inner (sorted R es) ∙ total-sorted (λ e. total w (inner e)) R es ∙ sym (total-flat w inner es)

module _ (all : List Located)
    (owned : (e o : Located) → Contains all e → owner (asks all) e ≡ Some o → Contains all o)
    (once : StandOnce all) where
  nothing : (q : Located → Bool) → total (λ e. when (q e) 0) all ≡ 0
  nothing q = total-same (λ e. when (q e) 0) (λ e. 0) all (λ e h. when-zero (q e)) ∙ total-zero all

  at_owner : (Located → ℕ) → Option Located → ℕ
  at_owner F None = 0
  at_owner F (Some o) = F o

  owner-one : (F : Located → ℕ) (b : Bool) (o : Option Located) → ((x : Located) → o ≡ Some x → Contains all x)
      → total (λ e. when (b && option_map_or (same_place e) o false) (F e)) all ≡ when b (at_owner F o)
  unfolding at_owner
  owner-one F false o h = total-zero all
  owner-one F true None h = total-zero all
  owner-one F true (Some x) h = once x (h x refl) F

  when-owner : (p : Located → Bool) (v : ℕ) (b : Bool) (o : Option Located)
      → when b (at_owner (λ e. when (p e && is_tuple e) v) o) ≡ when b (by_owner (λ e. when (p e) v) o)
  unfolding at_owner
  when-owner p v b None = refl
  when-owner p v b (Some x) = ap (when b) (when-both (p x) (is_tuple x) v)

  -- the owner of a fact, among all tuples
  first-above : (p : Located → Bool) (v : ℕ) (f : Located) → Contains all f
      → total (λ e. when (p e && is_tuple e) (when (is_owned_by (asks all) e f) v)) all ≡ above (asks all) (λ o. when (p o) v) f
  first-above p v f h =
      total-same _ (λ e. when (is_owned_by (asks all) e f) (when (p e && is_tuple e) v)) all
      (λ e k. when-turned (p e && is_tuple e) (is_owned_by (asks all) e f) v)
      ∙ owner-one (λ e. when (p e && is_tuple e) v) (is_fact f) (owner (asks all) f) (λ x e. owned f x h e)
      ∙ when-owner p v (is_fact f) (owner (asks all) f)

  later-by : (q : Located → Bool) (G : Located → Located → ℕ) (H : Located → ℕ) (b : Bool) (o : Option Located)
      → ((x : Located) → o ≡ Some x → total (λ e. when (q e) (G e x)) all ≡ H x)
      → total (λ e. when (q e) (when b (by_owner (G e) o))) all ≡ when b (by_owner H o)
  later-by q G H false o h = nothing q
  later-by q G H true None h = nothing q
  later-by q G H true (Some x) h = by (is_tuple x) (h x refl)
    where
      by : (c : Bool) → total (λ e. when (q e) (G e x)) all ≡ H x → total (λ e. when (q e) (when c (G e x))) all ≡ when c (H x)
      by true k = k
      by false k = nothing q

  above-plus : (F G : Located → ℕ) (b : Bool) (o : Option Located)
      → when b (by_owner F o) + when b (by_owner G o) ≡ when b (by_owner (λ x. F x + G x) o)
  above-plus F G b None = sym (when-plus b 0 0) ∙ ap (when b) (omega arith)
  above-plus F G b (Some x) = sym (when-plus b (when (is_tuple x) (F x)) (when (is_tuple x) (G x))) ∙ ap (when b) (sym (when-plus (is_tuple x) (F x) (G x)))

  -- what is heard of a fact from the members of all tuples that pass
  climb : (n : ℕ) (p : Located → Bool) (v : ℕ) (f : Located) → Contains all f
      → total (λ e. when (p e && is_tuple e) (heard (asks all) n (is_owned_by (asks all) e) v f)) all ≡ above (asks all) (heard (asks all) n p v) f
  climb zero p v f h = first-above p v f h
  climb (suc n) p v f h =
      let a = asks all in
      let q : Located → Bool = λ e. p e && is_tuple e in
      total-same _ (λ e. when (q e) (when (is_owned_by a e f) v) + when (q e) (above a (heard a n (is_owned_by a e) v) f)) all
      (λ e k. when-plus (q e) (when (is_owned_by a e f) v) (above a (heard a n (is_owned_by a e) v) f))
      ∙ total-plus (λ e. when (q e) (when (is_owned_by a e f) v)) (λ e. when (q e) (above a (heard a n (is_owned_by a e) v) f)) all
      ∙ (λ i. first-above p v f h i
      + later-by q (λ e. heard a n (is_owned_by a e) v) (above a (heard a n p v)) (is_fact f) (owner a f) (λ x e. climb n p v x (owned f x h e)) i)
      ∙ above-plus (λ o. when (p o) v) (above a (heard a n p v)) (is_fact f) (owner a f)

  -- the weights of a walk, fact by fact
  pub walk-total : (n : ℕ) (p : Located → Bool) (w : Located → ℕ)
      → total w (walk n all (filter p all)) ≡ total (λ f. heard (asks all) n p (w f) f) all
  walk-total zero p w = total-filter w p all
  walk-total (suc n) p w =
      let a = asks all in
      let inner : Located → List Located = λ e. cond (is_tuple e) (walk n all (members all e)) [] in
      let weighed : Located → ℕ = λ e. total (λ f. heard a n (is_owned_by a e) (w f) f) all in
      let read : (e : Located) → when (p e) (w e + total w (inner e)) ≡ when (p e) (w e) + when (p e && is_tuple e) (weighed e) = λ e.
      when-plus (p e) (w e) (total w (inner e))
      ∙ ap (λ n. when (p e) (w e) + when (p e) n)
      (tuple-total w (is_tuple e) (walk n all (members all e))
      ∙ ap (when (is_tuple e)) (walk-sorted n all w (on order_of order_cmp) (filter (is_owned_by a e) all) ∙ walk-total n (is_owned_by a e) w))
      ∙ ap (λ n. when (p e) (w e) + n) (when-within (p e) (is_tuple e) (weighed e)) in
      total-flat w (λ e. e ∷ inner e) (filter p all)
      ∙ total-filter (λ e. w e + total w (inner e)) p all
      ∙ total-same _ (λ e. when (p e) (w e) + when (p e && is_tuple e) (weighed e)) all (λ e h. read e)
      ∙ total-plus (λ e. when (p e) (w e)) (λ e. when (p e && is_tuple e) (weighed e)) all
      ∙ ap (λ m. total (λ e. when (p e) (w e)) all + m)
      (total-same _ (λ e. total (λ f. when (p e && is_tuple e) (heard a n (is_owned_by a e) (w f) f)) all) all
      (λ e h. total-when (p e && is_tuple e) (λ f. heard a n (is_owned_by a e) (w f) f) all)
      ∙ total-turned (λ e f. when (p e && is_tuple e) (heard a n (is_owned_by a e) (w f) f)) all all
      ∙ total-same _ (λ f. above a (heard a n p (w f)) f) all (λ f h. climb n p (w f) f h))
      ∙ sym (total-plus (λ f. when (p f) (w f)) (λ f. above a (heard a n p (w f)) f) all)
