-- Facts by rising order.
use Rattle.std.proofs.Common.{◌≡◌, ◌∙◌, Bool, true, false, cond, List, [], ◌∷◌, get_or, refl, sym, ap}
use Rattle.std.proofs.lemmas.List.Kept.{IsSortedBy-filter}
use Rattle.std.proofs.lemmas.List.Sorted.{ranks_by, sorted_far}
use Rattle.std.specs.Cmp.{IsStrictWeakOrder, IsTotalOrder}
use Rattle.std.specs.List.{filter}
use Rattle.std.specs.List.Sorted.{IsPartitionedBy, IsSortedBy, IsStableBy, ties}
use Rattle.ix_base.proofs.StableLemmas.{stable_is_sorted}
use Rattle.ix_base.specs.Membership.{order_of}
use Rattle.ix_base.specs.SortedLists.{sorted}
use Rattle.tuples.specs.declared.fact.Fact.{Fact}
use Rattle.tuples.specs.FactGroups.{is_earlier}
use Rattle.tuples.specs.OwnedFacts.{fact_cmp, seen}
use Rattle.tuples.proofs.OrderLaws.{order_total}

pub strict : IsStrictWeakOrder is_earlier
strict = ranks_by order_total (λ (f : Fact). order_of (seen f))

pub fact_total : IsTotalOrder fact_cmp
fact_total = record {
  antisymm = λ x y. order_total.antisymm (order_of (seen x)) (order_of (seen y));
  trans = λ x y z. order_total.trans (order_of (seen x)) (order_of (seen y)) (order_of (seen z));
  congr = λ x y z. order_total.congr (order_of (seen x)) (order_of (seen y)) (order_of (seen z));
}

module _ {X : Type 0} (p q : X → Bool) where
  passed : (b c : Bool) (x : X) (ys zs : List X) → filter p ys ≡ zs → b ≡ p x → filter p (cond c (x ∷ ys) ys) ≡ cond c (cond b (x ∷ zs) zs) zs
  passed b true x ys zs h e = λ i. cond (sym e i) (x ∷ h i) (h i)
  passed b false x ys zs h e = h

  -- what passes both, in whichever order they are asked
  filter-and : (xs : List X) → filter p (filter q xs) ≡ filter (λ x. cond (q x) (p x) false) xs
  filter-and [] = refl
  filter-and (x ∷ xs) = passed (p x) (q x) x (filter q xs) (filter (λ x. cond (q x) (p x) false) xs) (filter-and xs) refl ∙ by (q x) (p x) where
    by : (c b : Bool) → cond c (cond b (x ∷ filter (λ x. cond (q x) (p x) false) xs) (filter (λ x. cond (q x) (p x) false) xs)) (filter (λ x. cond (q x) (p x) false) xs)
        ≡ cond (cond c b false) (x ∷ filter (λ x. cond (q x) (p x) false) xs) (filter (λ x. cond (q x) (p x) false) xs)
    by true b = refl
    by false b = refl

filter-same : {X : Type 0} (p q : X → Bool) → ((x : X) → p x ≡ q x) → (xs : List X) → filter p xs ≡ filter q xs
filter-same p q h [] = refl
filter-same p q h (x ∷ xs) = λ i. cond (h x i) (x ∷ filter-same p q h xs i) (filter-same p q h xs i)

pub filter-turned : {X : Type 0} (p q : X → Bool) (xs : List X) → filter p (filter q xs) ≡ filter q (filter p xs)
filter-turned p q xs = filter-and p q xs ∙ filter-same _ _ (λ x. by (q x) (p x)) xs ∙ sym (filter-and q p xs) where
  by : (c b : Bool) → cond c b false ≡ cond b c false
  by true true = refl
  by true false = refl
  by false true = refl
  by false false = refl

-- of facts in order those that pass are in order
pub kept_rising : (q : Fact → Bool) (ranks : List Fact) → IsSortedBy is_earlier ranks → IsSortedBy is_earlier (filter q ranks)
kept_rising q ranks up = IsSortedBy-filter is_earlier strict q ranks up

-- and they are those that pass, in order
pub kept_sorted : (q : Fact → Bool) (facts ranks : List Fact) → IsSortedBy is_earlier ranks → IsStableBy is_earlier facts ranks
    → filter q ranks ≡ sorted fact_cmp (filter q facts)
kept_sorted q facts ranks up stable =
    stable_is_sorted fact_cmp fact_total (filter q facts) (filter q ranks) (kept_rising q ranks up)
    (λ z. filter-turned (ties is_earlier z) q ranks ∙ ap (filter q) (stable z) ∙ filter-turned q (ties is_earlier z) facts)

-- facts in order are parted by whether they are earlier than one
pub parted : (e : Fact) (xs : List Fact) → IsSortedBy is_earlier xs → IsPartitionedBy (λ y. is_earlier y e) xs
parted e xs up = λ i j d l h passes. by (get_or xs i d) (get_or xs j d) (sorted_far is_earlier strict xs up i j d l h) passes where
  by : (x y : Fact) → is_earlier y x ≡ false → is_earlier y e ≡ true → is_earlier x e ≡ true
  by x y h k = elim (is_earlier x e) as (λ b. is_earlier x e ≡ b → is_earlier x e ≡ true) [
    | true ↦ λ q. q
    | false ↦ λ q. absurd (let z : true ≡ false = sym k ∙ strict.chain y x e h q in cc)
  ] refl
