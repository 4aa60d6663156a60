-- A rearranged list is asked the same.
use Rattle.std.proofs.Common.{◌≡◌, Bool, true, false, cond, List, [], ◌∷◌, ◌++◌, length, refl, sym, ap, ◌∙◌, length-append}
use Rattle.std.specs.List.{filter}
use Rattle.std.specs.List.Sorted.{IsPermutation}
use Rattle.std.proofs.lemmas.List.Elements.{filter-append}
use Rattle.ix_base.specs.Asks.{only, asks}
use Rattle.ix_base.proofs.ExchangeLemmas.{by_exchanges}

only_exchange : {X : Type 0} (front back : List X) (a b : X) → only (front ++ a ∷ b ∷ back) ≡ only (front ++ b ∷ a ∷ back)
only_exchange [] back a b = refl
only_exchange (f ∷ []) back a b = refl
only_exchange (f ∷ g ∷ front) back a b = refl

-- a test of two neighbours exchanged: what passes is exchanged too
filter_exchange : {X A : Type 0} (F : List X → A) → ((front back : List X) (a b : X) → F (front ++ a ∷ b ∷ back) ≡ F (front ++ b ∷ a ∷ back))
    → (front back : List X) (a b : X) (s t : Bool) → F (front ++ cond s (a ∷ cond t (b ∷ back) back) (cond t (b ∷ back) back)) ≡ F (front ++ cond t (b ∷ cond s (a ∷ back) back) (cond s (a ∷ back) back))
filter_exchange F h front back a b true true = h front back a b
filter_exchange F h front back a b true false = refl
filter_exchange F h front back a b false true = refl
filter_exchange F h front back a b false false = refl

-- what doesn't see an exchange of neighbours doesn't see one before a filter either
pub of_filter : {X A : Type 0} (F : List X → A) → ((front back : List X) (a b : X) → F (front ++ a ∷ b ∷ back) ≡ F (front ++ b ∷ a ∷ back))
    → (p : X → Bool) (xs ys : List X) → IsPermutation xs ys → F (filter p xs) ≡ F (filter p ys)
of_filter F h p xs ys m = by_exchanges (λ l. F (filter p xs) ≡ F (filter p l))
    (λ front back a b e. e ∙ ap F (filter-append p front (a ∷ b ∷ back))
    ∙ filter_exchange F h (filter p front) (filter p back) a b (p a) (p b)
    ∙ ap F (sym (filter-append p front (b ∷ a ∷ back)))) xs ys m refl

length_exchange : {X : Type 0} (front back : List X) (a b : X) → length (front ++ a ∷ b ∷ back) ≡ length (front ++ b ∷ a ∷ back)
length_exchange front back a b = length-append front (a ∷ b ∷ back) ∙ sym (length-append front (b ∷ a ∷ back))

pub asks-same : {X : Type 0} (xs ys : List X) → IsPermutation xs ys → asks xs ≡ asks ys
asks-same xs ys m = λ i. record {
  one = λ p. of_filter only only_exchange p xs ys m i;
  count = λ p. of_filter length length_exchange p xs ys m i;
}
