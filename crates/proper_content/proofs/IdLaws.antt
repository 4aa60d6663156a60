-- Ids in another order.
use Rattle.std.proofs.Common.{◌≡◌, ◌∙◌, ℕ, Bool, true, false, ◌&&◌, List, [], ◌∷◌, ◌++◌, map, sym, ap, subst, refl, append_assoc}
use Rattle.std.specs.List.{list_all}
use Rattle.std.specs.List.Sorted.{IsPermutation}
use Rattle.std.proofs.lemmas.List.{map-append}
use Rattle.std.proofs.lemmas.List.Sorted.{IsPermutation-append_right, IsPermutation-map}
use Rattle.ix_base.specs.declared.content.Footnote.{Footnote}
use Rattle.ix_base.specs.NcName.{is_ncname}
use Rattle.ix_base.specs.PlainContents.{Said}
use Rattle.ix_base.proofs.ExchangeLemmas.{by_exchanges}
use Rattle.instance_lines.specs.Lists.{are_apart}
use Rattle.instance_out.specs.Proper.{all_ids, counted_once, ids_fit}
use Rattle.instance_lines.specs.Tables.{values_of}
use Rattle.proper_content.proofs.ListLaws.{texts_apart_moved}
use denote.Ref.{Bor}

and-comm : (p q r : Bool) → (p && (q && r)) ≡ (q && (p && r))
and-comm true true r = refl
and-comm true false r = refl
and-comm false true r = refl
and-comm false false r = refl

module _ {X : Type 0} (p : X → Bool) where
  all-swap : (front back : List X) (a b : X) → list_all p (front ++ a ∷ b ∷ back) ≡ list_all p (front ++ b ∷ a ∷ back)
  all-swap [] back a b = and-comm (p a) (p b) (list_all p back)
  all-swap (x ∷ front) back a b = ap (λ y. p x && y) (all-swap front back a b)

  pub all_moved : (xs ys : List X) → IsPermutation xs ys → list_all p xs ≡ list_all p ys
  all_moved xs ys h = by_exchanges (λ l. list_all p xs ≡ list_all p l) (λ front back a b c. c ∙ all-swap front back a b) xs ys h refl

-- the ids of contexts, units, facts and footnotes, the last in another order
pub ids_moved : (a b c d e all : List (List ℕ)) → IsPermutation d e → all ≡ ((a ++ b) ++ c) ++ e → IsPermutation (a ++ (b ++ (c ++ d))) all
ids_moved a b c d e all moved is =
    subst (λ l. IsPermutation (a ++ (b ++ (c ++ d))) l)
    (sym (is ∙ append_assoc (a ++ b) c e ∙ append_assoc a b (c ++ e)))
    (IsPermutation-append_right a (b ++ (c ++ d)) (b ++ (c ++ e)) (IsPermutation-append_right b (c ++ d) (c ++ e) (IsPermutation-append_right c d e moved)))

-- the ids of footnotes that count as one
pub note_ids_moved : (notes kept : List Footnote) (ids : List (List ℕ)) → IsPermutation (counted_once notes) kept → ids ≡ map (λ f. f.id) kept
    → IsPermutation (map (λ f. f.id) (counted_once notes)) ids
note_ids_moved notes kept ids moved is =
    subst (λ l. IsPermutation (map (λ (f : Footnote). f.id) (counted_once notes)) l) (sym is) (IsPermutation-map (λ (f : Footnote). f.id) (counted_once notes) kept moved)

-- what is told of all ids in another order
pub ids_told : (c : Said) (ids : List (List ℕ)) → IsPermutation (all_ids c) ids → (list_all is_ncname ids && are_apart ids) ≡ ids_fit c
unfolding ids_fit
ids_told c ids moved = sym (λ i. all_moved is_ncname (all_ids c) ids moved i && texts_apart_moved (all_ids c) ids moved i)

-- one list behind another
pub ids_joined : (ids units facts notes two three all : List (Bor (List ℕ))) → two ≡ ids ++ units → three ≡ two ++ facts → all ≡ three ++ notes
    → values_of all ≡ ((values_of ids ++ values_of units) ++ values_of facts) ++ values_of notes
ids_joined ids units facts notes two three all d e f =
    let now : Bor (List ℕ) → List ℕ = λ t. t.now in
    ap values_of f ∙ map-append now three notes
    ∙ ap (λ l. l ++ values_of notes) (ap values_of e ∙ map-append now two facts ∙ ap (λ l. l ++ values_of facts) (ap values_of d ∙ map-append now ids units))
