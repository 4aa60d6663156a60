-- The order of a report's lines, and what a sort and a `dedup` leave of them.
use Rattle.std.proofs.Common.{◌≡◌, ℕ, Bool, true, false, cond, List, [], ◌∷◌, map, refl, sym, ap, ◌∙◌, subst, rules}
use Rattle.std.specs.List.{dedup, dedup_from}
use Rattle.std.specs.List.Sorted.{IsStrictlySortedBy, IsSorted, IsPermutation}
use Rattle.std.specs.Cmp.{IsTotalOrder, Equal-is}
use Rattle.std.specs.Cmp.Lexicographic.{slice_cmp, on_texts}
use Rattle.std.specs.declared.cmp.Ordering.{Ordering}
use Rattle.std.specs.declared.cmp.Ordering.TheVariants.{Less, Equal, Greater}
use Rattle.std.specs.Ordering.{ordering_then, nat_cmp, on, is_eq, eq_by_cmp}
use Rattle.std.proofs.ByRecursion.{All-map}
use Rattle.std.proofs.lemmas.Cmp.{eq_by_cmp_equiv, on_total, then_total, nat_cmp_total, ranked}
use Rattle.std.proofs.lemmas.Map.Text.{is_eq-slice_cmp}
use Rattle.std.proofs.lemmas.Slice.Eq.{bytes_eq-Decides}
use Rattle.std.proofs.lemmas.List.Kept.{IsStrictlySortedBy-dedup, Contains-dedup, Contains-from_dedup}
use Rattle.std.proofs.lemmas.List.Sorted.{IsPermutation-map}
use denote.Enum.Bare.{same_true}
use Rattle.ix_base.specs.declared.rule.Rule.{Rule}
use Rattle.ix_base.specs.declared.breach.Breach.{Breach}
use Rattle.ix_base.specs.declared.breach.Line.{Line}
use Rattle.ix_base.specs.contracts.rule.RuleOrd.TheImpl.Laws.{total-law, matches_eq-law}
use Rattle.ix_base.specs.contracts.rule.Rule.{the_type}
use Rattle.ix_base.specs.Once.{SameMembers, in_order}
use Rattle.ix_base.specs.Breaches.{rule_cmp, breach_cmp}
use Rattle.ix_base.specs.Lines.{breach_of}
use Rattle.ix_base.proofs.OnceLemmas.{SameMembers-permutation, SameMembers-trans, is_in_order}

pub breach_total : IsTotalOrder breach_cmp
breach_total = then_total (on_texts (λ b. b.page)) (then_total (on_total (λ b. b.offset) nat_cmp_total) (on_total (λ b. b.rule) total-law))

then_first : (r s : Ordering) → ordering_then r s ≡ Equal → r ≡ Equal
then_first Less s e = e
then_first Equal s e = refl
then_first Greater s e = e

then_second : (r s : Ordering) → ordering_then r s ≡ Equal → s ≡ Equal
then_second Less s e = let f : Less ≡ Equal = e in cc
then_second Equal s e = e
then_second Greater s e = let f : Greater ≡ Equal = e in cc

same_text : (a b : List ℕ) → slice_cmp nat_cmp a b ≡ Equal → a ≡ b
same_text a b e = (bytes_eq-Decides a b).0 (sym (is_eq-slice_cmp a b) ∙ ap is_eq e)

same_number : (a b : ℕ) → nat_cmp a b ≡ Equal → a ≡ b
same_number a b e = ranked a b Equal (sym e)

same_rule : (a b : Rule) → rule_cmp a b ≡ Equal → a ≡ b
same_rule a b e = same_true the_type (search rules) a b (matches_eq-law a b ∙ ap is_eq e)

-- breaches that tie are one
pub same_breach : (a b : Breach) → breach_cmp a b ≡ Equal → a ≡ b
same_breach a b e =
    let rest = then_second (slice_cmp nat_cmp a.page b.page) _ e in
    let page = same_text a.page b.page (then_first _ _ e) in
    let offset = same_number a.offset b.offset (then_first _ _ rest) in
    let rule = same_rule a.rule b.rule (then_second (nat_cmp a.offset b.offset) _ rest) in
    λ i. record { page = page i; offset = offset i; rule = rule i }

sorted-map : {X Y : Type 0} (f : X → Y) (R : Y → Y → Ordering) (xs : List X) → IsStrictlySortedBy (on f R) xs → IsStrictlySortedBy R (map f xs)
unfolding IsStrictlySortedBy
sorted-map f R [] h = tt
sorted-map f R (x ∷ xs) h = (All-map (λ y. R (f x) y ≡ Less) f xs h.0, sorted-map f R xs h.1)

module _ {X Y : Type 0} (f : X → Y) (E : Y → Y → Bool) where
  map-cond : (b : Bool) (k : X) (xs ys : List X) (us vs : List Y) → map f xs ≡ us → map f ys ≡ vs → map f (cond b xs (k ∷ ys)) ≡ cond b us (f k ∷ vs)
  map-cond true k xs ys us vs e g = e
  map-cond false k xs ys us vs e g = ap (λ zs. f k ∷ zs) g

  map-dedup_from : (k : X) (xs : List X) → map f (dedup_from (λ x y. E (f x) (f y)) k xs) ≡ dedup_from E (f k) (map f xs)
  map-dedup_from k [] = refl
  map-dedup_from k (x ∷ xs) = map-cond (E (f x) (f k)) k _ _ _ _ (map-dedup_from k xs) (map-dedup_from x xs)

  pub map-dedup : (xs : List X) → map f (dedup (λ x y. E (f x) (f y)) xs) ≡ dedup E (map f xs)
  map-dedup [] = refl
  map-dedup (x ∷ xs) = map-dedup_from x xs

-- what a sort and a `dedup` leave is in order, each once
pub lines_in_order : (E : Line → Line → Bool) → ((x y : Line) → E x y ≡ eq_by_cmp (on breach_of breach_cmp) x y)
    → (xs zs ys : List Line) → IsPermutation xs zs → IsSorted (on breach_of breach_cmp) zs → ys ≡ dedup E zs
    → map breach_of ys ≡ in_order breach_cmp (map breach_of xs)
lines_in_order E ties xs zs ys moved up e =
    let F : Breach → Breach → Bool = eq_by_cmp breach_cmp in
    let left : map breach_of (dedup E zs) ≡ dedup F (map breach_of zs) =
    ap (λ (G : Line → Line → Bool). map breach_of (dedup G zs)) (λ i x y. ties x y i) ∙ map-dedup breach_of F zs in
    let strict : IsStrictlySortedBy breach_cmp (map breach_of (dedup E zs)) =
    sorted-map breach_of breach_cmp (dedup E zs) (IsStrictlySortedBy-dedup (on_total breach_of breach_total) ties zs up) in
    let moved_too = SameMembers-permutation (map breach_of xs) (map breach_of zs) (IsPermutation-map breach_of xs zs moved) in
    let kept : SameMembers (map breach_of zs) (dedup F (map breach_of zs)) = record {
      there = Contains-dedup (eq_by_cmp_equiv breach_total) (λ x y t. same_breach x y ((Equal-is (breach_cmp x y)).0 t)) (map breach_of zs);
      back = Contains-from_dedup F (map breach_of zs);
    } in
    let same = SameMembers-trans (map breach_of xs) (map breach_of zs) (dedup F (map breach_of zs)) moved_too kept in
    ap (map breach_of) e ∙ left ∙ is_in_order same_breach breach_total (map breach_of xs) (dedup F (map breach_of zs))
    (subst (IsStrictlySortedBy breach_cmp) left strict) same
