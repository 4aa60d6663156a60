-- Breaches are on the pages of the elements that break the rules.
use Rattle.std.proofs.Common.{◌≡◌, ℕ, ◌<◌, Bool, true, false, List, [], ◌∷◌, ◌++◌}
use Rattle.std.specs.Prelude.{All, nat_lt, flat_map}
use Rattle.std.specs.Borrow.{Bor}
use Rattle.std.specs.List.{list_all}
use Rattle.std.proofs.lemmas.Bool.{and_parts, ltb-true}
use Rattle.std.proofs.lemmas.List.Elements.{All-nil, All-cons, All-head, All-tail}
use Rattle.ix_base.specs.declared.breach.Found.{Found}
use Rattle.ix_base.specs.declared.rule.Rule.{Rule}
use Rattle.ix_base.specs.declared.tree.Spot.{Spot}
use Rattle.ix_base.specs.Asks.{Asks, asks}
use Rattle.ix_base.specs.LinkRules.{breaks_link, broken_at, breaking, found_at}
use Rattle.ix_base.specs.LocatedElements.{Located, located}
use Rattle.ix_base.specs.Rows.{row}
use Rattle.ix_base.specs.declared.rule.Rule.TheVariants.{L1}
use Rattle.id_table.specs.Model.{Held, doubled_at, repeats_held}
use Rattle.id_table.specs.Tables.{all_located}

row-within : (P : Found → Type 0) (b : Bool) (x : Found) (xs : List Found) → P x → All P xs → All P (row b x ++ xs)
row-within P true x xs p h = All-cons P x xs p h
row-within P false x xs p h = h

flat-within : (a : Asks Located) (r : Rule) (n : ℕ) (es : List Located) → All (λ e. e.page < n) es → All (λ f. f.place.page < n) (flat_map (broken_at a r) es)
flat-within a r n [] h = All-nil (λ f. f.place.page < n)
flat-within a r n (e ∷ es) h =
    row-within (λ f. f.place.page < n) (breaks_link a e r) (found_at e r) (flat_map (broken_at a r) es) (All-head (λ x. x.page < n) e es h)
    (flat-within a r n es (All-tail (λ x. x.page < n) e es h))

pub breaking-within : (r : Rule) (n : ℕ) (es : List Located) → All (λ e. e.page < n) es → All (λ f. f.place.page < n) (breaking r es)
breaking-within r n es h = flat-within (asks es) r n es h

doubled-of : (h : Held) (n : ℕ) (es : List Located) → All (λ e. e.page < n) es → All (λ f. f.place.page < n) (flat_map (doubled_at h) es)
doubled-of h n [] within = All-nil (λ f. f.place.page < n)
doubled-of h n (e ∷ es) within =
    row-within (λ f. f.place.page < n) (repeats_held h e) (found_at e L1) (flat_map (doubled_at h) es) (All-head (λ x. x.page < n) e es within)
    (doubled-of h n es (All-tail (λ x. x.page < n) e es within))

pub doubled-within : (h : Held) (n : ℕ) → All (λ e. e.page < n) h.spots → All (λ f. f.place.page < n) (flat_map (doubled_at h) h.spots)
doubled-within h n within = doubled-of h n h.spots within

pub all-within : (n : ℕ) (spots : List (Bor Spot)) → list_all (λ s. nat_lt (located s.now).page n) spots ≡ true → All (λ e. e.page < n) (all_located spots)
all-within n [] h = All-nil (λ e. e.page < n)
all-within n (s ∷ spots) h =
    let parts = and_parts _ _ h in
    All-cons (λ e. e.page < n) (located s.now) (all_located spots) (ltb-true _ _ parts.0) (all-within n spots parts.1)

pub both-within : (n : ℕ) (xs ys : List Found) → All (λ f. f.place.page < n) xs → All (λ f. f.place.page < n) ys → All (λ f. f.place.page < n) (xs ++ ys)
both-within n [] ys h k = k
both-within n (x ∷ xs) ys h k =
    All-cons (λ f. f.place.page < n) x (xs ++ ys) (All-head (λ f. f.place.page < n) x xs h) (both-within n xs ys (All-tail (λ f. f.place.page < n) x xs h) k)
