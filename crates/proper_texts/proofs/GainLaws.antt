-- Lists that gained, and tests of what they hold.
use Rattle.std.proofs.Common.{◌≡◌, ◌∙◌, Bool, ◌&&◌, List, [], ◌∷◌, ◌++◌, append-nil, ap, sym, refl}
use Rattle.std.specs.Prelude.{flat_map}
use Rattle.std.specs.List.{list_all}
use Rattle.std.proofs.lemmas.List.Folds.{list_all-append}
use Rattle.instance_lines.specs.Gains.{Gains}

-- all of a list that was empty
pub all_gained : {X : Type 0} (old new xs : List X) → Gains old new (λ more. xs ++ more) → old ≡ [] → new ≡ xs
all_gained old new xs gains none = sym (append-nil new) ∙ gains [] ∙ ap (λ l. l ++ (xs ++ [])) none ∙ append-nil xs

pub all_flat : {X Y : Type 0} (p : Y → Bool) (f : X → List Y) (xs : List X) → list_all p (flat_map f xs) ≡ list_all (λ x. list_all p (f x)) xs
all_flat p f [] = refl
all_flat p f (x ∷ xs) = list_all-append p (f x) (flat_map f xs) ∙ ap (λ b. list_all p (f x) && b) (all_flat p f xs)

pub all_both : {X : Type 0} (p : X → Bool) (xs ys : List X) → list_all p (xs ++ ys) ≡ (list_all p xs && list_all p ys)
all_both p xs ys = list_all-append p xs ys
