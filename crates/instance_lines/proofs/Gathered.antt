-- Things that are gathered by reference.
use Rattle.std.proofs.Common.{◌≡◌, ◌∙◌, ap, ℕ, ◌+◌, ◌<◌, List, [], ◌∷◌, ◌++◌, length, drop, get_or, append_assoc, take}
use Rattle.std.proofs.lemmas.List.{map-append, take_more}
use Rattle.std.specs.Prelude.{flat_map}
use Rattle.instance_lines.specs.Gains.{Gains}
use Rattle.instance_lines.specs.Tables.{values_of}
use Rattle.instance_lines.proofs.Steps.{step}
use denote.Ref.{Bor}

-- one more reference
pub gained : {X : Type 0} (old new : List (Bor X)) (r : Bor X) → new ≡ old ++ r ∷ [] → Gains (values_of old) (values_of new) (λ more. r.now ∷ more)
gained old new r e more =
    ap (λ l. values_of l ++ more) e ∙ ap (λ l. l ++ more) (map-append (λ x. x.now) old (r ∷ []))
    ∙ append_assoc (values_of old) (r.now ∷ []) more

-- one turn of a loop that gathers what each thing has
pub gathered : {A X : Type 0} (f : A → List X) (xs : List A) (i : ℕ) (x : A) (old new all more : List X) → i < length xs → x ≡ get_or xs i x
    → Gains old new (λ m. f x ++ m) → old ++ (flat_map f (drop i xs) ++ more) ≡ all → new ++ (flat_map f (drop (i + 1) xs) ++ more) ≡ all
gathered f xs i x old new all more h e g inv =
    step (λ ys m. flat_map f ys ++ m) (λ m. f x ++ m) xs i x old new all more h e (λ ys. append_assoc (f x) (flat_map f ys) more) g inv

-- one more of what references point to
pub values-more : {X : Type 0} (xs : List (Bor X)) (i : ℕ) (d : Bor X) → i < length xs → values_of (take (i + 1) xs) ≡ values_of (take i xs) ++ (get_or xs i d).now ∷ []
values-more xs i d h = ap values_of (take_more xs i d h) ∙ map-append (λ x. x.now) (take i xs) (get_or xs i d ∷ [])
