-- One turn of a loop that appends.
use Rattle.std.proofs.Common.{◌≡◌, ◌∙◌, ap, sym, ℕ, suc, ◌+◌, ◌<◌, List, [], ◌∷◌, ◌++◌, length, drop, drop-cons, get_or, add-one, ◌≤◌, take, map, refl, zero, arith, append_assoc, Option, None}
use Rattle.std.proofs.Math.ListN.{drop_of_length-le}
use Rattle.std.proofs.lemmas.Iterator.Adapters.{YieldsList-from_vec}
use Rattle.std.proofs.lemmas.Iterator.Consumers.{YieldsList-end}
use Rattle.std.proofs.lemmas.List.{map-append, map-id}
use Rattle.std.specs.declared.vec.IntoIter.{IntoIter}
use Rattle.std.specs.Iterator.{Yields}
use Rattle.std.specs.Vec.Iter.{into_iter_items, into_iter_steps}
use Rattle.instance_lines.specs.Gains.{Gains}

-- the element at an index, and those behind it
pub front : {A : Type 0} (xs : List A) (i : ℕ) (x : A) → i < length xs → x ≡ get_or xs i x → drop i xs ≡ x ∷ drop (i + 1) xs
front xs i x h e = rw add-one (drop-cons xs i x h ∙ ap (λ z. z ∷ drop (suc i) xs) (sym e))

-- the same, of an element that has no name of its own
pub front_at : {A : Type 0} (xs : List A) (i : ℕ) (d : A) → i < length xs → drop i xs ≡ get_or xs i d ∷ drop (i + 1) xs
front_at xs i d h = rw add-one (drop-cons xs i d h)

-- what is left and what was appended are together what was due
pub step : {A X : Type 0} (F : List A → List X → List X) (G : List X → List X) (xs : List A) (i : ℕ) (x : A) (old new all more : List X)
    → i < length xs → x ≡ get_or xs i x → ((ys : List A) → F (x ∷ ys) more ≡ G (F ys more)) → Gains old new G
    → old ++ F (drop i xs) more ≡ all → new ++ F (drop (i + 1) xs) more ≡ all
step F G xs i x old new all more h e s g inv =
    g (F (drop (i + 1) xs) more) ∙ sym (ap (λ l. old ++ l) (ap (λ l. F l more) (front xs i x h e) ∙ s (drop (i + 1) xs))) ∙ inv

-- the front as far as the end or further
pub all_taken : {A : Type 0} (xs : List A) (i : ℕ) → length xs ≤ i → take i xs ≡ xs
all_taken [] zero h = refl
all_taken [] (suc i) h = refl
all_taken (x ∷ xs) zero h = absurd (omega arith)
all_taken (x ∷ xs) (suc i) h = ap (λ l. x ∷ l) (all_taken xs i (omega arith))

map_suc : {A B : Type 0} (f : A → B) (xs : List A) (i : ℕ) (x : A) → i < length xs → x ≡ get_or xs i x → map f (take (suc i) xs) ≡ map f (take i xs) ++ f x ∷ []
map_suc f [] i x h e = absurd (omega arith)
map_suc f (y ∷ ys) zero x h e = ap (λ z. f z ∷ []) (sym e)
map_suc f (y ∷ ys) (suc i) x h e = ap (λ l. f y ∷ l) (map_suc f ys i x (omega arith) e)

-- one more of the things that are made of the front
pub map_taken : {A B : Type 0} (f : A → B) (xs : List A) (i : ℕ) (x : A) → i < length xs → x ≡ get_or xs i x → map f (take (i + 1) xs) ≡ map f (take i xs) ++ f x ∷ []
map_taken f xs i x h e = rw add-one (map_suc f xs i x h e)

-- a loop over the items of a `Vec` that has ended has taken them all
pub all_moved : {A Z : Type 0} {r : Option A} (s t u : IntoIter A Z) (xs ys : List A) → into_iter_items s ≡ xs
    → Yields into_iter_steps s ys t → r ≡ None → into_iter_steps t r u → ys ≡ xs
all_moved s t u xs ys items taken none last =
    sym (map-id ys) ∙ (YieldsList-end (YieldsList-from_vec (into_iter_items s) refl s.rest.ok.0) ys t taken _ u none last).0 ∙ items

-- one more of the things that are made of what was taken
pub map_pushed : {A B : Type 0} (f : A → B) (xs : List A) (x : A) (old new : List B) (y : B) → old ≡ map f xs → new ≡ old ++ y ∷ []
    → y ≡ f x → new ≡ map f (xs ++ x ∷ [])
map_pushed f xs x old new y before pushed made =
    pushed ∙ ap (λ l. l ++ y ∷ []) before ∙ ap (λ z. map f xs ++ z ∷ []) made ∙ sym (map-append f xs (x ∷ []))

-- the same behind what was there before
pub map_added : {A B : Type 0} (f : A → B) (xs : List A) (x : A) (start old new : List B) (y : B) → old ≡ start ++ map f xs
    → new ≡ old ++ y ∷ [] → y ≡ f x → new ≡ start ++ map f (xs ++ x ∷ [])
map_added f xs x start old new y before pushed made =
    pushed ∙ ap (λ l. l ++ y ∷ []) before ∙ append_assoc start (map f xs) (y ∷ [])
    ∙ ap (λ l. start ++ l) (map_pushed f xs x (map f xs) (map f xs ++ y ∷ []) y refl refl made)

-- what is made of the things behind the end is what is made of none
pub none_left : {A B : Type 0} (f : List A → B) (xs : List A) (i : ℕ) → length xs ≤ i → f [] ≡ f (drop i xs)
none_left f xs i h = ap f (sym (drop_of_length-le xs h))
