-- Rows of rules, element by element.
use Rattle.std.proofs.Common.{◌≡◌, ◌∙◌, ◌++◌, ◌+◌, ◌<◌, ℕ, suc, List, [], ◌∷◌, length, drop, map, take, get_or, ap, sym, add-one}
use Rattle.std.proofs.Math.Seq.{drop-cons}
use Rattle.std.proofs.lemmas.List.{map-append, take_more}
use Rattle.std.specs.Borrow.{Bor}
use Rattle.std.specs.List.{flat_map}
use Rattle.ix_base.specs.declared.tree.Spot.{Spot}
use Rattle.ix_base.specs.LocatedElements.{located}
use Rattle.id_table.specs.Tables.{all_located}

-- what is left of a list that is gone through
pub front : {X : Type 0} (xs : List X) (i : ℕ) (d : X) → i < length xs → d ≡ get_or xs i d → drop i xs ≡ d ∷ drop (i + 1) xs
front xs i d l e = drop-cons xs i d l ∙ ap (λ x. x ∷ drop (suc i) xs) (sym e) ∙ ap (λ k. d ∷ drop k xs) (sym (add-one i))

-- what an element gives, and those after it
pub flat_map-next : {X Y Z : Type 0} (f : Y → List Z) (g : X → Y) (xs : List X) (i : ℕ) (d : X) → i < length xs → d ≡ get_or xs i d
    → flat_map f (map g (drop i xs)) ≡ f (g d) ++ flat_map f (map g (drop (i + 1) xs))
flat_map-next f g xs i d l e = ap (λ ys. flat_map f (map g ys)) (front xs i d l e)

-- the elements of a list of spots that is gone through, and one more
pub located-take : (items : List (Bor Spot)) (i : ℕ) (s : Bor Spot) → i < length items → s ≡ get_or items i s
    → all_located (take (i + 1) items) ≡ all_located (take i items) ++ located s.now ∷ []
located-take items i s l e =
    ap all_located (take_more items i s l) ∙ map-append (λ (t : Bor Spot). located t.now) (take i items) (get_or items i s ∷ [])
    ∙ ap (λ (x : Bor Spot). all_located (take i items) ++ located x.now ∷ []) (sym e)
