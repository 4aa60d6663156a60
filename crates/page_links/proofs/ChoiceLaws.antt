-- The one element with an id, and what an index gives with the choices that the elements ask for.
use Rattle.std.proofs.Common.{◌≡◌, ◌∙◌, ◌||◌, Bool, true, false, cond, not, ◌&&◌, ℕ, List, [], ◌∷◌, length, refl, sym, ap, subst, Option, Some, None, is_some, nat_lt}
use Rattle.std.specs.List.{Contains}
use Rattle.std.specs.Option.{option_map_or}
use Rattle.ix_base.specs.declared.kind.Kind.{Kind}
use Rattle.ix_base.specs.declared.kind.Kind.TheVariants as kind
use Rattle.ix_base.specs.Alike.{alike, alike_as}
use Rattle.ix_base.specs.Asks.{asks, are_many, if_such, only}
use Rattle.ix_base.specs.Ids.{agree, foremost, foremost_of, holders, holds_id, is_part, one, one_such, sole, stands_for}
use Rattle.ix_base.specs.Kinds.{kind_of, same_kind}
use Rattle.ix_base.specs.LocatedElements.{Located, is_kind}
use Rattle.ix_base.specs.Trees.{Tree}
use Rattle.ix_base.proofs.OnceLemmas.{Contains-from_filter}
use Rattle.id_table.specs.Model.{AreChosen, Held, IsHolder, IsOfOthers, one_held}
use Rattle.id_table.proofs.AgreeLaws.{agree-alike, many-two, stands-by}
use Rattle.id_table.proofs.HeldLaws.{others-same}
use Rattle.page_links.specs.Choices.{HasChoices, choice}
use Rattle.target_contents.proofs.SaidLaws.{foremost-among}

part-as : (k l : Kind) (s t : Tree) → alike_as k l s t ≡ true → (same_kind k kind.Context || same_kind k kind.Unit) ≡ true
part-as kind.Context kind.Context s t h = refl
part-as kind.Unit kind.Unit s t h = refl
part-as k l s t h = absurd (let z : false ≡ true = h in cc)

alike-part : (x y : Located) → alike x y ≡ true → is_part x ≡ true
unfolding alike
alike-part x y h = part-as (kind_of x.placed) (kind_of y.placed) x.placed.tree y.placed.tree h

and-parts : (a b : Bool) → (a && b) ≡ true → (a ≡ true) × (b ≡ true)
and-parts true b h = (refl, h)
and-parts false b h = absurd (let z : false ≡ true = h in cc)

module _ (names : ℕ → List ℕ) where
  two-shape : (f : Option Located) (b g : Bool) → b ≡ true → option_map_or (λ (e : Located). Some e) (cond (b && g) f None) None ≡ cond (b && not g) None (option_map_or (λ (e : Located). Some e) f None)
  two-shape f true true e = refl
  two-shape f true false e = refl
  two-shape f false g e = absurd (let z : false ≡ true = e in cc)

  shape : (hs : List Located) (g : Bool)
      → option_map_or (λ (e : Located). Some e) (cond (nat_lt 1 (length hs) && g) (foremost_of names hs) None) (only hs) ≡ cond (nat_lt 1 (length hs) && not g) None (foremost_of names hs)
  shape [] g = refl
  shape (x ∷ []) g = refl
  shape (x ∷ y ∷ zs) g = two-shape (Some (foremost names x (y ∷ zs))) (nat_lt 1 (length (x ∷ y ∷ zs))) g (many-two (length zs))

  module _ (es : List Located) (id : List ℕ) where
    -- with this choice, or else the only one, it is the one element
    pub one-is : option_map_or (λ (e : Located). Some e) (choice names es id) (sole (asks es) id) ≡ one names es id
    one-is = shape (holders es id) (agree (asks es) id)

    pub choice-held : (x : Located) → choice names es id ≡ Some x → IsHolder es id x
    choice-held x h = by (are_many (asks es) (holds_id id) && agree (asks es) id) refl (holders es id) refl h
      where
        by : (b : Bool) → (are_many (asks es) (holds_id id) && agree (asks es) id) ≡ b → (hs : List Located) → holders es id ≡ hs → cond b (foremost_of names hs) None ≡ Some x → IsHolder es id x
        by false e hs f g = absurd (let z : None ≡ Some x = g in cc)
        by true e [] f g = absurd (let z : None ≡ Some x = g in cc)
        by true e (y ∷ ys) f g =
            let same : foremost names y ys ≡ x = (let z : Some (foremost names y ys) ≡ Some x = g in cc) in
            let c : Contains (holders es id) x = subst (λ l. Contains l x) (sym f) (subst (Contains (y ∷ ys)) same (foremost-among names y ys)) in
            let p = Contains-from_filter (holds_id id) es x c in
            let a = (and-parts (are_many (asks es) (holds_id id)) (agree (asks es) id) e).1 in
            record { there = p.0; holds = p.1; part = alike-part x x (agree-alike es id a x x p.0 p.0 p.1 p.1) }

    pub choice-some : is_some (choice names es id) ≡ (are_many (asks es) (holds_id id) && agree (asks es) id)
    choice-some = by (holders es id) (agree (asks es) id)
      where
        both : (f : Located) (b : Bool) → is_some (cond b (Some f) None) ≡ b
        both f true = refl
        both f false = refl

        by : (hs : List Located) (g : Bool) → is_some (cond (nat_lt 1 (length hs) && g) (foremost_of names hs) None) ≡ (nat_lt 1 (length hs) && g)
        by [] g = refl
        by (x ∷ xs) g = both (foremost names x xs) (nat_lt 1 (length (x ∷ xs)) && g)

    -- L2 and L3 ask it: an element of a kind stands for an id exactly where the one element with it is of the kind
    pub one-stands : (k : Kind) → is_some (if_such (is_kind k) (one names es id)) ≡ stands_for k (asks es) id
    one-stands k = ap (λ o. is_some (if_such (is_kind k) o)) (sym one-is) ∙ stands-by es id k (choice names es id) choice-held choice-some

    -- of every kind that can't be repeated it is the only element with the id
    pub one-others : (p : Located → Bool) → IsOfOthers p → if_such p (one names es id) ≡ one_such p (asks es) id
    one-others p o = ap (if_such p) (sym one-is) ∙ others-same es id (choice names es id) choice-held p o

-- an index that has these choices gives the one element, and its choices are those that the elements ask for
module _ (names : ℕ → List ℕ) (h : Held) (has : HasChoices names h.spots h) where
  pub index-one : (id : List ℕ) → one_held h id ≡ one names h.spots id
  index-one id = ap (λ c. option_map_or (λ (e : Located). Some e) c (sole (asks h.spots) id)) (has id) ∙ one-is names h.spots id

  pub index-chosen : AreChosen h
  index-chosen id = ap is_some (has id) ∙ choice-some names h.spots id
