-- Spots above which all is of their own page.
use Rattle.std.proofs.Common.{◌≡◌, ◌∙◌, ◌++◌, Bool, ◌<◌, ◌+◌, ℕ, List, [], ◌∷◌, length, map, drop, get_or, refl, rules, sym, ap, subst, Option, Some, None, option_map}
use Rattle.std.specs.Borrow.{Bor}
use Rattle.std.specs.List.{All, filter, flat_map}
use Rattle.std.specs.Prelude.{IfSome}
use Rattle.std.proofs.lemmas.List.Elements.{All-cons, All-filter, All-get_or, All-head, All-nil, All-tail}
use Rattle.ix_base.specs.declared.tree.Spot.{Spot, out-Spot}
use Rattle.ix_base.specs.declared.tree.Spot as spot
use Rattle.ix_base.specs.Asks.{only}
use Rattle.ix_base.specs.declared.tree.Element.{Element}
use Rattle.ix_base.specs.declared.tree.Node.{Node}
use Rattle.ix_base.specs.declared.tree.Node.TheVariants.{Elem}
use Rattle.ix_base.specs.Elements.{pages_in, pages_of, place_of}
use Rattle.ix_base.specs.Spaces.{AreNumbered, spaces_of}
use Rattle.ix_base.specs.Spots.{elements_up, IsOn, IsOnOnePage}
use Rattle.id_table.specs.Tables.{elements_above, AreOnOwnPages}
use Rattle.id_table.proofs.RowLemmas.{flat_map-next}
use Rattle.id_table.proofs.Stepping.{pages-Elem, pages-Element}

-- what is of one page with one of a page is all of that page
pub All-of : (n m : ℕ) (ps : List ℕ) → m ≡ n → All (λ p. p ≡ n) ps → All (λ p. p ≡ m) ps
All-of n m ps e h = subst (λ k. All (λ p. p ≡ k) ps) (sym e) h

-- what stands on one page stands on one of the same number
pub On-of : (n m : ℕ) (es : List Element) → m ≡ n → All (IsOn n) es → All (IsOn m) es
On-of n m es e h = subst (λ k. All (IsOn k) es) (sym e) h

-- a spot of the page of all that stands above it
pub spot-on_page : (s : Spot) (e : Element) (above : List Element) → (place_of s).page ≡ e.place.page → elements_up s ≡ e ∷ above
    → AreNumbered (spaces_of e) → All (IsOn e.place.page) above → IsOnOnePage s
spot-on_page s e above at is numbered h =
    let n = e.place.page in
    On-of n (place_of s).page (elements_up s) at
    (subst (All (IsOn n)) (sym is) (All-cons (IsOn n) e above (record { page = refl; spaces = numbered }) h))

-- the only one of these, where there is one
pub only-All : {X : Type 0} (P : X → Type 0) (xs : List X) → All P xs → IfSome (only xs) P
only-All P [] h = tt
only-All P (x ∷ []) h = All-head P x [] h
only-All P (x ∷ y ∷ xs) h = tt

-- one of some spots on their own pages
pub on_page-at : (xs : List (Bor Spot)) (i : ℕ) (s : Bor Spot) → i < length xs → s ≡ get_or xs i s → AreOnOwnPages xs → IsOnOnePage s.now
on_page-at xs i s l e h = subst (λ (x : Bor Spot). IsOnOnePage x.now) (sym e) (All-get_or (λ (x : Bor Spot). IsOnOnePage x.now) xs i s l h)

pub All-left : {X : Type 0} (P : X → Type 0) (xs ys : List X) → All P (xs ++ ys) → All P xs
All-left P [] ys h = All-nil P
All-left P (x ∷ xs) ys h = All-cons P x xs (All-head P x (xs ++ ys) h) (All-left P xs ys (All-tail P x (xs ++ ys) h))

pub All-right : {X : Type 0} (P : X → Type 0) (xs ys : List X) → All P (xs ++ ys) → All P ys
All-right P [] ys h = h
All-right P (x ∷ xs) ys h = All-right P xs ys (All-tail P x (xs ++ ys) h)

-- what is left of nodes that are all of one page: the next one, and those behind it
pub next-on : (n : ℕ) (xs : List Node) (i : ℕ) (d : Node) → i < length xs → d ≡ get_or xs i d → All (λ p. p ≡ n) (flat_map (λ ps. ps) (map pages_in (drop i xs)))
    → All (λ p. p ≡ n) (pages_in d) × All (λ p. p ≡ n) (flat_map (λ ps. ps) (map pages_in (drop (i + 1) xs)))
next-on n xs i d l e h =
    let both = subst (All (λ p. p ≡ n)) (flat_map-next (λ ps. ps) pages_in xs i d l e) h in
    (All-left (λ p. p ≡ n) (pages_in d) _ both, All-right (λ p. p ≡ n) (pages_in d) _ both)

-- what holds of a field holds of the value with the field
pub IfSome-map : {X Y : Type 0} (f : X → Y) (P : Y → Type 0) (o : Option X) (r : Option Y) → option_map f o ≡ r → IfSome r P → IfSome o (λ x. P (f x))
IfSome-map f P None r e h = tt
IfSome-map f P (Some x) r e h = subst (λ q. IfSome q P) (sym e) h

-- the one that passes a test among spots on their own pages
pub one-on_page : (test : Bor Spot → Bool) (spots found : List (Bor Spot)) (r : Option (Bor Spot)) → r ≡ only found → found ≡ filter test spots
    → AreOnOwnPages spots → IfSome r (λ s. IsOnOnePage s.now)
one-on_page test spots found r e f h =
    subst (λ q. IfSome q (λ (s : Bor Spot). IsOnOnePage s.now)) (sym (e ∙ ap only f))
    (only-All (λ (s : Bor Spot). IsOnOnePage s.now) (filter test spots) (All-filter test (λ (s : Bor Spot). IsOnOnePage s.now) spots h))

-- a spot's element and those above it
pub elements_up-is : (s : Spot) → elements_up s ≡ (out-Spot s).element.now ∷ elements_above (out-Spot s).up
elements_up-is s = search (rules, spot.the_lemmas)

-- what stands below an element of one page
pub below-on : (n : ℕ) (e : Element) → All (λ p. p ≡ n) (pages_of e) → All (λ p. p ≡ n) (flat_map (λ ps. ps) (map pages_in e.children.now))
below-on n e h = All-tail (λ p. p ≡ n) e.place.page _ (subst (All (λ p. p ≡ n)) (pages-Element e) h)

-- an element among nodes of one page
pub child-at : (n : ℕ) (e : Bor Element) (d : Node) → d ≡ Elem e → All (λ p. p ≡ n) (pages_in d) → e.now.place.page ≡ n
child-at n e d is h = All-head (λ p. p ≡ n) e.now.place.page _ (subst (All (λ p. p ≡ n)) (ap pages_in is ∙ pages-Elem e ∙ pages-Element e.now) h)

pub child-on : (n : ℕ) (e : Bor Element) (d : Node) → d ≡ Elem e → All (λ p. p ≡ n) (pages_in d) → All (λ p. p ≡ e.now.place.page) (pages_of e.now)
child-on n e d is h = All-of n e.now.place.page (pages_of e.now) (child-at n e d is h) (subst (All (λ p. p ≡ n)) (ap pages_in is ∙ pages-Elem e) h)

-- a spot and all above it
pub spot-all : (s : Spot) (e : Element) (above : List Element) → elements_up s ≡ e ∷ above → AreNumbered (spaces_of e) → All (IsOn e.place.page) above
    → All (IsOn e.place.page) (elements_up s)
spot-all s e above is numbered h =
    subst (All (IsOn e.place.page)) (sym is) (All-cons (IsOn e.place.page) e above (record { page = refl; spaces = numbered }) h)
