-- Spots of a page, and those above them.
use Rattle.std.proofs.Common.{◌≡◌, ◌∙◌, ℕ, false, cond, ap, rules, subst, sym, Option, Some, None, option_map}
use Rattle.std.proofs.lemmas.List.Elements.{All-head, All-tail}
use Rattle.std.specs.Borrow.{Bor}
use Rattle.std.specs.List.{All}
use Rattle.std.specs.Prelude.{IfSome}
use Rattle.ix_base.specs.declared.tree.Spot.{Spot, out-Spot}
use Rattle.ix_base.specs.declared.tree.Spot as spots
use Rattle.ix_base.specs.Elements.{path_above, place_of, placed}
use Rattle.ix_base.specs.LocatedElements.{Located, is_tuple, located, on_page}
use Rattle.ix_base.specs.Membership.{nearest_tuple}
use Rattle.ix_base.specs.Spots.{elements_up, IsOn, IsOnOnePage}
use Rattle.id_table.specs.Tables.{elements_above}
use Rattle.id_table.proofs.OnPages.{On-of, elements_up-is}
use Rattle.tuples.specs.declared.fact.Owner.{Owner}
use Rattle.tuples.specs.OwnedFacts.{owner_seen}

-- a spot is of the page of which all from it up is
page-at : (n : ℕ) (s : Spot) → All (IsOn n) (elements_up s) → (place_of s).page ≡ n
page-at n s h = (All-head (IsOn n) (out-Spot s).element.now (elements_above (out-Spot s).up) (subst (All (IsOn n)) (elements_up-is s) h)).page

pub above-on : (n : ℕ) (s : Spot) → All (IsOn n) (elements_up s) → All (IsOn n) (elements_above (out-Spot s).up)
above-on n s h = All-tail (IsOn n) (out-Spot s).element.now (elements_above (out-Spot s).up) (subst (All (IsOn n)) (elements_up-is s) h)

pub located-on : (n : ℕ) (s : Spot) → All (IsOn n) (elements_up s) → located s ≡ on_page n (placed s)
located-on n s h = ap (λ m. on_page m (placed s)) (page-at n s h)

pub on-own : (n : ℕ) (s : Spot) → All (IsOn n) (elements_up s) → IsOnOnePage s
on-own n s h = On-of n (place_of s).page (elements_up s) (page-at n s h) h

above-is : (s : Spot) → (placed s).above ≡ path_above (out-Spot s).up
above-is s = search (rules, spots.the_lemmas)

-- what is no tuple is passed over
pub nearest-next : (n : ℕ) (at : Option (Bor Spot)) (s : Bor Spot) (r : Option Located) → at ≡ Some s → is_tuple (located s.now) ≡ false
    → nearest_tuple n (path_above at) ≡ r → nearest_tuple n (path_above (out-Spot s.now).up) ≡ r
nearest-next n at s r is other h =
    let p = placed s.now in
    ap (nearest_tuple n) (sym (above-is s.now))
    ∙ sym (ap (λ b. cond b (Some (on_page n p)) (nearest_tuple n p.above)) other)
    ∙ ap (λ o. nearest_tuple n (path_above o)) (sym is) ∙ h

-- all from a spot up, where it is the one
pub all-at : (n : ℕ) (at : Option (Bor Spot)) (s : Bor Spot) → at ≡ Some s → All (IsOn n) (elements_above at) → All (IsOn n) (elements_up s.now)
all-at n at s is h = subst (λ o. All (IsOn n) (elements_above o)) is h

-- the nearest tuple around a spot, with its own page
pub around-is : (n : ℕ) (s : Spot) (r : Option Owner) (o : Owner) → r ≡ Some o → option_map owner_seen r ≡ nearest_tuple n (path_above (out-Spot s).up)
    → IfSome r (λ o. located o.spot.now ≡ owner_seen o) → Some (located o.spot.now) ≡ nearest_tuple n (placed s).above
around-is n s r o is h same =
    ap Some (subst (λ q. IfSome q (λ (x : Owner). located x.spot.now ≡ owner_seen x)) is same)
    ∙ ap (option_map owner_seen) (sym is) ∙ h ∙ ap (nearest_tuple n) (sym (above-is s))

pub none-around : (n : ℕ) (s : Spot) (r : Option Owner) → r ≡ None → option_map owner_seen r ≡ nearest_tuple n (path_above (out-Spot s).up) → None ≡ nearest_tuple n (placed s).above
none-around n s r is h = ap (option_map owner_seen) (sym is) ∙ h ∙ ap (nearest_tuple n) (sym (above-is s))
