-- At each place of sound pages one marked element stands.
use Rattle.std.proofs.Common.{◌≡◌, ◌∙◌, ap, sym, subst, refl, ℕ, suc, ◌<◌, Bool, true, false, cond, List, [], ◌∷◌, ◌++◌, All, map, arith, ⊎_elim}
use Rattle.std.specs.Prelude.{◌&&◌, ◌==◌}
use Rattle.ix_base.specs.declared.limits.TheConstants.{DEEPEST_ELEMENT}
use Rattle.std.specs.List.{Contains, filter}
use Rattle.std.proofs.lemmas.Bool.{and_from, eq-eqb, eqb-false, eqb-true, ne_eqb}
use Rattle.std.proofs.lemmas.List.Elements.{All-head, All-tail, All-weaker, Contains-append_cases}
use Rattle.ix_base.specs.Elements.{Placed, elements_of}
use Rattle.ix_base.specs.LocatedElements.{Located, Paged, is_marked, marked, marked_from, offset_of, on_page, page_marked, same_place}
use Rattle.ix_base.specs.Sound.{IsSoundTree, Rise}
use Rattle.ix_base.proofs.OnceLemmas.{Contains-cases, Contains-first, Contains-from_filter, Contains-later, Contains-nil}
use Rattle.targets.proofs.ForestLaws.{StandOnce}
use Rattle.target_contents.proofs.MemberLaws.{from-map}
use Rattle.targets.proofs.PlaceLaws.{RisesOn, marked_from-numbered, offset_at, offsets-elements, page_marked-on, rise-later, rise-rest}
use Rattle.targets.proofs.TotalLaws.{total, total-same, total-zero, when}

-- none stands where a later one does
abbrev NoneAgain : List Located → Type 0
NoneAgain [] = Unit {0}
NoneAgain (e ∷ es) = ((x : Located) → Contains es x → same_place e x ≡ false) × NoneAgain es

same-self : (e : Located) → same_place e e ≡ true
same-self e = and_from (e.page == e.page) (offset_of e == offset_of e) (eq-eqb e.page e.page refl) (eq-eqb (offset_of e) (offset_of e) refl)

turned-eq : (m n : ℕ) (b : Bool) → (m == n) ≡ b → (n == m) ≡ b
turned-eq m n true h = let e : m ≡ n = eqb-true m n h in eq-eqb n m (sym e)
turned-eq m n false h = ne_eqb n m (λ e. eqb-false m n h (sym e))

turned : (x y : Located) → same_place x y ≡ same_place y x
turned x y = λ i. sym (turned-eq x.page y.page (x.page == y.page) refl) i && sym (turned-eq (offset_of x) (offset_of y) (offset_of x == offset_of y) refl) i

rest-none : (es : List Located) (o : Located) (F : Located → ℕ) → ((x : Located) → Contains es x → same_place o x ≡ false)
    → total (λ e. when (same_place e o) (F e)) es ≡ 0
rest-none es o F h = total-same (λ e. when (same_place e o) (F e)) (λ e. 0) es (λ e k. ap (λ b. when b (F e)) (turned e o ∙ h e k)) ∙ total-zero es

once-of : (es : List Located) → NoneAgain es → StandOnce es
once-of [] n o h F = absurd (Contains-nil o h)
once-of (x ∷ es) n o h F =
    ⊎_elim
    (λ (e : x ≡ o).
    let here : when (same_place x o) (F x) ≡ F o = ap (λ y. when (same_place y o) (F y)) e ∙ ap (λ b. when b (F o)) (same-self o) in
    let rest : total (λ y. when (same_place y o) (F y)) es ≡ 0 = rest-none es o F (subst (λ z. (y : Located) → Contains es y → same_place z y ≡ false) e n.0) in
    omega arith)
    (λ later.
    let here : when (same_place x o) (F x) ≡ 0 = ap (λ b. when b (F x)) (n.0 o later) in
    let rest : total (λ y. when (same_place y o) (F y)) es ≡ F o = once-of es n.1 o later F in
    omega arith)
    (Contains-cases x es o h)

none-kept : (p : Located → Bool) (es : List Located) → NoneAgain es → NoneAgain (filter p es)
none-kept p [] n = tt
none-kept p (e ∷ es) n = by (p e) (none-kept p es n.1)
  where
    by : (b : Bool) → NoneAgain (filter p es) → NoneAgain (cond b (e ∷ filter p es) (filter p es))
    by true k = ((λ x h. n.0 x (Contains-from_filter p es x h).0), k)
    by false k = k

none-append : (xs ys : List Located) → NoneAgain xs → NoneAgain ys → ((x y : Located) → Contains xs x → Contains ys y → same_place x y ≡ false)
    → NoneAgain (xs ++ ys)
none-append [] ys m n h = n
none-append (x ∷ xs) ys m n h = (
  λ y k. ⊎_elim (λ here. m.0 y here) (λ there. h x y (Contains-first x xs) there) (Contains-append_cases xs ys y k),
  none-append xs ys m.1 n (λ z y k l. h z y (Contains-later x xs z k) l),
)

other-offset : (b : Bool) (m n : ℕ) → m < n → (b && (m == n)) ≡ false
other-offset true m n h = ne_eqb m n (λ e. omega arith)
other-offset false m n h = refl

other-page : (m n : ℕ) (b : Bool) → m < n → ((m == n) && b) ≡ false
other-page m n b h = ap (λ c. c && b) (ne_eqb m n (λ e. omega arith))

none-on : (n : ℕ) (ps : List Placed) → Rise (map offset_at ps) → NoneAgain (map (on_page n) ps)
none-on n [] up = tt
none-on n (p ∷ ps) up = (
  λ x h. let from = from-map (on_page n) ps x h in
      let less : offset_at p < offset_at from.0 = rise-later offset_at (offset_at p) ps from.0 up from.1 in
      subst (λ y. same_place (on_page n p) y ≡ false) from.2 (other-offset (n == n) (offset_at p) (offset_at from.0) less),
  none-on n ps (rise-rest offset_at (offset_at p) (map offset_at ps) up),
)

none-marked : (n : ℕ) (pages : List Paged) → All RisesOn pages → NoneAgain (marked_from n pages)
none-marked n [] up = tt
none-marked n (p ∷ pages) up =
    none-append (page_marked n p.tree) (marked_from (suc n) pages)
    (none-kept is_marked (map (on_page n) (elements_of p.tree))
    (none-on n (elements_of p.tree) (subst Rise (sym (offsets-elements p.tree)) (All-head RisesOn p pages up))))
    (none-marked (suc n) pages (All-tail RisesOn p pages up))
    (λ x y h k.
    let here : x.page ≡ n = (page_marked-on n p.tree x h).0 in
    let later = marked_from-numbered (suc n) pages y k in
    other-page x.page y.page (offset_of x == offset_of y) (omega arith))

-- at each place of sound pages one marked element stands
pub stand-once : (pages : List Paged) → All (λ p. IsSoundTree p.tree DEEPEST_ELEMENT) pages → StandOnce (marked pages)
stand-once pages sound =
    once-of (marked pages) (none-marked 0 pages (All-weaker (λ p. IsSoundTree p.tree DEEPEST_ELEMENT) RisesOn (λ p s. s.offsets) pages sound))
