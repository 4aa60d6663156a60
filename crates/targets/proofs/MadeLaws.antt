-- Pages that are added one by one.
use Rattle.ix_base.specs.declared.limits.TheConstants.{DEEPEST_ELEMENT}
use Rattle.std.proofs.Common.{◌≡◌, ◌⊎◌, inl, inr, ◌∙◌, ap, sym, refl, ℕ, zero, suc, ◌+◌, ◌<◌, ◌≤◌, min, List, [], ◌∷◌, ◌++◌, length, drop, get_or, map, take, append_assoc, append-nil, subst, arith, add-one}
use Rattle.std.specs.Borrow.{Bor}
use Rattle.std.proofs.Math.Seq.{drop-cons}
use Rattle.std.proofs.lemmas.Bool.{cases_lt}
use Rattle.std.proofs.lemmas.List.{drop_all, length-map, length-take}
use Rattle.ix_base.specs.LocatedElements.{Paged}
use Rattle.ix_base.specs.Sound.{IsSoundRoot}
use Rattle.ix_base.specs.Trees.{tree_of}
use Rattle.ix_base.specs.declared.tree.Element.{Element}
use Rattle.page_links.specs.declared.pages.Page.{Page}
use Rattle.targets.specs.Forest.{AreSoundRoots, paged, trees_of}
use Rattle.page_links.specs.Model.{AreSoundFrom, as_paged}

-- the element at this index and those behind it
pub cut_at : {X : Type 0} (xs : List X) (n : ℕ) (x : X) → n < length xs → x ≡ get_or xs n x → drop n xs ≡ x ∷ drop (n + 1) xs
cut_at xs n x h e = drop-cons xs n x h ∙ (λ i. sym e i ∷ drop (sym (add-one n) i) xs)

sound_cut : (es : List (Bor Element)) (n : ℕ) (e : Bor Element) → n < length es → e ≡ get_or es n e → AreSoundRoots n (drop n es) → AreSoundRoots n (e ∷ drop (n + 1) es)
sound_cut es n e h at all = subst (λ (xs : List (Bor Element)). AreSoundRoots n xs) (cut_at es n e h at) all

-- the next root is sound
pub sound_next : (es : List (Bor Element)) (n : ℕ) (e : Bor Element) → n < length es → e ≡ get_or es n e → AreSoundRoots n (drop n es) → IsSoundRoot e.now n DEEPEST_ELEMENT
sound_next es n e h at all = (sound_cut es n e h at all).0

-- and so are those behind it
pub sound_behind : (es : List (Bor Element)) (n : ℕ) (e : Bor Element) → n < length es → e ≡ get_or es n e → AreSoundRoots n (drop n es) → AreSoundRoots (n + 1) (drop (n + 1) es)
sound_behind es n e h at all = subst (λ k. AreSoundRoots k (drop (n + 1) es)) (sym (add-one n)) (sound_cut es n e h at all).1

-- one more page was added
pub paged_more : (names : List (List ℕ)) (es : List (Bor Element)) (n : ℕ) (name : List ℕ) (e : Bor Element) (held all : List Paged)
    → n < length names → n < length es → name ≡ get_or names n name → e ≡ get_or es n e
    → held ++ paged (drop n names) (trees_of (drop n es)) ≡ all
    → (held ++ record { name = name; tree = tree_of e.now } ∷ []) ++ paged (drop (n + 1) names) (trees_of (drop (n + 1) es)) ≡ all
paged_more names es n name e held all h k at here before =
    append_assoc held (record { name = name; tree = tree_of e.now } ∷ []) (paged (drop (n + 1) names) (trees_of (drop (n + 1) es)))
    ∙ (λ i. held ++ paged (sym (cut_at names n name h at) i) (trees_of (sym (cut_at es n e k here) i))) ∙ before

none_paged : (names : List (List ℕ)) → paged names [] ≡ []
none_paged [] = refl
none_paged (name ∷ names) = refl

-- no page is left
paged_end : (names : List (List ℕ)) (es : List (Bor Element)) (n : ℕ) → (length names ≤ n) ⊎ (length es ≤ n) → paged (drop n names) (trees_of (drop n es)) ≡ []
paged_end names es n (inl h) = ap (λ ns. paged ns (trees_of (drop n es))) (drop_all n names h)
paged_end names es n (inr h) = ap (λ xs. paged (drop n names) (trees_of xs)) (drop_all n es h) ∙ none_paged (drop n names)

either_long : (a b n : ℕ) → n ≡ min a b → (a < b) ⊎ (b ≤ a) → (a ≤ n) ⊎ (b ≤ n)
either_long a b n e (inl h) = inl (omega arith)
either_long a b n e (inr h) = inr (omega arith)

-- all pages were added
pub paged_all : (names : List (List ℕ)) (es : List (Bor Element)) (n : ℕ) (held all : List Paged) → n ≡ min (length names) (length es)
    → held ++ paged (drop n names) (trees_of (drop n es)) ≡ all → held ≡ all
paged_all names es n held all at is =
    sym (append-nil held)
    ∙ ap (λ ps. held ++ ps) (sym (paged_end names es n (either_long (length names) (length es) n at (cases_lt (length names) (length es))))) ∙ is

-- the root of the page at this index is sound
pub sound_nth : (n : ℕ) (pages : List Page) (i : ℕ) (p : Page) → i < length pages → p ≡ get_or pages i p → AreSoundFrom n pages → IsSoundRoot p.root.now (n + i) DEEPEST_ELEMENT
sound_nth n [] i p l e h = absurd (omega arith)
sound_nth n (q ∷ qs) zero p l e h =
    subst (λ (x : Page). IsSoundRoot x.root.now (n + 0) DEEPEST_ELEMENT) (sym e) (subst (λ k. IsSoundRoot q.root.now k DEEPEST_ELEMENT) (let z : n ≡ n + 0 = omega arith in z) h.0)
sound_nth n (q ∷ qs) (suc i) p l e h =
    subst (λ k. IsSoundRoot p.root.now k DEEPEST_ELEMENT) (let z : suc n + i ≡ n + suc i = omega arith in z) (sound_nth (suc n) qs i p (omega arith) e h.1)

-- so many pages are before the one at this index
pub paged_count : (pages : List Page) (i : ℕ) → i < length pages → length (map as_paged (take i pages)) ≡ 0 + i
paged_count pages i l = length-map (take i pages) as_paged ∙ (let z : length (take i pages) ≡ 0 + i = omega (arith, length-take i pages) in z)
