-- What is kept of pages, against their names and bytes.
use Rattle.ix_base.specs.declared.limits.TheConstants.{DEEPEST_ELEMENT}
use Rattle.std.proofs.Common.{◌≡◌, ◌∙◌, ap, sym, refl, inl, inr, ℕ, zero, suc, ◌+◌, ◌≤◌, ◌<◌, ◌==◌, true, List, [], ◌∷◌, ◌++◌, All, length, drop, get_or, slice_index_or, None, IfOk, Result, Ok, Err, subst, arith, add-one, append-nil, append_assoc, zero-add, add-zero}
use Rattle.std.specs.Borrow.{Bor}
use Rattle.std.proofs.Math.Seq.{drop-cons}
use Rattle.std.proofs.lemmas.Bool.{eqb-true}
use Rattle.std.proofs.lemmas.List.{length-map, map-append}
use Rattle.std.proofs.lemmas.List.Elements.{All-append}
use Rattle.ix_base.specs.Sound.{IsSoundRoot}
use Rattle.ix_base.specs.Trees.{Tree, tree_of}
use Rattle.ix_base.specs.declared.NoMemory.{NoMemory}
use Rattle.ix_base.specs.declared.breach.Found.{Found}
use Rattle.ix_base.specs.declared.tree.Element.{Element}
use Rattle.page_session.specs.HandedPages.{Handed, bytes_of, names_of}
use Rattle.targets.specs.Forest.{AreSoundRoots, trees_of}
use Rattle.targets.specs.Forest.{AreTrees, page_set}
use Rattle.targets.specs.Breaches.{PagesComeTo}
use Rattle.page_session.specs.Sessions.{AreKept, IsHeld, break_row, breaks_from, names_kept, tree_row, trees_kept}
use Rattle.targets.specs.Breaches.{fault_row, on_page, set_rule, text_fault, text_faults}
use Rattle.page_session.specs.declared.kept.Held.{Held}
use Rattle.page_session.specs.declared.kept.Held.TheVariants as held
use Rattle.page_session.specs.declared.kept.Kept.{Kept}
use Rattle.target_contents.specs.SetOutcomes.{ComesTo, IsReport}
use Rattle.target_contents.specs.declared.outcome.Outcome.{Outcome}

pub names_are : (ks : List Kept) (ps : List Handed) → AreKept ks ps → names_kept ks ≡ names_of ps
names_are [] [] all = refl
names_are [] (p ∷ ps) all = absurd all
names_are (k ∷ ks) [] all = absurd all
names_are (k ∷ ks) (p ∷ ps) all = λ i. all.0.0 i ∷ names_are ks ps all.1 i

row_is : (n : ℕ) (h : Held) (b : List ℕ) → IsHeld h b → break_row n h ≡ text_fault n b
row_is n (held.Tree r) b is = sym (ap (fault_row n) is.1)
row_is n (held.Broken offset rule) b is = sym (ap (fault_row n) is)

pub breaks_are : (n : ℕ) (ks : List Kept) (ps : List Handed) → AreKept ks ps → breaks_from n ks ≡ text_faults n (bytes_of ps)
breaks_are n [] [] all = refl
breaks_are n [] (p ∷ ps) all = absurd all
breaks_are n (k ∷ ks) [] all = absurd all
breaks_are n (k ∷ ks) (p ∷ ps) all = λ i. row_is n k.held p.bytes all.0.1 i ++ breaks_are (suc n) ks ps all.1 i

-- where no break is kept, the trees are those of the pages

tree_step : (h : Held) (n : ℕ) (b : List ℕ) (bs : List (List ℕ)) (more : List Found) (ts : List Tree) → IsHeld h b → break_row n h ++ more ≡ []
    → (more ≡ [] → AreTrees bs ts) → AreTrees (b ∷ bs) (tree_row h ++ ts)
tree_step (held.Tree r) n b bs more ts is none rest = (is.0, rest none)
tree_step (held.Broken offset rule) n b bs more ts is none rest = absurd (let z = none in cc)

pub trees_are : (n : ℕ) (ks : List Kept) (ps : List Handed) → AreKept ks ps → breaks_from n ks ≡ [] → AreTrees (bytes_of ps) (trees_kept ks)
trees_are n [] [] all none = tt
trees_are n [] (p ∷ ps) all none = absurd all
trees_are n (k ∷ ks) [] all none = absurd all
trees_are n (k ∷ ks) (p ∷ ps) all none =
    tree_step k.held n p.bytes (bytes_of ps) (breaks_from (suc n) ks) (trees_kept ks) all.0.1 none (λ more. trees_are (suc n) ks ps all.1 more)

-- the breaks are on pages that have names

one_below : (n m : ℕ) (h : Held) → n < m → All (λ f. f.place.page < m) (break_row n h)
one_below n m (held.Tree r) l = λ k d within. absurd (omega arith)
one_below n m (held.Broken offset rule) l = λ k d within. at k d within
  where
    at : (k : ℕ) (d : Found) → k < 1 → (slice_index_or (on_page n offset rule ∷ []) k d).place.page < m
    at zero d within = l
    at (suc k) d within = absurd (omega arith)

pub breaks_below : (n m : ℕ) (ks : List Kept) → n + length ks ≤ m → All (λ f. f.place.page < m) (breaks_from n ks)
breaks_below n m [] h = λ k d within. absurd (omega arith)
breaks_below n m (k ∷ ks) h =
    All-append (λ f. f.place.page < m) (break_row n k.held) (breaks_from (suc n) ks) (one_below n m k.held (omega arith)) (breaks_below (suc n) m ks (omega arith))

-- one by one

-- a page at an index, and those after it
pub cut_kept : (ks : List Kept) (i : ℕ) (k : Kept) → i < length ks → k ≡ get_or ks i k → drop i ks ≡ k ∷ drop (i + 1) ks
cut_kept ks i k l e = drop-cons ks i k l ∙ (λ j. sym e j ∷ drop (sym (add-one i) j) ks)

pub names_next : (ks : List Kept) (i : ℕ) (k : Kept) (old new : List (List ℕ)) → i < length ks → k ≡ get_or ks i k
    → new ≡ old ++ k.name ∷ [] → old ++ names_kept (drop i ks) ≡ names_kept ks
    → new ++ names_kept (drop (i + 1) ks) ≡ names_kept ks
names_next ks i k old new l e m was =
    let rest = names_kept (drop (i + 1) ks) in
    ap (λ x. x ++ rest) m ∙ append_assoc old (k.name ∷ []) rest ∙ ap (λ x. old ++ x) (sym (ap names_kept (cut_kept ks i k l e))) ∙ was

pub names_end : (ks : List Kept) (i : ℕ) (old : List (List ℕ)) → drop i ks ≡ [] → old ++ names_kept (drop i ks) ≡ names_kept ks → old ≡ names_kept ks
names_end ks i old none was = sym (append-nil old) ∙ ap (λ x. old ++ names_kept x) (sym none) ∙ was

pub breaks_next : (ks : List Kept) (i : ℕ) (k : Kept) (found more : List Found) → i < length ks → k ≡ get_or ks i k
    → more ≡ found ++ break_row i k.held → found ++ breaks_from i (drop i ks) ≡ breaks_from 0 ks
    → more ++ breaks_from (i + 1) (drop (i + 1) ks) ≡ breaks_from 0 ks
breaks_next ks i k found more l e m was =
    let rest = breaks_from (i + 1) (drop (i + 1) ks) in
    let step : breaks_from i (drop i ks) ≡ break_row i k.held ++ rest =
    ap (breaks_from i) (cut_kept ks i k l e) ∙ ap (λ n. break_row i k.held ++ breaks_from n (drop (i + 1) ks)) (sym (add-one i)) in
    ap (λ x. x ++ rest) m ∙ append_assoc found (break_row i k.held) rest ∙ ap (λ x. found ++ x) (sym step) ∙ was

pub breaks_end : (ks : List Kept) (i : ℕ) (found : List Found) → drop i ks ≡ [] → found ++ breaks_from i (drop i ks) ≡ breaks_from 0 ks → found ≡ breaks_from 0 ks
breaks_end ks i found none was = sym (append-nil found) ∙ ap (λ x. found ++ breaks_from i x) (sym none) ∙ was

pub trees_next : (ks : List Kept) (i : ℕ) (k : Kept) (old new : List Tree) → i < length ks → k ≡ get_or ks i k
    → new ≡ old ++ tree_row k.held → old ++ trees_kept (drop i ks) ≡ trees_kept ks
    → new ++ trees_kept (drop (i + 1) ks) ≡ trees_kept ks
trees_next ks i k old new l e m was =
    let rest = trees_kept (drop (i + 1) ks) in
    ap (λ x. x ++ rest) m ∙ append_assoc old (tree_row k.held) rest ∙ ap (λ x. old ++ x) (sym (ap trees_kept (cut_kept ks i k l e))) ∙ was

pub trees_end : (ks : List Kept) (i : ℕ) (old : List Tree) → drop i ks ≡ [] → old ++ trees_kept (drop i ks) ≡ trees_kept ks → old ≡ trees_kept ks
trees_end ks i old none was = sym (append-nil old) ∙ ap (λ x. old ++ trees_kept x) (sym none) ∙ was

pub sound_more : (n : ℕ) (es : List (Bor Element)) (e : Bor Element) → AreSoundRoots n es → IsSoundRoot e.now (n + length es) DEEPEST_ELEMENT → AreSoundRoots n (es ++ e ∷ [])
sound_more n [] e all one = (subst (λ k. IsSoundRoot e.now k DEEPEST_ELEMENT) (add-zero n) one, tt)
sound_more n (x ∷ es) e all one =
    (all.0, sound_more (suc n) es e all.1 (subst (λ k. IsSoundRoot e.now k DEEPEST_ELEMENT) (let z : n + suc (length es) ≡ suc n + length es = omega arith in z) one))

-- one more root
pub push_trees : (old new : List (Bor Element)) (e : Bor Element) (t : Tree) → new ≡ old ++ e ∷ [] → tree_of e.now ≡ t → trees_of new ≡ trees_of old ++ t ∷ []
push_trees old new e t m is = ap trees_of m ∙ map-append (λ (x : Bor Element). tree_of x.now) old (e ∷ []) ∙ (λ i. trees_of old ++ is i ∷ [])

pub push_sound : (old new : List (Bor Element)) (e : Bor Element) (k : ℕ) → new ≡ old ++ e ∷ [] → k ≡ length old → IsSoundRoot e.now k DEEPEST_ELEMENT → AreSoundRoots 0 old
    → AreSoundRoots 0 new
push_sound old new e k m at one all =
    subst (λ es. AreSoundRoots 0 es) (sym m) (sound_more 0 old e all (subst (λ n. IsSoundRoot e.now n DEEPEST_ELEMENT) (at ∙ sym (zero-add (length old))) one))

pub below_names : (names : List (List ℕ)) (ks : List Kept) (found : List Found) → names ≡ names_kept ks → found ≡ breaks_from 0 ks
    → All (λ f. f.place.page < length names) found
below_names names ks found named is =
    let n : length names ≡ length ks = ap length named ∙ length-map ks (λ (k : Kept). k.name) in
    subst (λ (fs : List Found). All (λ f. f.place.page < length names) fs) (sym is) (breaks_below 0 (length names) ks (omega arith))

-- what they come to

empty_of : {X : Type 0} (xs : List X) → (length xs == 0) ≡ true → xs ≡ []
empty_of [] e = refl
empty_of (x ∷ xs) e = absurd (let z : suc (length xs) ≡ 0 = eqb-true (suc (length xs)) 0 e in omega arith)

pub says_made : (base : List ℕ) (names : List (List ℕ)) (ks : List Kept) (found : List Found) (o : Outcome) → names ≡ names_kept ks → found ≡ breaks_from 0 ks
    → (length found == 0) ≡ true → ComesTo (page_set base names (trees_kept ks)) o
    → (pages : List Handed) → AreKept ks pages → set_rule (bytes_of pages) ≡ None → PagesComeTo base (names_of pages) (bytes_of pages) o
says_made base names ks found o named is empty made pages all small =
    let none : breaks_from 0 ks ≡ [] = sym is ∙ empty_of found empty in
    inr (small, inr (trees_kept ks, trees_are 0 ks pages all none, subst (λ ns. ComesTo (page_set base ns (trees_kept ks)) o) (named ∙ names_are ks pages all) made))

pub says_broken : (base : List ℕ) (names : List (List ℕ)) (ks : List Kept) (found : List Found) (o : Outcome) → names ≡ names_kept ks → found ≡ breaks_from 0 ks
    → ((length found == 0) ≡ true → ⊥) → IsReport names found o
    → (pages : List Handed) → AreKept ks pages → set_rule (bytes_of pages) ≡ None → PagesComeTo base (names_of pages) (bytes_of pages) o
says_broken base names ks found o named is some report pages all small =
    let at : found ≡ text_faults 0 (bytes_of pages) = is ∙ breaks_are 0 ks pages all in
    inr (
      small,
      inl (
        (λ none. some (ap (λ (x : List Found). length x == 0) (at ∙ none))),
        subst (λ fs. IsReport (names_of pages) fs o) at (subst (λ ns. IsReport ns found o) (named ∙ names_are ks pages all) report),
      ),
    )

-- and so of what was answered

pub all_made : (base : List ℕ) (names : List (List ℕ)) (ks : List Kept) (found : List Found) (r : Result Outcome NoMemory) → names ≡ names_kept ks
    → found ≡ breaks_from 0 ks → (length found == 0) ≡ true → IfOk r (ComesTo (page_set base names (trees_kept ks)))
    → IfOk r (λ o. (pages : List Handed) → AreKept ks pages → set_rule (bytes_of pages) ≡ None → PagesComeTo base (names_of pages) (bytes_of pages) o)
all_made base names ks found (Ok o) named is empty made = says_made base names ks found o named is empty made
all_made base names ks found (Err e) named is empty made = tt

pub all_broken : (base : List ℕ) (names : List (List ℕ)) (ks : List Kept) (found : List Found) (r : Result Outcome NoMemory) → names ≡ names_kept ks
    → found ≡ breaks_from 0 ks → ((length found == 0) ≡ true → ⊥) → IfOk r (IsReport names found)
    → IfOk r (λ o. (pages : List Handed) → AreKept ks pages → set_rule (bytes_of pages) ≡ None → PagesComeTo base (names_of pages) (bytes_of pages) o)
all_broken base names ks found (Ok o) named is some report = says_broken base names ks found o named is some report
all_broken base names ks found (Err e) named is some report = tt
