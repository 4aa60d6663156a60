-- What pages that were read say.
use Rattle.ix_base.specs.declared.limits.TheConstants.{DEEPEST_ELEMENT}
use Rattle.std.proofs.Common.{◌≡◌, ◌≢◌, ◌∙◌, ◌++◌, ap, sym, ℕ, zero, suc, ◌==◌, true, ◌+◌, ◌<◌, ◌≤◌, List, [], ◌∷◌, All, length, slice_index_or, Option, Some, None, IfOk, Result, Ok, Err, subst, arith, inl, inr, refl}
use Rattle.std.specs.Borrow.{Bor}
use Rattle.std.proofs.lemmas.Bool.{eqb-true}
use Rattle.targets.specs.Breaches.{size_rule, PagesComeTo, fault_row, on_page, set_rule, text_fault, text_faults}
use Rattle.std.proofs.lemmas.List.Elements.{All-append}
use Rattle.ix_base.specs.Spaces.{AreNumbered, spaces_of}
use Rattle.ix_base.specs.Elements.{pages_of}
use Rattle.ix_base.specs.Sound.{IsSoundRoot}
use Rattle.ix_base.specs.Trees.{Tree, tree_of}
use Rattle.ix_base.specs.declared.NoMemory.{NoMemory}
use Rattle.ix_base.specs.declared.breach.Found.{Found}
use Rattle.ix_base.specs.declared.tree.Element.{Element}
use Rattle.page_tree.specs.Break.{Fault, w}
use Rattle.page_tree.specs.Page.{page}
use Rattle.targets.specs.Forest.{AreSoundRoots, AreTrees, page_set, trees_of}
use Rattle.target_contents.specs.SetOutcomes.{ComesTo, IsReport}
use Rattle.page_verdicts.specs.PageReads.{AreRoots, HasRead, IsRead}
use Rattle.page_verdicts.specs.declared.read_pages.Forest.{Forest}
use Rattle.target_contents.specs.declared.outcome.Outcome.{Outcome}

pub are_trees : (n : ℕ) (bs : List (List ℕ)) (es : List (Bor Element)) → AreRoots n bs es → AreTrees bs (trees_of es)
are_trees n [] [] all = tt
are_trees n [] (e ∷ es) all = absurd all
are_trees n (b ∷ bs) [] all = absurd all
are_trees n (b ∷ bs) (e ∷ es) all = (all.0.0, are_trees (suc n) bs es all.1)

-- the breaks of pages are on them
all_row : (n m : ℕ) (o : Option Fault) → n < m → All (λ f. f.place.page < m) (fault_row n o)
all_row n m None h = λ k d within. absurd (omega arith)
all_row n m (Some f) h = λ k d within. at k d within
  where
    at : (k : ℕ) (d : Found) → k < 1 → (slice_index_or (on_page n f.offset f.rule ∷ []) k d).place.page < m
    at zero d within = h
    at (suc k) d within = absurd (omega arith)

pub faults_below : (n m : ℕ) (bs : List (List ℕ)) → n + length bs ≤ m → All (λ f. f.place.page < m) (text_faults n bs)
faults_below n m [] h = λ k d within. absurd (omega arith)
faults_below n m (b ∷ bs) h =
    All-append (λ f. f.place.page < m) (text_fault n b) (text_faults (suc n) bs) (all_row n m (w b DEEPEST_ELEMENT) (omega arith)) (faults_below (suc n) m bs (omega arith))

-- what pages say that break no size rule
pub kept_says : (base : List ℕ) (names bs : List (List ℕ)) (r : Result Outcome NoMemory) → set_rule bs ≡ None
    → (text_faults 0 bs ≢ [] → IfOk r (IsReport names (text_faults 0 bs)))
    → (text_faults 0 bs ≡ [] → IfOk r (λ o. (trees : List Tree) × AreTrees bs trees × ComesTo (page_set base names trees) o))
    → IfOk r (PagesComeTo base names bs)
kept_says base names bs r kept broken made = by (text_faults 0 bs) refl
  where
    by : (found : List Found) → text_faults 0 bs ≡ found → IfOk r (PagesComeTo base names bs)
    by [] e = made_says r (made e)
      where
        made_says : (r : Result Outcome NoMemory) → IfOk r (λ o. (trees : List Tree) × AreTrees bs trees × ComesTo (page_set base names trees) o) → IfOk r (PagesComeTo base names bs)
        made_says (Ok v) h = inr (kept, inr h)
        made_says (Err x) h = tt
    by (f ∷ fs) e = broken_says r (λ z. absurd (let y : [] ≡ f ∷ fs = sym z ∙ e in cc)) (broken (λ z. absurd (let y : [] ≡ f ∷ fs = sym z ∙ e in cc)))
      where
        broken_says : (r : Result Outcome NoMemory) → text_faults 0 bs ≢ [] → IfOk r (IsReport names (text_faults 0 bs)) → IfOk r (PagesComeTo base names bs)
        broken_says (Ok v) some h = inr (kept, inl (some, h))
        broken_says (Err x) some h = tt

pub empty_of : {X : Type 0} (xs : List X) → (length xs == 0) ≡ true → xs ≡ []
empty_of [] e = refl
empty_of (x ∷ xs) e = absurd (let z : suc (length xs) ≡ 0 = eqb-true (suc (length xs)) 0 e in omega arith)

-- the roots of pages are sound
sound_from : ((b : List ℕ) (n number : ℕ) (e : Element) → page b n (tree_of e) → All (λ p. p ≡ number) (pages_of e) → AreNumbered (spaces_of e) → IsSoundRoot e number n)
    → (n : ℕ) (bs : List (List ℕ)) (es : List (Bor Element)) → AreRoots n bs es → AreSoundRoots n es
sound_from sound n [] [] all = tt
sound_from sound n [] (e ∷ es) all = absurd all
sound_from sound n (b ∷ bs) [] all = absurd all
sound_from sound n (b ∷ bs) (e ∷ es) all = (sound b DEEPEST_ELEMENT n e.now all.0.0 all.0.1 all.0.2, sound_from sound (suc n) bs es all.1)

-- nothing was found, so that each root is that of its page, and sound
pub sound_roots : ((b : List ℕ) (n number : ℕ) (e : Element) → page b n (tree_of e) → All (λ p. p ≡ number) (pages_of e) → AreNumbered (spaces_of e) → IsSoundRoot e number n)
    → (bs : List (List ℕ)) (f : Forest) → HasRead bs f → (length f.found == 0) ≡ true → AreSoundRoots 0 f.roots.items
sound_roots sound bs f read empty = sound_from sound 0 bs f.roots.items (read.roots (sym read.found ∙ empty_of f.found empty))

pub trees_made : (base : List ℕ) (names bs : List (List ℕ)) (f : Forest) (es : List (Bor Element)) (r : Result Outcome NoMemory) → es ≡ f.roots.items → HasRead bs f → text_faults 0 bs ≡ []
    → IfOk r (ComesTo (page_set base names (trees_of es))) → IfOk r (λ o. (trees : List Tree) × AreTrees bs trees × ComesTo (page_set base names trees) o)
trees_made base names bs f es (Ok v) is read none h =
    (trees_of es, are_trees 0 bs es (subst (λ (xs : List (Bor Element)). AreRoots 0 bs xs) (sym is) (read.roots none)), h)
trees_made base names bs f es (Err x) is read none h = tt

pub found_below : (bs : List (List ℕ)) (f : Forest) (n : ℕ) → HasRead bs f → length bs ≡ n → All (λ x. x.place.page < n) f.found
found_below bs f n read few = subst (λ (xs : List Found). All (λ x. x.place.page < n) xs) (sym read.found) (faults_below 0 n bs (omega arith))

each : (base : List ℕ) (names : List (List ℕ)) (f : Forest) (r : Result Outcome NoMemory) → ((bs : List (List ℕ)) → IsRead bs f → IfOk r (PagesComeTo base names bs))
    → IfOk r (λ v. (bs : List (List ℕ)) → IsRead bs f → PagesComeTo base names bs v)
each base names f (Ok v) h = h
each base names f (Err x) h = tt

pub judged : (base : List ℕ) (names : List (List ℕ)) (f : Forest) (r : Result Outcome NoMemory) → None ≡ size_rule f.sums.bytes f.sums.tags
    → ((bs : List (List ℕ)) → HasRead bs f → text_faults 0 bs ≢ [] → IfOk r (IsReport names (text_faults 0 bs)))
    → ((bs : List (List ℕ)) → HasRead bs f → text_faults 0 bs ≡ [] → IfOk r (λ o. (trees : List Tree) × AreTrees bs trees × ComesTo (page_set base names trees) o))
    → IfOk r (λ v. (bs : List (List ℕ)) → IsRead bs f → PagesComeTo base names bs v)
judged base names f r kept broken made = each base names f r (λ bs read.
    let whole = read.read (sym kept) in
    kept_says base names bs r (read.size ∙ sym kept) (broken bs whole) (made bs whole))

-- pages that have trees have no breaks
module _ (none : (b : List ℕ) (n : ℕ) (f : Fault) (t : Tree) → w b n ≡ Some f → page b n t → ⊥) where
  no_row : (n : ℕ) (b : List ℕ) (t : Tree) (o : Option Fault) → w b DEEPEST_ELEMENT ≡ o → page b DEEPEST_ELEMENT t → fault_row n o ≡ []
  no_row n b t None e h = refl
  no_row n b t (Some f) e h = absurd (none b DEEPEST_ELEMENT f t e h)

  pub no_faults : (n : ℕ) (bs : List (List ℕ)) (ts : List Tree) → AreTrees bs ts → text_faults n bs ≡ []
  no_faults n [] ts h = refl
  no_faults n (b ∷ bs) [] h = absurd h
  no_faults n (b ∷ bs) (t ∷ ts) h =
      ap (λ (r : List Found). r ++ text_faults (suc n) bs) (no_row n b t (w b DEEPEST_ELEMENT) refl h.0) ∙ no_faults (suc n) bs ts h.1
