-- Reading pages one behind another, each piece by piece.
use Rattle.std.specs.Prelude.{◌≡◌, ◌⊎◌, ℕ, suc, ◌+◌, ◌≤◌, ◌<◌, Bool, true, IsTrue, List, [], ◌∷◌, ◌++◌, length, map, Option, Some, None, IfSome}
use Rattle.std.specs.Borrow.{Bor}
use Rattle.ix_base.specs.Spaces.{AreNumbered, spaces_of}
use Rattle.ix_base.specs.Elements.{pages_of}
use Rattle.ix_base.specs.Trees.{tree_of}
use Rattle.ix_base.specs.declared.limits.TheConstants.{DEEPEST_ELEMENT, MOST_BYTES, PIECE}
use Rattle.ix_base.specs.declared.tree.Element.{Element}
use Rattle.page_tree.specs.Page.{page as page_with}
use Rattle.page_tree.specs.Break.{w}
use Rattle.page_tree.specs.Stacks.{AreAll}
use Rattle.page_tree.specs.Model.{StandsFor, limit, page_number}
use Rattle.page_session.specs.Sources.{IsTelling, told}
use Rattle.page_session.specs.declared.reading.Sums.{Sums}
use Rattle.targets.specs.Breaches.{size_rule, tags_in, all_tags_in, bytes_in, set_rule, text_fault, text_faults}
use Rattle.page_verdicts.specs.Texts.{cannot_read_line}
use Rattle.page_verdicts.specs.declared.read_pages.Forest.{Forest}
use Rattle.page_verdicts.specs.declared.read_pages.Stopped.{Stopped}
use Rattle.page_verdicts.specs.declared.read_pages.Stopped.TheVariants as stopped
use Rattle.page_verdicts.specs.declared.open_page.OpenPage.{OpenPage}

-- An open page was given these bytes: its builder stands for them, and where bytes are kept, these are.
pub record Holds (t : OpenPage) (b : List ℕ) : Type 0 where
  pub built : StandsFor t.tree b
  pub kept : t.keeps ≡ true → t.bytes.items ≡ b

-- the open page p is what the page fresh, of which nothing was read, became by these bytes
pub record HasTaken (fresh : OpenPage) (b : List ℕ) (p : OpenPage) : Type 0 where
  pub holds : Holds p b
  pub limit_is : limit p.tree ≡ limit fresh.tree
  pub page_is : page_number p.tree ≡ page_number fresh.tree
  pub keeps_is : p.keeps ≡ fresh.keeps

-- What was read of a page is all of it, unless the bytes read are more than pages may have.
abbrev pub IsReadWhole : Option (List ℕ) → Option (List ℕ) → Sums → Type 0
IsReadWhole page left sums = sums.bytes ≤ MOST_BYTES → IfSome page (λ b. left ≡ Some [])

-- a page of this number, with these bytes, has this root
abbrev pub IsRoot : ℕ → List ℕ → Bor Element → Type 0
IsRoot n b e = page_with b DEEPEST_ELEMENT (tree_of e.now) × AreAll n (pages_of e.now) × AreNumbered (spaces_of e.now)

-- these are the roots of pages with these bytes, numbered on from this number
abbrev pub AreRoots : ℕ → List (List ℕ) → List (Bor Element) → Type 0
AreRoots n [] [] = Unit {0}
AreRoots n (b ∷ bs) (e ∷ es) = IsRoot n b e × AreRoots (suc n) bs es
AreRoots n bs es = ⊥

-- the texts of pages that a forest keeps
abbrev pub kept_texts : Forest → List (List ℕ)
kept_texts f = map (λ t. t.now) f.texts.items

-- the forest gained the tree of the page of this number with these bytes: its root or its break
pub record HasGainedTree (n : ℕ) (b : List ℕ) (old new : Forest) : Type 0 where
  pub found : new.found ≡ old.found ++ text_fault n b
  pub root : w b DEEPEST_ELEMENT ≡ None → (e : Bor Element) × (new.roots.items ≡ old.roots.items ++ e ∷ []) × IsRoot n b e

-- and the bytes of the page, where it keeps them
pub record HasGained (n : ℕ) (b : List ℕ) (old new : Forest) : Type 0 where
  pub tree : HasGainedTree n b old new
  pub keeps : new.keeps ≡ old.keeps
  pub texts : old.keeps ≡ true → kept_texts new ≡ kept_texts old ++ b ∷ []

-- pages of these bytes were read, whole and no others
pub record HasRead (bs : List (List ℕ)) (f : Forest) : Type 0 where
  pub bytes : f.sums.bytes ≡ bytes_in bs
  pub tags : f.sums.tags ≡ all_tags_in bs
  pub found : f.found ≡ text_faults 0 bs
  pub roots : text_faults 0 bs ≡ [] → AreRoots 0 bs f.roots.items
  pub texts : f.keeps ≡ true → kept_texts f ≡ bs

-- Of a page a front was read, and it was built in, unless the bytes read are more than pages may have.
pub record ReadsOn (page left : Option (List ℕ)) (n : ℕ) (old new : Forest) : Type 0 where
  pub front : List ℕ
  pub bytes : new.sums.bytes ≡ old.sums.bytes + length front
  pub tags : new.sums.tags ≡ old.sums.tags + tags_in front
  pub told : IfSome page (λ b. (rest : List ℕ) × (b ≡ front ++ rest) × (left ≡ Some rest))
  pub whole : IsReadWhole page left new.sums
  pub gained : new.sums.bytes ≤ MOST_BYTES → HasGained n front old new

-- So many of the pages of these names were read, and these names are left.
pub record HasReadSome (page : List ℕ → Option (List ℕ)) (names rest : List (List ℕ)) (n : ℕ) (f : Forest) : Type 0 where
  pub front : List (List ℕ)
  pub splits : names ≡ front ++ rest
  pub bs : List (List ℕ)
  pub count : length bs ≡ n
  pub read : HasRead bs f
  pub front_is : IfSome (told page front) (λ all. all ≡ bs)
  pub told_is : IfSome (told page names) (λ all. (more : List (List ℕ)) × (all ≡ bs ++ more) × (told page rest ≡ Some more))
  pub telling : IsTelling page front

-- What the forest tells of pages: the size rule that they break; where they break none, they are what was read.
pub record IsRead (bs : List (List ℕ)) (f : Forest) : Type 0 where
  pub size : set_rule bs ≡ size_rule f.sums.bytes f.sums.tags
  pub read : size_rule f.sums.bytes f.sums.tags ≡ None → HasRead bs f

-- As many pages as there are names were read, unless they break a size rule.
abbrev pub IsSound : List (List ℕ) → Forest → Type 0
IsSound names f = size_rule f.sums.bytes f.sums.tags ≡ None → (bs : List (List ℕ)) × HasRead bs f × (length bs ≡ length names)

-- The page that was asked for last is one of these. Those before it, where the source tells them, don't have more bytes than
-- pages may have; and a source that tells any page tells them.
pub record IsAmong (page : List ℕ → Option (List ℕ)) (names : List (List ℕ)) (asked : Option (List ℕ)) (name : List ℕ) : Type 0 where
  pub front : List (List ℕ)
  pub back : List (List ℕ)
  pub splits : names ≡ front ++ name ∷ back
  pub asked_is : IfSome asked (λ n. n ≡ name)
  pub within : IfSome (told page front) (λ bs. bytes_in bs ≤ MOST_BYTES)
  pub telling : IsTelling page front

-- The same, with these names behind it. Of the pages up to it, where the source tells them, at most the limit and one
-- buffer was read.
pub record IsLast (page : List ℕ → Option (List ℕ)) (names back : List (List ℕ)) (left asked : Option (List ℕ)) : Type 0 where
  pub front : List (List ℕ)
  pub name : List ℕ
  pub splits : names ≡ front ++ name ∷ back
  pub asked_is : IfSome asked (λ n. n ≡ name)
  pub within : IfSome (told page front) (λ bs. bytes_in bs ≤ MOST_BYTES)
  pub telling : IsTelling page front
  pub most : IfSome (told page (front ++ name ∷ [])) (λ bs. IfSome left (λ rest. bytes_in bs ≤ length rest + (MOST_BYTES + PIECE)))

-- Reading stopped in time: at the last of these pages, unless they have together, where the source tells them, more bytes
-- than pages may have.
abbrev pub StopsInTime : (List ℕ → Option (List ℕ)) → List (List ℕ) → (left asked : Option (List ℕ)) → Type 0
StopsInTime page names left asked =
    (back : List (List ℕ)) × IsLast page names back left asked
    × ((back ≡ []) ⊎ IfSome (told page names) (λ bs. MOST_BYTES < bytes_in bs))

-- why reading the page of this name ended before its end: it can't be read, which the last call told, and the line names it, or
-- memory was wanted
abbrev pub StopsAt : List ℕ → Option (List ℕ) → (before now : ℕ) → (failed : Bool) → Stopped → Type 0
StopsAt name asked before now failed (stopped.Failed line) =
    (before < now) × IfSome asked (λ n. n ≡ name) × (line.items ≡ cannot_read_line name) × IsTrue failed
StopsAt name asked before now failed stopped.NoMemory = now ≡ before

-- the same of one of these pages
abbrev pub WhyStopped : (List ℕ → Option (List ℕ)) → List (List ℕ) → Option (List ℕ) → (before now : ℕ) → (failed : Bool) → Stopped → Type 0
WhyStopped page names asked before now failed (stopped.Failed line) =
    (before < now) × ((name : List ℕ) × IsAmong page names asked name × (line.items ≡ cannot_read_line name) × IsTrue failed)
WhyStopped page names asked before now failed stopped.NoMemory = now ≡ before
