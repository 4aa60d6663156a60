-- What a session stands for: it keeps no bytes, so it stands for each list of pages that would have left it as it is.
use Rattle.std.specs.Prelude.{◌≡◌, ℕ, suc, ◌+◌, ◌≤◌, ◌<◌, List, [], ◌∷◌, ◌++◌, length, map, Option, IfSome, Result, Err, Some, None}
use Rattle.ix_base.specs.Trees.{Tree}
use Rattle.ix_base.specs.declared.breach.Found.{Found}
use Rattle.ix_base.specs.declared.limits.TheConstants.{DEEPEST_ELEMENT, MOST_BYTES_PUT, MOST_TAGS_PUT}
use Rattle.page_tree.specs.Break.{fault, w}
use Rattle.page_tree.specs.Page.{page}
use Rattle.targets.specs.Breaches.{all_tags_in, bytes_in, on_page, tags_in}
use Rattle.page_session.specs.HandedPages.{Handed, bytes_of, put_in, drop_in}
use Rattle.page_session.specs.Limits.{Passes}
use Rattle.page_session.specs.declared.kept.Held.{Held}
use Rattle.page_session.specs.declared.kept.Held.TheVariants as held
use Rattle.page_session.specs.declared.kept.Kept.{Kept}
use Rattle.page_session.specs.declared.put.PutFault.{PutFault}
use Rattle.page_session.specs.declared.put.PutFault.TheVariants as put
use Rattle.page_session.specs.declared.session.Session.{Session}

-- this is kept of a page with these bytes: its tree where its text has no break, and else the break
abbrev pub IsHeld : Held → List ℕ → Type 0
IsHeld (held.Tree r) b = page b DEEPEST_ELEMENT r.tree × (w b DEEPEST_ELEMENT ≡ None)
IsHeld (held.Broken offset rule) b = w b DEEPEST_ELEMENT ≡ Some (fault offset rule)

-- the breaks that are kept, of pages of which the first has this number
abbrev pub break_row : ℕ → Held → List Found
break_row n (held.Tree r) = []
break_row n (held.Broken offset rule) = on_page n offset rule ∷ []

abbrev pub breaks_from : ℕ → List Kept → List Found
breaks_from n [] = []
breaks_from n (k ∷ ks) = break_row n k.held ++ breaks_from (suc n) ks

-- the trees that are kept
abbrev pub tree_row : Held → List Tree
tree_row (held.Tree r) = r.tree ∷ []
tree_row (held.Broken offset rule) = []

abbrev pub trees_kept : List Kept → List Tree
trees_kept [] = []
trees_kept (k ∷ ks) = tree_row k.held ++ trees_kept ks

-- this is kept of this page
abbrev pub IsKept : Kept → Handed → Type 0
IsKept k p = (k.name ≡ p.name) × IsHeld k.held p.bytes

-- and of these pages, in order, one for each
abbrev pub AreKept : List Kept → List Handed → Type 0
AreKept [] [] = Unit {0}
AreKept (k ∷ ks) (p ∷ ps) = IsKept k p × AreKept ks ps
AreKept ks ps = ⊥

-- the names of what is kept
abbrev pub names_kept : List Kept → List (List ℕ)
names_kept ks = map (λ k. k.name) ks

-- the names of the pages that are there, in order
abbrev pub names_in : Session → List (List ℕ)
names_in s = names_kept s.kept.items

-- the word to which the names of the pages are joined
abbrev pub base_of : Session → List ℕ
base_of s = s.base

-- how many bytes the pages of all puts that answered Ok had, and how many of them were `<`
abbrev pub bytes_put : Session → ℕ
bytes_put s = s.sums.bytes

abbrev pub tags_put : Session → ℕ
tags_put s = s.sums.tags

-- The session stands for these pages: they are kept, and no more was there than was put.
pub record StandsFor (s : Session) (pages : List Handed) : Type 0 where
  pub kept : AreKept s.kept.items pages
  pub bytes : bytes_in (bytes_of pages) ≤ bytes_put s
  pub tags : all_tags_in (bytes_of pages) ≤ tags_put s

-- the pages that are there, the sums and the base are the same
pub record IsSame (old new : Session) : Type 0 where
  pub kept : new.kept.items ≡ old.kept.items
  pub sums : new.sums ≡ old.sums
  pub base : new.base ≡ old.base

-- A page was put: of each list of pages for which the session stood it now stands for the one with the page, and the sums grew
-- by it.
pub record HasPut (p : Handed) (old new : Session) : Type 0 where
  pub stands : (pages : List Handed) → StandsFor old pages → StandsFor new (put_in p pages)
  pub bytes : bytes_put new ≡ bytes_put old + length p.bytes
  pub tags : tags_put new ≡ tags_put old + tags_in p.bytes
  pub base : base_of new ≡ base_of old

-- the page of this name was taken away
pub record HasDropped (name : List ℕ) (old new : Session) : Type 0 where
  pub stands : (pages : List Handed) → StandsFor old pages → StandsFor new (drop_in name pages)
  pub sums : new.sums ≡ old.sums
  pub base : base_of new ≡ base_of old

-- a fact of a page's bytes: those that the source tells, where it tells them, and else some
abbrev pub OfPage : Option (List ℕ) → (List ℕ → Type 0) → Type 0
OfPage told fact = (b : List ℕ) × IfSome told (λ t. t ≡ b) × fact b

-- with a page of these bytes too, the pages that were put have more than a session may read
abbrev pub IsOver : Session → List ℕ → Type 0
IsOver s b = Passes (bytes_put s + length b) (tags_put s + tags_in b)

-- both sums of what was put are within their numbers
abbrev pub IsWithin : Session → Type 0
IsWithin s = (bytes_put s ≤ MOST_BYTES_PUT) × (tags_put s ≤ MOST_TAGS_PUT)

-- a put that failed to read raised the count of faults; any other answer left it
abbrev pub HasPutCause : {X : Type 0} → (before now : ℕ) → Result X PutFault → Type 0
HasPutCause before now (Err put.ReadFault) = before < now
HasPutCause before now r = now ≡ before
