-- What the tokens of a page spell is sound.
use Rattle.std.proofs.Common.{◌≡◌, ◌⊎◌, inl, inr, ℕ, true, List, [], ◌∷◌, ◌++◌, Some, None, sym, subst}
use Rattle.ix_base.specs.NcName.{are_allowed}
use Rattle.ix_base.specs.Trees.{Bound, Head, Nodes, none, chars, elem, Tree}
use Rattle.ix_base.specs.Sound.{IsSoundHead, AreSound}
use Rattle.ix_base.specs.Scope.{outermost}
use Rattle.page_tree.specs.Page.{AreRuns, HasTags, Spells, SpellsPage}
use Rattle.page_constructs.specs.Tokens.{Tag, Token, start, empty, close, words, refer, section, declaration, doctype, silent}
use Rattle.page_constructs.proofs.AllowedText.{allowed-nil, allowed-append}
use Rattle.page_tree.proofs.SoundScopes.{IsSoundScope, outermost-sound}
use Rattle.page_tree.proofs.SoundHeads.{IsFormedTag, head-sound}

-- a token whose texts and names are of their forms
abbrev pub IsFormedToken : Token → Type 0
IsFormedToken (start t) = IsFormedTag t
IsFormedToken (empty t) = IsFormedTag t
IsFormedToken (close name) = Unit {0}
IsFormedToken (words text) = are_allowed text ≡ true
IsFormedToken (refer None) = Unit {0}
IsFormedToken (refer (Some char)) = are_allowed char ≡ true
IsFormedToken (section text) = are_allowed text ≡ true
IsFormedToken (declaration version encoding) = Unit {0}
IsFormedToken (doctype has_subset) = Unit {0}
IsFormedToken silent = Unit {0}

abbrev pub AreFormed : List Token → Type 0
AreFormed [] = Unit {0}
AreFormed (t ∷ ts) = IsFormedToken t × AreFormed ts

pub formed-parts : (a b : List Token) → AreFormed (a ++ b) → AreFormed a × AreFormed b
formed-parts [] b h = (tt, h)
formed-parts (t ∷ a) b h = let z = formed-parts a b h.1 in ((h.0, z.0), z.1)

runs-allowed : (text : List ℕ) (ts : List Token) → AreFormed ts → AreRuns text ts → are_allowed text ≡ true
runs-allowed text [] f r = subst (λ x. are_allowed x ≡ true) (sym r) allowed-nil
runs-allowed text (declaration v e ∷ ts) f r = runs-allowed text ts f.1 r.1
runs-allowed text (words w ∷ ts) f r = subst (λ x. are_allowed x ≡ true) (sym r.1) (allowed-append w r.0 f.0 (runs-allowed r.0 ts f.1 r.2))
runs-allowed text (refer (Some c) ∷ ts) f r = subst (λ x. are_allowed x ≡ true) (sym r.1) (allowed-append c r.0 f.0 (runs-allowed r.0 ts f.1 r.2))
runs-allowed text (section w ∷ ts) f r = subst (λ x. are_allowed x ≡ true) (sym r.1) (allowed-append w r.0 f.0 (runs-allowed r.0 ts f.1 r.2))
runs-allowed text (silent ∷ ts) f r = runs-allowed text ts f.1 r
runs-allowed text (refer None ∷ ts) f r = absurd r
runs-allowed text (start t ∷ ts) f r = absurd r
runs-allowed text (empty t ∷ ts) f r = absurd r
runs-allowed text (close n ∷ ts) f r = absurd r
runs-allowed text (doctype b ∷ ts) f r = absurd r

-- an element's tag is formed, and so is what stands in it
record InTags (tag : Tag) (children : Nodes) (Inner : List Token → Type 0) : Type 0 where
  tag_formed : IsFormedTag tag
  holds : (children ≡ none) ⊎ ((inner : List Token) × AreFormed inner × Inner inner)

in-tags : (tag : Tag) (children : Nodes) (Inner : List Token → Type 0) (ts : List Token) → AreFormed ts → HasTags tag children Inner ts → InTags tag children Inner
in-tags tag children Inner ts f (inl h) = let z = subst AreFormed h.0 f in record { tag_formed = z.0; holds = inl h.1 }
in-tags tag children Inner ts f (inr h) =
    let z = subst AreFormed h.1 f in
    record { tag_formed = z.0; holds = inr (h.0, (formed-parts h.0 (close tag.name ∷ []) z.1).0, h.2) }

scope-sound : (h : Head) → IsSoundHead h → IsSoundScope h.scope
scope-sound h s = record { bindings = s.bindings; sorted = s.sorted; xml = s.xml }

pub nodes-sound : (ns : Nodes) (depth : ℕ) (scope : List Bound) (ts : List Token) → IsSoundScope scope → AreFormed ts → Spells ns depth scope ts → AreSound depth ns
nodes-sound none depth scope ts s f h = tt
nodes-sound (chars text rest) depth scope ts s f h =
    let j = h.2 in
    let parts = formed-parts j.front j.rest (subst AreFormed j.splits f) in
    (h.0, runs-allowed text j.front parts.0 j.first, h.1, nodes-sound rest depth scope j.rest s parts.1 j.second)
nodes-sound (elem head children rest) depth scope ts s f j =
    let parts = formed-parts j.front j.rest (subst AreFormed j.splits f) in
    let k = j.second in
    let more = formed-parts k.front k.rest (subst AreFormed k.splits parts.1) in
    let e = k.first in
    let i = in-tags e.tag children (Spells children e.below head.scope) k.front more.0 e.tags in
    let hs = head-sound scope e.tag head s i.tag_formed e.heads in
    (e.below, e.deep, hs, by_holds e.below (λ ts' f' h'. nodes-sound children e.below head.scope ts' (scope-sound head hs) f' h') i.holds, nodes-sound rest depth scope k.rest s more.1 k.second) where
      by_holds : (below : ℕ) → ((ts' : List Token) → AreFormed ts' → Spells children below head.scope ts' → AreSound below children)
          → (children ≡ none) ⊎ ((inner : List Token) × AreFormed inner × Spells children below head.scope inner) → AreSound below children
      by_holds below ih (inl e) = subst (AreSound below) (sym e) tt
      by_holds below ih (inr x) = ih x.0 x.1 x.2

pub page-nodes-sound : (t : Tree) (depth : ℕ) (ts : List Token) → AreFormed ts → SpellsPage t depth ts → AreSound depth (elem t.head t.children none)
page-nodes-sound t depth ts f j =
    let parts = formed-parts j.front j.rest (subst AreFormed j.splits f) in
    let k = j.second in
    let more = formed-parts k.front k.rest (subst AreFormed k.splits parts.1) in
    let e = k.first in
    let i = in-tags e.tag t.children (Spells t.children e.below t.head.scope) k.front more.0 e.tags in
    let hs = head-sound outermost e.tag t.head outermost-sound i.tag_formed e.heads in
    (e.below, e.deep, hs, by_holds e.below i.holds (scope-sound t.head hs), tt) where
      by_holds : (below : ℕ) → (t.children ≡ none) ⊎ ((inner : List Token) × AreFormed inner × Spells t.children below t.head.scope inner) → IsSoundScope t.head.scope → AreSound below t.children
      by_holds below (inl e) s = subst (AreSound below) (sym e) tt
      by_holds below (inr x) s = nodes-sound t.children below t.head.scope x.0 s x.1 x.2
