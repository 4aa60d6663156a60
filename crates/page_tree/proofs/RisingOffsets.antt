-- The offsets of a page's elements rise in document order.
use Rattle.std.proofs.Common.{◌≡◌, inl, inr, ℕ, suc, zero, ◌<◌, ◌≤◌, Bool, true, false, List, [], ◌∷◌, ◌++◌, length, map, drop, Some, None, refl, sym, ap, ◌∙◌, subst, arith, append-nil}
use Rattle.ix_base.specs.Trees.{Bound, Head, Nodes, none, chars, elem, Tree}
use Rattle.ix_base.specs.Sound.{Rise, offsets_of}
use Rattle.ix_base.specs.Scope.{outermost}
use Rattle.page_constructs.specs.Constructs.{Byte, Construct, values, whole_size, cut_at, cut_from, construct}
use Rattle.page_constructs.specs.Forms.{HasForm}
use Rattle.page_tree.specs.Page.{AreRuns, AreBehind, AreBefore, HasTags, Spells, SpellsPage, AllMean}
use Rattle.page_tree.specs.Tags.{opened}
use Rattle.page_constructs.specs.Tokens.{Tag, Token, start, empty, close, words, refer, section, declaration, doctype, silent}
use Rattle.page_constructs.specs.declared.kind.Kind.{Kind}
use Rattle.page_constructs.specs.declared.kind.Kind.TheVariants.{StartTag}
use Rattle.page_tree.proofs.PageMarks.{BytesClimb, lower-bytes}
use Rattle.page_tree.proofs.PieceLaws.{whole-takes}
use Rattle.page_tree.proofs.TagLaws.{opened-fair}

-- numbers from one on, each above the one before it
abbrev pub Climb : ℕ → List ℕ → Type 0
Climb at [] = Unit {0}
Climb at (n ∷ ns) = (at ≤ n) × Climb (suc n) ns

lower : (low at : ℕ) (ns : List ℕ) → low ≤ at → Climb at ns → Climb low ns
lower low at [] l c = tt
lower low at (n ∷ ns) l c = ((let z = c.0 in omega arith), c.1)

pub climb-rise : (at : ℕ) (ns : List ℕ) → Climb at ns → Rise ns
climb-rise at [] c = tt
climb-rise at (n ∷ []) c = tt
climb-rise at (n ∷ m ∷ ns) c = ((let z = c.1.0 in omega arith), climb-rise (suc n) (m ∷ ns) c.1)

-- the starts of constructs
abbrev pub starts_of : List Construct → List ℕ
starts_of cs = map (λ c. c.start) cs

dropped-climbs : (at k : ℕ) (us : List Byte) → BytesClimb at us → BytesClimb at (drop k us)
dropped-climbs at zero us c = c
dropped-climbs at (suc k) [] c = tt
dropped-climbs at (suc k) (u ∷ us) c = lower-bytes at (suc u.at) (drop k us) (let z = c.0 in omega arith) (dropped-climbs (suc u.at) k us c.1)

pub cut-climbs : (n at : ℕ) (ended first : Bool) (us : List Byte) → BytesClimb at us → Climb at (starts_of (cut_from n ended first us).constructs)
unfolding cut_from
cut-climbs zero at ended first us c = tt
cut-climbs (suc n) at ended first us c = (elim (whole_size ended first (values us)) as (λ o. whole_size ended first (values us) ≡ o → Climb at (starts_of (cut_at o first us (cut_from n ended false)).constructs)) [
  | None ↦ λ e. tt
  | Some k ↦ λ e. (let z = whole-takes ended first (values us) k e in by_front (λ low vs d. cut-climbs n low ended false vs d) us k c z.0 z.1)
]) refl where
  by_front : ((low : ℕ) (vs : List Byte) → BytesClimb low vs → Climb low (starts_of (cut_from n ended false vs).constructs)) → (vs : List Byte) (k : ℕ) → BytesClimb at vs → 0 < k → k ≤ length (values vs)
      → Climb at ((construct first k vs).start ∷ starts_of (cut_from n ended false (drop k vs)).constructs)
  by_front on [] k d low high = absurd (omega arith)
  by_front on (u ∷ vs) zero d low high = absurd (omega arith)
  by_front on (u ∷ vs) (suc k) d low high = (d.0, on (suc u.at) (drop k vs) (dropped-climbs (suc u.at) k vs d.1))

-- the offsets of tags that begin an element
abbrev pub tag_offsets : List Token → List ℕ
tag_offsets [] = []
tag_offsets (start t ∷ ts) = t.offset ∷ tag_offsets ts
tag_offsets (empty t ∷ ts) = t.offset ∷ tag_offsets ts
tag_offsets (t ∷ ts) = tag_offsets ts

starts-at : (kind : Kind) (at : ℕ) (text : List ℕ) (t : Tag) → HasForm kind at text (start t) → t.offset ≡ at
starts-at StartTag at text t h = h.3
starts-at kind at text t h = absurd h

stands-at : (kind : Kind) (at : ℕ) (text : List ℕ) (t : Tag) → HasForm kind at text (empty t) → t.offset ≡ at
stands-at StartTag at text t h = h.3
stands-at kind at text t h = absurd h

tagged : (at : ℕ) (c : Construct) (more : List ℕ) (offset : ℕ) → offset ≡ c.start → at ≤ c.start → Climb (suc c.start) more → Climb at (offset ∷ more)
tagged at c more offset e l h = (omega arith, subst (λ n. Climb (suc n) more) (sym e) h)

pub tokens-climb : (at : ℕ) (cs : List Construct) (ts : List Token) → AllMean cs ts → Climb at (starts_of cs) → Climb at (tag_offsets ts)
tokens-climb at [] [] m c = tt
tokens-climb at [] (t ∷ ts) m c = absurd m
tokens-climb at (x ∷ cs) [] m c = absurd m
tokens-climb at (x ∷ cs) (start t ∷ ts) m c = tagged at x (tag_offsets ts) t.offset (starts-at x.kind x.start x.text t m.0) c.0 (tokens-climb (suc x.start) cs ts m.1 c.1)
tokens-climb at (x ∷ cs) (empty t ∷ ts) m c = tagged at x (tag_offsets ts) t.offset (stands-at x.kind x.start x.text t m.0) c.0 (tokens-climb (suc x.start) cs ts m.1 c.1)
tokens-climb at (x ∷ cs) (close n ∷ ts) m c = lower at (suc x.start) (tag_offsets ts) (let z = c.0 in omega arith) (tokens-climb (suc x.start) cs ts m.1 c.1)
tokens-climb at (x ∷ cs) (words w ∷ ts) m c = lower at (suc x.start) (tag_offsets ts) (let z = c.0 in omega arith) (tokens-climb (suc x.start) cs ts m.1 c.1)
tokens-climb at (x ∷ cs) (refer o ∷ ts) m c = lower at (suc x.start) (tag_offsets ts) (let z = c.0 in omega arith) (tokens-climb (suc x.start) cs ts m.1 c.1)
tokens-climb at (x ∷ cs) (section w ∷ ts) m c = lower at (suc x.start) (tag_offsets ts) (let z = c.0 in omega arith) (tokens-climb (suc x.start) cs ts m.1 c.1)
tokens-climb at (x ∷ cs) (declaration v e ∷ ts) m c = lower at (suc x.start) (tag_offsets ts) (let z = c.0 in omega arith) (tokens-climb (suc x.start) cs ts m.1 c.1)
tokens-climb at (x ∷ cs) (doctype b ∷ ts) m c = lower at (suc x.start) (tag_offsets ts) (let z = c.0 in omega arith) (tokens-climb (suc x.start) cs ts m.1 c.1)
tokens-climb at (x ∷ cs) (silent ∷ ts) m c = lower at (suc x.start) (tag_offsets ts) (let z = c.0 in omega arith) (tokens-climb (suc x.start) cs ts m.1 c.1)

offsets-append : (a b : List Token) → tag_offsets (a ++ b) ≡ tag_offsets a ++ tag_offsets b
offsets-append [] b = refl
offsets-append (start t ∷ a) b = ap (λ x. t.offset ∷ x) (offsets-append a b)
offsets-append (empty t ∷ a) b = ap (λ x. t.offset ∷ x) (offsets-append a b)
offsets-append (close n ∷ a) b = offsets-append a b
offsets-append (words w ∷ a) b = offsets-append a b
offsets-append (refer o ∷ a) b = offsets-append a b
offsets-append (section w ∷ a) b = offsets-append a b
offsets-append (declaration v e ∷ a) b = offsets-append a b
offsets-append (doctype d ∷ a) b = offsets-append a b
offsets-append (silent ∷ a) b = offsets-append a b

runs-none : (text : List ℕ) (ts : List Token) → AreRuns text ts → tag_offsets ts ≡ []
runs-none text [] r = refl
runs-none text (declaration v e ∷ ts) r = runs-none text ts r.1
runs-none text (words w ∷ ts) r = runs-none r.0 ts r.2
runs-none text (refer (Some c) ∷ ts) r = runs-none r.0 ts r.2
runs-none text (section w ∷ ts) r = runs-none r.0 ts r.2
runs-none text (silent ∷ ts) r = runs-none text ts r
runs-none text (refer None ∷ ts) r = absurd r
runs-none text (start t ∷ ts) r = absurd r
runs-none text (empty t ∷ ts) r = absurd r
runs-none text (close n ∷ ts) r = absurd r
runs-none text (doctype b ∷ ts) r = absurd r

behind-none : (ts : List Token) → AreBehind ts → tag_offsets ts ≡ []
behind-none [] r = refl
behind-none (words w ∷ ts) r = behind-none ts r.1
behind-none (silent ∷ ts) r = behind-none ts r
behind-none (declaration v e ∷ ts) r = behind-none ts r.1
behind-none (refer o ∷ ts) r = absurd r
behind-none (section w ∷ ts) r = absurd r
behind-none (start t ∷ ts) r = absurd r
behind-none (empty t ∷ ts) r = absurd r
behind-none (close n ∷ ts) r = absurd r
behind-none (doctype b ∷ ts) r = absurd r

before-none : (d : Bool) (ts : List Token) → AreBefore d ts → tag_offsets ts ≡ []
before-none d [] r = refl
before-none d (words w ∷ ts) r = before-none d ts r.1
before-none d (silent ∷ ts) r = before-none d ts r
before-none d (declaration v e ∷ ts) r = before-none d ts r.1
before-none false (doctype false ∷ ts) r = before-none true ts r
before-none false (doctype true ∷ ts) r = absurd r
before-none true (doctype b ∷ ts) r = absurd r
before-none d (refer o ∷ ts) r = absurd r
before-none d (section w ∷ ts) r = absurd r
before-none d (start t ∷ ts) r = absurd r
before-none d (empty t ∷ ts) r = absurd r
before-none d (close n ∷ ts) r = absurd r

head-offset : (scope : List Bound) (t : Tag) (h : Head) → opened scope t ≡ Some h → t.offset ≡ h.offset
head-offset scope t h e = ap (λ x. x.offset) (opened-fair scope t h e).1

-- an element's tags, by what stands between them
tags-offsets : (tag : Tag) (children : Nodes) (Inner : List Token → Type 0) (ts : List Token) → ((inner : List Token) → Inner inner → offsets_of children ≡ tag_offsets inner) → HasTags tag children Inner ts
    → tag_offsets ts ≡ tag.offset ∷ offsets_of children
tags-offsets tag children Inner ts ih (inl h) = ap tag_offsets h.0 ∙ ap (λ x. tag.offset ∷ offsets_of x) (sym h.1)
tags-offsets tag children Inner ts ih (inr h) =
    ap tag_offsets h.1 ∙ ap (λ x. tag.offset ∷ x) (offsets-append h.0 (close tag.name ∷ []) ∙ append-nil (tag_offsets h.0) ∙ sym (ih h.0 h.2))

nodes-offsets : (ns : Nodes) (depth : ℕ) (scope : List Bound) (ts : List Token) → Spells ns depth scope ts → offsets_of ns ≡ tag_offsets ts
nodes-offsets none depth scope ts h = sym (runs-none [] ts h)
nodes-offsets (chars text rest) depth scope ts h =
    let j = h.2 in
    nodes-offsets rest depth scope j.rest j.second
    ∙ sym (ap tag_offsets j.splits ∙ offsets-append j.front j.rest ∙ ap (λ x. x ++ tag_offsets j.rest) (runs-none text j.front j.first))
nodes-offsets (elem head children rest) depth scope ts j =
    let k = j.second in
    let e = k.first in
    let here = tags-offsets e.tag children (Spells children e.below head.scope) k.front (λ inner s. nodes-offsets children e.below head.scope inner s) e.tags in
    let more = nodes-offsets rest depth scope k.rest k.second in
    sym (ap tag_offsets j.splits ∙ offsets-append j.front j.rest ∙ ap (λ x. x ++ tag_offsets j.rest) (runs-none [] j.front j.first)
    ∙ ap tag_offsets k.splits ∙ offsets-append k.front k.rest ∙ ap (λ x. x ++ tag_offsets k.rest) (here ∙ ap (λ x. x ∷ offsets_of children) (head-offset scope e.tag head e.heads))
    ∙ ap (λ x. head.offset ∷ (offsets_of children ++ x)) (sym more))

pub page-offsets : (t : Tree) (depth : ℕ) (ts : List Token) → SpellsPage t depth ts → offsets_of (elem t.head t.children none) ≡ tag_offsets ts
page-offsets t depth ts j =
    let k = j.second in
    let e = k.first in
    let here = tags-offsets e.tag t.children (Spells t.children e.below t.head.scope) k.front (λ inner s. nodes-offsets t.children e.below t.head.scope inner s) e.tags in
    sym (ap tag_offsets j.splits ∙ offsets-append j.front j.rest ∙ ap (λ x. x ++ tag_offsets j.rest) (before-none false j.front j.first)
    ∙ ap tag_offsets k.splits ∙ offsets-append k.front k.rest ∙ ap (λ x. x ++ tag_offsets k.rest) (here ∙ ap (λ x. x ∷ offsets_of t.children) (head-offset outermost e.tag t.head e.heads))
    ∙ ap (λ x. t.head.offset ∷ (offsets_of t.children ++ x)) (behind-none k.rest k.second))
