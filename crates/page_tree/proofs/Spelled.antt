-- What spells a tree, the machine builds.
use Rattle.std.proofs.Common.{◌≡◌, ◌≢◌, ℕ, ◌+◌, ◌<◌, ◌⊎◌, inl, inr, Bool, true, false, ◌&&◌, List, [], ◌∷◌, ◌++◌, length, map, Option, Some, None, option_and_then, refl, sym, ap, ◌∙◌, arith, append_assoc, append-nil, zero-add}
use Rattle.ix_base.specs.Sound.{IsApart}
use Rattle.ix_base.specs.Trees.{Head, Bound, Nodes, none, chars, elem, Tree}
use Rattle.page_constructs.specs.Tokens.{Tag, Token, start, empty, close, words, refer, section, declaration, doctype, silent}
use Rattle.page_tree.specs.Tags.{opened}
use Rattle.page_tree.specs.Page.{AreRuns, AreBefore, AreBehind, IsElement, Spells, SpellsPage}
use Rattle.page_tree.specs.Break.{Outline, broken_by, inner_scope}
use Rattle.page_tree.specs.Machine.{Frame, State, begin, outlined, outline_of, is_rooted, append, flush, flushed, scope_in, closed, moved, step, steps, built}
use Rattle.page_tree.proofs.TagLaws.{kept_tag, opened-fair, same_name}

abbrev pub st : List Frame → List ℕ → Option Tree → Bool → State
st fs t root d = record { frames = fs; text = t; root = root; doctyped = d }

pub append-none : (a : Nodes) → append a none ≡ a
append-none none = refl
append-none (chars t rest) = ap (λ n. chars t n) (append-none rest)
append-none (elem h k rest) = ap (λ n. elem h k n) (append-none rest)

pub append-append : (a b c : Nodes) → append (append a b) c ≡ append a (append b c)
append-append none b c = refl
append-append (chars t rest) b c = ap (λ n. chars t n) (append-append rest b c)
append-append (elem h k rest) b c = ap (λ n. elem h k n) (append-append rest b c)

-- what is done and what is pending behind some nodes
abbrev pub land : Nodes → List ℕ → Nodes → Nodes × List ℕ
land d t none = (d, t)
land d t (chars s rest) = land d (t ++ s) rest
land d t (elem h k rest) = land (append (flush d t) (elem h k none)) [] rest

abbrev pub Proper : Nodes → Type 0
Proper none = Unit {0}
Proper (chars s rest) = (s ≢ []) × IsApart rest × Proper rest
Proper (elem h k rest) = Proper rest

pub proper : (ns : Nodes) (depth : ℕ) (scope : List Bound) (ts : List Token) → Spells ns depth scope ts → Proper ns
proper none depth scope ts s = tt
proper (chars t rest) depth scope ts s = (s.0, s.1, proper rest depth scope s.2.rest s.2.second)
proper (elem h k rest) depth scope ts s = proper rest depth scope s.second.rest s.second.second

flush-append : (d : Nodes) (s : List ℕ) (rest : Nodes) → s ≢ [] → append (flush d s) rest ≡ append d (chars s rest)
flush-append d [] rest h = absurd (h refl)
flush-append d (c ∷ cs) rest h = append-append d (chars (c ∷ cs) none) rest

pub landed : (k d : Nodes) (t : List ℕ) → Proper k → (t ≡ []) ⊎ IsApart k → flush (land d t k).0 (land d t k).1 ≡ append (flush d t) k
landed none d t p a = sym (append-none (flush d t))
landed (chars s rest) d t p (inr a) = absurd a
landed (chars s rest) d t p (inl e) =
    landed rest d (t ++ s) p.2 (inr p.1) ∙ rw e (flush-append d s rest p.0)
landed (elem h k rest) d t p a =
    landed rest (append (flush d t) (elem h k none)) [] p (inl refl) ∙ append-append (flush d t) (elem h k none) rest

pub scope-outlined : (fs : List Frame) → inner_scope (map outlined fs) ≡ scope_in fs
scope-outlined [] = refl
scope-outlined (f ∷ fs) = refl

pub length-outlined : (fs : List Frame) → length (map outlined fs) ≡ length fs
length-outlined [] = refl
length-outlined (f ∷ fs) = let e = length-outlined fs in omega arith

pub length-flushed : (fs : List Frame) (t : List ℕ) → length (flushed fs t) ≡ length fs
length-flushed [] t = refl
length-flushed (f ∷ fs) t = refl

pub scope-flushed : (fs : List Frame) (t : List ℕ) → scope_in (flushed fs t) ≡ scope_in fs
scope-flushed [] t = refl
scope-flushed (f ∷ fs) t = refl

-- an element may begin: it is no second root
abbrev pub MayBegin : List Frame → Option Tree → Type 0
MayBegin [] None = Unit {0}
MayBegin [] (Some t) = ⊥
MayBegin (f ∷ fs) root = Unit {0}

module _ (n : ℕ) where
  pub steps-append : (a b : List Token) (s : State) → steps n s (a ++ b) ≡ option_and_then (λ m. steps n m b) (steps n s a)
  steps-append [] b s = refl
  steps-append (t ∷ a) b s =
      elim (step n s t) as (λ o. option_and_then (λ m. steps n m (a ++ b)) o
      ≡ option_and_then (λ m. steps n m b) (option_and_then (λ m. steps n m a) o))
      [ None ↦ refl | Some m ↦ steps-append a b m ]

  pub then-steps : (a b : List Token) (s m : State) → steps n s a ≡ Some m → steps n s (a ++ b) ≡ steps n m b
  then-steps a b s m e = steps-append a b s ∙ ap (λ o. option_and_then (λ x. steps n x b) o) e

  runs-in : (ts : List Token) (f : Frame) (fs : List Frame) (t text : List ℕ) (root : Option Tree) (d : Bool) → AreRuns text ts
      → steps n (st (f ∷ fs) t root d) ts ≡ Some (st (f ∷ fs) (t ++ text) root d)
  unfolding broken_by moved
  runs-in [] f fs t text root d e = rw (e, append-nil) refl
  runs-in (words cs ∷ ts) f fs t text root d r = runs-in ts f fs (t ++ cs) r.0 root d r.2 ∙ ap (λ x. Some (st (f ∷ fs) x root d)) (append_assoc t cs r.0 ∙ ap (λ x. t ++ x) (sym r.1))
  runs-in (refer None ∷ ts) f fs t text root d r = absurd r
  runs-in (refer (Some cs) ∷ ts) f fs t text root d r = runs-in ts f fs (t ++ cs) r.0 root d r.2 ∙ ap (λ x. Some (st (f ∷ fs) x root d)) (append_assoc t cs r.0 ∙ ap (λ x. t ++ x) (sym r.1))
  runs-in (section cs ∷ ts) f fs t text root d r = runs-in ts f fs (t ++ cs) r.0 root d r.2 ∙ ap (λ x. Some (st (f ∷ fs) x root d)) (append_assoc t cs r.0 ∙ ap (λ x. t ++ x) (sym r.1))
  runs-in (declaration v e ∷ ts) f fs t text root d r = rw r.0 (runs-in ts f fs t text root d r.1)
  runs-in (silent ∷ ts) f fs t text root d r = runs-in ts f fs t text root d r
  runs-in (doctype s ∷ ts) f fs t text root d r = absurd r
  runs-in (start g ∷ ts) f fs t text root d r = absurd r
  runs-in (empty g ∷ ts) f fs t text root d r = absurd r
  runs-in (close m ∷ ts) f fs t text root d r = absurd r

  behind : (ts : List Token) (t : List ℕ) (root : Option Tree) (d : Bool) → AreBehind ts → steps n (st [] t root d) ts ≡ Some (st [] t root d)
  unfolding broken_by moved
  behind [] t root d e = refl
  behind (words cs ∷ ts) t root d r = rw r.0 (behind ts t root d r.1)
  behind (silent ∷ ts) t root d r = behind ts t root d r
  behind (declaration v e ∷ ts) t root d r = rw r.0 (behind ts t root d r.1)
  behind (refer c ∷ ts) t root d r = absurd r
  behind (section cs ∷ ts) t root d r = absurd r
  behind (doctype s ∷ ts) t root d r = absurd r
  behind (start g ∷ ts) t root d r = absurd r
  behind (empty g ∷ ts) t root d r = absurd r
  behind (close m ∷ ts) t root d r = absurd r

  front : (ts : List Token) (d : Bool) → AreBefore d ts → (e : Bool) × (steps n (st [] [] None d) ts ≡ Some (st [] [] None e))
  unfolding broken_by moved
  front [] d e = (d, refl)
  front (words cs ∷ ts) d r = let m = front ts d r.1 in (m.0, rw r.0 m.1)
  front (silent ∷ ts) d r = front ts d r
  front (declaration v e ∷ ts) d r = let m = front ts d r.1 in (m.0, rw r.0 m.1)
  front (doctype true ∷ ts) true r = absurd r
  front (doctype true ∷ ts) false r = absurd r
  front (doctype false ∷ ts) true r = absurd r
  front (doctype false ∷ ts) false r = front ts true r
  front (refer c ∷ ts) d r = absurd r
  front (section cs ∷ ts) d r = absurd r
  front (start g ∷ ts) d r = absurd r
  front (empty g ∷ ts) d r = absurd r
  front (close m ∷ ts) d r = absurd r

  first-kept : (fs : List Frame) (t : List ℕ) (root : Option Tree) (d : Bool) → MayBegin fs root
      → (Rattle.page_tree.specs.Break.is_outside (outline_of (st fs t root d)) && is_rooted fs root) ≡ false
  first-kept [] t None d m = refl
  first-kept [] t (Some x) d m = absurd m
  first-kept (f ∷ fs) t root d m = refl

  kept : (fs : List Frame) (t : List ℕ) (root : Option Tree) (d : Bool) (h : Head) (tag : Tag) → length fs < n → MayBegin fs root → opened (scope_in fs) tag ≡ Some h
      → Rattle.page_tree.specs.Break.broken_by_tag n (outline_of (st fs t root d)) tag ≡ None
  kept fs t root d h tag room m o =
      let f = (opened-fair (scope_in fs) tag h o).0 in
      kept_tag n (outline_of (st fs t root d)) tag (record {
        fair = rw (scope-outlined fs) f;
        room = rw (length-outlined fs) room;
        first = first-kept fs t root d m;
      })

  -- what spells an element puts it where it stands, where what spells its children puts them there
  element : (depth : ℕ) (fs : List Frame) (t : List ℕ) (root : Option Tree) (d : Bool) (h : Head) (k : Nodes) (own : List Token)
      → ((below : ℕ) (g : Frame) (gs : List Frame) (inner : List Token) → length (g ∷ gs) + below ≡ n → Spells k below g.head.scope inner
      → steps n (st (g ∷ gs) [] root d) inner ≡ Some (st (record g { done = (land g.done [] k).0 } ∷ gs) (land g.done [] k).1 root d))
      → length fs + depth ≡ n → MayBegin fs root
      → IsElement depth (scope_in fs) h k (λ below. Spells k below h.scope) own
      → steps n (st fs t root d) own ≡ Some (closed (flushed fs t) h k root d)
  unfolding broken_by moved
  element depth fs t root d h k own ih size may e =
      let room : length fs < n = omega (arith, e.deep) in
      let is = (opened-fair (scope_in fs) e.tag h e.heads).1 in
      let ok = kept fs t root d h e.tag room may e.heads in
      elim e.tags as (λ x. steps n (st fs t root d) own ≡ Some (closed (flushed fs t) h k root d)) [
        | inl one ↦ rw (one.0, one.1, ok, is) refl
        | inr two ↦
            let frame : Frame = record { written = e.tag.name; head = h; done = none } in
            let inside = ih e.below frame (flushed fs t) two.0 (let l = length-flushed fs t in omega (arith, e.deep)) two.2 in
            let whole_kids = landed k none [] (proper k e.below h.scope two.0 two.2) (inl refl) in
            rw (two.1, ok, is)
            (then-steps two.0 (close e.tag.name ∷ []) _ _ inside ∙ rw (same_name e.tag.name, whole_kids) refl)
      ]

  pub spelled : (ns : Nodes) (depth : ℕ) (f : Frame) (fs : List Frame) (t : List ℕ) (root : Option Tree) (d : Bool) (ts : List Token)
      → length (f ∷ fs) + depth ≡ n → Spells ns depth f.head.scope ts
      → steps n (st (f ∷ fs) t root d) ts ≡ Some (st (record f { done = (land f.done t ns).0 } ∷ fs) (land f.done t ns).1 root d)
  spelled none depth f fs t root d ts size s = runs-in ts f fs t [] root d s ∙ ap (λ x. Some (st (f ∷ fs) x root d)) (append-nil t)
  spelled (chars x rest) depth f fs t root d ts size s =
      let j = s.2 in
      rw j.splits (then-steps j.front j.rest _ _ (runs-in j.front f fs t x root d j.first) ∙ spelled rest depth f fs (t ++ x) root d j.rest size j.second)
  spelled (elem h k rest) depth f fs t root d ts size s =
      let own = s.second in
      rw (s.splits, own.splits) (
      then-steps s.front (own.front ++ own.rest) _ _ (runs-in s.front f fs t [] root d s.first ∙ ap (λ x. Some (st (f ∷ fs) x root d)) (append-nil t))
      ∙ then-steps own.front own.rest _ _ (element depth (f ∷ fs) t root d h k own.front (λ below g gs inner. spelled k below g gs [] root d inner) size tt own.first)
      ∙ spelled rest depth (record f { done = append (flush f.done t) (elem h k none) }) fs [] root d own.rest size own.second)

  pub page_built : (ts : List Token) (t : Tree) → SpellsPage t n ts → built n ts ≡ Some t
  page_built ts t p =
      let own = p.second in
      let before = front p.front false p.first in
      let end : steps n begin ts ≡ Some (st [] [] (Some t) before.0) =
      rw (p.splits, own.splits) (
      then-steps p.front (own.front ++ own.rest) _ _ before.1
      ∙ then-steps own.front own.rest _ _ (element n [] [] None before.0 t.head t.children own.front (λ below g gs inner. spelled t.children below g gs [] None before.0 inner) (zero-add n) tt own.first)
      ∙ behind own.rest [] (Some t) before.0 own.second) in
      rw end refl
