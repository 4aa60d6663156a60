-- The innermost open element is the last of the stack.
use Rattle.std.proofs.Common.{◌≡◌, ◌≢◌, ℕ, ◌+◌, ◌<◌, Bool, List, [], ◌∷◌, ◌++◌, length, get_or, take, refl, sym, ap, ◌∙◌, arith, Option, Some, None, map, bytes_eq, true, false, ◌==◌, is_some, option_map}
use Rattle.std.proofs.lemmas.Bool.{eq-eqb, ne_eqb}
use Rattle.std.proofs.lemmas.List.{take_more}
use Rattle.std.proofs.Math.Seq.{take-length}
use Rattle.std.specs.List.{filter_map}
use Rattle.ix_base.specs.Scope.{element_name}
use Rattle.ix_base.specs.Trees.{Bound, Named, Valued, Head, Nodes, none, elem, Tree}
use Rattle.page_tree.specs.Break.{is_empty, matches}
use Rattle.page_tree.specs.Machine.{Frame, State, append, flush, flushed, closed, scope_in, running, outlined, is_rooted}
use Rattle.page_tree.specs.Stacks.{frame, frames_onto, frames_of}
use Rattle.page_tree.specs.Tags.{scope_of, valued, head_of}
use Rattle.page_constructs.specs.Tokens.{Tag}
use Rattle.page_tree.specs.declared.opened.Open.{Open}

pub frames-snoc : (fs : List Frame) (os : List Open) (o : Open) → frames_onto fs (os ++ o ∷ []) ≡ frame o ∷ frames_onto fs os
frames-snoc fs [] o = refl
frames-snoc fs (p ∷ os) o = frames-snoc (frame p ∷ fs) os o

pub flushed-snoc : (all rest more : List Open) (old new : Open) (text : List ℕ) → all ≡ rest ++ old ∷ [] → more ≡ rest ++ new ∷ []
    → frame new ≡ record (frame old) { done = flush (frame old).done text } → frames_of more ≡ flushed (frames_of all) text
flushed-snoc all rest more old new text a m e =
    ap frames_of m ∙ frames-snoc [] rest new ∙ ap (λ f. f ∷ frames_of rest) e
    ∙ sym (ap (λ l. flushed (frames_of l) text) a ∙ ap (λ fs. flushed fs text) (frames-snoc [] rest old))

pub put-snoc : (all rest more : List Open) (old new : Open) (h : Head) (k : Nodes) (root : Option Tree) (d : Bool)
    → all ≡ rest ++ old ∷ [] → more ≡ rest ++ new ∷ [] → frame new ≡ record (frame old) { done = append (frame old).done (elem h k none) }
    → closed (frames_of all) h k root d ≡ record { frames = frames_of more; text = []; root = root; doctyped = d }
put-snoc all rest more old new h k root d a m e =
    ap (λ l. closed (frames_of l) h k root d) a
    ∙ ap (λ fs. closed fs h k root d) (frames-snoc [] rest old)
    ∙ ap (λ f. record { frames = f ∷ frames_of rest; text = []; root = root; doctyped = d }) (sym e)
    ∙ ap (λ fs. record { frames = fs; text = []; root = root; doctyped = d }) (sym (frames-snoc [] rest new) ∙ ap frames_of (sym m))

pub length-onto : (os : List Open) (fs : List Frame) → length (frames_onto fs os) ≡ length os + length fs
length-onto [] fs = omega arith
length-onto (o ∷ os) fs = length-onto os (frame o ∷ fs) ∙ omega arith

last-split : (os : List Open) (n : ℕ) (o : Open) → n + 1 ≡ length os → os ≡ take n os ++ get_or os n o ∷ []
last-split os n o h = sym (take-length os) ∙ ap (λ k. take k os) (sym h) ∙ take_more os n o (omega arith)

pub scope-last : (os : List Open) (n : ℕ) (o : Open) → n + 1 ≡ length os → o ≡ get_or os n o
    → (frame o).head.scope ≡ scope_in (frames_of os)
scope-last os n o h e =
    ap (λ p. (frame p).head.scope) e
    ∙ sym (ap (λ l. scope_in (frames_of l)) (last-split os n o h) ∙ ap scope_in (frames-snoc [] (take n os) (get_or os n o)))

onto-some : (os : List Open) (f : Frame) (fs : List Frame) → (g : Frame) × (gs : List Frame) × (frames_onto (f ∷ fs) os ≡ g ∷ gs)
onto-some [] f fs = (f, fs, refl)
onto-some (o ∷ os) f fs = onto-some os (frame o) (f ∷ fs)

pub outside-is : (os : List Open) (n : ℕ) → n ≡ length os → (n == 0) ≡ is_empty (map outlined (frames_of os))
unfolding onto-some
outside-is [] n e = eq-eqb n 0 e
outside-is (o ∷ os) n e = let s = onto-some os (frame o) [] in ne_eqb n 0 (λ z. omega arith) ∙ sym (ap (λ x. is_empty (map outlined x)) s.2)

pub rooted-some : (os : List Open) (root : Option Tree) → 0 < length os → is_rooted (frames_of os) root ≡ true
rooted-some [] root h = absurd (omega arith)
rooted-some (o ∷ os) root h = let s = onto-some os (frame o) [] in ap (λ x. is_rooted x root) s.2

pub matches-last : (os : List Open) (n : ℕ) (o : Open) (name : List ℕ) → n + 1 ≡ length os → o ≡ get_or os n o
    → matches (map outlined (frames_of os)) name ≡ bytes_eq (frame o).written name
matches-last os n o name h e =
    ap (λ l. matches (map outlined (frames_of l)) name) (last-split os n o h)
    ∙ ap (λ fs. matches (map outlined fs) name) (frames-snoc [] (take n os) (get_or os n o))
    ∙ ap (λ p. bytes_eq (frame p).written name) (sym e)

pub rooted-outside : (os : List Open) (root : Option Tree) → is_empty (map outlined (frames_of os)) ≡ true
    → is_some root ≡ is_rooted (frames_of os) root
rooted-outside [] None h = refl
rooted-outside [] (Some t) h = refl
rooted-outside (o ∷ os) root h = let s = onto-some os (frame o) [] in absurd (let z : is_empty (map outlined (frames_of (o ∷ os))) ≡ false = ap (λ x. is_empty (map outlined x)) s.2 in cc)

pub rooted-inside : (os : List Open) (root : Option Tree) → is_empty (map outlined (frames_of os)) ≡ false
    → true ≡ is_rooted (frames_of os) root
rooted-inside [] root h = absurd (cc)
rooted-inside (o ∷ os) root h = let s = onto-some os (frame o) [] in sym (ap (λ x. is_rooted x root) s.2)

pub is_some-map : {A B : Type 0} (f : A → B) (o : Option A) → is_some (option_map f o) ≡ is_some o
is_some-map f None = refl
is_some-map f (Some x) = refl

pub length-frames : (os : List Open) → length (frames_of os) ≡ length os
length-frames os = length-onto os [] ∙ omega arith

pub pushed-frames : (all more : List Open) (o : Open) → more ≡ all ++ o ∷ [] → frames_of more ≡ frame o ∷ frames_of all
pushed-frames all more o m = ap frames_of m ∙ frames-snoc [] all o

pub running-some : (os : List Open) (s : State) (cs : List ℕ) → os ≢ [] → s.frames ≡ frames_of os
    → running s.frames s cs ≡ record s { text = s.text ++ cs }
running-some [] s cs h e = absurd (h refl)
running-some (o ∷ os) s cs h e = let f = onto-some os (frame o) [] in ap (λ x. running x s cs) (e ∙ f.2)

-- the head of an element in its own scope
pub head-is : (outer scope : List Bound) (t : Tag) (attrs : List Valued) (name : Named) → scope ≡ scope_of outer t → name ≡ element_name scope t.name → attrs ≡ filter_map (valued scope) t.attrs
    → ◌≡◌ {A = Head} (record { offset = t.offset; name = name; attrs = attrs; scope = scope }) (head_of outer t)
head-is outer scope t attrs name e n a =
    let named : name ≡ element_name (scope_of outer t) t.name = n ∙ ap (λ s. element_name s t.name) e in
    let kept : attrs ≡ filter_map (valued (scope_of outer t)) t.attrs = a ∙ ap (λ s. filter_map (valued s) t.attrs) e in
    λ i. record { offset = t.offset; name = named i; attrs = kept i; scope = e i }
