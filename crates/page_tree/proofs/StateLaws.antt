-- What a tag breaks behind some state, and the states behind the steps.
use Rattle.std.proofs.Common.{◌≡◌, ◌≢◌, ℕ, ◌<◌, ◌≤◌, nat_lt, true, false, ◌&&◌, not, List, [], ◌∷◌, ◌++◌, length, map, Option, Some, None, refl, sym, ap, ◌∙◌}
use Rattle.std.proofs.lemmas.Bool.{lt-ltb, le-ltb}
use Rattle.ix_base.specs.Trees.{Bound, Tree, none}
use Rattle.ix_base.specs.declared.rule.Rule.{Rule}
use Rattle.ix_base.specs.declared.rule.Rule.TheVariants.{W10, W12}
use Rattle.page_tree.specs.Break.{is_outside, inner_scope, broken_or, broken_by_tag}
use Rattle.page_tree.specs.Machine.{Frame, State, outlined, outline_of, scope_in, flushed, closed, opening, closing}
use Rattle.page_tree.specs.Stacks.{frame, frames_of}
use Rattle.page_tree.specs.Tags.{scope_of, tag_break, head_of}
use Rattle.page_constructs.specs.Tokens.{Tag}
use Rattle.page_tree.specs.declared.opened.Open.{Open}
use Rattle.page_tree.proofs.Spelled.{st, scope-outlined, length-outlined}
use Rattle.page_tree.proofs.StackLaws.{frames-snoc, pushed-frames}
use Rattle.page_tree.proofs.TagLaws.{tag-broken, tag-unbroken}

module _ (n : ℕ) (s : State) (t : Tag) (scope : List Bound) (e : scope ≡ scope_of (scope_in s.frames) t) where
  same : scope ≡ scope_of (inner_scope (map outlined s.frames)) t
  same = e ∙ ap (λ x. scope_of x t) (sym (scope-outlined s.frames))

  pub state-broken : (r : Rule) → tag_break scope t ≡ Some r → broken_by_tag n (outline_of s) t ≡ Some r
  state-broken r h = tag-broken n (outline_of s) t r (ap (λ x. tag_break x t) (sym same) ∙ h)

  rest : tag_break scope t ≡ None
      → broken_by_tag n (outline_of s) t ≡ broken_or (not (nat_lt (length s.frames) n)) W10 (broken_or (is_outside (outline_of s) && (outline_of s).rooted) W12 None)
  rest h =
      tag-unbroken n (outline_of s) t (ap (λ x. tag_break x t) (sym same) ∙ h)
      ∙ ap (λ l. broken_or (not (nat_lt l n)) W10 (broken_or (is_outside (outline_of s) && (outline_of s).rooted) W12 None)) (length-outlined s.frames)

  pub state-deep : tag_break scope t ≡ None → n ≤ length s.frames → broken_by_tag n (outline_of s) t ≡ Some W10
  state-deep h l = rest h ∙ rw (le-ltb (length s.frames) n l) refl

  pub state-second : tag_break scope t ≡ None → length s.frames < n → (is_outside (outline_of s) && (outline_of s).rooted) ≡ true
      → broken_by_tag n (outline_of s) t ≡ Some W12
  state-second h l o = rest h ∙ rw (lt-ltb (length s.frames) n l, o) refl

  pub state-fine : tag_break scope t ≡ None → length s.frames < n → (is_outside (outline_of s) && (outline_of s).rooted) ≡ false
      → broken_by_tag n (outline_of s) t ≡ None
  state-fine h l o = rest h ∙ rw (lt-ltb (length s.frames) n l, o) refl

-- an element is pushed on the stack, whose text has become a child
pub opening-is : (s : State) (t : Tag) (mid more : List Open) (o : Open) (text : List ℕ) → more ≡ mid ++ o ∷ []
    → frames_of mid ≡ flushed s.frames s.text → frame o ≡ record { written = t.name; head = head_of (scope_in s.frames) t; done = none }
    → text ≡ [] → st (frames_of more) text s.root s.doctyped ≡ opening s t
opening-is s t mid more o text m f e n =
    ap (λ fs. st fs text s.root s.doctyped)
    (pushed-frames mid more o m ∙ ap (λ g. g ∷ frames_of mid) e ∙ ap (λ fs. record { written = t.name; head = head_of (scope_in s.frames) t; done = none } ∷ fs) f)
    ∙ ap (λ x. st (record { written = t.name; head = head_of (scope_in s.frames) t; done = none } ∷ flushed s.frames s.text) x s.root s.doctyped) n

-- the innermost open element, whose text has become a child, ends
abbrev popped : List Frame → State → State
popped [] s = s
popped (f ∷ fs) s = closed fs f.head f.done s.root s.doctyped

popped-flushed : (fs : List Frame) (s : State) → popped (flushed fs s.text) s ≡ closing fs s
popped-flushed [] s = refl
popped-flushed (f ∷ fs) s = refl

-- its text has become a child, it is popped, and it is put where it belongs
pub closing-is : (s : State) (rest mid : List Open) (own : Open) (t : Tree) (fs : List Frame) (text : List ℕ) (root : Option Tree)
    → mid ≡ rest ++ own ∷ [] → frames_of mid ≡ flushed s.frames s.text → t ≡ record { head = (frame own).head; children = (frame own).done }
    → closed (frames_of rest) t.head t.children s.root s.doctyped ≡ st fs [] root s.doctyped → text ≡ []
    → st fs text root s.doctyped ≡ closing s.frames s
closing-is s rest mid own t fs text root a e u p n =
    ap (λ x. st fs x root s.doctyped) n ∙ sym p
    ∙ ap (λ (x : Tree). closed (frames_of rest) x.head x.children s.root s.doctyped) u
    ∙ ap (λ x. popped x s) (sym (ap frames_of a ∙ frames-snoc [] rest own) ∙ e)
    ∙ popped-flushed s.frames s

-- where no element is open once the text has become a child, none was
pub flushed-none : (fs : List Frame) (text : List ℕ) → flushed fs text ≡ [] → fs ≡ []
flushed-none [] text e = refl
flushed-none (f ∷ fs) text e = absurd (cc)

pub some-last : (rest : List Open) (o : Open) → rest ++ o ∷ [] ≢ []
some-last [] o e = absurd (cc)
some-last (p ∷ rest) o e = absurd (cc)
