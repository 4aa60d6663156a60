-- The walk that finds the first break goes as the machine goes.
use Rattle.std.proofs.Common.{◌≡◌, ℕ, Bool, List, [], ◌∷◌, length, Option, Some, None, option_and_then, Result, Ok, Err, refl, sym, ap, ◌∙◌}
use Rattle.ix_base.specs.Trees.{Tree}
use Rattle.page_text.specs.declared.TextFault.{TextFault}
use Rattle.page_text.specs.declared.TextFault.TheVariants.{BadBytes, BadChar, NoMemory}
use Rattle.page_text.specs.Characters.{stop}
use Rattle.page_constructs.specs.Constructs.{Construct, Byte, cut}
use Rattle.page_constructs.specs.Meanings.{meant}
use Rattle.page_constructs.specs.Tokens.{Token, start, empty, close, words, refer, section, declaration, doctype, silent}
use Rattle.page_tree.specs.Break.{Outline, Fault, blank, broken_by, outline_behind, walk_past, walk_on, walked, ended, verdict, w}
use Rattle.page_tree.specs.Machine.{Frame, State, begin, outline_of, moved, unless_broken, step, steps, whole, built}
use Rattle.page_tree.proofs.Spelled.{st}
use Rattle.page_tree.proofs.Building.{page_of_built, and-then-some}

-- each construct means the token, as the reading finds it
abbrev pub AllMeant : List Construct → List Token → Type 0
AllMeant [] [] = Unit {0}
AllMeant [] (t ∷ ts) = ⊥
AllMeant (c ∷ cs) [] = ⊥
AllMeant (c ∷ cs) (t ∷ ts) = (meant c ≡ Some t) × AllMeant cs ts

-- the outline behind a construct that breaks nothing is that of the state behind it
pub outline-moved : (n : ℕ) (fs : List Frame) (text : List ℕ) (root : Option Tree) (d : Bool) (t : Token) → broken_by n (outline_of (st fs text root d)) t ≡ None
    → outline_of (moved (st fs text root d) t) ≡ outline_behind (outline_of (st fs text root d)) t
unfolding broken_by moved outline_behind
outline-moved n [] text root d (start t) e = refl
outline-moved n (f ∷ fs) text root d (start t) e = refl
outline-moved n [] text root d (empty t) e = refl
outline-moved n (f ∷ fs) text root d (empty t) e = refl
outline-moved n [] text root d (close m) e = absurd (cc)
outline-moved n (f ∷ []) text root d (close m) e = refl
outline-moved n (f ∷ g ∷ fs) text root d (close m) e = refl
outline-moved n [] text root d (words cs) e = refl
outline-moved n (f ∷ fs) text root d (words cs) e = refl
outline-moved n fs text root d (refer None) e = refl
outline-moved n [] text root d (refer (Some cs)) e = refl
outline-moved n (f ∷ fs) text root d (refer (Some cs)) e = refl
outline-moved n [] text root d (section cs) e = refl
outline-moved n (f ∷ fs) text root d (section cs) e = refl
outline-moved n fs text root d (declaration v c) e = refl
outline-moved n fs text root d (doctype s) e = refl
outline-moved n fs text root d silent e = refl

-- a walk that finds nothing broken
pub record Goes (n : ℕ) (s : State) (cs : List Construct) (o : Outline) : Type 0 where
  pub tokens : List Token
  pub meant : AllMeant cs tokens
  pub next : State
  pub steps : steps n s tokens ≡ Some next
  pub outlines : outline_of next ≡ o

pub walked-goes : (n : ℕ) (cs : List Construct) (s : State) (o : Outline) → walked n (outline_of s) cs ≡ Ok o → Goes n s cs o
unfolding walked
walked-goes n [] s o e = record { tokens = []; meant = tt; next = s; steps = refl; outlines = cc }
walked-goes n (c ∷ cs) s o e = (elim (meant c) as (λ m. meant c ≡ m → walk_on n (outline_of s) c (λ p. walked n p cs) m ≡ Ok o → Goes n s (c ∷ cs) o) [
  | None ↦ λ q. λ h. absurd (cc)
  | Some t ↦ λ q. λ h. (elim (broken_by n (outline_of s) t) as (λ r. broken_by n (outline_of s) t ≡ r → walk_past r c (walked n (outline_behind (outline_of s) t) cs) ≡ Ok o → Goes n s (c ∷ cs) o) [
    | Some r ↦ λ b. λ g. absurd (cc)
    | None ↦ λ b. λ g.
        let same = outline-moved n s.frames s.text s.root s.doctyped t b in
        let rest = walked-goes n cs (moved s t) o (ap (λ p. walked n p cs) same ∙ g) in
        record {
          tokens = t ∷ rest.tokens;
          meant = (q, rest.meant);
          next = rest.next;
          steps = ap (λ r. option_and_then (λ m. steps n m rest.tokens) (unless_broken r (moved s t))) b ∙ rest.steps;
          outlines = rest.outlines;
        }
  ]) refl h
]) refl e

pub goes-walked : (n : ℕ) (cs : List Construct) (ts : List Token) (s next : State) → AllMeant cs ts → steps n s ts ≡ Some next → walked n (outline_of s) cs ≡ Ok (outline_of next)
unfolding walked
goes-walked n [] [] s next a e = let q : s ≡ next = cc in ap (λ x. Ok (outline_of x)) q
goes-walked n [] (t ∷ ts) s next a e = absurd a
goes-walked n (c ∷ cs) [] s next a e = absurd a
goes-walked n (c ∷ cs) (t ∷ ts) s next a e =
    let m = and-then-some (step n s t) _ next e in
    let u = Rattle.page_tree.proofs.Building.unbroken (broken_by n (outline_of s) t) (moved s t) m.0 m.1 in
    let same = outline-moved n s.frames s.text s.root s.doctyped t u.0 in
    let rest = goes-walked n cs ts m.0 next a.1 m.2 in
    ap (λ x. walk_on n (outline_of s) c (λ p. walked n p cs) x) a.0
    ∙ ap (λ r. walk_past r c (walked n (outline_behind (outline_of s) t) cs)) u.0
    ∙ ap (λ p. walked n p cs) (sym same ∙ ap outline_of u.1)
    ∙ rest

-- nothing is broken at the end
record Ends (s : State) : Type 0 where
  tree : Tree
  none_open : s.frames ≡ []
  rooted : s.root ≡ Some tree

ended-none : (size : ℕ) (fs : List Frame) (text : List ℕ) (root : Option Tree) (d : Bool) → ended size (outline_of (st fs text root d)) ≡ None → Ends (st fs text root d)
ended-none size [] text None d e = absurd (cc)
ended-none size [] text (Some t) d e = record { tree = t; none_open = refl; rooted = refl }
ended-none size (f ∷ fs) text root d e = absurd (cc)

-- the parts of a verdict that finds nothing
pub record Clean (b : List ℕ) (n : ℕ) : Type 0 where
  pub good : stop b ≡ None
  pub whole : (cut b).rest ≡ []
  pub tokens : List Token
  pub meant : AllMeant (cut b).constructs tokens
  pub tree : Tree
  pub built : built n tokens ≡ Some tree

clean-from : (b : List ℕ) (n size : ℕ) (z : Option TextFault) (rest : List Byte) (r : Result Outline Fault) → stop b ≡ z → (cut b).rest ≡ rest → walked n blank (cut b).constructs ≡ r
    → verdict size z rest r ≡ None → Clean b n
clean-from b n size z rest (Err f) a c d e = absurd (cc)
clean-from b n size (Some (BadBytes at)) rest (Ok o) a c d e = absurd (cc)
clean-from b n size (Some (BadChar at)) rest (Ok o) a c d e = absurd (cc)
clean-from b n size (Some NoMemory) rest (Ok o) a c d e = absurd (cc)
clean-from b n size None (u ∷ us) (Ok o) a c d e = absurd (cc)
clean-from b n size None [] (Ok o) a c d e =
    let g = walked-goes n (cut b).constructs begin o d in
    let last = ended-none size g.next.frames g.next.text g.next.root g.next.doctyped (ap (ended size) g.outlines ∙ e) in
    record {
      good = a;
      whole = c;
      tokens = g.tokens;
      meant = g.meant;
      tree = last.tree;
      built = ap (option_and_then (λ s. whole s.frames s.root)) g.steps ∙ ap (λ fs. whole fs g.next.root) last.none_open ∙ last.rooted;
    }

-- a page without a break is built
pub clean : (b : List ℕ) (n : ℕ) → w b n ≡ None → Clean b n
clean b n e = clean-from b n (length b) (stop b) (cut b).rest (walked n blank (cut b).constructs) refl refl refl e

whole-ended : (size : ℕ) (fs : List Frame) (text : List ℕ) (root : Option Tree) (d : Bool) (t : Tree) → whole fs root ≡ Some t → ended size (outline_of (st fs text root d)) ≡ None
whole-ended size [] text None d t e = absurd (cc)
whole-ended size [] text (Some u) d t e = refl
whole-ended size (f ∷ fs) text root d t e = absurd (cc)

-- a page that is built has no break
pub unclean : (b : List ℕ) (n : ℕ) (c : Clean b n) → w b n ≡ None
unclean b n c =
    let m = and-then-some (steps n begin c.tokens) (λ s. whole s.frames s.root) c.tree c.built in
    let o = goes-walked n (cut b).constructs c.tokens begin m.0 c.meant m.1 in
    ap (λ r. verdict (length b) (stop b) (cut b).rest r) o
    ∙ ap (λ z. verdict (length b) z (cut b).rest (Ok (outline_of m.0))) c.good
    ∙ ap (λ x. verdict (length b) None x (Ok (outline_of m.0))) c.whole
    ∙ whole-ended (length b) m.0.frames m.0.text m.0.root m.0.doctyped c.tree m.2

-- constructs mean one list of tokens
pub meant-one : (cs : List Construct) (ts us : List Token) → AllMeant cs ts → AllMeant cs us → ts ≡ us
meant-one [] [] [] a b = refl
meant-one [] [] (u ∷ us) a b = absurd b
meant-one [] (t ∷ ts) us a b = absurd a
meant-one (c ∷ cs) [] us a b = absurd a
meant-one (c ∷ cs) (t ∷ ts) [] a b = absurd b
meant-one (c ∷ cs) (t ∷ ts) (u ∷ us) a b =
    let h : t ≡ u = let z = a.0 in let y = b.0 in cc in
    let r = meant-one cs ts us a.1 b.1 in cc
