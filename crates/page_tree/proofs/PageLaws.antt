-- A page has a tree exactly where it has no break, and then it has one.
use Rattle.std.proofs.Common.{◌≡◌, ℕ, suc, zero, Bool, true, false, List, [], ◌∷◌, drop, Some, None, is_none, refl, ap, ◌∙◌, subst}
use Rattle.std.proofs.lemmas.List.{take-map}
use Rattle.ix_base.specs.Trees.{Tree}
use Rattle.page_text.specs.Characters.{stop}
use Rattle.page_constructs.specs.Constructs.{Byte, values, whole_size, construct, Construct, Cut, cut_at, cut_from, cut}
use Rattle.page_tree.specs.Page.{AllMean, page}
use Rattle.page_tree.specs.Break.{Fault, w}
use Rattle.page_tree.specs.Machine.{built}
use Rattle.page_constructs.specs.Tokens.{Token}
use Rattle.page_constructs.specs.Ends.{HasEnds}
use Rattle.page_tree.proofs.Spelled.{page_built}
use Rattle.page_tree.proofs.Building.{page_of_built}
use Rattle.page_tree.proofs.Walking.{AllMeant, Clean, clean, unclean, meant-one}
use Rattle.page_tree.proofs.FormLaws.{form-read, form-meant}
use Rattle.page_tree.proofs.EndLaws.{whole-ends}

-- each construct begins and ends as its kind says
abbrev pub AllEnd : List Construct → Type 0
AllEnd [] = Unit {0}
AllEnd (c ∷ cs) = HasEnds c.kind c.text × AllEnd cs

pub cut-ends : (n : ℕ) (ended first : Bool) (us : List Byte) → AllEnd (cut_from n ended first us).constructs
unfolding cut_from
cut-ends zero ended first us = tt
cut-ends (suc n) ended first us = (elim (whole_size ended first (values us)) as (λ o. whole_size ended first (values us) ≡ o → AllEnd (cut_at o first us (cut_from n ended false)).constructs) [
  | None ↦ λ e. tt
  | Some k ↦ λ e. (subst (HasEnds (Rattle.page_constructs.specs.Constructs.kind_of first (values us))) (take-map (λ u. u.value) k us) (whole-ends ended first (values us) k e), cut-ends n ended false (drop k us))
]) refl

pub read-mean : (cs : List Construct) (ts : List Token) → AllEnd cs → AllMeant cs ts → AllMean cs ts
read-mean [] [] h a = tt
read-mean [] (t ∷ ts) h a = absurd a
read-mean (c ∷ cs) [] h a = absurd a
read-mean (c ∷ cs) (t ∷ ts) h a = (form-read c.kind c.start c.text t h.0 a.0, read-mean cs ts h.1 a.1)

pub mean-read : (cs : List Construct) (ts : List Token) → AllMean cs ts → AllMeant cs ts
mean-read [] [] a = tt
mean-read [] (t ∷ ts) a = absurd a
mean-read (c ∷ cs) [] a = absurd a
mean-read (c ∷ cs) (t ∷ ts) a = (form-meant c.kind c.start c.text t a.0, mean-read cs ts a.1)

-- the tree of a page without a break
pub found : (b : List ℕ) (n : ℕ) → w b n ≡ None → (t : Tree) × page b n t
found b n e =
    let c = clean b n e in (
      c.tree,
      record {
        good = c.good;
        whole = c.whole;
        tokens = c.tokens;
        mean = read-mean (cut b).constructs c.tokens (cut-ends _ (is_none (stop b)) true _) c.meant;
        spell = page_of_built n c.tokens c.tree c.built;
      },
    )

clean-page : (b : List ℕ) (n : ℕ) (t : Tree) → page b n t → Clean b n
clean-page b n t p = record {
  good = p.good;
  whole = p.whole;
  tokens = p.tokens;
  meant = mean-read (cut b).constructs p.tokens p.mean;
  tree = t;
  built = page_built n p.tokens t p.spell;
}

-- a page that has a tree has no break
pub unbroken : (b : List ℕ) (n : ℕ) (t : Tree) → page b n t → w b n ≡ None
unbroken b n t p = unclean b n (clean-page b n t p)

pub no_tree : (b : List ℕ) (n : ℕ) (f : Fault) (t : Tree) → w b n ≡ Some f → page b n t → ⊥
no_tree b n f t e p = let z = unbroken b n t p in cc

-- a page has one tree
pub one : (b : List ℕ) (n : ℕ) (t u : Tree) → page b n t → page b n u → t ≡ u
one b n t u p q =
    let same = meant-one (cut b).constructs p.tokens q.tokens (mean-read (cut b).constructs p.tokens p.mean) (mean-read (cut b).constructs q.tokens q.mean) in
    let a = page_built n p.tokens t p.spell in
    let c = ap (built n) same ∙ page_built n q.tokens u q.spell in
    cc
