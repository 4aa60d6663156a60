-- A page that is shown without its inline markup.
use Rattle.std.proofs.Common.{◌≡◌, ◌≢◌, ◌∙◌, ap, sym, refl, subst, ℕ, suc, ◌==◌, ◌++◌, Bool, true, false, List, [], ◌∷◌, length, Some, None, Result, Ok, Err, IfOk, inl, inr, get_or, rules, arith}
use Rattle.std.specs.Borrow.{Bor}
use Rattle.std.specs.Prelude.{All}
use Rattle.ix_base.specs.declared.limits.TheConstants.{DEEPEST_ELEMENT}
use Rattle.ix_base.specs.Elements.{pages_of}
use Rattle.ix_base.specs.Sound.{IsSoundRoot}
use Rattle.ix_base.specs.Spaces.{AreNumbered, spaces_of}
use Rattle.ix_base.specs.Trees.{Tree, tree_of}
use Rattle.ix_base.specs.declared.NoMemory.{NoMemory}
use Rattle.ix_base.specs.declared.breach.Found.{Found}
use Rattle.ix_base.specs.declared.rule.Rule.{Rule}
use Rattle.ix_base.specs.declared.rule.Rule.TheVariants.{P1}
use Rattle.ix_base.specs.declared.tree.Element.{Element}
use Rattle.ix_base.specs.declared.tree.Node as node
use Rattle.page_plain.specs.Bare.{bare, is_inline, spell}
use Rattle.page_tree.specs.Page.{page}
use Rattle.targets.specs.Breaches.{on_page, size_rule, text_faults}
use Rattle.targets.specs.Forest.{AreTrees}
use Rattle.page_verdicts.specs.PageReads.{AreRoots, HasRead, IsRead}
use Rattle.page_verdicts.specs.Verdicts.{IsShown, IsShownBy, Reports}
use Rattle.page_verdicts.specs.declared.read_pages.Forest.{Forest}
use Rattle.page_verdicts.specs.declared.verdict.Verdict.{Verdict}
use Rattle.page_verdicts.specs.declared.verdict.Verdict.TheVariants.{Printed}
use Rattle.page_verdicts.proofs.JudgeLaws.{empty_of}

offset-is : (e : Element) → (tree_of e).head.offset ≡ e.place.offset
offset-is e = search (rules, node.the_lemmas)

-- what is found of an inline root
pub found_is : (e : Element) (new old : List Found) → old ≡ [] → new ≡ old ++ on_page 0 e.place.offset P1 ∷ [] → new ≡ on_page 0 (tree_of e).head.offset P1 ∷ []
found_is e new old none one = one ∙ (λ i. none i ++ on_page 0 (sym (offset-is e) i) P1 ∷ [])

-- a root that is an inline element is reported
pub inline_shown : (b : Bool) (names : List (List ℕ)) (root : Tree) (found : List Found) (r : Result Verdict NoMemory) → b ≡ true
    → found ≡ on_page 0 root.head.offset P1 ∷ [] → IfOk r (Reports names found) → IfOk r (IsShownBy b names root)
inline_shown b names root found (Ok v) is one h =
    subst (λ (k : Bool). IsShownBy k names root v) (sym is) (subst (λ (xs : List Found). Reports names xs v) one h)
inline_shown b names root found (Err x) is one h = tt

-- any other page is printed
pub plain_shown : (b : Bool) (names : List (List ℕ)) (root : Tree) (text : List ℕ) → b ≡ false → text ≡ spell (bare root) → IsShownBy b names root (Printed text)
plain_shown b names root text is same = subst (λ (k : Bool). IsShownBy k names root (Printed text)) (sym is) (ap Printed same)

-- the one root of one page
pub record IsAlone (bs : List (List ℕ)) (es : List (Bor Element)) : Type 0 where
  pub bytes : List ℕ
  pub root : Bor Element
  pub page_is : bs ≡ bytes ∷ []
  pub root_is : es ≡ root ∷ []
  pub of_page : page bytes DEEPEST_ELEMENT (tree_of root.now)
  pub pages : All (λ p. p ≡ 0) (pages_of root.now)
  pub spaces : AreNumbered (spaces_of root.now)

alone : (bs : List (List ℕ)) (es : List (Bor Element)) → length bs ≡ 1 → AreRoots 0 bs es → IsAlone bs es
alone [] es one all = absurd (let z : 0 ≡ 1 = one in omega arith)
alone (b ∷ []) [] one all = absurd all
alone (b ∷ []) (e ∷ []) one all = record { bytes = b; root = e; page_is = refl; root_is = refl; of_page = all.0.0; pages = all.0.1; spaces = all.0.2 }
alone (b ∷ []) (e ∷ f ∷ es) one all = absurd all.1
alone (b ∷ c ∷ bs) es one all = absurd (let z : suc (suc (length bs)) ≡ 1 = one in omega arith)

roots_of : (bs : List (List ℕ)) (f : Forest) → HasRead bs f → (length f.found == 0) ≡ true → AreRoots 0 bs f.roots.items
roots_of bs f read empty = read.roots (sym read.found ∙ empty_of f.found empty)

pub alone_of : (bs : List (List ℕ)) (f : Forest) → HasRead bs f → length bs ≡ 1 → (length f.found == 0) ≡ true → IsAlone bs f.roots.items
alone_of bs f read one empty = alone bs f.roots.items one (roots_of bs f read empty)

-- the first root is that one
pub first_is : (bs : List (List ℕ)) (f : Forest) (e : Bor Element) → IsAlone bs f.roots.items → e ≡ get_or f.roots.items 0 e → f.roots.items ≡ e ∷ []
first_is bs f e one at = one.root_is ∙ ap (λ (x : Bor Element). x ∷ []) (sym (at ∙ ap (λ (es : List (Bor Element)). get_or es 0 e) one.root_is))

-- and it is sound
pub sound_first : ((b : List ℕ) (n number : ℕ) (e : Element) → page b n (tree_of e) → All (λ p. p ≡ number) (pages_of e) → AreNumbered (spaces_of e) → IsSoundRoot e number n)
    → (bs : List (List ℕ)) (f : Forest) (e : Bor Element) → IsAlone bs f.roots.items → e ≡ get_or f.roots.items 0 e → (number : ℕ) × IsSoundRoot e.now number DEEPEST_ELEMENT
sound_first sound bs f e one at =
    let same : one.root ≡ e = sym (at ∙ ap (λ (es : List (Bor Element)). get_or es 0 e) one.root_is) in
    (0, subst (λ (x : Bor Element). IsSoundRoot x.now 0 DEEPEST_ELEMENT) same (sound one.bytes DEEPEST_ELEMENT 0 one.root.now one.of_page one.pages one.spaces))

-- pages with one root are one page
trees_of_one : (bs : List (List ℕ)) (e : Bor Element) → AreRoots 0 bs (e ∷ []) → AreTrees bs (tree_of e.now ∷ [])
trees_of_one [] e all = absurd all
trees_of_one (b ∷ []) e all = (all.0.0, tt)
trees_of_one (b ∷ c ∷ bs) e all = absurd all.1

-- what its root comes to, the page comes to
pub root_says : (names : List (List ℕ)) (f : Forest) (e : Bor Element) (r : Result Verdict NoMemory) → size_rule f.sums.bytes f.sums.tags ≡ None
    → (length f.found == 0) ≡ true → f.roots.items ≡ e ∷ [] → IfOk r (IsShownBy (is_inline (tree_of e.now).head.name) names (tree_of e.now))
    → IfOk r (λ v. (bs : List (List ℕ)) → IsRead bs f → IsShown names bs v)
root_says names f e (Ok v) kept empty one h = λ bs is.
    let read = is.read kept in
    let roots : AreRoots 0 bs (e ∷ []) = subst (λ (es : List (Bor Element)). AreRoots 0 bs es) one (roots_of bs f read empty) in
    inr (is.size ∙ kept, inr (tree_of e.now, trees_of_one bs e roots, h))
root_says names f e (Err x) kept empty one h = tt

some_found : {X : Type 0} (xs : List X) → (length xs == 0) ≡ false → xs ≢ []
some_found xs e none = absurd (let z : true ≡ false = ap (λ l. length l == 0) (sym none) ∙ e in cc)

-- a page whose text has a break comes to its report
pub break_says : (names : List (List ℕ)) (f : Forest) (found : List Found) (r : Result Verdict NoMemory) → size_rule f.sums.bytes f.sums.tags ≡ None
    → found ≡ f.found → (length f.found == 0) ≡ false → IfOk r (Reports names found) → IfOk r (λ v. (bs : List (List ℕ)) → IsRead bs f → IsShown names bs v)
break_says names f found (Ok v) kept same some h = λ bs is.
    let read = is.read kept in
    let at : found ≡ text_faults 0 bs = same ∙ read.found in
    let there : text_faults 0 bs ≢ [] = λ none. some_found f.found some (read.found ∙ none) in
    inr (is.size ∙ kept, inl (there, subst (λ (xs : List Found). Reports names xs v) at h))
break_says names f found (Err x) kept same some h = tt

-- a page that is too large comes to its report
pub size_says : (names : List (List ℕ)) (f : Forest) (found : List Found) (rule : Rule) (r : Result Verdict NoMemory) → Some rule ≡ size_rule f.sums.bytes f.sums.tags
    → found ≡ on_page 0 0 rule ∷ [] → IfOk r (Reports names found) → IfOk r (λ v. (bs : List (List ℕ)) → IsRead bs f → IsShown names bs v)
size_says names f found rule (Ok v) broken one h = λ bs is. inl (rule, is.size ∙ sym broken, subst (λ (xs : List Found). Reports names xs v) one h)
size_says names f found rule (Err x) broken one h = tt
