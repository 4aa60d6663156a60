-- Pages whose facts are shown where they stand.
use Rattle.std.proofs.Common.{◌≡◌, ◌∙◌, ap, sym, refl, subst, ⊎_elim, ℕ, zero, suc, ◌+◌, ◌<◌, ◌≤◌, ◌||◌, Bool, true, false, List, [], ◌∷◌, ◌++◌, length, map, take, get_or, bytes_eq, Some, None, Result, Ok, Err, IfOk, inl, inr, arith, add-one, zero-add}
use Rattle.std.specs.Borrow.{Bor}
use Rattle.std.specs.List.{Contains, list_any}
use Rattle.std.proofs.lemmas.Slice.Eq.{bytes_eq-Decides}
use Rattle.std.proofs.lemmas.List.{get_or-map, length-map, length-take-le, take_all}
use Rattle.std.proofs.lemmas.List.Elements.{Contains-get_or}
use Rattle.ix_base.specs.Trees.{Tree, tree_of}
use Rattle.ix_base.specs.declared.NoMemory.{NoMemory}
use Rattle.ix_base.specs.declared.breach.Report.{Report}
use Rattle.ix_base.specs.declared.tree.Element.{Element}
use Rattle.ix_base.proofs.OnceLemmas.{Contains-cases, Contains-nil}
use Rattle.fact_trace.specs.Model.{AreNew, Held}
use Rattle.fact_trace.specs.Spans.{Source}
use Rattle.fact_trace.specs.ValidPages.{BreakNoRule, names_of}
use Rattle.page_tree.specs.Break.{Fault, w}
use Rattle.page_tree.specs.Page.{page}
use Rattle.targets.specs.Breaches.{PagesComeTo, size_rule}
use Rattle.targets.specs.Forest.{trees_of}
use Rattle.target_contents.specs.declared.outcome.Outcome.{Outcome}
use Rattle.target_contents.specs.declared.outcome.Outcome.TheVariants.{Broken, Whole}
use Rattle.target_contents.specs.declared.outcome.Target.{Target}
use Rattle.page_names.specs.Names.{has_repeat}
use Rattle.page_verdicts.specs.PageReads.{AreRoots, IsRead, IsRoot, IsSound, kept_texts}
use Rattle.page_verdicts.specs.Verdicts.{IsTraced, sources, trace_text}
use Rattle.page_verdicts.specs.declared.read_pages.Forest.{Forest}
use Rattle.page_verdicts.specs.declared.verdict.Verdict.{Verdict}
use Rattle.page_verdicts.specs.declared.verdict.Verdict.TheVariants.{Printed, Reported}
use Rattle.page_verdicts.proofs.JudgeLaws.{are_trees, no_faults}

-- Names that stand once.

or_false : (a b : Bool) → (a || b) ≡ false → (a ≡ false) × (b ≡ false)
or_false true b e = cc
or_false false b e = (refl, e)

not_here : (n : List ℕ) (rest : List (List ℕ)) → list_any (bytes_eq n) rest ≡ false → Contains rest n → ⊥
not_here n [] e k = Contains-nil n k
not_here n (x ∷ xs) e k =
    let two = or_false (bytes_eq n x) (list_any (bytes_eq n) xs) e in
    ⊎_elim (λ same. let z : true ≡ false = sym ((bytes_eq-Decides n x).1 (sym same)) ∙ two.0 in absurd cc) (not_here n xs two.1) (Contains-cases x xs n k)

pub are_new : (names : List (List ℕ)) → has_repeat names ≡ false → AreNew names
unfolding has_repeat
are_new [] e = tt
are_new (n ∷ ns) e = let two = or_false (list_any (bytes_eq n) ns) (has_repeat ns) e in (not_here n ns two.0, are_new ns two.1)

-- The name at an index isn't among those in front of it.
fresh : (names : List (List ℕ)) (n : ℕ) (name : List ℕ) → n < length names → name ≡ get_or names n name → AreNew names → Contains (take n names) name → ⊥
fresh [] n name h at new k = absurd (omega arith)
fresh (x ∷ xs) zero name h at new k = Contains-nil name k
fresh (x ∷ xs) (suc n) name h at new k =
    let within : n < length xs = omega arith in
    let there : Contains xs name = subst (λ y. Contains xs y) (sym at) (Contains-get_or xs n name within) in
    ⊎_elim (λ same. new.0 (subst (λ y. Contains xs y) (sym same) there)) (fresh xs n name within at new.1) (Contains-cases x (take n xs) name k)

-- Sources, page by page.

pub roots_length : (m : ℕ) (bs : List (List ℕ)) (es : List (Bor Element)) → AreRoots m bs es → length es ≡ length bs
roots_length m [] [] all = refl
roots_length m [] (e ∷ es) all = absurd all
roots_length m (b ∷ bs) [] all = absurd all
roots_length m (b ∷ bs) (e ∷ es) all = ap suc (roots_length (suc m) bs es all.1)

abbrev source : List ℕ → List ℕ → Bor Element → Source
source name text e = record { name = name; bytes = text; tree = tree_of e.now }

module _ (names : List (List ℕ)) where
  names_are : (bs : List (List ℕ)) (es : List (Bor Element)) (m : ℕ) → length bs ≡ length names → AreRoots m bs es → names_of (sources names bs (trees_of es)) ≡ names
  names_are bs es m count roots = by names bs es m count roots
    where
      by : (ns bs : List (List ℕ)) (es : List (Bor Element)) (m : ℕ) → length bs ≡ length ns → AreRoots m bs es → names_of (sources ns bs (trees_of es)) ≡ ns
      by [] bs es m count roots = refl
      by (n ∷ ns) [] es m count roots = absurd (let z : 0 ≡ suc (length ns) = count in omega arith)
      by (n ∷ ns) (b ∷ bs) [] m count roots = absurd roots
      by (n ∷ ns) (b ∷ bs) (e ∷ es) m count roots = ap (λ l. n ∷ l) (by ns bs es (suc m) (let z : suc (length bs) ≡ suc (length ns) = count in omega arith) roots.1)

bytes_are : (ns bs : List (List ℕ)) (es : List (Bor Element)) (m : ℕ) → length bs ≡ length ns → AreRoots m bs es → map (λ p. p.bytes) (sources ns bs (trees_of es)) ≡ bs
bytes_are [] [] es m count roots = refl
bytes_are [] (b ∷ bs) es m count roots = absurd (let z : suc (length bs) ≡ 0 = count in omega arith)
bytes_are (n ∷ ns) [] es m count roots = absurd (let z : 0 ≡ suc (length ns) = count in omega arith)
bytes_are (n ∷ ns) (b ∷ bs) [] m count roots = absurd roots
bytes_are (n ∷ ns) (b ∷ bs) (e ∷ es) m count roots =
    ap (λ l. b ∷ l) (bytes_are ns bs es (suc m) (let z : suc (length bs) ≡ suc (length ns) = count in omega arith) roots.1)

-- one more source
cut : (ns bs : List (List ℕ)) (es : List (Bor Element)) (m n : ℕ) (name text : List ℕ) (e : Bor Element) → n < length ns → length bs ≡ length ns → AreRoots m bs es
    → name ≡ get_or ns n name → text ≡ get_or bs n text → e ≡ get_or es n e
    → take (suc n) (sources ns bs (trees_of es)) ≡ take n (sources ns bs (trees_of es)) ++ source name text e ∷ []
cut [] bs es m n name text e h count roots a b c = absurd (omega arith)
cut (x ∷ ns) [] es m n name text e h count roots a b c = absurd (let z : 0 ≡ suc (length ns) = count in omega arith)
cut (x ∷ ns) (y ∷ bs) [] m n name text e h count roots a b c = absurd roots
cut (x ∷ ns) (y ∷ bs) (z ∷ es) m zero name text e h count roots a b c = λ i. source (sym a i) (sym b i) (sym c i) ∷ []
cut (x ∷ ns) (y ∷ bs) (z ∷ es) m (suc n) name text e h count roots a b c =
    ap (λ l. source x y z ∷ l)
    (cut ns bs es (suc m) n name text e (omega arith) (let q : suc (length bs) ≡ suc (length ns) = count in omega arith) roots.1 a b c)

-- its root
root_at : (bs : List (List ℕ)) (es : List (Bor Element)) (m n : ℕ) (text : List ℕ) (e : Bor Element) → n < length bs → AreRoots m bs es
    → text ≡ get_or bs n text → e ≡ get_or es n e → IsRoot (m + n) text e
root_at [] es m n text e h roots b c = absurd (omega arith)
root_at (y ∷ bs) [] m n text e h roots b c = absurd roots
root_at (y ∷ bs) (z ∷ es) m zero text e h roots b c =
    subst (λ k. IsRoot k text e) (let q : m ≡ m + 0 = omega arith in q) (subst (λ (x : List ℕ). IsRoot m x e) (sym b) (subst (λ (x : Bor Element). IsRoot m y x) (sym c) roots.0))
root_at (y ∷ bs) (z ∷ es) m (suc n) text e h roots b c =
    subst (λ k. IsRoot k text e) (let q : suc m + n ≡ m + suc n = omega arith in q) (root_at bs es (suc m) n text e (omega arith) roots.1 b c)

-- What the loop over pages needs to know of the page that comes.
pub record Comes (names texts : List (List ℕ)) (es : List (Bor Element)) (n : ℕ) (name text : List ℕ) (e : Bor Element) : Type 0 where
  pub cut : take (n + 1) (sources names texts (trees_of es)) ≡ take n (sources names texts (trees_of es)) ++ record { name = name; bytes = text; tree = tree_of e.now } ∷ []
  pub count : length (take n (sources names texts (trees_of es))) ≡ n
  pub root : IsRoot n text e
  pub fresh : Contains (names_of (take n (sources names texts (trees_of es)))) name → ⊥

taken_names : (n : ℕ) (ps : List Source) → names_of (take n ps) ≡ take n (names_of ps)
taken_names zero ps = refl
taken_names (suc n) [] = refl
taken_names (suc n) (p ∷ ps) = ap (λ l. p.name ∷ l) (taken_names n ps)

map_length : (ps : List Source) → length (names_of ps) ≡ length ps
map_length [] = refl
map_length (p ∷ ps) = ap suc (map_length ps)

pub comes : (names texts : List (List ℕ)) (es : List (Bor Element)) (n : ℕ) (name text : List ℕ) (e : Bor Element) → n < length names → length texts ≡ length names
    → has_repeat names ≡ false → AreRoots 0 texts es → name ≡ get_or names n name → text ≡ get_or texts n text → e ≡ get_or es n e → Comes names texts es n name text e
comes names texts es n name text e h count once roots a b c =
    let all = sources names texts (trees_of es) in
    let named : names_of all ≡ names = names_are names texts es 0 count roots in
    let size : length all ≡ length names = sym (map_length all) ∙ ap length named in
    record {
      cut = ap (λ k. take k all) (add-one n) ∙ cut names texts es 0 n name text e h count roots a b c;
      count = length-take-le n all (omega arith);
      root = subst (λ k. IsRoot k text e) (zero-add n) (root_at texts es 0 n text e (omega arith) roots b c);
      fresh = λ k. fresh names n name h a (are_new names once) (subst (λ l. Contains l name) (taken_names n all ∙ ap (take n) named) k);
    }

pub page_comes : (names : List (List ℕ)) (texts : List (Bor (List ℕ))) (es : List (Bor Element)) (n : ℕ) (name : List ℕ) (d : Bor (List ℕ)) (e : Bor Element) → n < length names
    → length texts ≡ length names → has_repeat names ≡ false → AreRoots 0 (map (λ t. t.now) texts) es → name ≡ get_or names n name → e ≡ get_or es n e
    → Comes names (map (λ t. t.now) texts) es n name (get_or texts n d).now e
page_comes names texts es n name d e h count once roots a c =
    comes names (map (λ t. t.now) texts) es n name (get_or texts n d).now e h (length-map texts (λ t. t.now) ∙ count) once roots a
    (sym (get_or-map (λ t. t.now) texts n d (get_or texts n d).now (omega arith))) c

-- a tracer of these pages that isn't spent
abbrev held : List Source → Held
held ps = record { sources = ps; is_spent = false }

-- a tracer with one more page
pub held_more : (h : Held) (front : List Source) (n name text : List ℕ) (tree : Tree) (all : List Source) → h ≡ held front → n ≡ name
    → front ++ record { name = name; bytes = text; tree = tree } ∷ [] ≡ all
    → held (h.sources ++ record { name = n; bytes = text; tree = tree } ∷ []) ≡ held all
held_more h front n name text tree all is same cut =
    (λ i. held ((is i).sources ++ record { name = same i; bytes = text; tree = tree } ∷ [])) ∙ ap held cut

-- all pages came
pub all_came : (names texts : List (List ℕ)) (es : List (Bor Element)) (n : ℕ) → length names ≤ n → length texts ≡ length names → AreRoots 0 texts es
    → take n (sources names texts (trees_of es)) ≡ sources names texts (trees_of es)
all_came names texts es n past count roots =
    let all = sources names texts (trees_of es) in
    let size : length all ≡ length names = sym (map_length all) ∙ ap length (names_are names texts es 0 count roots) in
    take_all n all (omega arith)

-- they break no rule
pub no_rule : (names texts : List (List ℕ)) (es : List (Bor Element)) (base : List ℕ) (targets : List Target) → length texts ≡ length names → AreRoots 0 texts es
    → PagesComeTo base names texts (Whole targets) → BreakNoRule (sources names texts (trees_of es))
no_rule names texts es base targets count roots come = record {
  base = base;
  targets = targets;
  come = subst (λ (ns : List (List ℕ)). PagesComeTo base ns (map (λ p. p.bytes) (sources names texts (trees_of es))) (Whole targets)) (sym (names_are names texts es 0 count roots))
      (subst (λ (bs : List (List ℕ)). PagesComeTo base names bs (Whole targets)) (sym (bytes_are names texts es 0 count roots)) come);
}

-- What a forest keeps whose pages break no rule.
pub record IsKept (names : List (List ℕ)) (f : Forest) : Type 0 where
  pub size : size_rule f.sums.bytes f.sums.tags ≡ None
  pub count : length (kept_texts f) ≡ length names
  pub roots : AreRoots 0 (kept_texts f) f.roots.items
  pub read : IsRead (kept_texts f) f

module _ (none : (b : List ℕ) (n : ℕ) (f : Fault) (t : Tree) → w b n ≡ Some f → page b n t → ⊥) where
  pub kept : (names bs : List (List ℕ)) (base : List ℕ) (f : Forest) (targets : List Target) → f.keeps ≡ true → IsSound names f → IsRead bs f
      → PagesComeTo base names bs (Whole targets) → IsKept names f
  kept names bs base f targets keeps sound is (inl (rule, set, report)) = absurd report
  kept names bs base f targets keeps sound is (inr (fits, inl (some, report))) = absurd report
  kept names bs base f targets keeps sound is (inr (fits, inr (trees, are, made))) =
      let size : size_rule f.sums.bytes f.sums.tags ≡ None = sym is.size ∙ fits in
      let read = is.read size in
      let same = read.texts keeps in
      let all = sound size in
      record {
        size = size;
        count = ap length (all.1.texts keeps) ∙ all.2;
        roots = subst (λ (xs : List (List ℕ)). AreRoots 0 xs f.roots.items) (sym same) (read.roots (no_faults none 0 bs trees are));
        read = subst (λ (xs : List (List ℕ)). IsRead xs f) (sym same) is;
      }

-- what pages come to whose items are printed
pub traced_says : (names : List (List ℕ)) (base : List ℕ) (f : Forest) (targets : List Target) (texts : List (Bor (List ℕ))) (roots : List (Bor Element)) (r : Result Verdict NoMemory)
    → f.keeps ≡ true → IsKept names f → texts ≡ f.texts.items → roots ≡ f.roots.items
    → ((bs : List (List ℕ)) → IsRead bs f → PagesComeTo base names bs (Whole targets))
    → IfOk r (λ v. v ≡ Printed (trace_text names (map (λ t. t.now) texts) (trees_of roots)))
    → IfOk r (λ v. (bs : List (List ℕ)) → IsRead bs f → IsTraced base names bs v)
traced_says names base f targets texts roots (Ok v) keeps k texts_are roots_are says at = λ bs is.
    let same : kept_texts f ≡ bs = (is.read k.size).texts keeps in
    let of_bytes : AreRoots 0 bs f.roots.items = subst (λ (xs : List (List ℕ)). AreRoots 0 xs f.roots.items) same k.roots in
    let told : map (λ t. t.now) texts ≡ bs = ap (map (λ t. t.now)) texts_are ∙ same in (
      Whole targets,
      says bs is,
      (
        trees_of f.roots.items,
        are_trees 0 bs f.roots.items of_bytes,
        at ∙ (λ i. Printed (trace_text names (told i) (trees_of (roots_are i)))),
      ),
    )
traced_says names base f targets texts roots (Err x) keeps k texts_are roots_are says at = tt

-- what is asked of the pages whose items are printed
pub kept_count : (names : List (List ℕ)) (f : Forest) (texts : List (Bor (List ℕ))) → IsKept names f → texts ≡ f.texts.items → length texts ≡ length names
kept_count names f texts k same = sym (length-map texts (λ t. t.now)) ∙ ap (λ (ts : List (Bor (List ℕ))). length (map (λ t. t.now) ts)) same ∙ k.count

pub kept_roots : (names : List (List ℕ)) (f : Forest) (texts : List (Bor (List ℕ))) (roots : List (Bor Element)) → IsKept names f → texts ≡ f.texts.items → roots ≡ f.roots.items
    → AreRoots 0 (map (λ t. t.now) texts) roots
kept_roots names f texts roots k same at =
    subst (λ (es : List (Bor Element)). AreRoots 0 (map (λ t. t.now) texts) es) (sym at)
    (subst (λ (bs : List (List ℕ)). AreRoots 0 bs f.roots.items) (ap (map (λ t. t.now)) (sym same)) k.roots)

pub kept_unbroken : (names : List (List ℕ)) (base : List ℕ) (f : Forest) (targets : List Target) (texts : List (Bor (List ℕ))) → IsKept names f → texts ≡ f.texts.items
    → ((bs : List (List ℕ)) → IsRead bs f → PagesComeTo base names bs (Whole targets)) → PagesComeTo base names (map (λ t. t.now) texts) (Whole targets)
kept_unbroken names base f targets texts k same says =
    subst (λ (bs : List (List ℕ)). PagesComeTo base names bs (Whole targets)) (ap (map (λ t. t.now)) (sym same)) (says (kept_texts f) k.read)

-- what is said of an outcome is said of it by its name
pub said_as : (names : List (List ℕ)) (base : List ℕ) (f : Forest) (o p : Outcome) → o ≡ p → ((bs : List (List ℕ)) → IsRead bs f → PagesComeTo base names bs o)
    → (bs : List (List ℕ)) → IsRead bs f → PagesComeTo base names bs p
said_as names base f o p same says = λ bs is. subst (λ (x : Outcome). PagesComeTo base names bs x) same (says bs is)

-- a report is one
pub traced_report : (names : List (List ℕ)) (base : List ℕ) (f : Forest) (o : Outcome) (report : Report) → o ≡ Broken report
    → ((bs : List (List ℕ)) → IsRead bs f → PagesComeTo base names bs o) → (bs : List (List ℕ)) → IsRead bs f → IsTraced base names bs (Reported report)
traced_report names base f o report at says = λ bs is. (Broken report, subst (λ (x : Outcome). PagesComeTo base names bs x) at (says bs is), refl)
