-- An arranged content can be written where the content can.
use Rattle.std.proofs.Common.{◌≡◌, ◌∙◌, ap, refl, ℕ, suc, ◌≤◌, List, [], ◌∷◌, rules, arith}
use Rattle.std.specs.Prelude.{max}
use Rattle.std.specs.List.{AllByRecursion}
use Rattle.std.specs.Ordering.{on}
use Rattle.std.specs.declared.cmp.Ordering.{Ordering}
use Rattle.std.specs.declared.cmp.Ordering.TheVariants.{Less, Equal, Greater}
use Rattle.std.proofs.lemmas.List.Elements.{All-from_recursion, recursion_from_All}
use Rattle.ix_base.specs.declared.limits.TheConstants.{DEEPEST_TUPLE}
use Rattle.ix_base.specs.declared.content.Content.{Content}
use Rattle.ix_base.specs.declared.content.Context.{Context}
use Rattle.ix_base.specs.declared.content.Fact.{Fact, out-Fact, the_lemmas}
use Rattle.ix_base.specs.declared.content.Fact.TheOpen.{Fact-F}
use Rattle.ix_base.specs.declared.content.Fact.TheVariants as fact
use Rattle.ix_base.specs.declared.content.Tuple.{Tuple}
use Rattle.ix_base.specs.Facts.{Facts, before, facts_of, none}
use Rattle.ix_base.specs.SortedLists.{put, put_by, sorted, text_cmp}
use Rattle.ix_base.proofs.FactLaws.{before-Item, before-Tuple}
use Rattle.instance_lines.specs.Arrangement.{arranged, by_line}
use Rattle.instance_lines.specs.Canonical.{content_spaces}
use Rattle.instance_lines.specs.Elements.{fact_markup}
use Rattle.instance_lines.specs.Writable.{IsTimely, IsWritable, depth}

-- What holds of each element holds of each in order.
module _ {X : Type 0} (P : X → Type 0) (R : X → X → Ordering) where
  put-all : (x : X) (ys : List X) → P x → AllByRecursion P ys → AllByRecursion P (put R x ys)
  put-all x [] p h = (p, tt)
  put-all x (y ∷ ys) p h = by (R x y) (put-all x ys p h.1)
    where
      by : (r : Ordering) → AllByRecursion P (put R x ys) → AllByRecursion P (put_by r x y ys (put R x ys))
      by Less k = (p, h)
      by Equal k = (p, h)
      by Greater k = (h.0, k)

  pub sorted-all : (xs : List X) → AllByRecursion P xs → AllByRecursion P (sorted R xs)
  unfolding sorted
  sorted-all [] h = tt
  sorted-all (x ∷ xs) h = put-all x (sorted R xs) h.0 (sorted-all xs h.1)

-- how deep a fact is
abbrev depth_in : Fact → ℕ
depth_in f = depth (before f none)

depth-by : (f : Fact) (rest : Facts) (o : Fact-F Fact Tuple) → out-Fact f ≡ o → depth (before f rest) ≡ max (depth_in f) (depth rest)
depth-by f rest (Fact-F.Item i) e =
    let same : f ≡ fact.Item i = search (rules, the_lemmas) in
    let all : depth (before f rest) ≡ depth rest = ap (λ g. depth (before g rest)) same ∙ ap depth (before-Item i rest) in
    let here : depth_in f ≡ 0 = ap depth_in same ∙ ap depth (before-Item i none) in
    omega (arith, all, here)
depth-by f rest (Fact-F.Tuple t) e =
    let same : f ≡ fact.Tuple t = search (rules, the_lemmas) in
    let within = depth (facts_of t.members) in
    let all : depth (before f rest)
    ≡ max (suc within) (depth rest) = ap (λ g. depth (before g rest)) same ∙ ap depth (before-Tuple t rest) in
    let here : depth_in f ≡ max (suc within) 0 = ap depth_in same ∙ ap depth (before-Tuple t none) in
    omega (arith, all, here)

depth-before : (f : Fact) (rest : Facts) → depth (before f rest) ≡ max (depth_in f) (depth rest)
depth-before f rest = depth-by f rest (out-Fact f) refl

each_shallow : (n : ℕ) (fs : List Fact) → depth (facts_of fs) ≤ n → AllByRecursion (λ f. depth_in f ≤ n) fs
each_shallow n [] h = tt
each_shallow n (f ∷ fs) h = let d = depth-before f (facts_of fs) in (omega (arith, d), each_shallow n fs (omega (arith, d)))

all_shallow : (n : ℕ) (fs : List Fact) → AllByRecursion (λ f. depth_in f ≤ n) fs → depth (facts_of fs) ≤ n
all_shallow n [] h = omega arith
all_shallow n (f ∷ fs) h = let d = depth-before f (facts_of fs) in let first = h.0 in let rest = all_shallow n fs h.1 in omega (arith, d)

pub writable-arranged : (c : Content) → IsWritable c → IsWritable (arranged c)
unfolding arranged
writable-arranged c w =
    let P : Context → Type 0 = λ x. IsTimely x.period in
    let by_id = on (λ (x : Context). x.id) text_cmp in
    let R = by_line (fact_markup (content_spaces c (facts_of c.facts))) in
    record {
      times = All-from_recursion P (sorted by_id c.contexts) (sorted-all P by_id c.contexts (recursion_from_All P c.contexts w.times));
      tuples = all_shallow DEEPEST_TUPLE (sorted R c.facts) (sorted-all (λ f. depth_in f ≤ DEEPEST_TUPLE) R c.facts (each_shallow DEEPEST_TUPLE c.facts w.tuples));
    }
