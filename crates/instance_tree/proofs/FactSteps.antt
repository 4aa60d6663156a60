-- Reading facts, one at a time.
use Rattle.std.proofs.Common.{◌≡◌, ◌∙◌, refl, ap, ℕ, true, false, List, [], ◌∷◌, ◌++◌, Option, Some, None, option_map, codes}
use Rattle.ix_base.specs.declared.content.Fact.{Fact}
use Rattle.ix_base.specs.declared.content.Fact.TheVariants as fact
use Rattle.ix_base.specs.declared.content.Tuple.{Tuple}
use Rattle.ix_base.specs.Attributes.{value_of}
use Rattle.ix_base.specs.Facts.{Facts, none, before, facts_of}
use Rattle.ix_base.specs.ElementContent.{is_blank}
use Rattle.ix_base.specs.OwnNames.{own}
use Rattle.ix_base.specs.Steps.{◌>>=◌}
use Rattle.ix_base.specs.Trees.{Nodes, chars, elem, Tree}
use Rattle.ix_base.proofs.FactLaws.{before-Tuple}
use Rattle.instance_out.specs.Denotation.{facts_among, facts_in, is_nil, is_part, members_by}
use Rattle.instance_tree.specs.ReaderWords.{fact_at, in_front, tuple_at}

pub tuple-is : (t : Tuple) (e : Tree) (more : Facts) → members_by (is_nil e.head.attrs) (facts_in e.children) ≡ Some (facts_of t.members)
    → t.name ≡ own e.head.name → t.id ≡ value_of e.head.attrs [] (codes "id") → t.nil ≡ is_nil e.head.attrs
    → Some (before (fact.Tuple t) more) ≡ tuple_at e more
tuple-is t e more h n i l = rw (before-Tuple t more, h, n, i, l) refl

-- Facts in front of others.

front-more : (fs : List Fact) (f : Fact) (rest : Facts) → in_front (fs ++ f ∷ []) rest ≡ in_front fs (before f rest)
front-more [] f rest = refl
front-more (g ∷ fs) f rest = ap (before g) (front-more fs f rest)

pub front-none : (fs : List Fact) → in_front fs none ≡ facts_of fs
front-none [] = refl
front-none (f ∷ fs) = ap (before f) (front-none fs)

put-by : (fs : List Fact) (f : Fact) (e : Tree) (o : Option Facts) → ((more : Facts) → Some (before f more) ≡ fact_at e more)
    → option_map (in_front (fs ++ f ∷ [])) o ≡ option_map (in_front fs) (o >>= λ more. fact_at e more)
put-by fs f e None h = refl
put-by fs f e (Some more) h = ap Some (front-more fs f more) ∙ ap (option_map (in_front fs)) (h more)

-- White space among facts is passed over, and an element that is a fact is put at the end.

pub blank-step : (fs gs : List Fact) (ns m : Nodes) (t : List ℕ) → ns ≡ chars t m → is_blank t ≡ true → gs ≡ fs
    → option_map (in_front gs) (facts_in m) ≡ option_map (in_front fs) (facts_in ns)
blank-step fs gs ns m t e b g = rw (g, e, b) refl

pub fact-step : (fs gs : List Fact) (f : Fact) (ns m : Nodes) (e : Tree) → ns ≡ elem e.head e.children m
    → ((more : Facts) → Some (before f more) ≡ fact_at e more) → gs ≡ fs ++ f ∷ []
    → option_map (in_front gs) (facts_in m) ≡ option_map (in_front fs) (facts_in ns)
fact-step fs gs f ns m e n h g = rw (g, n) (put-by fs f e (facts_in m) h)

-- The same among the children of a root.

pub blank-among : (fs gs : List Fact) (ns m : Nodes) (t : List ℕ) → ns ≡ chars t m → is_blank t ≡ true → gs ≡ fs
    → option_map (in_front gs) (facts_in (facts_among m)) ≡ option_map (in_front fs) (facts_in (facts_among ns))
blank-among fs gs ns m t e b g = rw (g, e, b) refl

pub fact-among : (fs gs : List Fact) (f : Fact) (ns m : Nodes) (e : Tree) → ns ≡ elem e.head e.children m → is_part e.head.name ≡ false
    → ((more : Facts) → Some (before f more) ≡ fact_at e more) → gs ≡ fs ++ f ∷ []
    → option_map (in_front gs) (facts_in (facts_among m)) ≡ option_map (in_front fs) (facts_in (facts_among ns))
fact-among fs gs f ns m e n p h g = rw (g, n, p) (put-by fs f e (facts_in (facts_among m)) h)
