-- What markup writes, one part at a time.
use Rattle.std.proofs.Common.{◌≡◌, ◌∙◌, ap, refl, ℕ, Bool, true, false, List, [], ◌∷◌, Option, map, length, ◌≤◌, codes, arith}
use Rattle.ix_base.specs.declared.content.Dim.{Dim}
use Rattle.ix_base.specs.declared.content.Fact.{Fact, out-Fact}
use Rattle.ix_base.specs.declared.content.Fact.TheOpen.{Fact-F}
use Rattle.ix_base.specs.declared.content.Fact.TheFolds.{fold_out-Fact, fold_out-Tuple}
use Rattle.ix_base.specs.declared.content.Fact.TheVariants as fact
use Rattle.ix_base.specs.declared.content.Item.{Item}
use Rattle.ix_base.specs.declared.content.Member.{Member}
use Rattle.ix_base.specs.declared.content.Member.TheVariants as member
use Rattle.ix_base.specs.declared.content.OwnName.{OwnName}
use Rattle.ix_base.specs.declared.content.Tuple.{Tuple}
use Rattle.ix_base.specs.declared.content.Value.{Value}
use Rattle.ix_base.specs.declared.content.Value.TheVariants as value
use Rattle.ix_base.specs.Facts.{Facts, none, before, facts_of}
use Rattle.ix_base.specs.WrittenMarkup.{Attribute, Markup, nothing, node, written}
use Rattle.ix_base.proofs.FactLaws.{before-Item, before-Tuple}
use Rattle.instance_lines.specs.Canonical.{Spaces, dim_markup, member_markup, each_markup, facts_markup, fact_markups, measures_markup, ratio_markup, item_markup, value_markup, tuple_markup, item_attrs}
use Rattle.instance_lines.specs.Elements.{fact_markup}
use Rattle.instance_lines.specs.Prefixes.{name_text}

written-member : (spaces : Spaces) (n : OwnName) (m : Member) (rest : Markup) (more : List ℕ)
    → written (member_markup spaces n m rest) more ≡ written (member_markup spaces n m nothing) (written rest more)
written-member spaces n (member.Explicit name) rest more = refl
written-member spaces n (member.Typed name text) rest more = refl

pub dims_step : (spaces : Spaces) (d : Dim) (more : List ℕ) (ds : List Dim)
    → written (each_markup (dim_markup spaces) (d ∷ ds) nothing) more ≡ written (dim_markup spaces d nothing) (written (each_markup (dim_markup spaces) ds nothing) more)
dims_step spaces d more ds = written-member spaces d.dimension d.member (each_markup (dim_markup spaces) ds nothing) more

written-value : (name : List ℕ) (attrs : List Attribute) (v : Value) (rest : Markup) (more : List ℕ)
    → written (value_markup name attrs v rest) more ≡ written (value_markup name attrs v nothing) (written rest more)
written-value name attrs value.Nil rest more = refl
written-value name attrs (value.Plain text) rest more = refl
written-value name attrs (value.Fraction above below) rest more = refl

written-tuple : (name : List ℕ) (id : Option (List ℕ)) (nil : Bool) (members rest : Markup) (more : List ℕ)
    → written (tuple_markup name id nil members rest) more ≡ written (tuple_markup name id nil members nothing) (written rest more)
written-tuple name id true members rest more = refl
written-tuple name id false members rest more = refl

-- a fact in front of others
pub written-before : (spaces : Spaces) (f : Fact) (rest : Facts) (more : List ℕ)
    → written (facts_markup spaces (before f rest)) more ≡ written (fact_markup spaces f) (written (facts_markup spaces rest) more)
written-before spaces f rest more = by (out-Fact f) refl
  where
    by : (o : Fact-F Fact Tuple) → out-Fact f ≡ o → written (facts_markup spaces (before f rest)) more ≡ written (fact_markup spaces f) (written (facts_markup spaces rest) more)
    by (Fact-F.Item i) e = rw (fold_out-Fact, e) (written-value (name_text spaces i.name) (item_attrs i) i.value (facts_markup spaces rest) more)
    by (Fact-F.Tuple t) e = rw (fold_out-Fact, e, fold_out-Tuple) (written-tuple _ _ _ _ (facts_markup spaces rest) more)

-- an item and a tuple by themselves
pub fact_markup-Item : (spaces : Spaces) (i : Item) → fact_markup spaces (fact.Item i) ≡ item_markup spaces i nothing
fact_markup-Item spaces i = ap (facts_markup spaces) (before-Item i none)

pub fact_markup-Tuple : (spaces : Spaces) (t : Tuple) → fact_markup spaces (fact.Tuple t) ≡ tuple_markup (name_text spaces t.name) t.id t.nil (facts_markup spaces (facts_of t.members)) nothing
fact_markup-Tuple spaces t = ap (facts_markup spaces) (before-Tuple t none)

markups-before : (spaces : Spaces) (f : Fact) (rest : Facts) → fact_markups spaces (before f rest) ≡ fact_markup spaces f ∷ fact_markups spaces rest
markups-before spaces f rest = by (out-Fact f) refl
  where
    by : (o : Fact-F Fact Tuple) → out-Fact f ≡ o → fact_markups spaces (before f rest) ≡ fact_markup spaces f ∷ fact_markups spaces rest
    by (Fact-F.Item i) e = rw (fold_out-Fact, e) refl
    by (Fact-F.Tuple t) e = rw (fold_out-Fact, e, fold_out-Tuple) refl

-- facts each by itself
pub fact_markups-are : (spaces : Spaces) (fs : List Fact) → fact_markups spaces (facts_of fs) ≡ map (fact_markup spaces) fs
fact_markups-are spaces [] = refl
fact_markups-are spaces (f ∷ fs) = markups-before spaces f (facts_of fs) ∙ ap (λ l. fact_markup spaces f ∷ l) (fact_markups-are spaces fs)

-- a unit with measures below
pub ratio-divide : (spaces : Spaces) (over under : List OwnName) (more : List ℕ) → 1 ≤ length under
    → written (ratio_markup spaces over under) more ≡ written (
    node (codes "xbrli:divide") []
    (node (codes "xbrli:unitNumerator") [] (measures_markup spaces over)
    (node (codes "xbrli:unitDenominator") [] (measures_markup spaces under) nothing))
    nothing) more
ratio-divide spaces over [] more h = absurd (omega arith)
ratio-divide spaces over (n ∷ ns) more h = refl
