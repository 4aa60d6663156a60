-- An element says one item, or breaks one rule; and where its chain counts.
use Rattle.std.proofs.Common.{◌≡◌, ◌∙◌, ap, sym, refl, subst, List, ℕ, Bool, true, false, Option, Some, None, Result, Ok, Err, codes}
use Rattle.ix_base.specs.declared.content.Item.{Item}
use Rattle.ix_base.specs.declared.content.Value.{Value}
use Rattle.ix_base.specs.declared.content.Value.TheVariants as value
use Rattle.ix_base.specs.declared.kind.Kind.{Kind}
use Rattle.ix_base.specs.declared.kind.Kind.TheVariants as kind
use Rattle.ix_base.specs.declared.rule.Rule.{Rule}
use Rattle.ix_base.specs.Asks.{Asks}
use Rattle.ix_base.specs.Chain.{chain}
use Rattle.ix_base.specs.Elements.{Placed}
use Rattle.ix_base.specs.Kinds.{kind_of, same_kind}
use Rattle.ix_base.specs.LocatedElements.{Located}
use Rattle.ix_base.specs.Markup.{markup_along, plain_along}
use Rattle.ix_base.specs.Namespaces.{xhtml_namespace}
use Rattle.ix_base.specs.Readers.{escapes, is_nil}
use Rattle.ix_base.specs.Trees.{Named, Tree}
use Rattle.ix_base.specs.FactViews.{view}
use Rattle.facts.specs.ChainTexts.{raw_along, text_along}
use Rattle.facts.specs.FractionValue.{IsFractionValue, IsPart, fraction, part_in, part_number}
use Rattle.facts.specs.ItemValue.{ItemText, item_text, IsTextBy, IsPlain, IsValueAs, IsValueBy, IsValueOf, IsItemOf, item_with}
use Rattle.facts.specs.NumberValue.{IsNumberValue, number_by, number_text}
use Rattle.facts.specs.Verdicts.{as_plain}
use Rattle.facts.proofs.FormatLaws.{one_transformed, one_value}

-- the text that a plain value is
text_of : (R : Result (List ℕ) Rule → Type 0) (r : Result Value Rule) → IsPlain R r → (q : Result (List ℕ) Rule) × (R q × (r ≡ as_plain q))
text_of R (Ok (value.Plain v)) h = (Ok v, (h, refl))
text_of R (Ok value.Nil) h = absurd h
text_of R (Ok (value.Fraction n d)) h = absurd h
text_of R (Err r) h = (Err r, (h, refl))

one_plain : (R : Result (List ℕ) Rule → Type 0) → ((p q : Result (List ℕ) Rule) → R p → R q → p ≡ q)
    → (r s : Result Value Rule) → IsPlain R r → IsPlain R s → r ≡ s
one_plain R one r s a b =
    let x = text_of R r a in
    let y = text_of R s b in
    x.1.1 ∙ ap as_plain (one x.0 y.0 x.1.0 y.1.0) ∙ sym y.1.1

one_text : (format : Option Named) (text : ItemText) (p q : Result (List ℕ) Rule) → IsTextBy format text p → IsTextBy format text q → p ≡ q
one_text None text p q a b = a ∙ sym b
one_text (Some name) text p q a b = one_transformed name text.plain p q a b

one_part : (local : List ℕ) (t : Tree) (p q : Result (List ℕ) Rule) → IsPart local t p → IsPart local t q → p ≡ q
one_part local t p q a b = one_value (part_number (part_in local t.children)) p q a b

one_fraction : (t : Tree) (r s : Result Value Rule) → IsFractionValue t r → IsFractionValue t s → r ≡ s
one_fraction t r s (m, (hm, (c, (hc, a)))) (n, (hn, (d, (hd, b)))) =
    a ∙ ap (λ x. fraction x c) (one_part (codes "numerator") t m n hm hn)
    ∙ ap (λ y. fraction n y) (one_part (codes "denominator") t c d hc hd) ∙ sym b

one_number : (t : Tree) (r s : Result Value Rule) → IsPlain (IsNumberValue (number_by (view t) (number_text t.children))) r
    → IsPlain (IsNumberValue (number_by (view t) (number_text t.children))) s → r ≡ s
one_number t r s a b =
    let n = number_by (view t) (number_text t.children) in
    one_plain (IsNumberValue n) (one_value n) r s a b

one_as : (k : Kind) (text : ItemText) (t : Tree) (r s : Result Value Rule) → IsValueAs k text t r → IsValueAs k text t s → r ≡ s
one_as kind.NonNumeric text t r s a b = one_plain (IsTextBy (view t).format text) (one_text (view t).format text) r s a b
one_as kind.Fraction text t r s a b = one_fraction t r s a b
one_as k text t r s a b = one_number t r s a b

one_by : (nil : Bool) (k : Kind) (text : ItemText) (t : Tree) (r s : Result Value Rule)
    → IsValueBy nil k text t r → IsValueBy nil k text t s → r ≡ s
one_by true k text t r s a b = a ∙ sym b
one_by false k text t r s a b = one_as k text t r s a b

one_of : (text : ItemText) (p : Placed) (r s : Result Value Rule) → IsValueOf text p r → IsValueOf text p s → r ≡ s
one_of text p r s a b = one_by (is_nil p.tree) (kind_of p) text p.tree r s a b

pub one_item : (text : ItemText) (p : Placed) (r s : Result Item Rule) → IsItemOf text p r → IsItemOf text p s → r ≡ s
one_item text p (Ok i) (Ok j) a b =
    let same : Ok i.value ≡ Ok j.value = one_of text p (Ok i.value) (Ok j.value) a.0 b.0 in
    let value : i.value ≡ j.value = cc in
    ap Ok (a.1 ∙ ap (item_with (kind_of p) p.tree) value ∙ sym b.1)
one_item text p (Ok i) (Err r) a b = absurd (let z : Ok i.value ≡ Err r = one_of text p (Ok i.value) (Err r) a.0 b in cc)
one_item text p (Err q) (Ok j) a b = absurd (let z : Ok j.value ≡ Err q = one_of text p (Ok j.value) (Err q) b.0 a in cc)
one_item text p (Err q) (Err r) a b =
    let z : Err q ≡ Err r = one_of text p (Err q) (Err r) a b in
    let rule : q ≡ r = cc in
    ap Err rule

-- only a nonNumeric looks at its text
as_along : (k : Kind) (from to : ItemText) (t : Tree) (r : Result Value Rule)
    → (same_kind k kind.NonNumeric ≡ true → from ≡ to) → IsValueAs k from t r → IsValueAs k to t r
as_along kind.NonNumeric from to t r same a = subst (λ (text : ItemText). IsValueAs kind.NonNumeric text t r) (same refl) a
as_along kind.Fraction from to t r same a = a
as_along k from to t r same a = a

by_along : (nil : Bool) (k : Kind) (from to : ItemText) (t : Tree) (r : Result Value Rule)
    → (same_kind k kind.NonNumeric ≡ true → from ≡ to) → IsValueBy nil k from t r → IsValueBy nil k to t r
by_along true k from to t r same a = a
by_along false k from to t r same a = as_along k from to t r same a

of_along : (from to : ItemText) (p : Placed) (r : Result Value Rule)
    → (same_kind (kind_of p) kind.NonNumeric ≡ true → from ≡ to) → IsValueOf from p r → IsValueOf to p r
of_along from to p r same a = by_along (is_nil p.tree) (kind_of p) from to p.tree r same a

pub item_along : (from to : ItemText) (p : Placed) (r : Result Item Rule)
    → (same_kind (kind_of p) kind.NonNumeric ≡ true → from ≡ to) → IsItemOf from p r → IsItemOf to p r
item_along from to p (Ok i) same a = (of_along from to p (Ok i.value) same a.0, a.1)
item_along from to p (Err r) same a = of_along from to p (Err r) same a

raw_by : (Located → List ℕ) → Asks Located → Located → Bool → List ℕ
raw_by bases a e escape = elim escape [
  | true ↦ markup_along (λ x. Some (bases x)) xhtml_namespace (chain a e)
  | false ↦ plain_along (chain a e)
]

raw-by : (bases : Located → List ℕ) (a : Asks Located) (e : Located) (escape : Bool)
    → raw_along bases escape (chain a e) ≡ raw_by bases a e escape
unfolding raw_by
raw-by bases a e true = refl
raw-by bases a e false = refl

-- the text of the chain that is an element's own
pub text-along : (bases : Located → List ℕ) (a : Asks Located) (e : Located)
    → text_along bases (escapes e.placed.tree) (chain a e) ≡ item_text bases a e
unfolding raw_by
text-along bases a e =
    ap (λ (r : List ℕ). record { plain = plain_along (chain a e); raw = r }) (raw-by bases a e (escapes e.placed.tree))
