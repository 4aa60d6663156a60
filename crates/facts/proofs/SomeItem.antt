-- No element of a set is without an item and without a rule that it breaks.
use Rattle.std.proofs.Common.{◌≡◌, refl, ℕ, List, Bool, true, false, Option, Some, None, Result, Ok, Err, codes}
use Rattle.ix_base.specs.declared.content.Item.{Item}
use Rattle.ix_base.specs.declared.content.Value.{Value}
use Rattle.ix_base.specs.declared.content.Value.TheVariants as value
use Rattle.ix_base.specs.declared.kind.Kind.{Kind}
use Rattle.ix_base.specs.declared.kind.Kind.TheVariants as kind
use Rattle.ix_base.specs.declared.rule.Rule.{Rule}
use Rattle.ix_base.specs.declared.rule.Rule.TheVariants.{V1, V2, V3, V4}
use Rattle.ix_base.specs.Elements.{Placed}
use Rattle.ix_base.specs.Kinds.{kind_of}
use Rattle.ix_base.specs.Readers.{is_nil}
use Rattle.ix_base.specs.Token.{token_of}
use Rattle.ix_base.specs.Trees.{Named, Tree}
use Rattle.ix_base.specs.FactViews.{view}
use Rattle.scale_sign.proofs.Laws.{some_number as some_scaled}
use Rattle.facts.specs.Formats.{gives_number}
use Rattle.facts.specs.FractionValue.{IsFractionValue, fraction, part_in, part_number}
use Rattle.facts.specs.ItemValue.{ItemText, IsTextBy, IsPlain, IsValueAs, IsValueBy, IsValueOf, IsItemOf, item_with}
use Rattle.facts.specs.NumberValue.{Number, IsDigits, IsNumberValue, number_by, number_text}
use Rattle.facts.specs.TextValue.{IsTransformed}
use Rattle.facts.proofs.ValueLaws.{unsigned_digits}

-- it holds of something
HasSome : {X : Type 0} → (X → Type 0) → Type 0
HasSome P = ((x : _) → P x → ⊥) → ⊥

some_text : (name : Named) (text : List ℕ) → HasSome (IsTransformed name text)
unfolding HasSome
some_text name text h = h (Err V1) (λ f is. h (Err V2) (f, is, λ v t. h (Ok v) (f, is, t)))

some_by : (format : Option Named) (text : ItemText) → HasSome (IsTextBy format text)
unfolding HasSome
some_by None text h = h (Ok text.raw) refl
some_by (Some name) text h = some_text name text.plain h

no_digits : (name : Named) (text : List ℕ) → ((r : Result (List ℕ) Rule) → IsDigits (Some name) text r → ⊥)
    → (r : Result (List ℕ) Rule) → IsTransformed name text r → ⊥
no_digits name text h (Ok v) t = by_kind (gives_number t.0) refl where
  by_kind : (b : Bool) → gives_number t.0 ≡ b → ⊥
  by_kind true g = h (Ok v) (t.0, t.1, t.2, g)
  by_kind false g = h (Err V4) (t.0, t.1, (v, t.2), g)
no_digits name text h (Err V4) t = t
no_digits name text h (Err r) t = h (Err r) t

some_digits : (format : Option Named) (text : List ℕ) → HasSome (IsDigits format text)
unfolding HasSome
some_digits None text h = h (Err V3) (λ u. h (Ok (token_of text)) (refl, u))
some_digits (Some name) text h = some_text name text (no_digits name text h)

no_number : (n : Number) → ((r : Result (List ℕ) Rule) → IsNumberValue n r → ⊥)
    → (r : Result (List ℕ) Rule) → IsDigits n.format n.text r → ⊥
no_number n h (Ok d) i =
    let v = some_scaled d n.scale n.negative (unsigned_digits n.format n.text d i) in h (Ok v.0) (d, i, v.1)
no_number n h (Err r) i = h (Err r) i

some_number : (n : Number) → HasSome (IsNumberValue n)
unfolding HasSome
some_number n h = some_digits n.format n.text (no_number n h)

some_fraction : (t : Tree) → HasSome (IsFractionValue t)
unfolding HasSome
some_fraction t h =
    some_number (part_number (part_in (codes "numerator") t.children))
    (λ n is_n. some_number (part_number (part_in (codes "denominator") t.children))
    (λ d is_d. h (fraction n d) (n, (is_n, (d, (is_d, refl))))))

no_text : (R : Result (List ℕ) Rule → Type 0) → ((r : Result Value Rule) → IsPlain R r → ⊥)
    → (r : Result (List ℕ) Rule) → R r → ⊥
no_text R h (Ok v) i = h (Ok (value.Plain v)) i
no_text R h (Err r) i = h (Err r) i

some_as : (k : Kind) (text : ItemText) (t : Tree) → HasSome (IsValueAs k text t)
unfolding HasSome
some_as kind.NonNumeric text t h = some_by (view t).format text (no_text (IsTextBy (view t).format text) h)
some_as kind.Fraction text t h = some_fraction t h
some_as k text t h =
    let n = number_by (view t) (number_text t.children) in
    some_number n (no_text (IsNumberValue n) h)

some_value : (nil : Bool) (k : Kind) (text : ItemText) (t : Tree) → HasSome (IsValueBy nil k text t)
unfolding HasSome
some_value true k text t h = h (Ok value.Nil) refl
some_value false k text t h = some_as k text t h

no_value : (text : ItemText) (p : Placed) → ((r : Result Item Rule) → IsItemOf text p r → ⊥)
    → (r : Result Value Rule) → IsValueOf text p r → ⊥
no_value text p h (Ok v) i = h (Ok (item_with (kind_of p) p.tree v)) (i, refl)
no_value text p h (Err r) i = h (Err r) i

pub some_item : (text : ItemText) (p : Placed) → ((r : Result Item Rule) → IsItemOf text p r → ⊥) → ⊥
unfolding HasSome
some_item text p h = some_value (is_nil p.tree) (kind_of p) text p.tree (no_value text p h)
