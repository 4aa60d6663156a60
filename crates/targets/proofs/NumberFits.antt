-- The numbers of a content: how exact each is, its unit and its text, and the parts of fractions.
use Rattle.std.proofs.Common.{◌≡◌, ◌∙◌, ap, sym, subst, refl, ℕ, Bool, true, false, cond, not, List, [], ◌∷◌, Option, None, Some, option_map, codes, arith}
use Rattle.std.specs.List.{Contains, list_any}
use Rattle.std.specs.Option.{option_map_or, option_or}
use Rattle.std.specs.Prelude.{◌&&◌, ◌||◌, ◌==◌, is_none, is_some, Result, Ok, Err}
use Rattle.std.proofs.lemmas.Bool.{and_from, and_parts, or_left, or_parts, or_right}
use Rattle.ix_base.specs.declared.content.Accuracy.{Accuracy}
use Rattle.ix_base.specs.declared.content.Accuracy.TheVariants as accuracy
use Rattle.ix_base.specs.declared.content.Content.{Content}
use Rattle.ix_base.specs.declared.content.Item.{Item}
use Rattle.ix_base.specs.declared.content.Value.{Value}
use Rattle.ix_base.specs.declared.content.Value.TheVariants as value
use Rattle.ix_base.specs.declared.kind.Kind.{Kind}
use Rattle.ix_base.specs.declared.kind.Kind.TheVariants as kind
use Rattle.ix_base.specs.declared.rule.Rule.{Rule}
use Rattle.ix_base.specs.declared.rule.Rule.TheVariants as rule
use Rattle.ix_base.specs.Asks.{asks}
use Rattle.ix_base.specs.ElementRules.{breaks, breaks_accuracy, breaks_required, element_rules, misses, required}
use Rattle.ix_base.specs.Forms.{integer_form, is_canonical_decimal, is_decimals, is_infinite, is_integer, is_negative, is_precision, is_zero, size_of}
use Rattle.ix_base.specs.Kinds.{kind_of}
use Rattle.ix_base.specs.LocatedElements.{Located}
use Rattle.ix_base.specs.Readers.{attr, is_nil, unit_of}
use Rattle.ix_base.specs.Token.{token_of}
use Rattle.ix_base.specs.Trees.{Tree}
use Rattle.ix_base.specs.FactViews.{view}
use Rattle.facts.specs.Exactness.{accuracy_by, accuracy_of, exact_form}
use Rattle.facts.specs.FractionValue.{IsFractionValue, IsPart, fraction, over, part_in, part_number}
use Rattle.facts.specs.ItemValue.{IsPlain, IsTextBy, IsValueBy, ItemText, item_text}
use Rattle.facts.specs.NumberValue.{IsNumberValue, Number, number_by, number_text}
use Rattle.instance_out.specs.Proper.{fractions_fit, is_exact, is_numeric, is_ratio, is_unitless, numbers_fit, unitless_fit}
use Rattle.ix_base.specs.PlainContents.{said_of}
use Rattle.targets.specs.ValidSets.{IsClean}
use Rattle.target_contents.specs.Contents.{IsContent}
use Rattle.target_contents.specs.PageSet.{PageSet, base_at, elements}
use Rattle.targets.proofs.CanonicalLaws.{integer-passes, number-passes, whole-form-passes}
use Rattle.target_contents.proofs.FitLaws.{none-broken}
use Rattle.targets.proofs.FromElements.{FromItem, items-pass}

-- How exact a number is.

not-false : (b : Bool) → not b ≡ false → b ≡ true
not-false true h = refl
not-false false h = absurd (cc)

or-rest : (a b : Bool) → a ≡ false → (a || b) ≡ true → b ≡ true
or-rest true b n h = absurd (cc)
or-rest false b n h = h

decimals-exact : (v : List ℕ) → is_decimals v ≡ true → is_exact (accuracy.Decimals (exact_form v)) ≡ true
decimals-exact v h = by (is_infinite v) refl where
  by : (b : Bool) → is_infinite v ≡ b → is_exact (accuracy.Decimals (cond b (codes "INF") (integer_form (token_of v)))) ≡ true
  by true e = refl
  by false e = or_right _ _ (integer-passes (token_of v) (or-rest (is_infinite v) (is_integer (token_of v)) e h))

precision-exact : (v : List ℕ) → is_precision v ≡ true → is_exact (accuracy.Precision (exact_form v)) ≡ true
precision-exact v h = by (is_infinite v) refl where
  by : (b : Bool) → is_infinite v ≡ b → is_exact (accuracy.Precision (cond b (codes "INF") (integer_form (token_of v)))) ≡ true
  by true e = refl
  by false e =
      let text = token_of v in
      let parts = and_parts (is_integer text) (not (is_negative text) || size_of text == 0) (or-rest (is_infinite v) _ e h) in
      or_right _ _ (whole-form-passes text parts.0 parts.1)

-- what an accuracy is, where there is one of its form
exact-by : (decimals precision : Option (List ℕ)) → option_map_or (λ v. not (is_decimals v)) decimals false ≡ false
    → option_map_or (λ v. not (is_precision v)) precision false ≡ false → (is_none decimals && is_none precision) ≡ false
    → (a : Accuracy) × (option_or (option_map (λ v. accuracy.Decimals (exact_form v)) decimals) (option_map (λ v. accuracy.Precision (exact_form v)) precision) ≡ Some a)
    × (is_exact a ≡ true)
exact-by None None d p some = absurd (cc)
exact-by None (Some v) d p some = (accuracy.Precision (exact_form v), refl, precision-exact v (not-false (is_precision v) p))
exact-by (Some v) precision d p some = (accuracy.Decimals (exact_form v), refl, decimals-exact v (not-false (is_decimals v) d))

-- The unit of a number.

some-token : (o : Option (List ℕ)) → is_none o ≡ false → (u : List ℕ) × (option_map token_of o ≡ Some u)
some-token None h = absurd (cc)
some-token (Some v) h = (token_of v, refl)

three-parts : (a b c : Bool) → (a || (b || (c || false))) ≡ false → c ≡ false
three-parts a b c h = (or_parts c false (or_parts b (c || false) (or_parts a (b || (c || false)) h).1).1).0

unit-there : (t : Tree) → list_any (misses t) (codes "name" ∷ codes "contextRef" ∷ codes "unitRef" ∷ []) ≡ false
    → (u : List ℕ) × (option_map token_of (attr (codes "unitRef") t) ≡ Some u)
unit-there t h =
    some-token (attr (codes "unitRef") t)
    (three-parts (misses t (codes "name")) (misses t (codes "contextRef")) (misses t (codes "unitRef")) h)

-- Values, by what says them.

nil-number : (u : Option (List ℕ)) → is_numeric u value.Nil None ≡ true
nil-number None = refl
nil-number (Some u) = refl

fraction-number : (u : Option (List ℕ)) (a b : List ℕ) → is_numeric u (value.Fraction a b) None ≡ true
fraction-number None a b = refl
fraction-number (Some u) a b = refl

-- a fraction of two numbers, of which the one below isn't zero
over-is : (n d : List ℕ) (v : Value) → Ok v ≡ over n d → (v ≡ value.Fraction n d) × (is_zero d ≡ false)
over-is n d v e = by (is_zero d) refl e where
  by : (b : Bool) → is_zero d ≡ b → Ok v ≡ cond b (Err rule.V5) (Ok (value.Fraction n d)) → (v ≡ value.Fraction n d) × (is_zero d ≡ false)
  by true z f = absurd (cc)
  by false z f = (cc, z)

pub fraction-is : (v : Value) (n d : Result (List ℕ) Rule) → Ok v ≡ fraction n d
    → (a : List ℕ) × (b : List ℕ) × (n ≡ Ok a) × (d ≡ Ok b) × (v ≡ value.Fraction a b) × (is_zero b ≡ false)
fraction-is v (Ok n) (Ok d) e = let is = over-is n d v e in (n, d, refl, refl, is.0, is.1)
fraction-is v (Ok n) (Err r) e = absurd (cc)
fraction-is v (Err q) (Ok d) e = absurd (cc)
fraction-is v (Err q) (Err r) e = absurd (cc)

-- the text of a number passes
pub value-passes : (n : Number) (text : List ℕ) → IsNumberValue n (Ok text) → is_canonical_decimal text ≡ true
value-passes n text h = number-passes h.0 n.scale n.negative text h.2

pub ratio-of : (t : Tree) (v : Value) → IsFractionValue t (Ok v) → (is_ratio v ≡ true) × ((u : Option (List ℕ)) → is_numeric u v None ≡ true)
ratio-of t v (n, (hn, (d, (hd, e)))) =
    let is = fraction-is v n d e in
    let a = is.0 in
    let b = is.1 in
    let above = value-passes (part_number (part_in (codes "numerator") t.children)) a (subst (IsPart (codes "numerator") t) is.2 hn) in
    let below = value-passes (part_number (part_in (codes "denominator") t.children)) b (subst (IsPart (codes "denominator") t) is.3 hd) in (
      ap is_ratio is.4 ∙ and_from _ _ (and_from _ _ above below) (ap not is.5),
      λ u. ap (λ w. is_numeric u w None) is.4 ∙ fraction-number u a b,
    )

-- The three tests, by the kind of the element.

-- a number with its unit and its accuracy
exact-number : (u : List ℕ) (a : Accuracy) (n : Number) (text : List ℕ) → is_exact a ≡ true → IsNumberValue n (Ok text)
    → is_numeric (Some u) (value.Plain text) (Some a) ≡ true
exact-number u a n text e h = and_from (is_exact a) (is_canonical_decimal text) e (value-passes n text h)

accuracy-there : (t : Tree) → is_nil t ≡ false → breaks_accuracy kind.NonFraction t ≡ false → (a : Accuracy) × (accuracy_of kind.NonFraction t ≡ Some a) × (is_exact a ≡ true)
accuracy-there t nil h =
    let decimals = attr (codes "decimals") t in
    let precision = attr (codes "precision") t in
    let d = option_map_or (λ v. not (is_decimals v)) decimals false in
    let p = option_map_or (λ v. not (is_precision v)) precision false in
    let both = is_some decimals && is_some precision in
    let lacks = not (is_nil t) && is_none decimals && is_none precision in
    let parts = or_parts (d || p || both) lacks h in
    let forms = or_parts (d || p) both parts.0 in
    let each = or_parts d p forms.0 in
    let some : (is_none decimals && is_none precision) ≡ false =
    ap (λ b. not b && is_none decimals && is_none precision) (sym nil) ∙ parts.1 in
    let found = exact-by decimals precision each.0 each.1 some in
    (found.0, ap (λ b. accuracy_by b t) nil ∙ found.1, found.2)

number-of : (t : Tree) (v : Value) (n : Number) → is_nil t ≡ false → IsPlain (IsNumberValue n) (Ok v)
    → list_any (misses t) (required kind.NonFraction) ≡ false → breaks_accuracy kind.NonFraction t ≡ false
    → is_numeric (unit_of kind.NonFraction t) v (accuracy_of kind.NonFraction t) ≡ true
number-of t value.Nil n e h req acc = absurd h
number-of t (value.Fraction a b) n e h req acc = absurd h
number-of t (value.Plain text) n e h req acc =
    let u = unit-there t req in
    let a = accuracy-there t e acc in
    ap (λ o. is_numeric o (value.Plain text) (accuracy_of kind.NonFraction t)) u.1
    ∙ ap (λ o. is_numeric (Some u.0) (value.Plain text) o) a.1 ∙ exact-number u.0 a.0 n text a.2 h

number-by : (k : Kind) (text : ItemText) (t : Tree) (v : Value) (nil : Bool) → is_nil t ≡ nil → IsValueBy nil k text t (Ok v) → breaks_required k t ≡ false
    → breaks_accuracy k t ≡ false → is_numeric (unit_of k t) v (accuracy_of k t) ≡ true
number-by kind.NonFraction text t v true e h req acc =
    let is : v ≡ value.Nil = cc in
    ap (λ w. is_numeric (unit_of kind.NonFraction t) w (accuracy_of kind.NonFraction t)) is
    ∙ ap (λ b. is_numeric (unit_of kind.NonFraction t) value.Nil (accuracy_by b t)) e ∙ nil-number (unit_of kind.NonFraction t)
number-by kind.NonFraction text t v false e h req acc = number-of t v (number_by (view t) (number_text t.children)) e h req acc
number-by kind.Fraction text t v true e h req acc =
    let is : v ≡ value.Nil = cc in
    ap (λ w. is_numeric (unit_of kind.Fraction t) w None) is ∙ nil-number (unit_of kind.Fraction t)
number-by kind.Fraction text t v false e h req acc = (ratio-of t v h).1 (unit_of kind.Fraction t)
number-by k text t v nil e h req acc = refl

plain-unitless : (Is : Result (List ℕ) Rule → Type 0) (v : Value) → IsPlain Is (Ok v) → is_unitless v ≡ true
plain-unitless Is value.Nil h = absurd h
plain-unitless Is (value.Plain text) h = refl
plain-unitless Is (value.Fraction a b) h = absurd h

plain-ratio : (Is : Result (List ℕ) Rule → Type 0) (v : Value) → IsPlain Is (Ok v) → is_ratio v ≡ true
plain-ratio Is value.Nil h = absurd h
plain-ratio Is (value.Plain text) h = refl
plain-ratio Is (value.Fraction a b) h = absurd h

unitless-by : (k : Kind) (text : ItemText) (t : Tree) (v : Value) (nil : Bool) → IsValueBy nil k text t (Ok v) → breaks_required k t ≡ false
    → (is_some (unit_of k t) || is_unitless v) ≡ true
unitless-by k text t v true h req =
    let is : v ≡ value.Nil = cc in
    or_right (is_some (unit_of k t)) (is_unitless v) (ap is_unitless is)
unitless-by kind.Fraction text t v false h req = let u = unit-there t req in or_left _ _ (ap is_some u.1)
unitless-by kind.NonNumeric text t v false h req = plain-unitless (IsTextBy (view t).format text) v h
unitless-by k text t v false h req =
    or_right (is_some (unit_of k t)) (is_unitless v) (plain-unitless (IsNumberValue (number_by (view t) (number_text t.children))) v h)

ratio-by : (k : Kind) (text : ItemText) (t : Tree) (v : Value) (nil : Bool) → IsValueBy nil k text t (Ok v) → is_ratio v ≡ true
ratio-by k text t v true h = let is : v ≡ value.Nil = cc in ap is_ratio is
ratio-by kind.Fraction text t v false h = (ratio-of t v h).0
ratio-by kind.NonNumeric text t v false h = plain-ratio (IsTextBy (view t).format text) v h
ratio-by k text t v false h = plain-ratio (IsNumberValue (number_by (view t) (number_text t.children))) v h

-- The three tests, of the items of a set.

module _ (s : PageSet) (clean : IsClean s) where
  abbrev Says : Item → Type 0
  Says = FromItem (base_at s) (elements s)

  keeps : (e : Located) → Contains (elements s) e → (r : Rule) → Contains element_rules r → breaks e.placed r ≡ false
  keeps e at r which = none-broken 0 s.pages clean.elements e at r which

  pub number-says : (i : Item) → Says i → is_numeric i.unit i.value i.accuracy ≡ true
  number-says i (e, at, is, says) =
      let t = e.placed.tree in
      let k = kind_of e.placed in
      subst (λ (j : Item). is_numeric j.unit j.value j.accuracy ≡ true) (sym says.1)
      (number-by k (item_text (base_at s) (asks (elements s)) e) t i.value (is_nil t) refl says.0
      (keeps e at rule.N2 (1, omega arith, refl)) (keeps e at rule.N9 (8, omega arith, refl)))

  unitless-says : (i : Item) → Says i → (is_some i.unit || is_unitless i.value) ≡ true
  unitless-says i (e, at, is, says) =
      let t = e.placed.tree in
      subst (λ (j : Item). (is_some j.unit || is_unitless j.value) ≡ true) (sym says.1)
      (unitless-by (kind_of e.placed) (item_text (base_at s) (asks (elements s)) e) t i.value (is_nil t) says.0 (keeps e at rule.N2 (1, omega arith, refl)))

  ratio-says : (i : Item) → Says i → is_ratio i.value ≡ true
  ratio-says i (e, at, is, says) =
      ratio-by (kind_of e.placed) (item_text (base_at s) (asks (elements s)) e) e.placed.tree i.value (is_nil e.placed.tree) says.0

-- accuracy stands exactly on numbers with units, which are canonical decimals
pub numbers-fit : (s : PageSet) → IsClean s → (target : List ℕ) (c : Content) → IsContent (base_at s) (elements s) target c → numbers_fit (said_of c) ≡ true
unfolding numbers_fit
numbers-fit s clean target c is =
    items-pass (base_at s) (elements s) (λ i. is_numeric i.unit i.value i.accuracy) (number-says s clean) target c is

-- an item without a unit is no fraction
pub unitless-fit : (s : PageSet) → IsClean s → (target : List ℕ) (c : Content) → IsContent (base_at s) (elements s) target c → unitless_fit (said_of c) ≡ true
unfolding unitless_fit
unitless-fit s clean target c is =
    items-pass (base_at s) (elements s) (λ i. is_some i.unit || is_unitless i.value) (unitless-says s clean) target c is

-- the parts of fractions are canonical decimals, of which the one below isn't zero
pub fractions-fit : (s : PageSet) → IsClean s → (target : List ℕ) (c : Content) → IsContent (base_at s) (elements s) target c → fractions_fit (said_of c) ≡ true
unfolding fractions_fit
fractions-fit s clean target c is = items-pass (base_at s) (elements s) (λ i. is_ratio i.value) (ratio-says s clean) target c is
