-- The values of items are of allowed characters: numbers, transformed texts, and the texts of chains.
use Rattle.std.proofs.Common.{◌≡◌, ◌∙◌, ap, sym, subst, refl, ℕ, zero, suc, Bool, true, false, not, List, [], ◌∷◌, Option, None, Some}
use Rattle.std.specs.List.{All, Contains, filter}
use Rattle.std.specs.Option.{option_map_or}
use Rattle.std.specs.Prelude.{◌&&◌, Ok, option_and_then}
use Rattle.std.proofs.lemmas.Bool.{and_parts}
use Rattle.std.proofs.lemmas.List.Elements.{All-cons, All-nil, All-weaker}
use Rattle.ix_base.specs.declared.content.Value.{Value}
use Rattle.ix_base.specs.declared.content.Value.TheVariants as value
use Rattle.ix_base.specs.declared.kind.Kind.{Kind}
use Rattle.ix_base.specs.declared.kind.Kind.TheVariants as kind
use Rattle.ix_base.specs.Asks.{asks, only}
use Rattle.ix_base.specs.Chain.{chain, chain_of, continuation, continued_at, next}
use Rattle.ix_base.specs.Forms.{is_canonical_decimal, is_zero}
use Rattle.ix_base.specs.Ids.{holds_id}
use Rattle.ix_base.specs.LocatedElements.{Located, is_continuation}
use Rattle.ix_base.specs.Markup.{markup_along, plain_along, raw}
use Rattle.ix_base.specs.Namespaces.{xhtml_namespace}
use Rattle.ix_base.specs.NcName.{are_allowed}
use Rattle.ix_base.specs.Readers.{escapes}
use Rattle.ix_base.specs.Trees.{Named, Tree}
use Rattle.ix_base.specs.FactViews.{view}
use Rattle.facts.proofs.PlainLaws.{said-plain}
use Rattle.facts.specs.FractionValue.{IsFractionValue}
use Rattle.facts.specs.ItemValue.{IsPlain, IsTextBy, IsValueBy, ItemText, item_text}
use Rattle.facts.specs.NumberValue.{IsNumberValue, number_by, number_text}
use Rattle.instance_lines.specs.Holdings.{value_texts}
use Rattle.instance_out.specs.Proper.{is_ratio}
use Rattle.targets.specs.ValidSets.{IsClean}
use Rattle.target_contents.specs.PageSet.{PageSet, base_at, elements}
use Rattle.targets.proofs.AsciiLaws.{decimal-allowed, plain-allowed}
use Rattle.targets.proofs.FromElements.{such-there}
use Rattle.targets.proofs.MarkupTexts.{IsAllowed, along-allowed, marked-allowed}
use Rattle.targets.proofs.NumberFits.{fraction-is, ratio-of, value-passes}
use Rattle.targets.proofs.SoundLaws.{IsSoundAt, sound-at}

-- Texts.

text-allowed : (format : Option Named) (text : ItemText) (v : List ℕ) → IsAllowed text.raw → IsTextBy format text (Ok v) → IsAllowed v
text-allowed None text v raw h = let same : v ≡ text.raw = cc in ap are_allowed same ∙ raw
text-allowed (Some name) text v raw h = plain-allowed v (said-plain name text.plain v h)

text-values : (format : Option Named) (text : ItemText) (v : Value) → IsAllowed text.raw → IsPlain (IsTextBy format text) (Ok v) → All IsAllowed (value_texts v)
text-values format text value.Nil raw h = absurd h
text-values format text (value.Fraction a b) raw h = absurd h
text-values format text (value.Plain v) raw h = All-cons IsAllowed v [] (text-allowed format text v raw h) (All-nil IsAllowed)

number-values : (t : Tree) (v : Value) → IsPlain (IsNumberValue (number_by (view t) (number_text t.children))) (Ok v) → All IsAllowed (value_texts v)
number-values t value.Nil h = absurd h
number-values t (value.Fraction a b) h = absurd h
number-values t (value.Plain v) h =
    All-cons IsAllowed v [] (decimal-allowed v (value-passes (number_by (view t) (number_text t.children)) v h)) (All-nil IsAllowed)

fraction-values : (a b : List ℕ) → is_ratio (value.Fraction a b) ≡ true → All IsAllowed (a ∷ b ∷ [])
fraction-values a b h =
    let z = and_parts (is_canonical_decimal a && is_canonical_decimal b) (not (is_zero b)) h in
    let y = and_parts (is_canonical_decimal a) (is_canonical_decimal b) z.0 in
    All-cons IsAllowed a (b ∷ []) (decimal-allowed a y.0) (All-cons IsAllowed b [] (decimal-allowed b y.1) (All-nil IsAllowed))

ratio-values : (t : Tree) (v : Value) → IsFractionValue t (Ok v) → All IsAllowed (value_texts v)
ratio-values t v (n, (hn, (d, (hd, e)))) =
    let is = fraction-is v n d e in
    let passes = (ratio-of t v (n, (hn, (d, (hd, e))))).0 in
    subst (λ w. All IsAllowed (value_texts w)) (sym is.4) (fraction-values is.0 is.1 (ap is_ratio (sym is.4) ∙ passes))

-- the texts of a value that an element says
pub values-by : (k : Kind) (text : ItemText) (t : Tree) (v : Value) (nil : Bool) → IsAllowed text.raw → IsValueBy nil k text t (Ok v) → All IsAllowed (value_texts v)
values-by k text t v true raw h = let is : v ≡ value.Nil = cc in subst (λ w. All IsAllowed (value_texts w)) (sym is) (All-nil IsAllowed)
values-by kind.NonNumeric text t v false raw h = text-values (view t).format text v raw h
values-by kind.Fraction text t v false raw h = ratio-values t v h
values-by k text t v false raw h = number-values t v h

-- The text of a chain.

module _ (s : PageSet) (clean : IsClean s) where
  next-there : (e x : Located) → next (asks (elements s)) e ≡ Some x → Contains (elements s) x
  next-there e x h = by (continued_at e) h
    where
      by : (o : Option (List ℕ)) → option_and_then (continuation (asks (elements s))) o ≡ Some x → Contains (elements s) x
      by None f = absurd (cc)
      by (Some id) f =
          (such-there (base_at s) (elements s) kind.Continuation x (holds_id id) (only (filter (holds_id id) (elements s))) refl f).0

  chain-there : (n : ℕ) (e : Located) → Contains (elements s) e → All (Contains (elements s)) (chain_of (asks (elements s)) n e)
  chain-there zero e at = All-nil (Contains (elements s))
  chain-there (suc n) e at =
      All-cons (Contains (elements s)) e (option_map_or (chain_of (asks (elements s)) n) (next (asks (elements s)) e) []) at
      (by (next (asks (elements s)) e) refl (chain-there n))
    where
      by : (o : Option Located) → next (asks (elements s)) e ≡ o
          → ((x : Located) → Contains (elements s) x → All (Contains (elements s)) (chain_of (asks (elements s)) n x))
          → All (Contains (elements s)) (option_map_or (chain_of (asks (elements s)) n) o [])
      by None f k = All-nil (Contains (elements s))
      by (Some x) f k = k x (next-there e x f)

  chain-sound : (e : Located) → Contains (elements s) e → All (λ x. IsSoundAt x.placed.tree) (chain (asks (elements s)) e)
  chain-sound e at =
      All-weaker (Contains (elements s)) (λ (x : Located). IsSoundAt x.placed.tree) (sound-at s clean) (chain (asks (elements s)) e)
      (chain-there (suc ((asks (elements s)).count is_continuation)) e at)

  -- the text of an element and of those at which it goes on
  pub raw-allowed : (e : Located) → Contains (elements s) e → IsAllowed (item_text (base_at s) (asks (elements s)) e).raw
  raw-allowed e at =
      let es = chain (asks (elements s)) e in
      elim (escapes e.placed.tree) as (λ b. IsAllowed (elim b [
        | true ↦ markup_along (λ x. Some (base_at s x)) xhtml_namespace es
        | false ↦ plain_along es
      ])) [
        | true ↦ marked-allowed (λ x. Some (base_at s x)) xhtml_namespace es (chain-sound e at)
        | false ↦ along-allowed es (chain-sound e at)
      ]
