-- What elements that break no rule say: their ids, contexts and units.
use Rattle.std.proofs.Common.{◌≡◌, ◌∙◌, ap, sym, subst, refl, ℕ, Bool, true, false, List, [], ◌∷◌, Option, Some, None, arith, cond, option_map, codes}
use Rattle.std.specs.Prelude.{◌||◌, is_none, not, unwrap_or}
use Rattle.std.specs.List.{Contains, filter, list_any}
use Rattle.std.specs.Option.{option_map_or}
use Rattle.std.proofs.lemmas.Bool.{both_ways}
use Rattle.std.proofs.lemmas.Slice.Eq.{bytes_eq-Decides}
use Rattle.continuations.proofs.Walking.{some-inj}
use Rattle.ix_base.specs.declared.content.Context.{Context}
use Rattle.ix_base.specs.declared.content.Unit.{Unit as UnitContent}
use Rattle.ix_base.specs.declared.kind.Kind.{Kind}
use Rattle.ix_base.specs.declared.kind.Kind.TheVariants as kind
use Rattle.ix_base.specs.declared.rule.Rule.TheVariants as rule
use Rattle.ix_base.specs.Asks.{asks, if_such}
use Rattle.ix_base.specs.ContextForm.{context, dims_of, id_of as form_id, period_of, whom_of}
use Rattle.ix_base.specs.ElementRules.{breaks_context, breaks_unit, lacks, misses as lacks_attr, name_tokens, required}
use Rattle.ix_base.specs.Forms.{is_name_token}
use Rattle.ix_base.specs.ElementContent.{holds_only, named_in}
use Rattle.ix_base.specs.Ids.{holds_id, id_of, one_such, sole as sole_id, stands_for}
use Rattle.ix_base.specs.Kinds.{is_inline, kind_of, same_kind}
use Rattle.ix_base.specs.LinkRules.{lacks as lacks_part}
use Rattle.ix_base.specs.LocatedElements.{Located, is_item, is_kind, is_text}
use Rattle.ix_base.specs.Namespaces.{xbrli_namespace}
use Rattle.ix_base.specs.NcName.{is_ncname}
use Rattle.ix_base.specs.Readers.{attr, token_at, unit_of}
use Rattle.ix_base.specs.Steps.{sole}
use Rattle.ix_base.specs.Token.{token_of}
use Rattle.ix_base.specs.Trees.{Tree}
use Rattle.ix_base.specs.UnitForm.{ratio_in, unit}
use Rattle.ix_base.proofs.OnceLemmas.{Contains-first, Contains-from_filter}
use Rattle.xbrl_parts.proofs.SmallTimes.{chosen, step_ok}
use Rattle.targets.specs.ValidSets.{IsClean}
use Rattle.target_contents.specs.Contents.{context_at, unit_at}
use Rattle.link_ids.specs.Links.{context_named, unit_named}
use Rattle.target_contents.specs.PageSet.{PageSet, elements}
use Rattle.targets.proofs.CleanLaws.{element-keeps, link-keeps}
use Rattle.target_contents.proofs.FitLaws.{not-not, with-test}
use Rattle.targets.proofs.HolderLaws.{speaker_such, stands-speaker}
use Rattle.targets.proofs.HeardLaws.{only-one}
use Rattle.target_contents.proofs.MemberLaws.{any-passes}

some-from : {X : Type 0} (o : Option X) → is_none o ≡ false → (x : X) × (o ≡ Some x)
some-from None h = absurd (cc)
some-from (Some x) h = (x, refl)

pub text-of : (id : List ℕ) (o : Option (List ℕ)) → is_text id o ≡ true → o ≡ Some id
text-of id None h = absurd (cc)
text-of id (Some t) h = ap Some (sym ((bytes_eq-Decides id t).0 h))

pub of-text : (id : List ℕ) (o : Option (List ℕ)) → o ≡ Some id → is_text id o ≡ true
of-text id o e = ap (is_text id) e ∙ (bytes_eq-Decides id id).1 refl

pub or-left : (b c : Bool) → (b || c) ≡ false → b ≡ false
or-left true c e = absurd (cc)
or-left false c e = refl

none-passes : {X : Type 0} (p : X → Bool) (xs : List X) (x : X) → list_any p xs ≡ false → Contains xs x → p x ≡ false
none-passes p xs x h at = by (p x) refl
  where
    by : (b : Bool) → p x ≡ b → p x ≡ false
    by true e = absurd (both_ways _ h (any-passes p xs x at e))
    by false e = e

-- The one element with an id.

such-by : (p : Located → Bool) (o : Option Located) (x : Located) → if_such p o ≡ Some x → (o ≡ Some x) × (p x ≡ true)
such-by p None x h = absurd (cc)
such-by p (Some y) x h = by (p y) refl h
  where
    by : (b : Bool) → p y ≡ b → cond b (Some y) None ≡ Some x → (Some y ≡ Some x) × (p x ≡ true)
    by true e g = let same : y ≡ x = cc in (g, ap p (sym same) ∙ e)
    by false e g = absurd (cc)

pub such-parts : (p : Located → Bool) (es : List Located) (id : List ℕ) (x : Located) → one_such p (asks es) id ≡ Some x
    → Contains es x × (id_of x ≡ Some id) × (p x ≡ true)
such-parts p es id x h =
    let such = such-by p (sole_id (asks es) id) x h in
    let kept = filter (holds_id id) es in
    let there : Contains kept x = subst (λ l. Contains l x) (sym (only-one kept x such.0)) (Contains-first x []) in
    let from = Contains-from_filter (holds_id id) es x there in
    (from.0, text-of id (id_of x) from.1, such.1)

-- The ids of contexts and units.

id-form : (t : Tree) (id : List ℕ) → form_id t ≡ Some id → (token_at (codes "id") t ≡ Some id) × (is_ncname id ≡ true)
id-form t id e =
    let raw = step_ok (attr (codes "id") t) _ id e in
    let made = chosen (is_name_token raw.0) (token_of raw.0) id raw.2 in
    (ap (option_map token_of) raw.1 ∙ ap Some made.1, subst (λ x. is_ncname x ≡ true) made.1 made.0)

pub context-id : (e : Located) (c : Context) → context_at e ≡ Some c → (id_of e ≡ Some c.id) × (is_ncname c.id ≡ true)
unfolding context
context-id e c h =
    let t = e.placed.tree in
    let id = step_ok (form_id t) _ c h in
    let entity = step_ok (sole (named_in xbrli_namespace (codes "entity") t.children)) _ c id.2 in
    let whom = step_ok (whom_of entity.0) _ c entity.2 in
    let when = step_ok (sole (named_in xbrli_namespace (codes "period") t.children)) _ c whom.2 in
    let at = step_ok (period_of when.0) _ c when.2 in
    let scenario = step_ok (dims_of (named_in xbrli_namespace (codes "scenario") t.children)) _ c at.2 in
    let made = chosen (holds_only xbrli_namespace (codes "entity" ∷ codes "period" ∷ codes "scenario" ∷ []) t.children) _ c scenario.2 in
    let same : id.0 ≡ c.id = ap (λ (d : Context). d.id) made.1 in
    id-form t c.id (id.1 ∙ ap Some same)

pub unit-id : (e : Located) (u : UnitContent) → unit_at e ≡ Some u → (id_of e ≡ Some u.id) × (is_ncname u.id ≡ true)
unfolding unit
unit-id e u h =
    let t = e.placed.tree in
    let id = step_ok (form_id t) _ u h in
    let ratio = step_ok (ratio_in (named_in xbrli_namespace (codes "divide") t.children) t.children) _ u id.2 in
    let same : id.0 ≡ u.id = ap (λ (v : UnitContent). v.id) (some-inj _ u ratio.2) in
    id-form t u.id (id.1 ∙ ap Some same)

-- Rules.

context-formed : (k : Kind) (t : Tree) → same_kind k kind.Context ≡ true → breaks_context k t ≡ false → is_none (context t) ≡ false
context-formed kind.Context t h e = e
context-formed k t h e = absurd (cc)

unit-formed : (k : Kind) (t : Tree) → same_kind k kind.Unit ≡ true → breaks_unit k t ≡ false → is_none (unit t) ≡ false
unit-formed kind.Unit t h e = e
unit-formed k t h e = absurd (cc)

context-required : (k : Kind) (t : Tree) → (same_kind k kind.NonNumeric || same_kind k kind.NonFraction || same_kind k kind.Fraction) ≡ true
    → list_any (lacks_attr t) (required k) ≡ false → is_none (attr (codes "contextRef") t) ≡ false
context-required kind.NonNumeric t h e = none-passes (lacks_attr t) (required kind.NonNumeric) (codes "contextRef") e (1, omega arith, refl)
context-required kind.NonFraction t h e = none-passes (lacks_attr t) (required kind.NonFraction) (codes "contextRef") e (1, omega arith, refl)
context-required kind.Fraction t h e = none-passes (lacks_attr t) (required kind.Fraction) (codes "contextRef") e (1, omega arith, refl)
context-required k t h e = absurd (cc)

number-unit : (k : Kind) (t : Tree) (id : List ℕ) → unit_of k t ≡ Some id
    → ((same_kind k kind.NonFraction || same_kind k kind.Fraction) ≡ true) × (token_at (codes "unitRef") t ≡ Some id)
number-unit kind.NonFraction t id e = (refl, e)
number-unit kind.Fraction t id e = (refl, e)
number-unit k t id e = absurd (cc)

there-by : (k : Kind) (es : List Located) (ref : Option (List ℕ)) (id : List ℕ) → ref ≡ Some id → lacks_part k (asks es) ref ≡ false
    → (x : Located) × (speaker_such k es id ≡ Some x)
there-by k es ref id e h =
    stands-speaker es id k (not-not (stands_for k (asks es) id) (sym (ap (λ (o : Option (List ℕ)). option_map_or (λ q. not (stands_for k (asks es) q)) o false) e) ∙ h))

name-by : (value : Option (List ℕ)) (id : List ℕ) → option_map token_of value ≡ Some id → option_map_or (λ v. not (is_name_token v)) value false ≡ false
    → is_ncname id ≡ true
name-by None id e h = absurd (cc)
name-by (Some v) id e h =
    let same : token_of v ≡ id = some-inj (token_of v) id e in subst (λ x. is_ncname x ≡ true) same (not-not (is_name_token v) h)

module _ (s : PageSet) (clean : IsClean s) where
  -- a context and a unit have their forms
  pub has-context : (e : Located) → Contains (elements s) e → is_kind kind.Context e ≡ true → (c : Context) × (context_at e ≡ Some c)
  has-context e at k =
      some-from (context_at e) (context-formed (kind_of e.placed) e.placed.tree k (element-keeps s clean rule.N20 (19, omega arith, refl) e at))

  pub has-unit : (e : Located) → Contains (elements s) e → is_kind kind.Unit e ≡ true → (u : UnitContent) × (unit_at e ≡ Some u)
  has-unit e at k =
      some-from (unit_at e) (unit-formed (kind_of e.placed) e.placed.tree k (element-keeps s clean rule.N21 (20, omega arith, refl) e at))

  -- an item names a context
  pub names-context : (e : Located) → Contains (elements s) e → is_item e ≡ true → Some (unwrap_or (context_named e) []) ≡ context_named e
  names-context e at item =
      let t = e.placed.tree in
      let value = some-from (attr (codes "contextRef") t)
      (context-required (kind_of e.placed) t item (element-keeps s clean rule.N2 (1, omega arith, refl) e at)) in
      let named : context_named e ≡ Some (token_of value.0) = ap (option_map token_of) value.1 in
      ap (λ o. Some (unwrap_or o [])) named ∙ sym named

  -- the context and the unit that an item names are there
  pub context-there : (e : Located) (id : List ℕ) → Contains (elements s) e → is_item e ≡ true → context_named e ≡ Some id
      → (x : Located) × (speaker_such kind.Context (elements s) id ≡ Some x)
  context-there e id at item named =
      there-by kind.Context (elements s) (context_named e) id named
      (with-test (is_item e) _ item (link-keeps s clean rule.L2 (1, omega arith, refl) e at))

  pub unit-there : (e : Located) (id : List ℕ) → Contains (elements s) e → is_item e ≡ true → unit_named e ≡ Some id
      → (x : Located) × (speaker_such kind.Unit (elements s) id ≡ Some x)
  unit-there e id at item named =
      let number = number-unit (kind_of e.placed) e.placed.tree id named in
      there-by kind.Unit (elements s) (token_at (codes "unitRef") e.placed.tree) id number.1
      (with-test (is_kind kind.NonFraction e || is_kind kind.Fraction e) _ number.0 (link-keeps s clean rule.L3 (2, omega arith, refl) e at))

  -- the id of one of the fourteen elements is a name
  pub id-name : (e : Located) (id : List ℕ) → Contains (elements s) e → is_inline (kind_of e.placed) ≡ true → id_of e ≡ Some id → is_ncname id ≡ true
  unfolding name_tokens
  id-name e id at inline h =
      let t = e.placed.tree in
      let names = with-test (is_inline (kind_of e.placed)) _ inline (element-keeps s clean rule.N4 (3, omega arith, refl) e at) in
      let tokens = or-left (list_any (lacks is_name_token t) name_tokens) _ (or-left _ _ names) in
      name-by (attr (codes "id") t) id h (none-passes (lacks is_name_token t) name_tokens (codes "id") tokens (0, omega arith, refl))
