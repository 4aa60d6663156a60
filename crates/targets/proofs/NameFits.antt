-- The names of a content are names, and those of its facts are in no namespace of the standard.
use Rattle.std.proofs.Common.{◌≡◌, ◌∙◌, ap, sym, subst, refl, ℕ, Bool, true, false, cond, not, List, [], ◌∷◌, ◌++◌, Option, None, Some, option_map, codes, arith, bytes_eq}
use Rattle.std.specs.List.{All, Contains, flat_map, list_any}
use Rattle.std.specs.Option.{option_map_or}
use Rattle.std.specs.Prelude.{◌&&◌, ◌||◌, Ok, Err, is_none, unwrap_or}
use Rattle.std.proofs.lemmas.Bool.{and_from, or_parts}
use Rattle.std.proofs.lemmas.List.Elements.{All-append, All-cons, All-nil, All-weaker}
use Rattle.std.proofs.lemmas.Slice.Eq.{bytes_eq-Decides}
use Rattle.ix_base.specs.declared.content.Content.{Content}
use Rattle.ix_base.specs.declared.content.Context.{Context}
use Rattle.ix_base.specs.declared.content.Dim.{Dim}
use Rattle.ix_base.specs.declared.content.Item.{Item}
use Rattle.ix_base.specs.declared.content.Member.{Member}
use Rattle.ix_base.specs.declared.content.Member.TheVariants as member
use Rattle.ix_base.specs.declared.content.OwnName.{OwnName}
use Rattle.ix_base.specs.declared.content.Unit.{Unit as UnitContent}
use Rattle.ix_base.specs.declared.kind.Kind.{Kind}
use Rattle.ix_base.specs.declared.kind.Kind.TheVariants as kind
use Rattle.ix_base.specs.declared.name_fault.NameFault.TheVariants.{BadForm, Unbound}
use Rattle.ix_base.specs.declared.rule.Rule.TheVariants as rule
use Rattle.ix_base.specs.ElementRules.{breaks_names, breaks_required, breaks_spaces, is_reserved, lacks, lacks_space, misses, name_lists, name_tokens, qname_tokens, required}
use Rattle.ix_base.specs.Facts.{facts_of}
use Rattle.ix_base.specs.Forms.{are_names, is_name_token, is_qname_token}
use Rattle.ix_base.specs.Kinds as kinds
use Rattle.ix_base.specs.Kinds.{is_inline, kind_of, same_kind}
use Rattle.ix_base.specs.LocatedElements.{Located, is_fact}
use Rattle.ix_base.specs.Namespaces.{xmlns_namespace}
use Rattle.ix_base.specs.OwnNames.{own}
use Rattle.ix_base.specs.Readers.{attr, fact_name, name_at}
use Rattle.ix_base.specs.ValueNames.{if_ok, is_unbound, name_of}
use Rattle.ix_base.specs.Scope.{element_name, is_qname}
use Rattle.ix_base.specs.Steps.{◌>>=◌}
use Rattle.ix_base.specs.Token.{token_of}
use Rattle.ix_base.specs.Trees.{Named, Tree}
use Rattle.instance_lines.specs.Canonical.{context_names, dim_names, fact_names, member_names, unit_names}
use Rattle.instance_lines.specs.Holdings.{all_names}
use Rattle.instance_out.specs.Proper.{is_fact_name, is_name, names_fit}
use Rattle.ix_base.specs.PlainContents.{said_of}
use Rattle.targets.specs.ValidSets.{IsClean}
use Rattle.target_contents.specs.Contents.{IsContent}
use Rattle.target_contents.specs.PageSet.{PageSet, base_at, elements}
use Rattle.targets.proofs.BelowLaws.{all-flat}
use Rattle.target_contents.proofs.FitLaws.{fact-inline, none-broken, not-not, with-test}
use Rattle.targets.proofs.FromElements.{FromContext, FromItem, FromTuple, FromUnit, all-pass, contexts-from, every-name, every-weaker, facts-from, units-from}
use Rattle.targets.proofs.HoldLaws.{IsSoundContext, IsSoundDim, IsSoundMember, IsSoundOwn, IsSoundUnit, context-sound, own-sound, unit-sound}
use Rattle.targets.proofs.SoundLaws.{IsSoundAt, name_at-sound, sound-at}

-- The names of contexts and units.

member-named : (m : Member) → IsSoundMember m → All IsSoundOwn (member_names m)
member-named (member.Explicit n) h = All-cons IsSoundOwn n [] h (All-nil IsSoundOwn)
member-named (member.Typed n text) h = All-cons IsSoundOwn n [] h.0 (All-nil IsSoundOwn)

dim-named : (d : Dim) → IsSoundDim d → All IsSoundOwn (dim_names d)
dim-named d h = All-cons IsSoundOwn d.dimension (member_names d.member) h.0 (member-named d.member h.1)

context-named : (c : Context) → IsSoundContext c → All IsSoundOwn (context_names c)
context-named c h =
    All-append IsSoundOwn (flat_map dim_names c.segment) (flat_map dim_names c.scenario)
    (all-flat IsSoundDim IsSoundOwn dim_names dim-named c.segment h.segment) (all-flat IsSoundDim IsSoundOwn dim_names dim-named c.scenario h.scenario)

unit-named : (u : UnitContent) → IsSoundUnit u → All IsSoundOwn (unit_names u)
unit-named u h = All-append IsSoundOwn u.over u.under h.over h.under

-- The names of facts.

-- a fact has a name that stands for something
has-name : (t : Tree) → misses t (codes "name") ≡ false → lacks is_qname_token t (codes "name") ≡ false → lacks_space t (codes "name") ≡ false
    → (n : Named) × (name_at (codes "name") t ≡ Some n)
has-name t miss form space = by (attr (codes "name") t) refl miss form space
  where
    resolved-by : (v : List ℕ) (q u : Bool) → is_qname (token_of v) ≡ q → is_unbound t.head.scope (token_of v) ≡ u → q ≡ true → (q && u) ≡ false
        → name_of t.head.scope (token_of v) ≡ Some (element_name t.head.scope (token_of v))
    resolved-by v true false is bound e f =
        ap (λ x. if_ok (cond (not x) (Err BadForm) (cond (is_unbound t.head.scope (token_of v)) (Err Unbound) (Ok (element_name t.head.scope (token_of v)))))) is
        ∙ ap (λ x. if_ok (cond x (Err Unbound) (Ok (element_name t.head.scope (token_of v))))) bound
    resolved-by v true true is bound e f = absurd (cc)
    resolved-by v false u is bound e f = absurd (cc)

    by : (o : Option (List ℕ)) → attr (codes "name") t ≡ o → is_none o ≡ false → option_map_or (λ v. not (is_qname_token v)) o false ≡ false
        → option_map_or (λ v. is_qname (token_of v) && is_unbound t.head.scope (token_of v)) o false ≡ false → (n : Named) × (name_at (codes "name") t ≡ Some n)
    by None is m f s = absurd (cc)
    by (Some v) is m f s = (
      element_name t.head.scope (token_of v),
      ap (λ o. option_map token_of o >>= name_of t.head.scope) is
          ∙ resolved-by v (is_qname (token_of v)) (is_unbound t.head.scope (token_of v)) refl refl (not-not (is_qname_token v) f) s,
    )

first-required : (k : Kind) (t : Tree) → kinds.is_fact k ≡ true → list_any (misses t) (required k) ≡ false → misses t (codes "name") ≡ false
first-required kind.NonFraction t f h = (or_parts _ _ h).0
first-required kind.NonNumeric t f h = (or_parts _ _ h).0
first-required kind.Fraction t f h = (or_parts _ _ h).0
first-required kind.Tuple t f h = (or_parts _ _ h).0
first-required k t f h = absurd (cc)

name-form : (k : Kind) (t : Tree) → is_inline k ≡ true → breaks_names k t ≡ false → lacks is_qname_token t (codes "name") ≡ false
unfolding qname_tokens
name-form k t i h =
    let tokens = list_any (lacks is_name_token t) name_tokens in
    let names = list_any (lacks is_qname_token t) (codes "name" ∷ codes "format" ∷ []) in
    let lists = list_any (lacks are_names t) name_lists in
    let three = with-test (is_inline k) (tokens || names || lists) i h in
    let two = (or_parts (tokens || names) lists three).0 in
    (or_parts _ _ (or_parts tokens names two).1).0

name-space : (k : Kind) (t : Tree) → is_inline k ≡ true → breaks_spaces k t ≡ false → lacks_space t (codes "name") ≡ false
unfolding qname_tokens
name-space k t i h =
    let spaces = list_any (lacks_space t) (codes "name" ∷ codes "format" ∷ []) in
    let reserved = kinds.is_fact k && option_map_or is_reserved (name_at (codes "name") t) false in
    let first = with-test (is_inline k) spaces i (or_parts (is_inline k && spaces) reserved h).0 in
    (or_parts _ _ first).0

not-reserved : (k : Kind) (t : Tree) → kinds.is_fact k ≡ true → breaks_spaces k t ≡ false → option_map_or is_reserved (name_at (codes "name") t) false ≡ false
not-reserved k t f h =
    let spaces = is_inline k && list_any (lacks_space t) qname_tokens in
    let reserved = option_map_or is_reserved (name_at (codes "name") t) false in
    with-test (kinds.is_fact k) reserved f (or_parts spaces (kinds.is_fact k && reserved) h).1

-- a name that a fact may have
abbrev pub IsFactName : OwnName → Type 0
IsFactName n = IsSoundOwn n × (is_fact_name n ≡ true)

pub item-fact : (k : Kind) → (same_kind k kind.NonNumeric || same_kind k kind.NonFraction || same_kind k kind.Fraction) ≡ true → kinds.is_fact k ≡ true
item-fact kind.NonNumeric h = refl
item-fact kind.NonFraction h = refl
item-fact kind.Fraction h = refl
item-fact k h = absurd (cc)

pub tuple-fact : (k : Kind) → same_kind k kind.Tuple ≡ true → kinds.is_fact k ≡ true
tuple-fact kind.Tuple h = refl
tuple-fact k h = absurd (cc)

fact-named : (t : Tree) (k : Kind) → IsSoundAt t → kinds.is_fact k ≡ true → breaks_required k t ≡ false → breaks_names k t ≡ false → breaks_spaces k t ≡ false
    → IsFactName (own (fact_name t))
fact-named t k sound f n2 n4 n5 =
    let i = fact-inline k f in
    let named = has-name t (first-required k t f n2) (name-form k t i n4) (name-space k t i n5) in
    let is : fact_name t ≡ named.0 = ap (λ o. unwrap_or o (record { ns = []; local = [] })) named.1 in
    let free : is_reserved named.0 ≡ false = ap (λ o. option_map_or is_reserved o false) (sym named.1) ∙ not-reserved k t f n5 in
    subst (λ n. IsFactName (own n)) (sym is) (own-sound named.0 (name_at-sound t (codes "name") named.0 sound named.1), ap not free)

module _ (s : PageSet) (clean : IsClean s) where
  element-named : (e : Located) → Contains (elements s) e → is_fact e ≡ true → IsFactName (own (fact_name e.placed.tree))
  element-named e at f =
      fact-named e.placed.tree (kind_of e.placed) (sound-at s clean e at) f
      (none-broken 0 s.pages clean.elements e at rule.N2 (1, omega arith, refl))
      (none-broken 0 s.pages clean.elements e at rule.N4 (3, omega arith, refl))
      (none-broken 0 s.pages clean.elements e at rule.N5 (4, omega arith, refl))

  item-named : (i : Item) → FromItem (base_at s) (elements s) i → IsFactName i.name
  item-named i (e, at, is, says) =
      subst (λ (j : Item). IsFactName j.name) (sym says.1) (element-named e at (item-fact (kind_of e.placed) is))

  tuple-named : (name : OwnName) (id : Option (List ℕ)) → FromTuple (base_at s) (elements s) name id → IsFactName name
  tuple-named name id (e, at, is, n, i) = subst IsFactName (sym n) (element-named e at (tuple-fact (kind_of e.placed) is))

  facts-named : (target : List ℕ) (c : Content) → IsContent (base_at s) (elements s) target c → All IsFactName (fact_names (facts_of c.facts))
  facts-named target c is =
      every-name IsFactName (facts_of c.facts)
      (every-weaker (FromItem (base_at s) (elements s)) (λ i. IsFactName i.name) (FromTuple (base_at s) (elements s)) (λ name id. IsFactName name)
      item-named tuple-named (facts_of c.facts) (facts-from (base_at s) (elements s) target c is))

  -- the contexts and units of a content of a clean set are sound
  pub contexts-sound : (target : List ℕ) (c : Content) → IsContent (base_at s) (elements s) target c → All IsSoundContext c.contexts
  contexts-sound target c is =
      All-weaker (FromContext (base_at s) (elements s)) IsSoundContext
      (λ x h. context-sound h.0.placed.tree x (sound-at s clean h.0 h.1) h.3) c.contexts (contexts-from (base_at s) (elements s) target c is)

  pub units-sound : (target : List ℕ) (c : Content) → IsContent (base_at s) (elements s) target c → All IsSoundUnit c.units
  units-sound target c is =
      All-weaker (FromUnit (base_at s) (elements s)) IsSoundUnit
      (λ u h. unit-sound h.0.placed.tree u (sound-at s clean h.0 h.1) h.3) c.units (units-from (base_at s) (elements s) target c is)

  -- and so are all names
  pub names-sound : (target : List ℕ) (c : Content) → IsContent (base_at s) (elements s) target c → All IsSoundOwn (all_names (said_of c))
  names-sound target c is =
      let facts = fact_names (facts_of c.facts) in
      let units = flat_map unit_names c.units in
      All-append IsSoundOwn (flat_map context_names c.contexts) (units ++ facts)
      (all-flat IsSoundContext IsSoundOwn context_names context-named c.contexts (contexts-sound target c is))
      (All-append IsSoundOwn units facts
      (all-flat IsSoundUnit IsSoundOwn unit_names unit-named c.units (units-sound target c is))
      (All-weaker IsFactName IsSoundOwn (λ n h. h.0) facts (facts-named target c is)))

name-passes : (n : OwnName) → IsSoundOwn n → is_name n ≡ true
name-passes n h = and_from _ _ h.local (by (bytes_eq n.ns xmlns_namespace) refl)
  where
    by : (b : Bool) → bytes_eq n.ns xmlns_namespace ≡ b → not b ≡ true
    by true e = absurd (h.plain ((bytes_eq-Decides n.ns xmlns_namespace).0 e))
    by false e = refl

-- names are NCNames in no namespace of declarations, and those of facts in none of the standard's
pub names-fit : (s : PageSet) → IsClean s → (target : List ℕ) (c : Content) → IsContent (base_at s) (elements s) target c → names_fit (said_of c) ≡ true
unfolding names_fit
names-fit s clean target c is =
    and_from _ _
    (all-pass is_name (all_names (said_of c))
    (All-weaker IsSoundOwn (λ n. is_name n ≡ true) name-passes (all_names (said_of c)) (names-sound s clean target c is)))
    (all-pass is_fact_name (fact_names (facts_of c.facts))
    (All-weaker IsFactName (λ n. is_fact_name n ≡ true) (λ n h. h.1) (fact_names (facts_of c.facts)) (facts-named s clean target c is)))
