-- What the normal forms of contexts and units in sound trees hold: names, allowed texts, and tokens that aren't empty.
use Rattle.std.proofs.Common.{◌≡◌, ◌∙◌, ap, sym, subst, ℕ, true, not, List, [], ◌∷◌, Option, None, Some, map, codes}
use Rattle.std.specs.List.{All}
use Rattle.std.specs.Prelude.{◌&&◌}
use Rattle.std.proofs.lemmas.Bool.{and_from}
use Rattle.std.proofs.lemmas.List.Elements.{All-cons, All-head, All-nil, All-tail}
use Rattle.ix_base.specs.declared.content.Context.{Context}
use Rattle.ix_base.specs.declared.content.Dim.{Dim}
use Rattle.ix_base.specs.declared.content.Member.{Member}
use Rattle.ix_base.specs.declared.content.Member.TheVariants as member
use Rattle.ix_base.specs.declared.content.OwnName.{OwnName}
use Rattle.ix_base.specs.declared.content.Unit.{Unit as UnitContent}
use Rattle.ix_base.specs.ContextForm.{Whom, by_dimension, context, dim_of, dims_in, dims_of, explicit_of, id_of, name_held, own_held, period_of, some_token, stand_once, typed_of, whom_of}
use Rattle.ix_base.specs.Forms.{is_empty, is_name_token, is_some_token}
use Rattle.ix_base.specs.ElementContent.{element_alone, elements_in, holds_only, is_blank_beside, is_of, named_in, text_alone}
use Rattle.ix_base.specs.Namespaces.{xbrldi_namespace, xbrli_namespace}
use Rattle.ix_base.specs.NcName.{are_allowed, is_ncname}
use Rattle.ix_base.specs.OwnNames.{name_cmp, own}
use Rattle.ix_base.specs.Readers.{attr, name_at}
use Rattle.ix_base.specs.SortedLists.{sorted}
use Rattle.ix_base.specs.Sound.{AreSound, IsSoundName}
use Rattle.ix_base.specs.Steps.{each, sole}
use Rattle.ix_base.specs.Token.{token_of}
use Rattle.ix_base.specs.Trees.{Named, Nodes, Tree}
use Rattle.ix_base.specs.UnitForm.{Ratio, divided, measures_in, ratio_in, unit}
use Rattle.xbrl_parts.proofs.SmallTimes.{by_side, chosen, step_ok}
use Rattle.instance_out.specs.Proper.{is_full}
use Rattle.targets.proofs.AllowedLaws.{token-allowed, token-is}
use Rattle.target_contents.proofs.AmongLaws.{all-sorted}
use Rattle.targets.proofs.SoundLaws.{IsSoundAt, attribute-sound, name-sound, name_at-sound, only-sound, sound-alone, sound-in, sound-named, text-sound}

some-same : {X : Type 0} {x y : X} → Some x ≡ Some y → x ≡ y
some-same e = cc

-- each member that is read keeps what its reading gives
pub each-keeps : {X Y : Type 0} (P : X → Type 0) (Q : Y → Type 0) (f : X → Option Y) → ((x : X) (y : Y) → P x → f x ≡ Some y → Q y)
    → (xs : List X) (ys : List Y) → All P xs → each f xs ≡ Some ys → All Q ys
each-keeps P Q f h [] ys all e = subst (All Q) (some-same e) (All-nil Q)
each-keeps P Q f h (x ∷ xs) ys all e =
    let y = step_ok (f x) _ ys e in
    let more = step_ok (each f xs) _ ys y.2 in
    subst (All Q) (some-same more.2)
    (All-cons Q y.0 more.0 (h x y.0 (All-head P x xs all) y.1) (each-keeps P Q f h xs more.0 (All-tail P x xs all) more.1))

-- Names and texts.

abbrev pub IsSoundOwn : OwnName → Type 0
IsSoundOwn n = IsSoundName (record { ns = n.ns; local = n.local })

pub own-sound : (n : Named) → IsSoundName n → IsSoundOwn (own n)
own-sound n h = record { local = h.local; plain = h.plain; allowed = h.allowed }

-- an allowed text that is a token and isn't empty
pub record IsGood (text : List ℕ) : Type 0 where
  pub full : is_full text ≡ true
  pub allowed : are_allowed text ≡ true

pub good-token : (text : List ℕ) → are_allowed text ≡ true → is_some_token text ≡ true → IsGood (token_of text)
good-token text h some = record { full = and_from _ _ some (token-is text); allowed = token-allowed text h }

good-given : (text token : List ℕ) → are_allowed text ≡ true → some_token text ≡ Some token → IsGood token
good-given text token h e = let c = chosen (is_some_token text) (token_of text) token e in subst IsGood c.1 (good-token text h c.0)

pub id-name : (t : Tree) (id : List ℕ) → id_of t ≡ Some id → is_ncname id ≡ true
id-name t id e =
    let given = step_ok (attr (codes "id") t) _ id e in
    let c = chosen (is_name_token given.0) (token_of given.0) id given.2 in
    ap is_ncname (sym c.1) ∙ c.0

held-sound : (t : Tree) (n : Named) → IsSoundAt t → name_held t ≡ Some n → IsSoundName n
held-sound t n h e =
    let text = step_ok (text_alone t.children) _ n e in
    name-sound t.head.scope (token_of text.0) n h.1.bindings text.2

own-held : (t : Tree) (n : OwnName) → IsSoundAt t → own_held t ≡ Some n → IsSoundOwn n
own-held t n h e =
    let name = step_ok (name_held t) _ n e in
    subst IsSoundOwn (some-same name.2) (own-sound name.0 (held-sound t name.0 h name.1))

-- Dimensions.

abbrev pub IsSoundMember : Member → Type 0
IsSoundMember (member.Explicit n) = IsSoundOwn n
IsSoundMember (member.Typed n text) = IsSoundOwn n × (are_allowed text ≡ true)

abbrev pub IsSoundDim : Dim → Type 0
IsSoundDim d = IsSoundOwn d.dimension × IsSoundMember d.member

explicit-sound : (t : Tree) (d : Dim) → IsSoundAt t → explicit_of t ≡ Some d → IsSoundDim d
explicit-sound t d h e =
    let dimension = step_ok (name_at (codes "dimension") t) _ d e in
    let name = step_ok (name_held t) _ d dimension.2 in
    subst IsSoundDim (some-same name.2)
    (own-sound dimension.0 (name_at-sound t (codes "dimension") dimension.0 h dimension.1), own-sound name.0 (held-sound t name.0 h name.1))

typed-sound : (t : Tree) (d : Dim) → IsSoundAt t → typed_of t ≡ Some d → IsSoundDim d
typed-sound t d h e =
    let dimension = step_ok (name_at (codes "dimension") t) _ d e in
    let child = step_ok (element_alone t.children) _ d dimension.2 in
    let text = step_ok (text_alone child.0.children) _ d child.2 in
    let inner = sound-alone h.0 t.children child.0 h.2 child.1 in
    let made = chosen (is_empty child.0.head.attrs) _ d text.2 in
    subst IsSoundDim made.1 (
      own-sound dimension.0 (name_at-sound t (codes "dimension") dimension.0 h dimension.1),
      (own-sound child.0.head.name inner.1.name, text-sound inner.0 child.0.children text.0 inner.2 text.1),
    )

dim-sound : (t : Tree) (d : Dim) → IsSoundAt t → dim_of t ≡ Some d → IsSoundDim d
unfolding dim_of
dim-sound t d h e =
    by_side (is_of t.head.name xbrldi_namespace (codes "explicitMember")) (explicit_of t) _ d e (explicit-sound t d h)
    (λ f. by_side (is_of t.head.name xbrldi_namespace (codes "typedMember")) (typed_of t) None d f (typed-sound t d h) (λ g. absurd (cc)))

dims-in-sound : (depth : ℕ) (nodes : Nodes) (ds : List Dim) → AreSound depth nodes → dims_in nodes ≡ Some ds → All IsSoundDim ds
unfolding dims_in
dims-in-sound depth nodes ds h e =
    let dims = step_ok (each dim_of (elements_in nodes)) _ ds e in
    let c = chosen (is_blank_beside nodes && stand_once (map (λ d. d.dimension) dims.0)) (sorted by_dimension dims.0) ds dims.2 in
    subst (All IsSoundDim) c.1
    (all-sorted IsSoundDim by_dimension dims.0
    (each-keeps IsSoundAt IsSoundDim dim_of dim-sound (elements_in nodes) dims.0 (sound-in depth nodes h) dims.1))

dims-sound : (ts : List Tree) (ds : List Dim) → All IsSoundAt ts → dims_of ts ≡ Some ds → All IsSoundDim ds
dims-sound [] ds h e = subst (All IsSoundDim) (some-same e) (All-nil IsSoundDim)
dims-sound (t ∷ []) ds h e = let at = All-head IsSoundAt t [] h in dims-in-sound at.0 t.children ds at.2 e
dims-sound (t ∷ u ∷ ts) ds h e = absurd (cc)

-- Contexts.

pub record IsSoundWhom (w : Whom) : Type 0 where
  pub scheme : IsGood w.scheme
  pub identifier : IsGood w.identifier
  pub segment : All IsSoundDim w.segment

whom-sound : (entity : Tree) (w : Whom) → IsSoundAt entity → whom_of entity ≡ Some w → IsSoundWhom w
unfolding whom_of
whom-sound entity w h e =
    let identifier = step_ok (sole (named_in xbrli_namespace (codes "identifier") entity.children)) _ w e in
    let given = step_ok (attr (codes "scheme") identifier.0) _ w identifier.2 in
    let scheme = step_ok (some_token given.0) _ w given.2 in
    let text = step_ok (text_alone identifier.0.children) _ w scheme.2 in
    let name = step_ok (some_token text.0) _ w text.2 in
    let segment = step_ok (dims_of (named_in xbrli_namespace (codes "segment") entity.children)) _ w name.2 in
    let made = chosen (holds_only xbrli_namespace (codes "identifier" ∷ codes "segment" ∷ []) entity.children) _ w segment.2 in
    let at =
    only-sound IsSoundAt (named_in xbrli_namespace (codes "identifier") entity.children) identifier.0
    (sound-named h.0 xbrli_namespace (codes "identifier") entity.children h.2) identifier.1 in
    subst IsSoundWhom made.1 (record {
      scheme = good-given given.0 scheme.0 (attribute-sound identifier.0 [] (codes "scheme") given.0 at given.1) scheme.1;
      identifier = good-given text.0 name.0 (text-sound at.0 identifier.0.children text.0 at.2 text.1) name.1;
      segment = dims-sound (named_in xbrli_namespace (codes "segment") entity.children) segment.0
          (sound-named h.0 xbrli_namespace (codes "segment") entity.children h.2) segment.1;
    })

pub record IsSoundContext (c : Context) : Type 0 where
  pub id : is_ncname c.id ≡ true
  pub scheme : IsGood c.scheme
  pub identifier : IsGood c.identifier
  pub segment : All IsSoundDim c.segment
  pub scenario : All IsSoundDim c.scenario

pub context-sound : (t : Tree) (c : Context) → IsSoundAt t → context t ≡ Some c → IsSoundContext c
unfolding context
context-sound t c h e =
    let id = step_ok (id_of t) _ c e in
    let entity = step_ok (sole (named_in xbrli_namespace (codes "entity") t.children)) _ c id.2 in
    let whom = step_ok (whom_of entity.0) _ c entity.2 in
    let when = step_ok (sole (named_in xbrli_namespace (codes "period") t.children)) _ c whom.2 in
    let at = step_ok (period_of when.0) _ c when.2 in
    let scenario = step_ok (dims_of (named_in xbrli_namespace (codes "scenario") t.children)) _ c at.2 in
    let made = chosen (holds_only xbrli_namespace (codes "entity" ∷ codes "period" ∷ codes "scenario" ∷ []) t.children) _ c scenario.2 in
    let sound =
    whom-sound entity.0 whom.0
    (only-sound IsSoundAt (named_in xbrli_namespace (codes "entity") t.children) entity.0
    (sound-named h.0 xbrli_namespace (codes "entity") t.children h.2) entity.1) whom.1 in
    subst IsSoundContext made.1 (record {
      id = id-name t id.0 id.1;
      scheme = sound.scheme;
      identifier = sound.identifier;
      segment = sound.segment;
      scenario = dims-sound (named_in xbrli_namespace (codes "scenario") t.children) scenario.0
          (sound-named h.0 xbrli_namespace (codes "scenario") t.children h.2) scenario.1;
    })

-- Units.

measures-sound : (depth : ℕ) (nodes : Nodes) (ns : List OwnName) → AreSound depth nodes → measures_in nodes ≡ Some ns → All IsSoundOwn ns
unfolding measures_in
measures-sound depth nodes ns h e =
    let names = step_ok (each own_held (elements_in nodes)) _ ns e in
    let c = chosen (holds_only xbrli_namespace (codes "measure" ∷ []) nodes && not (is_empty names.0)) (sorted name_cmp names.0) ns names.2 in
    subst (All IsSoundOwn) c.1
    (all-sorted IsSoundOwn name_cmp names.0
    (each-keeps IsSoundAt IsSoundOwn own_held own-held (elements_in nodes) names.0 (sound-in depth nodes h) names.1))

abbrev IsSoundRatio : Ratio → Type 0
IsSoundRatio r = All IsSoundOwn r.0 × All IsSoundOwn r.1

divided-sound : (t : Tree) (r : Ratio) → IsSoundAt t → divided t ≡ Some r → IsSoundRatio r
unfolding divided
divided-sound t r h e =
    let above = step_ok (sole (named_in xbrli_namespace (codes "unitNumerator") t.children)) _ r e in
    let below = step_ok (sole (named_in xbrli_namespace (codes "unitDenominator") t.children)) _ r above.2 in
    let over = step_ok (measures_in above.0.children) _ r below.2 in
    let under = step_ok (measures_in below.0.children) _ r over.2 in
    let c = chosen (holds_only xbrli_namespace (codes "unitNumerator" ∷ codes "unitDenominator" ∷ []) t.children) (over.0, under.0) r under.2 in
    let first =
    only-sound IsSoundAt (named_in xbrli_namespace (codes "unitNumerator") t.children) above.0
    (sound-named h.0 xbrli_namespace (codes "unitNumerator") t.children h.2) above.1 in
    let second =
    only-sound IsSoundAt (named_in xbrli_namespace (codes "unitDenominator") t.children) below.0
    (sound-named h.0 xbrli_namespace (codes "unitDenominator") t.children h.2) below.1 in
    subst IsSoundRatio c.1
    (measures-sound first.0 above.0.children over.0 first.2 over.1, measures-sound second.0 below.0.children under.0 second.2 under.1)

ratio-sound : (ts : List Tree) (depth : ℕ) (nodes : Nodes) (r : Ratio) → AreSound depth nodes → ratio_in ts nodes ≡ Some r → IsSoundRatio r
ratio-sound [] depth nodes r h e =
    let over = step_ok (measures_in nodes) _ r e in
    let same : (over.0, []) ≡ r = some-same over.2 in
    subst IsSoundRatio same (measures-sound depth nodes over.0 h over.1, All-nil IsSoundOwn)
ratio-sound (t ∷ ts) depth nodes r h e =
    let d = step_ok (element_alone nodes) _ r e in
    divided-sound d.0 r (sound-alone depth nodes d.0 h d.1) d.2

pub record IsSoundUnit (u : UnitContent) : Type 0 where
  pub id : is_ncname u.id ≡ true
  pub over : All IsSoundOwn u.over
  pub under : All IsSoundOwn u.under

pub unit-sound : (t : Tree) (u : UnitContent) → IsSoundAt t → unit t ≡ Some u → IsSoundUnit u
unfolding unit
unit-sound t u h e =
    let id = step_ok (id_of t) _ u e in
    let ratio = step_ok (ratio_in (named_in xbrli_namespace (codes "divide") t.children) t.children) _ u id.2 in
    let sound = ratio-sound (named_in xbrli_namespace (codes "divide") t.children) h.0 t.children ratio.0 h.2 ratio.1 in
    subst IsSoundUnit (some-same ratio.2) (record { id = id-name t id.0 id.1; over = sound.0; under = sound.1 })
