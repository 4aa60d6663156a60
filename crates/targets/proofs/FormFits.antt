-- The contexts and units of a content are normal forms.
use Rattle.std.proofs.Common.{◌≡◌, ◌∙◌, ap, sym, refl, ℕ, ◌≤◌, true, false, not, List, [], ◌∷◌, Some, None, map, codes, nat_lt, pos, arith}
use Rattle.std.specs.Cmp.{IsTotalOrder}
use Rattle.std.specs.List.Sorted.{IsPermutation}
use Rattle.std.specs.Ordering.{is_gt, ordering_reverse}
use Rattle.std.specs.Prelude.{◌&&◌}
use Rattle.std.specs.declared.cmp.Ordering.{Ordering}
use Rattle.std.specs.declared.cmp.Ordering.TheVariants.{Less, Equal, Greater}
use Rattle.std.proofs.lemmas.Bool.{and_from, and_parts, le-leb}
use Rattle.std.proofs.lemmas.Cmp.{on_total}
use Rattle.std.proofs.lemmas.List.Elements.{All-weaker}
use Rattle.std.proofs.lemmas.List.Sorted.{IsPermutation-append, IsPermutation-append_comm, IsPermutation-cons, IsPermutation-map, IsPermutation-refl, IsPermutation-trans}
use Rattle.ix_base.proofs.OrderLemmas.{name_total}
use Rattle.ix_base.specs.declared.content.Content.{Content}
use Rattle.ix_base.specs.declared.content.Context.{Context}
use Rattle.ix_base.specs.declared.content.Dim.{Dim}
use Rattle.ix_base.specs.declared.content.OwnName.{OwnName}
use Rattle.ix_base.specs.declared.content.Period.{Period}
use Rattle.ix_base.specs.declared.content.Period.TheVariants as period
use Rattle.ix_base.specs.declared.content.Unit.{Unit as UnitContent}
use Rattle.ix_base.specs.ContextForm.{Whom, by_dimension, context, dim_of, dims_in, dims_of, duration_of, forever_of, id_of, instant_of, own_held, period_from, period_of, some_token, stand_once, whom_of}
use Rattle.ix_base.specs.Forms.{is_empty}
use Rattle.ix_base.specs.ElementContent.{are_blank, element_alone, elements_in, holds_only, is_blank_beside, is_of, named_in, text_alone}
use Rattle.ix_base.specs.Namespaces.{xbrli_namespace}
use Rattle.ix_base.specs.OwnNames.{name_cmp}
use Rattle.ix_base.specs.Readers.{attr}
use Rattle.ix_base.specs.SortedLists.{put, put_by, sorted}
use Rattle.ix_base.specs.Steps.{each, sole}
use Rattle.ix_base.specs.Times.{end_time, start_time}
use Rattle.ix_base.specs.Token.{token_of}
use Rattle.ix_base.specs.Trees.{Nodes, Tree}
use Rattle.ix_base.specs.UnitForm.{Ratio, divided, measures_in, ratio_in, unit}
use Rattle.xbrl_parts.proofs.ApartLaws.{once_moved}
use Rattle.xbrl_parts.proofs.SmallTimes.{by_side, chosen, step_ok, time_small}
use Rattle.instance_lines.specs.Lists.{rises}
use Rattle.instance_out.specs.Proper.{are_normal_dims, forms_fit, is_normal_context, is_normal_period, is_normal_unit}
use Rattle.ix_base.specs.PlainContents.{said_of}
use Rattle.targets.specs.ValidSets.{IsClean}
use Rattle.target_contents.specs.Contents.{IsContent}
use Rattle.target_contents.specs.PageSet.{PageSet, base_at, elements}
use Rattle.targets.proofs.FromElements.{FromContext, FromUnit, all-pass, contexts-from, units-from}

some-same : {X : Type 0} {x y : X} → Some x ≡ Some y → x ≡ y
some-same e = cc

-- What is sorted rises.

module _ {X : Type 0} {R : X → X → Ordering} (o : IsTotalOrder R) where
  not-above : (x y : X) (r : Ordering) → R x y ≡ r → is_gt r ≡ false → not (is_gt (R x y)) ≡ true
  not-above x y r e h = ap (λ q. not (is_gt q)) e ∙ ap not h

  not-below : (x y : X) → R x y ≡ Greater → not (is_gt (R y x)) ≡ true
  not-below x y e = ap (λ q. not (is_gt q)) (o.antisymm y x ∙ ap ordering_reverse e)

  -- with one more in front of it, the list still rises
  above-by : (y x : X) (ys : List X) (r : Ordering) → not (is_gt (R y x)) ≡ true → rises R (y ∷ ys) ≡ true → rises R (x ∷ ys) ≡ true
      → rises R (y ∷ x ∷ ys) ≡ true
  above-by y x ys r h k l = and_from _ _ h l

  rises-tail : (x : X) (ys : List X) → rises R (x ∷ ys) ≡ true → rises R ys ≡ true
  rises-tail x [] h = refl
  rises-tail x (y ∷ ys) h = (and_parts (not (is_gt (R x y))) (rises R (y ∷ ys)) h).1

  rises-cons : (y : X) (zs : List X) → ((z : X) (more : List X) → zs ≡ z ∷ more → not (is_gt (R y z)) ≡ true) → rises R zs ≡ true → rises R (y ∷ zs) ≡ true
  rises-cons y [] first h = refl
  rises-cons y (z ∷ zs) first h = and_from _ _ (first z zs refl) h

  -- what stands first, where x is put at its place behind y
  first-of : (y x : X) (ys : List X) (r : Ordering) → not (is_gt (R y x)) ≡ true → rises R (y ∷ ys) ≡ true → (z : X) (more : List X)
      → put R x ys ≡ z ∷ more → not (is_gt (R y z)) ≡ true
  first-of y x [] r h up z more e = let same : x ≡ z = cc in ap (λ w. not (is_gt (R y w))) (sym same) ∙ h
  first-of y x (w ∷ ys) r h up z more e = by (R x w) e
    where
      by : (q : Ordering) → put_by q x w ys (put R x ys) ≡ z ∷ more → not (is_gt (R y z)) ≡ true
      by Less f = let same : x ≡ z = cc in ap (λ v. not (is_gt (R y v))) (sym same) ∙ h
      by Equal f = let same : x ≡ z = cc in ap (λ v. not (is_gt (R y v))) (sym same) ∙ h
      by Greater f =
          let same : w ≡ z = cc in
          ap (λ v. not (is_gt (R y v))) (sym same) ∙ (and_parts (not (is_gt (R y w))) (rises R (w ∷ ys)) up).0

  rises-by : (q : Ordering) (x y : X) (ys : List X) → R x y ≡ q → rises R (y ∷ ys) ≡ true → rises R (put R x ys) ≡ true
      → rises R (put_by q x y ys (put R x ys)) ≡ true
  rises-by Less x y ys e up behind = and_from _ _ (not-above x y Less e refl) up
  rises-by Equal x y ys e up behind = and_from _ _ (not-above x y Equal e refl) up
  rises-by Greater x y ys e up behind = rises-cons y (put R x ys) (first-of y x ys Greater (not-below x y e) up) behind

  rises-put : (x : X) (ys : List X) → rises R ys ≡ true → rises R (put R x ys) ≡ true
  rises-put x [] up = refl
  rises-put x (y ∷ ys) up = rises-by (R x y) x y ys refl up (rises-put x ys (rises-tail y ys up))

  pub sorted-rises : (xs : List X) → rises R (sorted R xs) ≡ true
  unfolding sorted
  sorted-rises [] = refl
  sorted-rises (x ∷ xs) = rises-put x (sorted R xs) (sorted-rises xs)

-- What is sorted is rearranged.

module _ {X : Type 0} (R : X → X → Ordering) where
  put-moved : (x : X) (ys : List X) → IsPermutation (x ∷ ys) (put R x ys)
  put-moved x [] = IsPermutation-refl (x ∷ [])
  put-moved x (y ∷ ys) = by (R x y) (put-moved x ys)
    where
      by : (r : Ordering) → IsPermutation (x ∷ ys) (put R x ys) → IsPermutation (x ∷ y ∷ ys) (put_by r x y ys (put R x ys))
      by Less h = IsPermutation-refl (x ∷ y ∷ ys)
      by Equal h = IsPermutation-refl (x ∷ y ∷ ys)
      by Greater h =
          IsPermutation-trans (x ∷ y ∷ ys) (y ∷ x ∷ ys) (y ∷ put R x ys)
          (IsPermutation-append (x ∷ y ∷ []) (y ∷ x ∷ []) ys ys (IsPermutation-append_comm (x ∷ []) (y ∷ [])) (IsPermutation-refl ys))
          (IsPermutation-cons y (x ∷ ys) (put R x ys) h)

  sorted-moved : (xs : List X) → IsPermutation xs (sorted R xs)
  unfolding sorted
  sorted-moved [] = IsPermutation-refl []
  sorted-moved (x ∷ xs) =
      IsPermutation-trans (x ∷ xs) (x ∷ sorted R xs) (put R x (sorted R xs)) (IsPermutation-cons x xs (sorted R xs) (sorted-moved xs))
      (put-moved x (sorted R xs))

  some-put : (x : X) (ys : List X) → not (is_empty (put R x ys)) ≡ true
  some-put x [] = refl
  some-put x (y ∷ ys) = by (R x y)
    where
      by : (r : Ordering) → not (is_empty (put_by r x y ys (put R x ys))) ≡ true
      by Less = refl
      by Equal = refl
      by Greater = refl

  some-sorted : (xs : List X) → not (is_empty xs) ≡ true → not (is_empty (sorted R xs)) ≡ true
  unfolding sorted
  some-sorted [] h = h
  some-sorted (x ∷ xs) h = some-put x (sorted R xs)

-- Periods.

instant-normal : (t : Tree) (p : Period) → instant_of t ≡ Some p → is_normal_period p ≡ true
instant-normal t p e =
    let text = step_ok (text_alone t.children) _ p e in
    let end = step_ok (end_time (token_of text.0)) _ p text.2 in
    let c = chosen (nat_lt 0 end.0) (period.Instant (pos end.0)) p end.2 in
    let most : end.0 ≤ 315537897600 = time_small 86400 (token_of text.0) end.0 (omega arith) end.1 in
    ap is_normal_period (sym c.1) ∙ and_from _ _ c.0 (le-leb end.0 315537897600 most)

duration-normal : (first last : Tree) (p : Period) → duration_of first last ≡ Some p → is_normal_period p ≡ true
duration-normal first last p e =
    let a = step_ok (text_alone first.children) _ p e in
    let b = step_ok (text_alone last.children) _ p a.2 in
    let start = step_ok (start_time (token_of a.0)) _ p b.2 in
    let end = step_ok (end_time (token_of b.0)) _ p start.2 in
    let c = chosen (nat_lt start.0 end.0) (period.Duration (pos start.0) (pos end.0)) p end.2 in
    let most : end.0 ≤ 315537897600 = time_small 86400 (token_of b.0) end.0 (omega arith) end.1 in
    ap is_normal_period (sym c.1) ∙ and_from _ _ c.0 (le-leb end.0 315537897600 most)

forever-normal : (t : Tree) (p : Period) → forever_of t ≡ Some p → is_normal_period p ≡ true
forever-normal t p e = ap is_normal_period (sym (chosen (are_blank t.children) period.Forever p e).1)

from-normal : (ts : List Tree) (p : Period) → period_from ts ≡ Some p → is_normal_period p ≡ true
from-normal [] p e = cc
from-normal (t ∷ []) p e =
    by_side (is_of t.head.name xbrli_namespace (codes "instant")) (instant_of t) _ p e (instant-normal t p)
    (λ f. by_side (is_of t.head.name xbrli_namespace (codes "forever")) (forever_of t) None p f (forever-normal t p) (λ g. cc))
from-normal (t ∷ u ∷ []) p e =
    by_side (is_of t.head.name xbrli_namespace (codes "startDate") && is_of u.head.name xbrli_namespace (codes "endDate")) (duration_of t u) _ p e
    (duration-normal t u p)
    (λ f. by_side (is_of t.head.name xbrli_namespace (codes "endDate") && is_of u.head.name xbrli_namespace (codes "startDate")) (duration_of u t) None p f
    (duration-normal u t p) (λ g. cc))
from-normal (t ∷ u ∷ v ∷ ts) p e = cc

period-normal : (t : Tree) (p : Period) → period_of t ≡ Some p → is_normal_period p ≡ true
unfolding period_of
period-normal t p e = by_side (is_blank_beside t.children) (period_from (elements_in t.children)) None p e (from-normal (elements_in t.children) p) (λ f. cc)

-- Dimensions.

dims-once : (xs : List Dim) → stand_once (map (λ d. d.dimension) xs) ≡ true → stand_once (map (λ d. d.dimension) (sorted by_dimension xs)) ≡ true
dims-once xs h =
    sym (once_moved (map (λ d. d.dimension) xs) (map (λ d. d.dimension) (sorted by_dimension xs))
    (IsPermutation-map (λ (d : Dim). d.dimension) xs (sorted by_dimension xs) (sorted-moved by_dimension xs))) ∙ h

dims-in-normal : (nodes : Nodes) (ds : List Dim) → dims_in nodes ≡ Some ds → are_normal_dims ds ≡ true
unfolding dims_in
dims-in-normal nodes ds e =
    let dims = step_ok (each dim_of (elements_in nodes)) _ ds e in
    let once = stand_once (map (λ d. d.dimension) dims.0) in
    let c = chosen (is_blank_beside nodes && once) (sorted by_dimension dims.0) ds dims.2 in
    let total : IsTotalOrder by_dimension = on_total (λ (d : Dim). d.dimension) name_total in
    ap are_normal_dims (sym c.1)
    ∙ and_from _ _ (dims-once dims.0 (and_parts (is_blank_beside nodes) once c.0).1) (sorted-rises total dims.0)

dims-normal : (ts : List Tree) (ds : List Dim) → dims_of ts ≡ Some ds → are_normal_dims ds ≡ true
dims-normal [] ds e = let same : [] ≡ ds = cc in ap are_normal_dims (sym same)
dims-normal (t ∷ []) ds e = dims-in-normal t.children ds e
dims-normal (t ∷ u ∷ ts) ds e = cc

-- Contexts.

segment-normal : (entity : Tree) (w : Whom) → whom_of entity ≡ Some w → are_normal_dims w.segment ≡ true
unfolding whom_of
segment-normal entity w e =
    let identifier = step_ok (sole (named_in xbrli_namespace (codes "identifier") entity.children)) _ w e in
    let given = step_ok (attr (codes "scheme") identifier.0) _ w identifier.2 in
    let scheme = step_ok (some_token given.0) _ w given.2 in
    let text = step_ok (text_alone identifier.0.children) _ w scheme.2 in
    let name = step_ok (some_token text.0) _ w text.2 in
    let segment = step_ok (dims_of (named_in xbrli_namespace (codes "segment") entity.children)) _ w name.2 in
    let made = chosen (holds_only xbrli_namespace (codes "identifier" ∷ codes "segment" ∷ []) entity.children) _ w segment.2 in
    ap (λ (x : Whom). are_normal_dims x.segment) (sym made.1) ∙ dims-normal (named_in xbrli_namespace (codes "segment") entity.children) segment.0 segment.1

context-normal : (t : Tree) (c : Context) → context t ≡ Some c → is_normal_context c ≡ true
unfolding context
context-normal t c e =
    let id = step_ok (id_of t) _ c e in
    let entity = step_ok (sole (named_in xbrli_namespace (codes "entity") t.children)) _ c id.2 in
    let whom = step_ok (whom_of entity.0) _ c entity.2 in
    let when = step_ok (sole (named_in xbrli_namespace (codes "period") t.children)) _ c whom.2 in
    let at = step_ok (period_of when.0) _ c when.2 in
    let scenario = step_ok (dims_of (named_in xbrli_namespace (codes "scenario") t.children)) _ c at.2 in
    let made = chosen (holds_only xbrli_namespace (codes "entity" ∷ codes "period" ∷ codes "scenario" ∷ []) t.children) _ c scenario.2 in
    ap is_normal_context (sym made.1)
    ∙ and_from _ _ (and_from _ _ (period-normal when.0 at.0 at.1) (segment-normal entity.0 whom.0 whom.1))
    (dims-normal (named_in xbrli_namespace (codes "scenario") t.children) scenario.0 scenario.1)

-- Units.

measures-normal : (nodes : Nodes) (ns : List OwnName) → measures_in nodes ≡ Some ns → (not (is_empty ns) ≡ true) × (rises name_cmp ns ≡ true)
unfolding measures_in
measures-normal nodes ns e =
    let names = step_ok (each own_held (elements_in nodes)) _ ns e in
    let c = chosen (holds_only xbrli_namespace (codes "measure" ∷ []) nodes && not (is_empty names.0)) (sorted name_cmp names.0) ns names.2 in
    let some = (and_parts (holds_only xbrli_namespace (codes "measure" ∷ []) nodes) (not (is_empty names.0)) c.0).1 in (
      ap (λ (xs : List OwnName). not (is_empty xs)) (sym c.1) ∙ some-sorted name_cmp names.0 some,
      ap (rises name_cmp) (sym c.1) ∙ sorted-rises name_total names.0,
    )

divided-normal : (t : Tree) (r : Ratio) → divided t ≡ Some r → (not (is_empty r.0) ≡ true) × (rises name_cmp r.0 ≡ true) × (rises name_cmp r.1 ≡ true)
unfolding divided
divided-normal t r e =
    let above = step_ok (sole (named_in xbrli_namespace (codes "unitNumerator") t.children)) _ r e in
    let below = step_ok (sole (named_in xbrli_namespace (codes "unitDenominator") t.children)) _ r above.2 in
    let over = step_ok (measures_in above.0.children) _ r below.2 in
    let under = step_ok (measures_in below.0.children) _ r over.2 in
    let c = chosen (holds_only xbrli_namespace (codes "unitNumerator" ∷ codes "unitDenominator" ∷ []) t.children) (over.0, under.0) r under.2 in
    let first = measures-normal above.0.children over.0 over.1 in
    let second = measures-normal below.0.children under.0 under.1 in (
      ap (λ (x : Ratio). not (is_empty x.0)) (sym c.1) ∙ first.0,
      ap (λ (x : Ratio). rises name_cmp x.0) (sym c.1) ∙ first.1,
      ap (λ (x : Ratio). rises name_cmp x.1) (sym c.1) ∙ second.1,
    )

ratio-normal : (ts : List Tree) (nodes : Nodes) (r : Ratio) → ratio_in ts nodes ≡ Some r
    → (not (is_empty r.0) ≡ true) × (rises name_cmp r.0 ≡ true) × (rises name_cmp r.1 ≡ true)
ratio-normal [] nodes r e =
    let over = step_ok (measures_in nodes) _ r e in
    let h = measures-normal nodes over.0 over.1 in
    let same : (over.0, []) ≡ r = some-same over.2 in (
      ap (λ (x : Ratio). not (is_empty x.0)) (sym same) ∙ h.0,
      ap (λ (x : Ratio). rises name_cmp x.0) (sym same) ∙ h.1,
      ap (λ (x : Ratio). rises name_cmp x.1) (sym same),
    )
ratio-normal (t ∷ ts) nodes r e = let d = step_ok (element_alone nodes) _ r e in divided-normal d.0 r d.2

unit-normal : (t : Tree) (u : UnitContent) → unit t ≡ Some u → is_normal_unit u ≡ true
unfolding unit
unit-normal t u e =
    let id = step_ok (id_of t) _ u e in
    let ratio = step_ok (ratio_in (named_in xbrli_namespace (codes "divide") t.children) t.children) _ u id.2 in
    let h = ratio-normal (named_in xbrli_namespace (codes "divide") t.children) t.children ratio.0 ratio.1 in
    ap is_normal_unit (sym (some-same ratio.2)) ∙ and_from _ _ (and_from _ _ h.0 h.1) h.2

-- contexts and units are normal forms
pub forms-fit : (s : PageSet) → IsClean s → (target : List ℕ) (c : Content) → IsContent (base_at s) (elements s) target c → forms_fit (said_of c) ≡ true
unfolding forms_fit
forms-fit s clean target c is =
    let bases = base_at s in
    let es = elements s in
    and_from _ _
    (all-pass is_normal_context c.contexts
    (All-weaker (FromContext bases es) (λ x. is_normal_context x ≡ true) (λ x h. context-normal h.0.placed.tree x h.3) c.contexts (contexts-from bases es target c is)))
    (all-pass is_normal_unit c.units
    (All-weaker (FromUnit bases es) (λ u. is_normal_unit u ≡ true) (λ u h. unit-normal h.0.placed.tree u h.3) c.units (units-from bases es target c is)))
