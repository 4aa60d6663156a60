-- The markup of each kind of line is fine.
use Rattle.std.proofs.Common.{◌≡◌, ◌∙◌, refl, sym, ap, arith, append-nil, ℕ, suc, zero, Bool, true, false, ◌&&◌, List, [], ◌∷◌, ◌++◌, Option, Some, None, codes}
use Rattle.std.specs.List.{list_all}
use Rattle.std.proofs.lemmas.Bool.{and_parts}
use Rattle.ix_base.specs.Facts.{Facts, none, item, tuple}
use Rattle.ix_base.specs.NcName.{is_allowed, are_allowed, is_ncname}
use Rattle.ix_base.specs.WrittenMarkup.{Attribute, Markup, nothing, leaf}
use Rattle.ix_base.specs.declared.content.Accuracy.{Accuracy}
use Rattle.ix_base.specs.declared.content.Context.{Context}
use Rattle.ix_base.specs.declared.content.Dim.{Dim}
use Rattle.ix_base.specs.declared.content.Item.{Item}
use Rattle.ix_base.specs.declared.content.Member.{Member}
use Rattle.ix_base.specs.declared.content.OwnName.{OwnName}
use Rattle.ix_base.specs.declared.content.Period.{Period}
use Rattle.ix_base.specs.declared.content.RoleRef.{RoleRef}
use Rattle.ix_base.specs.declared.content.Unit.{Unit as UnitContent}
use Rattle.ix_base.specs.declared.content.Value.{Value}
use Rattle.instance_lines.specs.Moments.{start_text as start_moment, end_text as end_moment}
use Rattle.instance_lines.specs.Prefixes.{name_text}
use Rattle.page_tree.specs.FineMarkup.{is_fine, IsFine, HasValues, IsPlainTag, is_simple_name, are_simple_names, names_of}
use Rattle.page_constructs.proofs.AllowedText.{low-allowed, allowed-nil, allowed-before, allowed-tail}
use Rattle.page_tree.proofs.FineLaws.{text-fine, nothing-fine, node-fine, leaf-fine, no-values, more-values, values-append}
use Rattle.page_tree.proofs.FineTags.{simple-tag, named-tag}
use Rattle.page_tree.proofs.PlainText.{good-written}
use Rattle.page_constructs.proofs.SpanLaws.{and_both}
use Rattle.instance_lines.specs.Canonical.{Spaces, attr, attr_if, text_markup, text_element, each_markup, around, schema_markup, linkbase_markup, role_markup, arcrole_markup, period_markup, member_markup, dim_markup, context_markup, measures_markup, ratio_markup, unit_markup, accuracy_attrs, nil_attr, item_attrs, value_markup, item_markup, tuple_markup, facts_markup, fact_markups}
use Rattle.instance_out.specs.GoodMarkup.{allowed_if, good_linkbase, good_role, good_period, good_member, good_dim, good_context, good_unit, good_accuracy, good_value, good_item, good_facts, fit, declared_scope, is_element}
use Rattle.instance_out.proofs.RootFine.{known, known-bound, own-name}
use Rattle.ix_base.specs.Trees as trees
use Rattle.ix_base.specs.declared.content.Accuracy.TheVariants as accuracy
use Rattle.ix_base.specs.declared.content.Member.TheVariants as member
use Rattle.ix_base.specs.declared.content.Period.TheVariants as period
use Rattle.ix_base.specs.declared.content.Value.TheVariants as value
use Rattle.instance_out.specs.GoodMarkup as good

value-if : (name : List ℕ) (o : Option (List ℕ)) → allowed_if o ≡ true → HasValues (attr_if name o)
value-if name None h = no-values
value-if name (Some v) h = more-values h no-values

simple : are_allowed (codes "simple") ≡ true
unfolding is_allowed
simple = low-allowed (codes "simple") refl refl

linkbase_role : are_allowed (codes "http://www.w3.org/1999/xlink/properties/linkbase") ≡ true
unfolding is_allowed
linkbase_role = low-allowed (codes "http://www.w3.org/1999/xlink/properties/linkbase") refl refl

truth : are_allowed (codes "true") ≡ true
unfolding is_allowed
truth = low-allowed (codes "true") refl refl

-- A text.

pub text-markup : (t : List ℕ) {depth : ℕ} {scope : List trees.Bound} → are_allowed t ≡ true → IsFine (text_markup t) depth scope
text-markup [] h = nothing-fine
text-markup (c ∷ t) {depth} {scope} h = record { is = text-fine c t nothing depth scope h refl refl }

pub text-element : {name : List ℕ} {attrs : List Attribute} (t : List ℕ) {rest : Markup} {below : ℕ} {scope : List trees.Bound} → IsPlainTag scope name attrs → are_allowed t ≡ true
    → IsFine rest (suc below) scope → IsFine (text_element name attrs t rest) (suc below) scope
text-element t p h r = node-fine p (text-markup t h) r

module _ (ss : Spaces) where
  abbrev scope : List trees.Bound
  scope = declared_scope ss

  tag : {name : List ℕ} {attrs : List Attribute} → is_simple_name known name ≡ true → are_simple_names known (names_of attrs) ≡ true → HasValues attrs → IsPlainTag scope name attrs
  tag n h v = simple-tag scope known _ _ (known-bound ss) n h v.are

  bare : {name : List ℕ} → is_simple_name known name ≡ true → IsPlainTag scope name []
  bare n = tag n refl no-values

  own : (n : OwnName) {attrs : List Attribute} → is_ncname n.local ≡ true → are_simple_names known (names_of attrs) ≡ true → HasValues attrs → IsPlainTag scope (name_text ss n) attrs
  own n k h v = let q = own-name ss n k in named-tag scope known (name_text ss n) _ (known-bound ss) q.0 q.1 h v.are

  -- a tag of this name is text of allowed characters, so the name is
  name-allowed : (n : OwnName) → is_ncname n.local ≡ true → are_allowed (name_text ss n) ≡ true
  name-allowed n h =
      let whole : IsFine (leaf (name_text ss n) [] nothing) 1 scope = leaf-fine (own n h refl no-values) nothing-fine in
      let text = good-written (leaf (name_text ss n) [] nothing) 1 scope [] whole.is (record { allowed = allowed-nil; unreturned = refl }) in
      let alone = name_text ss n ++ 47 ∷ 62 ∷ [] in
      let allowed : are_allowed (60 ∷ alone) ≡ true = ap are_allowed (sym (append-nil (60 ∷ alone))) ∙ text.allowed in
      (allowed-before (name_text ss n) 47 (62 ∷ []) (omega arith) (allowed-tail 60 alone (omega arith) allowed)).0

  -- References.
  pub schema-fine : (href : List ℕ) (below : ℕ) → are_allowed href ≡ true → IsFine (schema_markup href) (suc below) scope
  schema-fine href below h = leaf-fine (tag refl refl (more-values simple (more-values h no-values))) nothing-fine

  pub role-fine : (r : RoleRef) (below : ℕ) → good_role r ≡ true → IsFine (role_markup r) (suc below) scope
  role-fine r below h = let z = and_parts (are_allowed r.uri) (are_allowed r.href) h in
      leaf-fine (tag refl refl (more-values z.0 (more-values simple (more-values z.1 no-values)))) nothing-fine

  pub arcrole-fine : (r : RoleRef) (below : ℕ) → good_role r ≡ true → IsFine (arcrole_markup r) (suc below) scope
  arcrole-fine r below h = let z = and_parts (are_allowed r.uri) (are_allowed r.href) h in
      leaf-fine (tag refl refl (more-values z.0 (more-values simple (more-values z.1 no-values)))) nothing-fine

  pub linkbase-fine : (href : List ℕ) (role : Option (List ℕ)) (below : ℕ) → are_allowed href ≡ true → allowed_if role ≡ true → IsFine (linkbase_markup (record { href = href; role = role })) (suc below) scope
  linkbase-fine href None below h k = leaf-fine (tag refl refl (more-values simple (more-values h (more-values linkbase_role no-values)))) nothing-fine
  linkbase-fine href (Some r) below h k = leaf-fine (tag refl refl (more-values simple (more-values h (more-values k (more-values linkbase_role no-values))))) nothing-fine

  -- Units.
  measures-fine : (ns : List OwnName) (below : ℕ) → list_all good.good_name ns ≡ true → IsFine (measures_markup ss ns) (suc below) scope
  measures-fine [] below h = nothing-fine
  measures-fine (n ∷ ns) below h = let z = and_parts (good.good_name n) (list_all good.good_name ns) h in
      text-element (name_text ss n) (bare refl) (name-allowed n z.0) (measures-fine ns below z.1)

  ratio-fine : (over under : List OwnName) (below : ℕ) → list_all good.good_name over ≡ true → list_all good.good_name under ≡ true → IsFine (ratio_markup ss over under) (suc (suc (suc below))) scope
  ratio-fine over [] below h k = measures-fine over (suc (suc below)) h
  ratio-fine over (n ∷ ns) below h k =
      node-fine (bare refl) (node-fine (bare refl) (measures-fine over below h) (node-fine (bare refl) (measures-fine (n ∷ ns) below k) nothing-fine)) nothing-fine

  pub unit-fine : (u : UnitContent) (below : ℕ) → good_unit u ≡ true → IsFine (unit_markup ss u) (suc (suc (suc (suc below)))) scope
  unit-fine u below h =
      let z = and_parts (are_allowed u.id) (list_all good.good_name u.over && list_all good.good_name u.under) h in
      let y = and_parts (list_all good.good_name u.over) (list_all good.good_name u.under) z.1 in
      node-fine (tag refl refl (more-values z.0 no-values)) (ratio-fine u.over u.under below y.0 y.1) nothing-fine

  -- Contexts.
  period-fine : (p : Period) (below : ℕ) → good_period p ≡ true → IsFine (period_markup p) (suc below) scope
  period-fine (period.Instant e) below h = text-element (end_moment e) (bare refl) h nothing-fine
  period-fine (period.Duration s e) below h = let z = and_parts (are_allowed (start_moment s)) (are_allowed (end_moment e)) h in
      text-element (start_moment s) (bare refl) z.0 (text-element (end_moment e) (bare refl) z.1 nothing-fine)
  period-fine period.Forever below h = leaf-fine (bare refl) nothing-fine

  member-fine : (d : OwnName) (m : Member) (rest : Markup) (below : ℕ) → is_ncname d.local ≡ true → good_member m ≡ true → IsFine rest (suc (suc below)) scope
      → IsFine (member_markup ss d m rest) (suc (suc below)) scope
  member-fine d (member.Explicit n) rest below h k r = text-element (name_text ss n) (tag refl refl (more-values (name-allowed d h) no-values)) (name-allowed n k) r
  member-fine d (member.Typed n t) rest below h k r =
      let z = and_parts (is_ncname n.local) (are_allowed t) k in
      node-fine (tag refl refl (more-values (name-allowed d h) no-values)) (text-element t (own n z.0 refl no-values) z.1 nothing-fine) r

  dims-fine : (ds : List Dim) (below : ℕ) → list_all good_dim ds ≡ true → IsFine (each_markup (dim_markup ss) ds nothing) (suc (suc below)) scope
  dims-fine [] below h = nothing-fine
  dims-fine (d ∷ ds) below h =
      let z = and_parts (good_dim d) (list_all good_dim ds) h in
      let y = and_parts (good.good_name d.dimension) (good_member d.member) z.0 in
      member-fine d.dimension d.member (each_markup (dim_markup ss) ds nothing) below y.0 y.1 (dims-fine ds below z.1)

  around-fine : (name : List ℕ) (ds : List Dim) (below : ℕ) → is_simple_name known name ≡ true → list_all good_dim ds ≡ true
      → IsFine (around name (dim_markup ss) ds nothing) (suc (suc (suc below))) scope
  around-fine name [] below n h = nothing-fine
  around-fine name (d ∷ ds) below n h = node-fine (bare n) (dims-fine (d ∷ ds) below h) nothing-fine

  pub context-fine : (c : Context) (below : ℕ) → good_context c ≡ true → IsFine (context_markup ss c) (suc (suc (suc (suc (suc below))))) scope
  context-fine c below h =
      let z = and_parts (are_allowed c.id) _ h in
      let y = and_parts (are_allowed c.scheme) _ z.1 in
      let x = and_parts (are_allowed c.identifier) _ y.1 in
      let v = and_parts (list_all good_dim c.segment) _ x.1 in
      let u = and_parts (list_all good_dim c.scenario) (good_period c.period) v.1 in
      node-fine (tag refl refl (more-values z.0 no-values))
      (node-fine (bare refl) (text-element c.identifier (tag refl refl (more-values y.0 no-values)) x.0 (around-fine (codes "xbrli:segment") c.segment below refl v.0))
      (node-fine (bare refl) (period-fine c.period (suc (suc below)) u.1) (around-fine (codes "xbrli:scenario") c.scenario (suc below) refl u.0)))
      nothing-fine

  -- Facts.
  abbrev attrs_of : List ℕ → Option (List ℕ) → Option Accuracy → Option (List ℕ) → List Attribute
  attrs_of c u a d = attr (codes "contextRef") c ∷ (attr_if (codes "unitRef") u ++ (accuracy_attrs a ++ attr_if (codes "id") d))

  item-names : (c : List ℕ) (u : Option (List ℕ)) (a : Option Accuracy) (d : Option (List ℕ)) → are_simple_names known (names_of (attrs_of c u a d)) ≡ true
  item-names c None None None = refl
  item-names c None None (Some d) = refl
  item-names c None (Some (accuracy.Decimals n)) None = refl
  item-names c None (Some (accuracy.Decimals n)) (Some d) = refl
  item-names c None (Some (accuracy.Precision n)) None = refl
  item-names c None (Some (accuracy.Precision n)) (Some d) = refl
  item-names c (Some u) None None = refl
  item-names c (Some u) None (Some d) = refl
  item-names c (Some u) (Some (accuracy.Decimals n)) None = refl
  item-names c (Some u) (Some (accuracy.Decimals n)) (Some d) = refl
  item-names c (Some u) (Some (accuracy.Precision n)) None = refl
  item-names c (Some u) (Some (accuracy.Precision n)) (Some d) = refl

  nil-names : (c : List ℕ) (u : Option (List ℕ)) (a : Option Accuracy) (d : Option (List ℕ)) → are_simple_names known (names_of (attrs_of c u a d ++ nil_attr ∷ [])) ≡ true
  nil-names c None None None = refl
  nil-names c None None (Some d) = refl
  nil-names c None (Some (accuracy.Decimals n)) None = refl
  nil-names c None (Some (accuracy.Decimals n)) (Some d) = refl
  nil-names c None (Some (accuracy.Precision n)) None = refl
  nil-names c None (Some (accuracy.Precision n)) (Some d) = refl
  nil-names c (Some u) None None = refl
  nil-names c (Some u) None (Some d) = refl
  nil-names c (Some u) (Some (accuracy.Decimals n)) None = refl
  nil-names c (Some u) (Some (accuracy.Decimals n)) (Some d) = refl
  nil-names c (Some u) (Some (accuracy.Precision n)) None = refl
  nil-names c (Some u) (Some (accuracy.Precision n)) (Some d) = refl

  accuracy-values : (a : Option Accuracy) → good_accuracy a ≡ true → HasValues (accuracy_attrs a)
  accuracy-values None h = no-values
  accuracy-values (Some (accuracy.Decimals n)) h = more-values h no-values
  accuracy-values (Some (accuracy.Precision n)) h = more-values h no-values

  value-fine : (name : List ℕ) (attrs : List Attribute) (v : Value) (rest : Markup) (below : ℕ) → IsPlainTag scope name attrs → IsPlainTag scope name (attrs ++ nil_attr ∷ []) → good_value v ≡ true
      → IsFine rest (suc (suc below)) scope → IsFine (value_markup name attrs v rest) (suc (suc below)) scope
  value-fine name attrs value.Nil rest below p q h r = leaf-fine q r
  value-fine name attrs (value.Plain t) rest below p q h r = text-element t p h r
  value-fine name attrs (value.Fraction a b) rest below p q h r = let z = and_parts (are_allowed a) (are_allowed b) h in
      node-fine p (text-element a (bare refl) z.0 (text-element b (bare refl) z.1 nothing-fine)) r

  item-fine : (i : Item) (rest : Markup) (below : ℕ) → good_item i ≡ true → IsFine rest (suc (suc below)) scope → IsFine (item_markup ss i rest) (suc (suc below)) scope
  item-fine i rest below h r =
      let z = and_parts (good.good_name i.name) _ h in
      let y = and_parts (are_allowed i.context) _ z.1 in
      let x = and_parts (allowed_if i.unit) _ y.1 in
      let v = and_parts (good_accuracy i.accuracy) _ x.1 in
      let u = and_parts (allowed_if i.id) (good_value i.value) v.1 in
      let values : HasValues (item_attrs i) = more-values y.0 (values-append (attr_if (codes "unitRef") i.unit) (accuracy_attrs i.accuracy ++ attr_if (codes "id") i.id) (value-if _ i.unit x.0)
      (values-append (accuracy_attrs i.accuracy) (attr_if (codes "id") i.id) (accuracy-values i.accuracy v.0) (value-if _ i.id u.0))) in
      value-fine (name_text ss i.name) (item_attrs i) i.value rest below (own i.name z.0 (item-names i.context i.unit i.accuracy i.id) values)
      (own i.name z.0 (nil-names i.context i.unit i.accuracy i.id) (values-append (item_attrs i) (nil_attr ∷ []) values (more-values truth no-values))) u.1 r

  id-names : (d : Option (List ℕ)) → are_simple_names known (names_of (attr_if (codes "id") d)) ≡ true
  id-names None = refl
  id-names (Some d) = refl

  nil-id-names : (d : Option (List ℕ)) → are_simple_names known (names_of (attr_if (codes "id") d ++ nil_attr ∷ [])) ≡ true
  nil-id-names None = refl
  nil-id-names (Some d) = refl

  tuple-fine : (name : OwnName) (d : Option (List ℕ)) (nil : Bool) (members rest : Markup) (below : ℕ) → is_ncname name.local ≡ true → allowed_if d ≡ true
      → IsFine members below scope → IsFine rest (suc below) scope → IsFine (tuple_markup (name_text ss name) d nil members rest) (suc below) scope
  tuple-fine name d true members rest below n h m r = leaf-fine (own name n (nil-id-names d) (values-append (attr_if (codes "id") d) (nil_attr ∷ []) (value-if _ d h) (more-values truth no-values))) r
  tuple-fine name d false members rest below n h m r = node-fine (own name n (id-names d) (value-if _ d h)) m r

  pub facts-fine : (fs : Facts) (depth : ℕ) → good_facts fs ≡ true → fit fs depth ≡ true → IsFine (facts_markup ss fs) depth scope
  facts-fine none depth h k = nothing-fine
  facts-fine (item i rest) zero h k = absurd (cc)
  facts-fine (item i rest) (suc zero) h k = absurd (cc)
  facts-fine (item i rest) (suc (suc below)) h k = let z = and_parts (good_item i) (good_facts rest) h in item-fine i (facts_markup ss rest) below z.0 (facts-fine rest (suc (suc below)) z.1 k)
  facts-fine (tuple name d nil members rest) zero h k = absurd (cc)
  facts-fine (tuple name d nil members rest) (suc below) h k =
      let z = and_parts (good.good_name name && allowed_if d) (good_facts members && good_facts rest) h in
      let y = and_parts (good.good_name name) (allowed_if d) z.0 in
      let x = and_parts (good_facts members) (good_facts rest) z.1 in
      let f = and_parts (fit members below) (fit rest (suc below)) k in
      tuple-fine name d nil (facts_markup ss members) (facts_markup ss rest) below y.0 y.1 (facts-fine members below x.0 f.0) (facts-fine rest (suc below) x.1 f.1)

  -- Each fact by itself.
  abbrev pub is_fine_line : ℕ → Markup → Bool
  is_fine_line depth m = is_element m && is_fine m depth scope

  element-item : (i : Item) → is_element (item_markup ss i nothing) ≡ true
  element-item i = by_value i.value where
    by_value : (v : Value) → is_element (value_markup (name_text ss i.name) (item_attrs i) v nothing) ≡ true
    by_value value.Nil = refl
    by_value (value.Plain t) = refl
    by_value (value.Fraction a b) = refl

  element-tuple : (name : List ℕ) (d : Option (List ℕ)) (nil : Bool) (members : Markup) → is_element (tuple_markup name d nil members nothing) ≡ true
  element-tuple name d true members = refl
  element-tuple name d false members = refl

  pub facts-lines : (fs : Facts) (depth : ℕ) → good_facts fs ≡ true → fit fs depth ≡ true → list_all (is_fine_line depth) (fact_markups ss fs) ≡ true
  facts-lines none depth h k = refl
  facts-lines (item i rest) zero h k = absurd (cc)
  facts-lines (item i rest) (suc zero) h k = absurd (cc)
  facts-lines (item i rest) (suc (suc below)) h k = let z = and_parts (good_item i) (good_facts rest) h in
      and_both _ _ (and_both _ _ (element-item i) (item-fine i nothing below z.0 nothing-fine).is) (facts-lines rest (suc (suc below)) z.1 k)
  facts-lines (tuple name d nil members rest) zero h k = absurd (cc)
  facts-lines (tuple name d nil members rest) (suc below) h k =
      let z = and_parts (good.good_name name && allowed_if d) (good_facts members && good_facts rest) h in
      let y = and_parts (good.good_name name) (allowed_if d) z.0 in
      let x = and_parts (good_facts members) (good_facts rest) z.1 in
      let f = and_parts (fit members below) (fit rest (suc below)) k in
      and_both _ _ (and_both _ _ (element-tuple (name_text ss name) d nil (facts_markup ss members)) (tuple-fine name d nil (facts_markup ss members) nothing below y.0 y.1 (facts-fine members below x.0 f.0) nothing-fine).is)
      (facts-lines rest (suc below) x.1 f.1)
