-- Facts are read as they are written.
use Rattle.std.proofs.Common.{◌≡◌, ◌∙◌, ℕ, ◌+◌, Bool, true, false, List, [], ◌∷◌, ◌++◌, length, Option, Some, None, refl, sym, ap, subst, codes}
use Rattle.ix_base.specs.declared.content.Accuracy.{Accuracy}
use Rattle.ix_base.specs.declared.content.Item.{Item}
use Rattle.ix_base.specs.declared.content.OwnName.{OwnName}
use Rattle.ix_base.specs.declared.content.Value.{Value}
use Rattle.ix_base.specs.Attributes.{value_of}
use Rattle.ix_base.specs.OwnNames.{own}
use Rattle.ix_base.specs.Facts.{Facts, item, tuple}
use Rattle.ix_base.specs.Scope.{namespace_of, element_name}
use Rattle.ix_base.specs.Namespaces.{xbrli_namespace, xsi_namespace}
use Rattle.ix_base.specs.Token.{token_of}
use Rattle.ix_base.specs.Trees.{Bound, Head, Nodes, none, elem}
use Rattle.ix_base.specs.WrittenMarkup.{Attribute as Given, Markup, nothing, start_text, leaf_text, close_text}
use Rattle.instance_lines.specs.Prefixes.{name_text}
use Rattle.instance_lines.specs.Canonical.{Spaces, attr, attr_if, accuracy_attrs, nil_attr, text_markup, text_element, item_markup, tuple_markup, facts_markup}
use Rattle.page_tree.specs.FineMarkup.{head_at, nodes_at, past}
use Rattle.instance_out.specs.Denotation.{accuracy_by, is_nil, value_by, item_in, fact_by, members_by, is_part, outside, facts_in}
use Rattle.instance_out.proofs.NameLaws.{Knows, IsRead, given, knows-xbrli, knows-xsi}
use Rattle.instance_out.proofs.RunLaws.{text-alone}
use Rattle.ix_base.specs.declared.content.Accuracy.TheVariants as accuracy
use Rattle.ix_base.specs.declared.content.Value.TheVariants as value
use Rattle.ix_base.specs.Facts as F

-- what the attributes of a fact say
pub record Says (head : Head) (context : Option (List ℕ)) (unit : Option (List ℕ)) (exact : Option Accuracy) (id : Option (List ℕ)) (nil : Bool) (scope : List Bound) : Type 0 where
  pub context_is : value_of head.attrs [] (codes "contextRef") ≡ context
  pub unit_is : value_of head.attrs [] (codes "unitRef") ≡ unit
  pub exact_is : accuracy_by (value_of head.attrs [] (codes "decimals")) (value_of head.attrs [] (codes "precision")) ≡ Some exact
  pub id_is : value_of head.attrs [] (codes "id") ≡ id
  pub nil_is : is_nil head.attrs ≡ nil
  pub scope_is : head.scope ≡ scope

abbrev attrs_of : List ℕ → Option (List ℕ) → Option Accuracy → Option (List ℕ) → List Given
attrs_of context unit exact id = attr (codes "contextRef") context ∷ (attr_if (codes "unitRef") unit ++ (accuracy_attrs exact ++ attr_if (codes "id") id))

says-plain : (scope : List Bound) (at : ℕ) (name context : List ℕ) (unit : Option (List ℕ)) (exact : Option Accuracy) (id : Option (List ℕ))
    → Says (head_at at scope name (attrs_of context unit exact id)) (Some context) unit exact id false scope
unfolding xsi_namespace
says-plain scope at name context None None None = record { context_is = refl; unit_is = refl; exact_is = refl; id_is = refl; nil_is = refl; scope_is = refl }
says-plain scope at name context None None (Some i) = record { context_is = refl; unit_is = refl; exact_is = refl; id_is = refl; nil_is = refl; scope_is = refl }
says-plain scope at name context None (Some (accuracy.Decimals n)) None = record { context_is = refl; unit_is = refl; exact_is = refl; id_is = refl; nil_is = refl; scope_is = refl }
says-plain scope at name context None (Some (accuracy.Decimals n)) (Some i) = record { context_is = refl; unit_is = refl; exact_is = refl; id_is = refl; nil_is = refl; scope_is = refl }
says-plain scope at name context None (Some (accuracy.Precision n)) None = record { context_is = refl; unit_is = refl; exact_is = refl; id_is = refl; nil_is = refl; scope_is = refl }
says-plain scope at name context None (Some (accuracy.Precision n)) (Some i) = record { context_is = refl; unit_is = refl; exact_is = refl; id_is = refl; nil_is = refl; scope_is = refl }
says-plain scope at name context (Some u) None None = record { context_is = refl; unit_is = refl; exact_is = refl; id_is = refl; nil_is = refl; scope_is = refl }
says-plain scope at name context (Some u) None (Some i) = record { context_is = refl; unit_is = refl; exact_is = refl; id_is = refl; nil_is = refl; scope_is = refl }
says-plain scope at name context (Some u) (Some (accuracy.Decimals n)) None = record { context_is = refl; unit_is = refl; exact_is = refl; id_is = refl; nil_is = refl; scope_is = refl }
says-plain scope at name context (Some u) (Some (accuracy.Decimals n)) (Some i) = record { context_is = refl; unit_is = refl; exact_is = refl; id_is = refl; nil_is = refl; scope_is = refl }
says-plain scope at name context (Some u) (Some (accuracy.Precision n)) None = record { context_is = refl; unit_is = refl; exact_is = refl; id_is = refl; nil_is = refl; scope_is = refl }
says-plain scope at name context (Some u) (Some (accuracy.Precision n)) (Some i) = record { context_is = refl; unit_is = refl; exact_is = refl; id_is = refl; nil_is = refl; scope_is = refl }

says-nil : (scope : List Bound) (at : ℕ) (name context : List ℕ) → namespace_of scope (codes "xsi") ≡ Some xsi_namespace → (unit : Option (List ℕ)) (exact : Option Accuracy) (id : Option (List ℕ))
    → Says (head_at at scope name (attrs_of context unit exact id ++ nil_attr ∷ [])) (Some context) unit exact id true scope
unfolding xsi_namespace token_of
says-nil scope at name context k None None None = record { context_is = refl; unit_is = rw k refl; exact_is = rw k refl; id_is = rw k refl; nil_is = rw k refl; scope_is = refl }
says-nil scope at name context k None None (Some i) = record { context_is = refl; unit_is = rw k refl; exact_is = rw k refl; id_is = refl; nil_is = rw k refl; scope_is = refl }
says-nil scope at name context k None (Some (accuracy.Decimals n)) None = record { context_is = refl; unit_is = rw k refl; exact_is = rw k refl; id_is = rw k refl; nil_is = rw k refl; scope_is = refl }
says-nil scope at name context k None (Some (accuracy.Decimals n)) (Some i) = record { context_is = refl; unit_is = rw k refl; exact_is = rw k refl; id_is = refl; nil_is = rw k refl; scope_is = refl }
says-nil scope at name context k None (Some (accuracy.Precision n)) None = record { context_is = refl; unit_is = rw k refl; exact_is = rw k refl; id_is = rw k refl; nil_is = rw k refl; scope_is = refl }
says-nil scope at name context k None (Some (accuracy.Precision n)) (Some i) = record { context_is = refl; unit_is = rw k refl; exact_is = rw k refl; id_is = refl; nil_is = rw k refl; scope_is = refl }
says-nil scope at name context k (Some u) None None = record { context_is = refl; unit_is = refl; exact_is = rw k refl; id_is = rw k refl; nil_is = rw k refl; scope_is = refl }
says-nil scope at name context k (Some u) None (Some i) = record { context_is = refl; unit_is = refl; exact_is = rw k refl; id_is = refl; nil_is = rw k refl; scope_is = refl }
says-nil scope at name context k (Some u) (Some (accuracy.Decimals n)) None = record { context_is = refl; unit_is = refl; exact_is = rw k refl; id_is = rw k refl; nil_is = rw k refl; scope_is = refl }
says-nil scope at name context k (Some u) (Some (accuracy.Decimals n)) (Some i) = record { context_is = refl; unit_is = refl; exact_is = rw k refl; id_is = refl; nil_is = rw k refl; scope_is = refl }
says-nil scope at name context k (Some u) (Some (accuracy.Precision n)) None = record { context_is = refl; unit_is = refl; exact_is = rw k refl; id_is = rw k refl; nil_is = rw k refl; scope_is = refl }
says-nil scope at name context k (Some u) (Some (accuracy.Precision n)) (Some i) = record { context_is = refl; unit_is = refl; exact_is = rw k refl; id_is = refl; nil_is = rw k refl; scope_is = refl }

tuple-plain : (scope : List Bound) (at : ℕ) (name : List ℕ) (id : Option (List ℕ)) → Says (head_at at scope name (attr_if (codes "id") id)) None None None id false scope
unfolding xsi_namespace
tuple-plain scope at name None = record { context_is = refl; unit_is = refl; exact_is = refl; id_is = refl; nil_is = refl; scope_is = refl }
tuple-plain scope at name (Some i) = record { context_is = refl; unit_is = refl; exact_is = refl; id_is = refl; nil_is = refl; scope_is = refl }

tuple-nil : (scope : List Bound) (at : ℕ) (name : List ℕ) → namespace_of scope (codes "xsi") ≡ Some xsi_namespace → (id : Option (List ℕ))
    → Says (head_at at scope name (attr_if (codes "id") id ++ nil_attr ∷ [])) None None None id true scope
unfolding xsi_namespace token_of
tuple-nil scope at name k None = record { context_is = rw k refl; unit_is = rw k refl; exact_is = rw k refl; id_is = rw k refl; nil_is = rw k refl; scope_is = refl }
tuple-nil scope at name k (Some i) = record { context_is = rw k refl; unit_is = rw k refl; exact_is = rw k refl; id_is = refl; nil_is = rw k refl; scope_is = refl }

-- Values.

plain-value : (text : List ℕ) (at : ℕ) (scope : List Bound) → value_by false (nodes_at (text_markup text) at scope) ≡ Some (value.Plain text)
plain-value [] at scope = refl
plain-value (c ∷ text) at scope = refl

fraction-value : (scope : List Bound) → namespace_of scope (codes "xbrli") ≡ Some xbrli_namespace → (above below : List ℕ) (at : ℕ)
    → value_by false (nodes_at (text_element (codes "xbrli:numerator") [] above (text_element (codes "xbrli:denominator") [] below nothing)) at scope) ≡ Some (value.Fraction above below)
unfolding xbrli_namespace
fraction-value scope k above below at = rw (k, text-alone above, text-alone below) refl

-- One fact before others.
pub record IsFact (f : Markup → Markup) (scope : List Bound) (before : Facts → Facts) : Type 0 where
  pub head : ℕ → Head
  pub inner : ℕ → Nodes
  pub later : ℕ → ℕ
  pub is : (rest : Markup) (at : ℕ) → nodes_at (f rest) at scope ≡ elem (head at) (inner at) (nodes_at rest (later at) scope)
  pub apart : (at : ℕ) → is_part (head at).name ≡ false
  pub read : (at : ℕ) (more : Facts) → outside (head at).name (fact_by (value_of (head at).attrs [] (codes "contextRef")) (head at) (inner at) (facts_in (inner at)) more) ≡ Some (before more)

item-from : (h : Head) (ns : Nodes) (members : Option Facts) (more : Facts) (i : Item) (nil : Bool) (scope : List Bound) → Says h (Some i.context) i.unit i.accuracy i.id nil scope → own h.name ≡ i.name → is_part h.name ≡ false
    → value_by nil ns ≡ Some i.value → outside h.name (fact_by (value_of h.attrs [] (codes "contextRef")) h ns members more) ≡ Some (item i more)
unfolding item_in
item-from h ns members more i nil scope s n p v = rw (p, s.context_is, s.exact_is, s.nil_is, v, s.unit_is, s.id_is, n) refl

tuple-from : (h : Head) (ns : Nodes) (members : Option Facts) (more ms : Facts) (name : OwnName) (id : Option (List ℕ)) (nil : Bool) (scope : List Bound) → Says h None None None id nil scope → own h.name ≡ name → is_part h.name ≡ false
    → members_by nil members ≡ Some ms → outside h.name (fact_by (value_of h.attrs [] (codes "contextRef")) h ns members more) ≡ Some (tuple name id nil ms more)
tuple-from h ns members more ms name id nil scope s n p v = rw (p, s.context_is, s.nil_is, v, s.id_is, n) refl

-- the name of a fact is read, and is none of a part of an instance
pub record IsFactName (scope : List Bound) (spaces : Spaces) (n : OwnName) : Type 0 where
  pub read : IsRead scope spaces n
  pub apart : is_part (given n) ≡ false

-- the head of an element of this name, with attributes that declare nothing
own-name : (scope : List Bound) (spaces : Spaces) (n : OwnName) (h : Head) → h.name ≡ element_name scope (name_text spaces n) → IsRead scope spaces n → own h.name ≡ n
own-name scope spaces n h e r = ap own (e ∙ r.named)

part-name : (scope : List Bound) (spaces : Spaces) (n : OwnName) (h : Head) → h.name ≡ element_name scope (name_text spaces n) → IsFactName scope spaces n → is_part h.name ≡ false
part-name scope spaces n h e r = ap is_part (e ∙ r.read.named) ∙ r.apart

head-name : (name : List ℕ) (attrs : List Given) (scope : List Bound) (at : ℕ) → (head_at 0 scope name attrs).scope ≡ scope → (head_at at scope name attrs).name ≡ element_name scope name
head-name name attrs scope at e = ap (λ s. element_name s name) e

abbrev pub item_of : OwnName → List ℕ → Option (List ℕ) → Option Accuracy → Option (List ℕ) → Value → Item
item_of name context unit exact id v = record { name = name; context = context; unit = unit; accuracy = exact; id = id; value = v }

pub item-fact : (scope : List Bound) (spaces : Spaces) → Knows scope spaces → (name : OwnName) (context : List ℕ) (unit : Option (List ℕ)) (exact : Option Accuracy) (id : Option (List ℕ)) (v : Value)
    → IsFactName scope spaces name → IsFact (item_markup spaces (item_of name context unit exact id v)) scope (item (item_of name context unit exact id v))
item-fact scope spaces k name context unit exact id value.Nil h =
    let text = name_text spaces name in
    let attrs = attrs_of context unit exact id ++ nil_attr ∷ [] in
    let s = says-nil scope 0 text context (knows-xsi scope spaces k) unit exact id in
    record {
      head = λ at. head_at at scope text attrs;
      inner = λ at. none;
      later = λ at. at + length (leaf_text text attrs);
      is = λ rest at. refl;
      apart = λ at. part-name scope spaces name (head_at at scope text attrs) (head-name text attrs scope at s.scope_is) h;
      read = λ at more. item-from (head_at at scope text attrs) none None more (item_of name context unit exact id value.Nil) true scope (says-nil scope at text context (knows-xsi scope spaces k) unit exact id)
          (own-name scope spaces name (head_at at scope text attrs) (head-name text attrs scope at s.scope_is) h.read)
          (part-name scope spaces name (head_at at scope text attrs) (head-name text attrs scope at s.scope_is) h) refl;
    }
item-fact scope spaces k name context unit exact id (value.Plain t) h =
    let text = name_text spaces name in
    let attrs = attrs_of context unit exact id in
    let s = says-plain scope 0 text context unit exact id in
    record {
      head = λ at. head_at at scope text attrs;
      inner = λ at. nodes_at (text_markup t) (at + length (start_text text attrs)) (head_at at scope text attrs).scope;
      later = λ at. past (text_markup t) (at + length (start_text text attrs)) + length (close_text text);
      is = λ rest at. refl;
      apart = λ at. part-name scope spaces name (head_at at scope text attrs) (head-name text attrs scope at s.scope_is) h;
      read = λ at more. item-from (head_at at scope text attrs) _ None more (item_of name context unit exact id (value.Plain t)) false scope (says-plain scope at text context unit exact id)
          (own-name scope spaces name (head_at at scope text attrs) (head-name text attrs scope at s.scope_is) h.read)
          (part-name scope spaces name (head_at at scope text attrs) (head-name text attrs scope at s.scope_is) h)
          (plain-value t (at + length (start_text text attrs)) (head_at at scope text attrs).scope);
    }
item-fact scope spaces k name context unit exact id (value.Fraction above below) h =
    let text = name_text spaces name in
    let attrs = attrs_of context unit exact id in
    let kids = text_element (codes "xbrli:numerator") [] above (text_element (codes "xbrli:denominator") [] below nothing) in
    let s = says-plain scope 0 text context unit exact id in
    record {
      head = λ at. head_at at scope text attrs;
      inner = λ at. nodes_at kids (at + length (start_text text attrs)) (head_at at scope text attrs).scope;
      later = λ at. past kids (at + length (start_text text attrs)) + length (close_text text);
      is = λ rest at. refl;
      apart = λ at. part-name scope spaces name (head_at at scope text attrs) (head-name text attrs scope at s.scope_is) h;
      read = λ at more. item-from (head_at at scope text attrs) _ None more (item_of name context unit exact id (value.Fraction above below)) false scope (says-plain scope at text context unit exact id)
          (own-name scope spaces name (head_at at scope text attrs) (head-name text attrs scope at s.scope_is) h.read)
          (part-name scope spaces name (head_at at scope text attrs) (head-name text attrs scope at s.scope_is) h)
          (subst (λ x. value_by false (nodes_at kids (at + length (start_text text attrs)) x) ≡ Some (value.Fraction above below)) (sym s.scope_is)
          (fraction-value scope (knows-xbrli scope spaces k) above below (at + length (start_text text attrs))));
    }

-- the facts that markup means in a scope, wherever it begins
abbrev pub Means : Markup → List Bound → Facts → Type 0
Means m scope fs = (at : ℕ) → facts_in (nodes_at m at scope) ≡ Some fs

pub tuple-fact : (scope : List Bound) (spaces : Spaces) → Knows scope spaces → (name : OwnName) (id : Option (List ℕ)) (nil : Bool) (kids : Markup) (ms : Facts)
    → IsFactName scope spaces name → (nil ≡ true → ms ≡ F.none) → Means kids scope ms → IsFact (tuple_markup (name_text spaces name) id nil kids) scope (tuple name id nil ms)
tuple-fact scope spaces k name id true kids ms h z m =
    let text = name_text spaces name in
    let attrs = attr_if (codes "id") id ++ nil_attr ∷ [] in
    let s = tuple-nil scope 0 text (knows-xsi scope spaces k) id in
    record {
      head = λ at. head_at at scope text attrs;
      inner = λ at. none;
      later = λ at. at + length (leaf_text text attrs);
      is = λ rest at. refl;
      apart = λ at. part-name scope spaces name (head_at at scope text attrs) (head-name text attrs scope at s.scope_is) h;
      read = λ at more. tuple-from (head_at at scope text attrs) none _ more ms name id true scope (tuple-nil scope at text (knows-xsi scope spaces k) id)
          (own-name scope spaces name (head_at at scope text attrs) (head-name text attrs scope at s.scope_is) h.read)
          (part-name scope spaces name (head_at at scope text attrs) (head-name text attrs scope at s.scope_is) h) (ap Some (sym (z refl)));
    }
tuple-fact scope spaces k name id false kids ms h z m =
    let text = name_text spaces name in
    let attrs = attr_if (codes "id") id in
    let s = tuple-plain scope 0 text id in
    record {
      head = λ at. head_at at scope text attrs;
      inner = λ at. nodes_at kids (at + length (start_text text attrs)) (head_at at scope text attrs).scope;
      later = λ at. past kids (at + length (start_text text attrs)) + length (close_text text);
      is = λ rest at. refl;
      apart = λ at. part-name scope spaces name (head_at at scope text attrs) (head-name text attrs scope at s.scope_is) h;
      read = λ at more. tuple-from (head_at at scope text attrs) _ _ more ms name id false scope (tuple-plain scope at text id)
          (own-name scope spaces name (head_at at scope text attrs) (head-name text attrs scope at s.scope_is) h.read)
          (part-name scope spaces name (head_at at scope text attrs) (head-name text attrs scope at s.scope_is) h)
          (subst (λ x. facts_in (nodes_at kids (at + length (start_text text attrs)) x) ≡ Some ms) (sym s.scope_is) (m (at + length (start_text text attrs))));
    }

-- the names of all facts are read, and what is nil holds nothing
abbrev pub AreReadFacts : List Bound → Spaces → Facts → Type 0
AreReadFacts scope spaces F.none = Unit {0}
AreReadFacts scope spaces (item i rest) = IsFactName scope spaces i.name × AreReadFacts scope spaces rest
AreReadFacts scope spaces (tuple name id nil members rest) =
    IsFactName scope spaces name × (nil ≡ true → members ≡ F.none) × AreReadFacts scope spaces members × AreReadFacts scope spaces rest

fact-step : (f : Markup → Markup) (scope : List Bound) (before : Facts → Facts) → IsFact f scope before → (rest : Markup) (fs : Facts) → Means rest scope fs → Means (f rest) scope (before fs)
fact-step f scope before h rest fs m at = ap facts_in (h.is rest at) ∙ rw (m (h.later at), h.read at fs) refl

pub facts-read : (scope : List Bound) (spaces : Spaces) → Knows scope spaces → (fs : Facts) → AreReadFacts scope spaces fs → (at : ℕ) → facts_in (nodes_at (facts_markup spaces fs) at scope) ≡ Some fs
facts-read scope spaces k F.none h at = refl
facts-read scope spaces k (item i rest) (h, hs) at =
    fact-step (item_markup spaces i) scope (item i) (item-fact scope spaces k i.name i.context i.unit i.accuracy i.id i.value h) (facts_markup spaces rest) rest (facts-read scope spaces k rest hs) at
facts-read scope spaces k (tuple name id nil members rest) (h, z, ms, hs) at =
    fact-step (tuple_markup (name_text spaces name) id nil (facts_markup spaces members)) scope (tuple name id nil members)
    (tuple-fact scope spaces k name id nil (facts_markup spaces members) members h z (facts-read scope spaces k members ms)) (facts_markup spaces rest) rest (facts-read scope spaces k rest hs) at
