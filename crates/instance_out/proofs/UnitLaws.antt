-- A unit is read as it is written.
use Rattle.std.proofs.Common.{◌≡◌, ◌∙◌, ℕ, ◌+◌, true, false, List, [], ◌∷◌, length, Some, refl, codes, append-nil}
use Rattle.ix_base.specs.declared.content.OwnName.{OwnName}
use Rattle.ix_base.specs.declared.content.Unit.{Unit as UnitContent}
use Rattle.ix_base.specs.ContextForm.{own_held, id_of}
use Rattle.ix_base.specs.OwnNames.{name_cmp}
use Rattle.ix_base.specs.Elements.{tree_at}
use Rattle.ix_base.specs.Forms.{is_empty}
use Rattle.ix_base.specs.ElementContent.{named_in}
use Rattle.ix_base.specs.NcName.{is_ncname}
use Rattle.ix_base.specs.Scope.{namespace_of}
use Rattle.ix_base.specs.SortedLists.{sorted}
use Rattle.ix_base.specs.Namespaces.{xbrli_namespace}
use Rattle.ix_base.specs.Trees.{Bound, Head, Nodes, none, elem}
use Rattle.ix_base.specs.UnitForm.{unit, measures_in, divided, ratio_in}
use Rattle.ix_base.specs.WrittenMarkup.{nothing, start_text, close_text}
use Rattle.instance_lines.specs.Prefixes.{name_text}
use Rattle.instance_lines.specs.Canonical.{Spaces, text_markup, measure_markup, measures_markup, ratio_markup, unit_markup}
use Rattle.page_tree.specs.FineMarkup.{head_at, nodes_at, past}
use Rattle.instance_out.specs.MarkupTrees.{tree_in}
use Rattle.instance_out.proofs.NameLaws.{Knows, IsRead, knows-xbrli}
use Rattle.instance_out.proofs.RunLaws.{Each, text-alone, IsNamedOf, IsNamedRun, named_run}
use Rattle.instance_out.proofs.ContextLaws.{xbrli_name, id-read}

measure-element : (scope : List Bound) (spaces : Spaces) → namespace_of scope (codes "xbrli") ≡ Some xbrli_namespace → (n : OwnName) → IsRead scope spaces n
    → IsNamedOf (xbrli_name (codes "measure")) (measure_markup spaces) own_held scope n
measure-element scope spaces k n r = record {
  element = record {
    head = λ at. head_at at scope (codes "xbrli:measure") [];
    inner = λ at. nodes_at (text_markup (name_text spaces n)) (at + length (start_text (codes "xbrli:measure") [])) scope;
    later = λ at. past (text_markup (name_text spaces n)) (at + length (start_text (codes "xbrli:measure") [])) + length (close_text (codes "xbrli:measure"));
    is = λ rest at. refl;
    read = λ at. rw (text-alone, r.held) refl;
  };
  named = λ at. rw k refl;
}

measures-elements : (scope : List Bound) (spaces : Spaces) → Knows scope spaces → (ns : List OwnName) → Each (IsRead scope spaces) ns
    → Each (IsNamedOf (xbrli_name (codes "measure")) (measure_markup spaces) own_held scope) ns
measures-elements scope spaces k [] h = tt
measures-elements scope spaces k (n ∷ ns) (h, hs) = (measure-element scope spaces (knows-xbrli scope spaces k) n h, measures-elements scope spaces k ns hs)

-- measures as the normal form has them
pub record AreMeasures (scope : List Bound) (spaces : Spaces) (ns : List OwnName) : Type 0 where
  pub read : Each (IsRead scope spaces) ns
  pub some : is_empty ns ≡ false
  pub in_order : sorted name_cmp ns ≡ ns

measures-run : (scope : List Bound) (spaces : Spaces) → Knows scope spaces → (ns : List OwnName) → Each (IsRead scope spaces) ns → (at : ℕ)
    → IsNamedRun (xbrli_name (codes "measure")) own_held ns (measures_markup spaces ns) nothing at scope
measures-run scope spaces k ns h at = named_run (xbrli_name (codes "measure")) (measure_markup spaces) own_held scope ns (measures-elements scope spaces k ns h) nothing at

measures-read : (scope : List Bound) (spaces : Spaces) → Knows scope spaces → (ns : List OwnName) → AreMeasures scope spaces ns → (at : ℕ)
    → measures_in (nodes_at (measures_markup spaces ns) at scope) ≡ Some ns
unfolding measures_in xbrli_namespace
measures-read scope spaces k ns h at =
    let r = measures-run scope spaces k ns h.read at in
    rw (r.elements ∙ append-nil r.trees, r.read, r.held xbrli_namespace (codes "measure" ∷ []) refl, h.some, h.in_order) refl

divided-from : (d a b : Head) (an bn : Nodes) (over under : List OwnName) → a.name ≡ xbrli_name (codes "unitNumerator") → b.name ≡ xbrli_name (codes "unitDenominator")
    → measures_in an ≡ Some over → measures_in bn ≡ Some under → divided (tree_at d (elem a an (elem b bn none))) ≡ Some (over, under)
unfolding divided xbrli_namespace
divided-from d a b an bn over under p q r s = rw (p, q, r, s) refl

unit-from : (head : Head) (ns : Nodes) (u : UnitContent) → id_of (tree_at head none) ≡ Some u.id → ratio_in (named_in xbrli_namespace (codes "divide") ns) ns ≡ Some (u.over, u.under)
    → unit (tree_at head ns) ≡ Some u
unfolding unit
unit-from head ns u p q = rw (p, q) refl

measures-alone : (scope : List Bound) (spaces : Spaces) → Knows scope spaces → (ns : List OwnName) → AreMeasures scope spaces ns → (at : ℕ)
    → ratio_in (named_in xbrli_namespace (codes "divide") (nodes_at (measures_markup spaces ns) at scope)) (nodes_at (measures_markup spaces ns) at scope) ≡ Some (ns, [])
unfolding xbrli_namespace
measures-alone scope spaces k ns h at =
    let r = measures-run scope spaces k ns h.read at in
    rw (r.other xbrli_namespace (codes "divide") refl, measures-read scope spaces k ns h at) refl

divide-alone : (h : Head) (ns : Nodes) (over under : List OwnName) → h.name ≡ xbrli_name (codes "divide") → divided (tree_at h ns) ≡ Some (over, under)
    → ratio_in (named_in xbrli_namespace (codes "divide") (elem h ns none)) (elem h ns none) ≡ Some (over, under)
unfolding xbrli_namespace divided
divide-alone h ns over under p q = rw (p, q) refl

-- a unit as the normal form has it
abbrev pub AreBelow : List Bound → Spaces → List OwnName → Type 0
AreBelow scope spaces [] = Unit {0}
AreBelow scope spaces (n ∷ ns) = AreMeasures scope spaces (n ∷ ns)

pub record IsNormalUnit (scope : List Bound) (spaces : Spaces) (u : UnitContent) : Type 0 where
  pub id : is_ncname u.id ≡ true
  pub over : AreMeasures scope spaces u.over
  pub under : AreBelow scope spaces u.under

xbrli-named : (scope : List Bound) (spaces : Spaces) → Knows scope spaces → (head_at 0 scope (codes "xbrli:divide") []).name ≡ xbrli_name (codes "divide")
xbrli-named scope spaces k = rw (knows-xbrli scope spaces k) refl

above-named : (scope : List Bound) (spaces : Spaces) → Knows scope spaces → (head_at 0 scope (codes "xbrli:unitNumerator") []).name ≡ xbrli_name (codes "unitNumerator")
above-named scope spaces k = rw (knows-xbrli scope spaces k) refl

below-named : (scope : List Bound) (spaces : Spaces) → Knows scope spaces → (head_at 0 scope (codes "xbrli:unitDenominator") []).name ≡ xbrli_name (codes "unitDenominator")
below-named scope spaces k = rw (knows-xbrli scope spaces k) refl

ratio-read : (scope : List Bound) (spaces : Spaces) → Knows scope spaces → (over under : List OwnName) → AreMeasures scope spaces over → AreBelow scope spaces under → (at : ℕ)
    → ratio_in (named_in xbrli_namespace (codes "divide") (nodes_at (ratio_markup spaces over under) at scope)) (nodes_at (ratio_markup spaces over under) at scope) ≡ Some (over, under)
ratio-read scope spaces k over [] h g at = measures-alone scope spaces k over h at
ratio-read scope spaces k over (n ∷ ns) h g at =
    divide-alone _ _ over (n ∷ ns) (xbrli-named scope spaces k)
    (divided-from _ _ _ _ _ over (n ∷ ns) (above-named scope spaces k) (below-named scope spaces k) (measures-read scope spaces k over h _) (measures-read scope spaces k (n ∷ ns) g _))

pub unit-read : (scope : List Bound) (spaces : Spaces) → Knows scope spaces → (u : UnitContent) → IsNormalUnit scope spaces u → (at : ℕ)
    → unit (tree_in (unit_markup spaces u) at scope) ≡ Some u
unit-read scope spaces k u n at = unit-from _ _ u (id-read scope (codes "xbrli:unit") u.id n.id) (ratio-read scope spaces k u.over u.under n.over n.under _)
