-- A context is read as it is written.
use Rattle.std.proofs.Common.{◌≡◌, ◌∙◌, ℕ, ◌+◌, ◌*◌, ◌<◌, ◌≤◌, true, false, not, pos, bytes_eq, arith, List, [], ◌∷◌, length, map, Some, refl, ap, codes, append-nil}
use Rattle.std.proofs.lemmas.Bool.{lt-ltb, and_parts}
use Rattle.ix_base.specs.declared.content.Context.{Context}
use Rattle.ix_base.specs.declared.content.Dim.{Dim}
use Rattle.ix_base.specs.declared.content.Member.{Member}
use Rattle.ix_base.specs.declared.content.OwnName.{OwnName}
use Rattle.ix_base.specs.declared.content.Period.{Period}
use Rattle.ix_base.specs.OwnNames.{own}
use Rattle.ix_base.specs.ContextForm.{id_of, some_token, context, whom_of, dims_in, dims_of, dim_of, period_of, stand_once, by_dimension}
use Rattle.ix_base.specs.Elements.{tree_at}
use Rattle.ix_base.specs.Forms.{is_empty}
use Rattle.ix_base.specs.NcName.{is_ncname}
use Rattle.ix_base.specs.Token.{is_token, token_of}
use Rattle.ix_base.specs.ElementContent.{named_in, holds_only}
use Rattle.ix_base.specs.Scope.{namespace_of}
use Rattle.ix_base.specs.SortedLists.{sorted}
use Rattle.ix_base.specs.Namespaces.{xbrli_namespace, xbrldi_namespace}
use Rattle.ix_base.specs.Times.{start_time, end_time}
use Rattle.ix_base.specs.Trees.{Bound, Named, Head, Nodes, none, elem}
use Rattle.ix_base.specs.WrittenMarkup.{nothing, start_text, close_text}
use Rattle.instance_lines.specs.Prefixes.{name_text}
use Rattle.instance_lines.specs.Moments.{start_text as start_moment, end_text as end_moment}
use Rattle.instance_lines.specs.Canonical.{Spaces, attr, text_markup, text_element, each_markup, around, period_markup, dim_markup, context_markup}
use Rattle.page_tree.specs.FineMarkup.{head_at, nodes_at, past}
use Rattle.instance_out.specs.MarkupTrees.{tree_in}
use Rattle.instance_out.specs.Proper.{is_full}
use Rattle.instance_out.proofs.NameLaws.{Knows, IsRead, knows-xbrli, knows-xbrldi}
use Rattle.instance_out.proofs.RunLaws.{Each, text-alone, IsElementOf, run}
use Rattle.instance_out.proofs.TimeLaws.{start-read, end-read}
use Rattle.instance_out.proofs.TokenLaws.{ncname-token, token-same}
use Rattle.ix_base.specs.declared.content.Member.TheVariants as member
use Rattle.ix_base.specs.declared.content.Period.TheVariants as period

-- Dimensions.

abbrev pub AreReadIn : List Bound → Spaces → Member → Type 0
AreReadIn scope spaces (member.Explicit n) = IsRead scope spaces n
AreReadIn scope spaces (member.Typed n text) = IsRead scope spaces n

pub record IsReadDim (scope : List Bound) (spaces : Spaces) (d : Dim) : Type 0 where
  pub dimension : IsRead scope spaces d.dimension
  pub member : AreReadIn scope spaces d.member

member-element : (scope : List Bound) (spaces : Spaces) → namespace_of scope (codes "xbrldi") ≡ Some xbrldi_namespace → (dimension : OwnName) (m : Member)
    → IsRead scope spaces dimension → AreReadIn scope spaces m → IsElementOf (dim_markup spaces) dim_of scope (record { dimension = dimension; member = m })
unfolding dim_of xbrldi_namespace
member-element scope spaces k dimension (member.Explicit n) r s = record {
  head = λ at. head_at at scope (codes "xbrldi:explicitMember") (attr (codes "dimension") (name_text spaces dimension) ∷ []);
  inner = λ at. nodes_at (text_markup (name_text spaces n)) (at + length (start_text (codes "xbrldi:explicitMember") (attr (codes "dimension") (name_text spaces dimension) ∷ []))) scope;
  later = λ at. past (text_markup (name_text spaces n)) (at + length (start_text (codes "xbrldi:explicitMember") (attr (codes "dimension") (name_text spaces dimension) ∷ []))) + length (close_text (codes "xbrldi:explicitMember"));
  is = λ rest at. refl;
  read = λ at. rw (k, text-alone, r.held, s.held) refl;
}
member-element scope spaces k dimension (member.Typed n text) r s = record {
  head = λ at. head_at at scope (codes "xbrldi:typedMember") (attr (codes "dimension") (name_text spaces dimension) ∷ []);
  inner = λ at. nodes_at (text_element (name_text spaces n) [] text nothing) (at + length (start_text (codes "xbrldi:typedMember") (attr (codes "dimension") (name_text spaces dimension) ∷ []))) scope;
  later = λ at. past (text_element (name_text spaces n) [] text nothing) (at + length (start_text (codes "xbrldi:typedMember") (attr (codes "dimension") (name_text spaces dimension) ∷ []))) + length (close_text (codes "xbrldi:typedMember"));
  is = λ rest at. refl;
  read = λ at. rw (k, text-alone, r.held, ap own s.named) refl;
}

dims-elements : (scope : List Bound) (spaces : Spaces) → Knows scope spaces → (ds : List Dim) → Each (IsReadDim scope spaces) ds → Each (IsElementOf (dim_markup spaces) dim_of scope) ds
dims-elements scope spaces k [] h = tt
dims-elements scope spaces k (d ∷ ds) (h, hs) = (member-element scope spaces (knows-xbrldi scope spaces k) d.dimension d.member h.dimension h.member, dims-elements scope spaces k ds hs)

-- dimensions as the normal form has them
pub record AreNormal (ds : List Dim) : Type 0 where
  pub once : stand_once (map (λ d. d.dimension) ds) ≡ true
  pub in_order : sorted by_dimension ds ≡ ds

pub dims-read : (scope : List Bound) (spaces : Spaces) → Knows scope spaces → (ds : List Dim) → Each (IsReadDim scope spaces) ds → AreNormal ds → (at : ℕ)
    → dims_in (nodes_at (each_markup (dim_markup spaces) ds nothing) at scope) ≡ Some ds
unfolding dims_in
dims-read scope spaces k ds h n at =
    let r = run (dim_markup spaces) dim_of scope ds (dims-elements scope spaces k ds h) nothing at in
    rw (r.elements ∙ append-nil r.trees, r.read, r.blank, n.once, n.in_order) refl

-- Of whom and when.

-- a period as the normal form has it
abbrev pub IsNormalPeriod : Period → Type 0
IsNormalPeriod (period.Instant end) = (n : ℕ) × (end ≡ pos n) × (1 ≤ n) × (n ≤ 3652059 * 86400)
IsNormalPeriod (period.Duration start end) = (m : ℕ) × (n : ℕ) × (start ≡ pos m) × (end ≡ pos n) × (m < n) × (n ≤ 3652059 * 86400)
IsNormalPeriod period.Forever = Unit {0}

instant-read : (scope : List Bound) (spaces : Spaces) → Knows scope spaces → (text : List ℕ) (n : ℕ) → end_time (token_of text) ≡ Some n → 1 ≤ n → (head : Head) (at : ℕ)
    → period_of (tree_at head (nodes_at (text_element (codes "xbrli:instant") [] text nothing) at scope)) ≡ Some (period.Instant (pos n))
unfolding period_of xbrli_namespace
instant-read scope spaces k text n e l head at = rw (knows-xbrli scope spaces k, text-alone, e, lt-ltb 0 n l) refl

duration-read : (scope : List Bound) (spaces : Spaces) → Knows scope spaces → (first last : List ℕ) (m n : ℕ) → start_time (token_of first) ≡ Some m → end_time (token_of last) ≡ Some n → m < n → (head : Head) (at : ℕ)
    → period_of (tree_at head (nodes_at (text_element (codes "xbrli:startDate") [] first (text_element (codes "xbrli:endDate") [] last nothing)) at scope)) ≡ Some (period.Duration (pos m) (pos n))
unfolding period_of xbrli_namespace
duration-read scope spaces k first last m n e f l head at = rw (knows-xbrli scope spaces k, text-alone first, text-alone last, e, f, lt-ltb m n l) refl

forever-read : (scope : List Bound) (spaces : Spaces) → Knows scope spaces → (head : Head) (at : ℕ) → period_of (tree_at head (nodes_at (period_markup period.Forever) at scope)) ≡ Some period.Forever
unfolding period_of xbrli_namespace
forever-read scope spaces k head at = rw (knows-xbrli scope spaces k) refl

pub period-read : (scope : List Bound) (spaces : Spaces) → Knows scope spaces → (p : Period) → IsNormalPeriod p → (head : Head) (at : ℕ)
    → period_of (tree_at head (nodes_at (period_markup p) at scope)) ≡ Some p
period-read scope spaces k (period.Instant end) (n, e, l, h) head at = rw e (instant-read scope spaces k (end_moment (pos n)) n (end-read n l h) l head at)
period-read scope spaces k (period.Duration start end) (m, n, e, f, l, h) head at =
    rw (e, f) (duration-read scope spaces k (start_moment (pos m)) (end_moment (pos n)) m n (start-read m (omega arith)) (end-read n (omega arith) h) l head at)
period-read scope spaces k period.Forever h head at = forever-read scope spaces k head at

-- a segment or scenario, where it isn't empty
pub record IsNormalContext (scope : List Bound) (spaces : Spaces) (c : Context) : Type 0 where
  pub id : is_ncname c.id ≡ true
  pub scheme : is_full c.scheme ≡ true
  pub identifier : is_full c.identifier ≡ true
  pub segment : Each (IsReadDim scope spaces) c.segment
  pub segment_normal : AreNormal c.segment
  pub scenario : Each (IsReadDim scope spaces) c.scenario
  pub scenario_normal : AreNormal c.scenario
  pub period : IsNormalPeriod c.period

pub segment-read : (scope : List Bound) (spaces : Spaces) → Knows scope spaces → (ds : List Dim) → Each (IsReadDim scope spaces) ds → AreNormal ds → (at : ℕ)
    → dims_of (named_in xbrli_namespace (codes "segment") (nodes_at (around (codes "xbrli:segment") (dim_markup spaces) ds nothing) at scope)) ≡ Some ds
unfolding xbrli_namespace
segment-read scope spaces k [] h n at = refl
segment-read scope spaces k (d ∷ ds) h n at = rw (knows-xbrli scope spaces k) (dims-read scope spaces k (d ∷ ds) h n _)

pub scenario-read : (scope : List Bound) (spaces : Spaces) → Knows scope spaces → (ds : List Dim) → Each (IsReadDim scope spaces) ds → AreNormal ds → (at : ℕ)
    → dims_of (named_in xbrli_namespace (codes "scenario") (nodes_at (around (codes "xbrli:scenario") (dim_markup spaces) ds nothing) at scope)) ≡ Some ds
unfolding xbrli_namespace
scenario-read scope spaces k [] h n at = refl
scenario-read scope spaces k (d ∷ ds) h n at = rw (knows-xbrli scope spaces k) (dims-read scope spaces k (d ∷ ds) h n _)

segment-held : (scope : List Bound) (spaces : Spaces) → Knows scope spaces → (ds : List Dim) (at : ℕ)
    → holds_only xbrli_namespace (codes "identifier" ∷ codes "segment" ∷ []) (nodes_at (around (codes "xbrli:segment") (dim_markup spaces) ds nothing) at scope) ≡ true
unfolding xbrli_namespace
segment-held scope spaces k [] at = refl
segment-held scope spaces k (d ∷ ds) at = rw (knows-xbrli scope spaces k) refl

scenario-held : (scope : List Bound) (spaces : Spaces) → Knows scope spaces → (ds : List Dim) (at : ℕ)
    → holds_only xbrli_namespace (codes "entity" ∷ codes "period" ∷ codes "scenario" ∷ []) (nodes_at (around (codes "xbrli:scenario") (dim_markup spaces) ds nothing) at scope) ≡ true
unfolding xbrli_namespace
scenario-held scope spaces k [] at = refl
scenario-held scope spaces k (d ∷ ds) at = rw (knows-xbrli scope spaces k) refl

segment-other : (local : List ℕ) (scope : List Bound) (spaces : Spaces) → Knows scope spaces → bytes_eq (codes "segment") local ≡ false → (ds : List Dim) (at : ℕ)
    → named_in xbrli_namespace local (nodes_at (around (codes "xbrli:segment") (dim_markup spaces) ds nothing) at scope) ≡ []
unfolding xbrli_namespace
segment-other local scope spaces k o [] at = refl
segment-other local scope spaces k o (d ∷ ds) at = rw (knows-xbrli scope spaces k, o) refl

scenario-other : (local : List ℕ) (scope : List Bound) (spaces : Spaces) → Knows scope spaces → bytes_eq (codes "scenario") local ≡ false → (ds : List Dim) (at : ℕ)
    → named_in xbrli_namespace local (nodes_at (around (codes "xbrli:scenario") (dim_markup spaces) ds nothing) at scope) ≡ []
unfolding xbrli_namespace
scenario-other local scope spaces k o [] at = refl
scenario-other local scope spaces k o (d ∷ ds) at = rw (knows-xbrli scope spaces k, o) refl

full-token : (t : List ℕ) → is_full t ≡ true → some_token t ≡ Some t
full-token t h =
    let q = and_parts (not (is_empty t)) (is_token t) h in
    let e = token-same t q.1 in
    rw (e, q.0) refl

pub whom-read : (scope : List Bound) (spaces : Spaces) → Knows scope spaces → (scheme identifier : List ℕ) (segment : List Dim)
    → is_full scheme ≡ true → is_full identifier ≡ true → Each (IsReadDim scope spaces) segment → AreNormal segment → (head : Head) (at : ℕ)
    → whom_of (tree_at head (nodes_at (text_element (codes "xbrli:identifier") (attr (codes "scheme") scheme ∷ []) identifier (around (codes "xbrli:segment") (dim_markup spaces) segment nothing)) at scope))
    ≡ Some (record { scheme = scheme; identifier = identifier; segment = segment })
unfolding whom_of xbrli_namespace
whom-read scope spaces k scheme identifier segment s i r n head at =
    rw (knows-xbrli scope spaces k, segment-other (codes "identifier") scope spaces k refl, text-alone, full-token scheme s, full-token identifier i, segment-read scope spaces k segment r n, segment-held scope spaces k segment) refl

abbrev pub xbrli_name : List ℕ → Named
xbrli_name local = record { ns = xbrli_namespace; local = local }

-- a context from what its parts denote
record HasParts (scope : List Bound) (head e p : Head) (en pn sn : Nodes) (c : Context) : Type 0 where
  id : id_of (tree_at head none) ≡ Some c.id
  e_named : e.name ≡ xbrli_name (codes "entity")
  p_named : p.name ≡ xbrli_name (codes "period")
  whom : whom_of (tree_at e en) ≡ Some (record { scheme = c.scheme; identifier = c.identifier; segment = c.segment })
  period : period_of (tree_at p pn) ≡ Some c.period
  no_entity : named_in xbrli_namespace (codes "entity") sn ≡ []
  no_period : named_in xbrli_namespace (codes "period") sn ≡ []
  scenario : dims_of (named_in xbrli_namespace (codes "scenario") sn) ≡ Some c.scenario
  held : holds_only xbrli_namespace (codes "entity" ∷ codes "period" ∷ codes "scenario" ∷ []) sn ≡ true

from_parts : (scope : List Bound) (head e p : Head) (en pn sn : Nodes) (c : Context) → HasParts scope head e p en pn sn c → context (tree_at head (elem e en (elem p pn sn))) ≡ Some c
unfolding context whom_of period_of xbrli_namespace
from_parts scope head e p en pn sn c h = rw (h.id, h.e_named, h.p_named, h.no_entity, h.no_period, h.whom, h.period, h.scenario, h.held) refl

pub id-read : (scope : List Bound) (name id : List ℕ) → is_ncname id ≡ true → id_of (tree_at (head_at 0 scope name (attr (codes "id") id ∷ [])) none) ≡ Some id
id-read scope name id h = rw (ncname-token id h, h) refl

entity-named : (scope : List Bound) (spaces : Spaces) → Knows scope spaces → (at : ℕ) → (head_at at scope (codes "xbrli:entity") []).name ≡ xbrli_name (codes "entity")
entity-named scope spaces k at = rw (knows-xbrli scope spaces k) refl

period-named : (scope : List Bound) (spaces : Spaces) → Knows scope spaces → (at : ℕ) → (head_at at scope (codes "xbrli:period") []).name ≡ xbrli_name (codes "period")
period-named scope spaces k at = rw (knows-xbrli scope spaces k) refl

pub context-read : (scope : List Bound) (spaces : Spaces) → Knows scope spaces → (c : Context) → IsNormalContext scope spaces c → (at : ℕ)
    → context (tree_in (context_markup spaces c) at scope) ≡ Some c
context-read scope spaces k c n at = from_parts scope _ _ _ _ _ _ c (record {
  id = id-read scope (codes "xbrli:context") c.id n.id;
  e_named = entity-named scope spaces k 0;
  p_named = period-named scope spaces k 0;
  whom = whom-read scope spaces k c.scheme c.identifier c.segment n.scheme n.identifier n.segment n.segment_normal _ _;
  period = period-read scope spaces k c.period n.period _ _;
  no_entity = scenario-other (codes "entity") scope spaces k refl c.scenario _;
  no_period = scenario-other (codes "period") scope spaces k refl c.scenario _;
  scenario = scenario-read scope spaces k c.scenario n.scenario n.scenario_normal _;
  held = scenario-held scope spaces k c.scenario _;
})
