-- What stands in sound trees: sound elements, allowed texts, and names.
use Rattle.std.proofs.Common.{◌≡◌, ◌≢◌, ◌∙◌, ap, sym, subst, refl, ℕ, suc, Bool, true, false, cond, not, List, [], ◌∷◌, ◌++◌, Option, None, Some, option_map, map, bytes_eq, ⊎_elim}
use Rattle.std.specs.List.{All, Contains, after_first, before_first}
use Rattle.std.specs.Prelude.{◌&&◌, Ok, Err, unwrap_or}
use Rattle.ix_base.specs.declared.limits.TheConstants.{DEEPEST_ELEMENT}
use Rattle.std.proofs.lemmas.Bool.{and_parts}
use Rattle.std.proofs.lemmas.List.Elements.{All-append, All-cons, All-contains, All-head, All-nil, All-tail, Contains-append_cases}
use Rattle.ix_base.proofs.OnceLemmas.{Contains-from_filter, Contains-nil}
use Rattle.ix_base.specs.Attributes.{is_named, value_of}
use Rattle.ix_base.specs.Elements.{Placed, below, elements_of, placed_at, tree_at}
use Rattle.ix_base.specs.ElementContent.{are_blank, element_alone, elements_in, is_blank, is_end, is_of, named_in, text_alone}
use Rattle.ix_base.specs.LocatedElements.{Located, Paged, is_marked, marked_from, on_page, page_marked}
use Rattle.ix_base.specs.Namespaces.{xmlns_namespace}
use Rattle.ix_base.specs.NcName.{are_allowed, is_ncname}
use Rattle.ix_base.specs.Readers.{attr, name_at, token_at}
use Rattle.ix_base.specs.ValueNames.{if_ok, is_unbound, name_of}
use Rattle.ix_base.specs.declared.name_fault.NameFault.TheVariants.{BadForm, Unbound}
use Rattle.ix_base.specs.Scope.{element_name, has_prefix, is_colon, is_qname, local_of, namespace_of, prefix_of}
use Rattle.ix_base.specs.Sound.{AreSound, IsSoundAttribute, IsSoundBinding, IsSoundHead, IsSoundName, IsSoundTree}
use Rattle.ix_base.specs.Steps.{sole}
use Rattle.ix_base.specs.Token.{token_of}
use Rattle.ix_base.specs.Trees.{Bound, Named, Nodes, Tree, Valued, none, chars, elem}
use Rattle.xbrl_parts.proofs.SmallTimes.{chosen, step_ok}
use Rattle.targets.specs.ValidSets.{IsClean}
use Rattle.target_contents.specs.PageSet.{PageSet, elements}
use Rattle.targets.proofs.AllowedLaws.{allowed-nil, token-allowed}
use Rattle.target_contents.proofs.FitLaws.{of-map}

-- a sound element, with what it holds
abbrev pub IsSoundAt : Tree → Type 0
IsSoundAt t = (depth : ℕ) × IsSoundHead t.head × AreSound depth t.children

-- The elements of a set.

abbrev Stands : Placed → Type 0
Stands p = IsSoundAt p.tree

all-below : (depth : ℕ) (above : List Tree) (ns : Nodes) → AreSound depth ns → All Stands (below above ns)
all-below depth above none h = All-nil Stands
all-below depth above (chars text rest) h = all-below depth above rest h.3
all-below depth above (elem head children rest) h =
    let t = tree_at head children in
    let inner = below (t ∷ above) children in
    let later = below above rest in
    All-cons Stands (placed_at t above) (inner ++ later) (h.0, h.2, h.3)
    (All-append Stands inner later (all-below h.0 (t ∷ above) children h.3) (all-below depth above rest h.4))

all-elements : (t : Tree) (depth : ℕ) → IsSoundTree t depth → All Stands (elements_of t)
all-elements t depth h =
    let n = h.nodes in
    All-cons Stands (placed_at t []) (below (t ∷ []) t.children) (n.0, n.2, n.3) (all-below n.0 (t ∷ []) t.children n.3)

page-sound : (n : ℕ) (t : Tree) (e : Located) → IsSoundTree t DEEPEST_ELEMENT → Contains (page_marked n t) e → IsSoundAt e.placed.tree
page-sound n t e h at =
    let on = of-map n (elements_of t) e (Contains-from_filter is_marked (map (on_page n) (elements_of t)) e at).0 in
    subst (λ (x : Located). IsSoundAt x.placed.tree) (sym on.2) (All-contains Stands (elements_of t) on.0 (all-elements t DEEPEST_ELEMENT h) on.1)

marked-sound : (n : ℕ) (pages : List Paged) → All (λ p. IsSoundTree p.tree DEEPEST_ELEMENT) pages → (e : Located) → Contains (marked_from n pages) e → IsSoundAt e.placed.tree
marked-sound n [] h e at = absurd (Contains-nil e at)
marked-sound n (p ∷ pages) h e at =
    let P : Paged → Type 0 = λ x. IsSoundTree x.tree DEEPEST_ELEMENT in
    ⊎_elim (page-sound n p.tree e (All-head P p pages h)) (marked-sound (suc n) pages (All-tail P p pages h) e)
    (Contains-append_cases (page_marked n p.tree) (marked_from (suc n) pages) e at)

-- the elements of a clean set are sound
pub sound-at : (s : PageSet) → IsClean s → (e : Located) → Contains (elements s) e → IsSoundAt e.placed.tree
sound-at s clean e at = marked-sound 0 s.pages clean.sound e at

-- What an element holds.

pub sound-in : (depth : ℕ) (ns : Nodes) → AreSound depth ns → All IsSoundAt (elements_in ns)
sound-in depth none h = All-nil IsSoundAt
sound-in depth (chars text rest) h = sound-in depth rest h.3
sound-in depth (elem head children rest) h =
    All-cons IsSoundAt (tree_at head children) (elements_in rest) (h.0, h.2, h.3) (sound-in depth rest h.4)

pub sound-named : (depth : ℕ) (ns local : List ℕ) (nodes : Nodes) → AreSound depth nodes → All IsSoundAt (named_in ns local nodes)
sound-named depth ns local none h = All-nil IsSoundAt
sound-named depth ns local (chars text rest) h = sound-named depth ns local rest h.3
sound-named depth ns local (elem head children rest) h = by (is_of head.name ns local) (sound-named depth ns local rest h.4)
  where
    by : (b : Bool) → All IsSoundAt (named_in ns local rest) → All IsSoundAt (cond b (tree_at head children ∷ named_in ns local rest) (named_in ns local rest))
    by true k = All-cons IsSoundAt (tree_at head children) (named_in ns local rest) (h.0, h.2, h.3) k
    by false k = k

pub sound-alone : (depth : ℕ) (nodes : Nodes) (t : Tree) → AreSound depth nodes → element_alone nodes ≡ Some t → IsSoundAt t
sound-alone depth none t h e = absurd (cc)
sound-alone depth (chars text rest) t h e = by (is_blank text) e (sound-alone depth rest t h.3)
  where
    by : (b : Bool) → cond b (element_alone rest) None ≡ Some t → (element_alone rest ≡ Some t → IsSoundAt t) → IsSoundAt t
    by true f k = k f
    by false f k = absurd (cc)
sound-alone depth (elem head children rest) t h e = subst IsSoundAt (chosen (are_blank rest) (tree_at head children) t e).1 (h.0, h.2, h.3)

pub only-sound : {X : Type 0} (P : X → Type 0) (xs : List X) (x : X) → All P xs → sole xs ≡ Some x → P x
only-sound P [] x h e = absurd (cc)
only-sound P (y ∷ []) x h e = let same : y ≡ x = cc in subst P same (All-head P y [] h)
only-sound P (y ∷ z ∷ xs) x h e = absurd (cc)

pub text-sound : (depth : ℕ) (nodes : Nodes) (text : List ℕ) → AreSound depth nodes → text_alone nodes ≡ Some text → are_allowed text ≡ true
text-sound depth none text h e = let same : [] ≡ text = cc in ap are_allowed (sym same) ∙ allowed-nil
text-sound depth (chars here rest) text h e = ap are_allowed (sym (chosen (is_end rest) here text e).1) ∙ h.1
text-sound depth (elem head children rest) text h e = absurd (cc)

-- Attributes.

value-sound : (attrs : List Valued) (ns local v : List ℕ) → All IsSoundAttribute attrs → value_of attrs ns local ≡ Some v → are_allowed v ≡ true
value-sound [] ns local v h e = absurd (cc)
value-sound (a ∷ more) ns local v h e = by (is_named a ns local) e (value-sound more ns local v (All-tail IsSoundAttribute a more h))
  where
    by : (b : Bool) → cond b (Some a.value) (value_of more ns local) ≡ Some v → (value_of more ns local ≡ Some v → are_allowed v ≡ true) → are_allowed v ≡ true
    by true f k = let same : a.value ≡ v = cc in ap are_allowed (sym same) ∙ (All-head IsSoundAttribute a more h).allowed
    by false f k = k f

pub attribute-sound : (t : Tree) (ns local v : List ℕ) → IsSoundAt t → value_of t.head.attrs ns local ≡ Some v → are_allowed v ≡ true
attribute-sound t ns local v h e = value-sound t.head.attrs ns local v h.1.attributes e

pub token-sound : (t : Tree) (local v : List ℕ) → IsSoundAt t → token_at local t ≡ Some v → are_allowed v ≡ true
token-sound t local v h e = by (attr local t) refl e
  where
    by : (o : Option (List ℕ)) → attr local t ≡ o → option_map token_of o ≡ Some v → are_allowed v ≡ true
    by None is f = absurd (cc)
    by (Some given) is f = let same : token_of given ≡ v = cc in ap are_allowed (sym same) ∙ token-allowed given (attribute-sound t [] local given h is)

-- Names in values.

local-by : (b : Bool) (front back name : List ℕ) → cond b (is_ncname (cond b front []) && is_ncname (cond b back name)) (is_ncname name) ≡ true
    → is_ncname (cond b back name) ≡ true
local-by true front back name h = (and_parts (is_ncname front) (is_ncname back) h).1
local-by false front back name h = h

local-name : (name : List ℕ) → is_qname name ≡ true → is_ncname (local_of name) ≡ true
local-name name h = local-by (has_prefix name) (before_first is_colon name) (after_first is_colon name) name h

abbrev IsSpace : List ℕ → Type 0
IsSpace ns = (ns ≢ xmlns_namespace) × (are_allowed ns ≡ true)

no-space : IsSpace []
unfolding xmlns_namespace
no-space = (λ e. (let f : [] ≡ xmlns_namespace = e in cc), allowed-nil)

space-of : (scope : List Bound) (prefix : List ℕ) → All IsSoundBinding scope → IsSpace (unwrap_or (namespace_of scope prefix) [])
space-of [] prefix h = no-space
space-of (b ∷ scope) prefix h = by (bytes_eq b.prefix prefix) (space-of scope prefix (All-tail IsSoundBinding b scope h))
  where
    by : (x : Bool) → IsSpace (unwrap_or (namespace_of scope prefix) []) → IsSpace (unwrap_or (cond x (Some b.ns) (namespace_of scope prefix)) [])
    by true k = let sound = All-head IsSoundBinding b scope h in (sound.plain, sound.allowed)
    by false k = k

name-by : (scope : List Bound) (text : List ℕ) (n : Named) (q u : Bool) → is_qname text ≡ q
    → if_ok (cond (not q) (Err BadForm) (cond u (Err Unbound) (Ok (element_name scope text)))) ≡ Some n → (q ≡ true) × (element_name scope text ≡ n)
name-by scope text n true true is e = absurd (cc)
name-by scope text n true false is e = (refl, cc)
name-by scope text n false u is e = absurd (cc)

-- a name for which a text stands in a sound scope
pub name-sound : (scope : List Bound) (text : List ℕ) (n : Named) → All IsSoundBinding scope → name_of scope text ≡ Some n → IsSoundName n
name-sound scope text n h e =
    let is = name-by scope text n (is_qname text) (is_unbound scope text) refl e in
    let space = space-of scope (prefix_of text) h in
    subst IsSoundName is.1 (record { local = local-name text is.0; plain = space.0; allowed = space.1 })

pub name_at-sound : (t : Tree) (local : List ℕ) (n : Named) → IsSoundAt t → name_at local t ≡ Some n → IsSoundName n
name_at-sound t local n h e =
    let token = step_ok (token_at local t) _ n e in
    name-sound t.head.scope token.0 n h.1.bindings token.2
