-- Elements that are written one behind another are read one behind another.
use Rattle.std.proofs.Common.{◌≡◌, ◌∙◌, ℕ, true, false, List, [], ◌∷◌, ◌++◌, Option, Some, refl, ap}
use Rattle.std.specs.List.{list_any}
use Rattle.ix_base.specs.Elements.{tree_at}
use Rattle.ix_base.specs.ElementContent.{is_of, elements_in, named_in, is_blank_beside, holds_only, text_alone}
use Rattle.ix_base.specs.Steps.{each}
use Rattle.ix_base.specs.Trees.{Bound, Named, Head, Nodes, elem, Tree}
use Rattle.ix_base.specs.WrittenMarkup.{Markup}
use Rattle.instance_lines.specs.Canonical.{each_markup, text_markup}
use Rattle.page_tree.specs.FineMarkup.{nodes_at}

abbrev pub Each : {X : Type 0} → (X → Type 0) → List X → Type 0
Each P [] = Unit {0}
Each P (x ∷ xs) = P x × Each P xs

pub text-alone : (text : List ℕ) (at : ℕ) (scope : List Bound) → text_alone (nodes_at (text_markup text) at scope) ≡ Some text
text-alone [] at scope = refl
text-alone (c ∷ text) at scope = refl

-- the markup of x is one element before what follows, and x is what it denotes
pub record IsElementOf {X : Type 0} (f : X → Markup → Markup) (g : Tree → Option X) (scope : List Bound) (x : X) : Type 0 where
  pub head : ℕ → Head
  pub inner : ℕ → Nodes
  pub later : ℕ → ℕ
  pub is : (rest : Markup) (at : ℕ) → nodes_at (f x rest) at scope ≡ elem (head at) (inner at) (nodes_at rest (later at) scope)
  pub read : (at : ℕ) → g (tree_at (head at) (inner at)) ≡ Some x

-- and it has this name
pub record IsNamedOf {X : Type 0} (n : Named) (f : X → Markup → Markup) (g : Tree → Option X) (scope : List Bound) (x : X) : Type 0 where
  pub element : IsElementOf f g scope x
  pub named : (at : ℕ) → (element.head at).name ≡ n

-- some elements before what follows
pub record IsRun {X : Type 0} (g : Tree → Option X) (xs : List X) (m rest : Markup) (at : ℕ) (scope : List Bound) : Type 0 where
  pub trees : List Tree
  pub later : ℕ
  pub read : each g trees ≡ Some xs
  pub elements : elements_in (nodes_at m at scope) ≡ trees ++ elements_in (nodes_at rest later scope)
  pub blank : is_blank_beside (nodes_at m at scope) ≡ is_blank_beside (nodes_at rest later scope)

each-step : {X : Type 0} (g : Tree → Option X) (t : Tree) (ts : List Tree) (x : X) (xs : List X) → g t ≡ Some x → each g ts ≡ Some xs → each g (t ∷ ts) ≡ Some (x ∷ xs)
each-step g t ts x xs p q = rw (p, q) refl

pub run : {X : Type 0} (f : X → Markup → Markup) (g : Tree → Option X) (scope : List Bound) (xs : List X) → Each (IsElementOf f g scope) xs → (rest : Markup) (at : ℕ)
    → IsRun g xs (each_markup f xs rest) rest at scope
run f g scope [] h rest at = record { trees = []; later = at; read = refl; elements = refl; blank = refl }
run f g scope (x ∷ xs) (h, hs) rest at =
    let next = run f g scope xs hs rest (h.later at) in
    let is = h.is (each_markup f xs rest) at in
    record {
      trees = tree_at (h.head at) (h.inner at) ∷ next.trees;
      later = next.later;
      read = each-step g (tree_at (h.head at) (h.inner at)) next.trees x xs (h.read at) next.read;
      elements = ap elements_in is ∙ ap (λ ts. tree_at (h.head at) (h.inner at) ∷ ts) next.elements;
      blank = ap is_blank_beside is ∙ next.blank;
    }

-- some elements of this name before what follows
pub record IsNamedRun {X : Type 0} (n : Named) (g : Tree → Option X) (xs : List X) (m rest : Markup) (at : ℕ) (scope : List Bound) : Type 0 where
  pub trees : List Tree
  pub later : ℕ
  pub read : each g trees ≡ Some xs
  pub elements : elements_in (nodes_at m at scope) ≡ trees ++ elements_in (nodes_at rest later scope)
  pub same : (ns local : List ℕ) → is_of n ns local ≡ true → named_in ns local (nodes_at m at scope) ≡ trees ++ named_in ns local (nodes_at rest later scope)
  pub other : (ns local : List ℕ) → is_of n ns local ≡ false → named_in ns local (nodes_at m at scope) ≡ named_in ns local (nodes_at rest later scope)
  pub held : (ns : List ℕ) (locals : List (List ℕ)) → list_any (is_of n ns) locals ≡ true → holds_only ns locals (nodes_at m at scope) ≡ holds_only ns locals (nodes_at rest later scope)

named-same : (h : Head) (n : Named) (kids more : Nodes) (ns local : List ℕ) → h.name ≡ n → is_of n ns local ≡ true → named_in ns local (elem h kids more) ≡ tree_at h kids ∷ named_in ns local more
named-same h n kids more ns local e s = rw (e, s) refl

named-other : (h : Head) (n : Named) (kids more : Nodes) (ns local : List ℕ) → h.name ≡ n → is_of n ns local ≡ false → named_in ns local (elem h kids more) ≡ named_in ns local more
named-other h n kids more ns local e s = rw (e, s) refl

named-held : (h : Head) (n : Named) (kids more : Nodes) (ns : List ℕ) (locals : List (List ℕ)) → h.name ≡ n → list_any (is_of n ns) locals ≡ true → holds_only ns locals (elem h kids more) ≡ holds_only ns locals more
named-held h n kids more ns locals e s = rw (e, s) refl

pub named_run : {X : Type 0} (n : Named) (f : X → Markup → Markup) (g : Tree → Option X) (scope : List Bound) (xs : List X) → Each (IsNamedOf n f g scope) xs → (rest : Markup) (at : ℕ)
    → IsNamedRun n g xs (each_markup f xs rest) rest at scope
named_run n f g scope [] h rest at = record { trees = []; later = at; read = refl; elements = refl; same = λ ns local s. refl; other = λ ns local s. refl; held = λ ns locals s. refl }
named_run n f g scope (x ∷ xs) (h, hs) rest at =
    let e = h.element in
    let next = named_run n f g scope xs hs rest (e.later at) in
    let more = each_markup f xs rest in
    let is = e.is more at in
    record {
      trees = tree_at (e.head at) (e.inner at) ∷ next.trees;
      later = next.later;
      read = each-step g (tree_at (e.head at) (e.inner at)) next.trees x xs (e.read at) next.read;
      elements = ap elements_in is ∙ ap (λ ts. tree_at (e.head at) (e.inner at) ∷ ts) next.elements;
      same = λ ns local s. ap (named_in ns local) is ∙ named-same (e.head at) n (e.inner at) (nodes_at more (e.later at) scope) ns local (h.named at) s
          ∙ ap (λ ts. tree_at (e.head at) (e.inner at) ∷ ts) (next.same ns local s);
      other = λ ns local s. ap (named_in ns local) is ∙ named-other (e.head at) n (e.inner at) (nodes_at more (e.later at) scope) ns local (h.named at) s
          ∙ next.other ns local s;
      held = λ ns locals s. ap (holds_only ns locals) is ∙ named-held (e.head at) n (e.inner at) (nodes_at more (e.later at) scope) ns locals (h.named at) s
          ∙ next.held ns locals s;
    }
