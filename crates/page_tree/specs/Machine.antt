-- The tree of a page, built from its constructs one after another, by a stack of the open elements.
use Rattle.std.specs.Prelude.{ℕ, Bool, true, false, List, [], ◌∷◌, ◌++◌, map, Option, Some, None}
use Rattle.std.specs.Option.{option_and_then}
use Rattle.ix_base.specs.Trees.{Bound, Head, Nodes, none, chars, elem, Tree}
use Rattle.ix_base.specs.Scope.{outermost}
use Rattle.ix_base.specs.declared.rule.Rule.{Rule}
use Rattle.page_tree.specs.Break.{Opened, Outline, broken_by}
use Rattle.page_tree.specs.Tags.{head_of}
use Rattle.page_constructs.specs.Tokens.{Tag, Token, start, empty, close, words, refer, section, declaration, doctype, silent}

-- an open element: its written name, its head and its finished children
pub record Frame : Type 0 where
  pub written : List ℕ
  pub head : Head
  pub done : Nodes

-- the open elements, the innermost first, the characters since the last tag, the root once it is whole, and whether a
-- doctype was there
pub record State : Type 0 where
  pub frames : List Frame
  pub text : List ℕ
  pub root : Option Tree
  pub doctyped : Bool

abbrev pub begin : State
begin = record { frames = []; text = []; root = None; doctyped = false }

abbrev pub outlined : Frame → Opened
outlined f = record { name = f.written; scope = f.head.scope }

abbrev pub is_rooted : List Frame → Option Tree → Bool
is_rooted [] None = false
is_rooted [] (Some t) = true
is_rooted (f ∷ fs) root = true

-- what the first break is judged by
abbrev pub outline_of : State → Outline
outline_of s = record { open_elements = map outlined s.frames; rooted = is_rooted s.frames s.root; doctyped = s.doctyped }

-- nodes before others
abbrev pub append : Nodes → Nodes → Nodes
append none more = more
append (chars text rest) more = chars text (append rest more)
append (elem head children rest) more = elem head children (append rest more)

-- the characters that have come become a text, unless there are none
abbrev pub flush : Nodes → List ℕ → Nodes
flush done [] = done
flush done (c ∷ cs) = append done (chars (c ∷ cs) none)

abbrev pub flushed : List Frame → List ℕ → List Frame
flushed [] text = []
flushed (f ∷ fs) text = record f { done = flush f.done text } ∷ fs

abbrev pub scope_in : List Frame → List Bound
scope_in [] = outermost
scope_in (f ∷ fs) = f.head.scope

-- a whole element goes to the one that it stands in, or is the root
abbrev pub closed : List Frame → Head → Nodes → Option Tree → Bool → State
closed [] head children root doctyped =
    record { frames = []; text = []; root = Some (record { head = head; children = children }); doctyped = doctyped }
closed (f ∷ fs) head children root doctyped =
    record { frames = record f { done = append f.done (elem head children none) } ∷ fs; text = []; root = root; doctyped = doctyped }

abbrev pub opening : State → Tag → State
opening s t = record {
  frames = record { written = t.name; head = head_of (scope_in s.frames) t; done = none } ∷ flushed s.frames s.text;
  text = [];
  root = s.root;
  doctyped = s.doctyped;
}

abbrev pub standing : State → Tag → State
standing s t = closed (flushed s.frames s.text) (head_of (scope_in s.frames) t) none s.root s.doctyped

abbrev pub closing : List Frame → State → State
closing [] s = s
closing (f ∷ fs) s = closed fs f.head (flush f.done s.text) s.root s.doctyped

-- characters belong to the innermost open element
abbrev pub running : List Frame → State → List ℕ → State
running [] s cs = s
running (f ∷ fs) s cs = record s { text = s.text ++ cs }

abbrev pub referring : State → Option (List ℕ) → State
referring s None = s
referring s (Some cs) = running s.frames s cs

-- the state behind a construct that breaks nothing
unfoldable pub moved : State → Token → State
moved s (start t) = opening s t
moved s (empty t) = standing s t
moved s (close name) = closing s.frames s
moved s (words text) = running s.frames s text
moved s (refer char) = referring s char
moved s (section text) = running s.frames s text
moved s (declaration version encoding) = s
moved s (doctype has_subset) = record s { doctyped = true }
moved s silent = s

abbrev pub unless_broken : Option Rule → State → Option State
unless_broken None s = Some s
unless_broken (Some rule) s = None

abbrev pub step : ℕ → State → Token → Option State
step n s t = unless_broken (broken_by n (outline_of s) t) (moved s t)

abbrev pub steps : ℕ → State → List Token → Option State
steps n s [] = Some s
steps n s (t ∷ ts) = option_and_then (λ next. steps n next ts) (step n s t)

-- the tree, where no element is open
abbrev pub whole : List Frame → Option Tree → Option Tree
whole [] root = root
whole (f ∷ fs) root = None

abbrev pub built : ℕ → List Token → Option Tree
built n ts = option_and_then (λ s. whole s.frames s.root) (steps n begin ts)
