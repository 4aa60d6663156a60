-- The first break of a page: the point that is broken first, with the lowest rule.
use Rattle.std.specs.Prelude.{ℕ, nat_lt, Bool, true, false, ◌&&◌, ◌||◌, not, List, [], ◌∷◌, length, Option, Some, None, is_none, Result, Ok, Err, if◌then◌else◌, bytes_eq}
use Rattle.std.specs.List.{list_all}
use Rattle.ix_base.specs.NcName.{is_white}
use Rattle.ix_base.specs.Trees.{Bound}
use Rattle.ix_base.specs.Scope.{outermost}
use Rattle.ix_base.specs.declared.rule.Rule.{Rule}
use Rattle.ix_base.specs.declared.rule.Rule.TheVariants.{W1, W2, W3, W4, W5, W6, W7, W8, W9, W10, W11, W12}
use Rattle.page_text.specs.Characters.{stop}
use Rattle.page_text.specs.declared.TextFault.{TextFault}
use Rattle.page_text.specs.declared.TextFault.TheVariants.{BadBytes, BadChar, NoMemory}
use Rattle.page_constructs.specs.Constructs.{Construct, Byte, cut}
use Rattle.page_constructs.specs.Meanings.{meant}
use Rattle.page_tree.specs.Page.{is_within}
use Rattle.page_tree.specs.Tags.{scope_of, repeats, misrefers, misnames}
use Rattle.page_constructs.specs.Tokens.{Tag, Token, start, empty, close, words, refer, section, declaration, doctype, silent}

-- an open element: its written name and its scope
pub record Opened : Type 0 where
  pub name : List ℕ
  pub scope : List Bound

-- what the constructs so far leave: the open elements, the innermost first, and whether a root and a doctype were there
pub record Outline : Type 0 where
  pub open_elements : List Opened
  pub rooted : Bool
  pub doctyped : Bool

abbrev pub blank : Outline
blank = record { open_elements = []; rooted = false; doctyped = false }

abbrev pub is_empty : List Opened → Bool
is_empty [] = true
is_empty (e ∷ es) = false

-- no element is open
abbrev pub is_outside : Outline → Bool
is_outside o = is_empty o.open_elements

abbrev pub inner_scope : List Opened → List Bound
inner_scope [] = outermost
inner_scope (e ∷ es) = e.scope

-- the rule, where the test holds, and else the next one
abbrev pub broken_or : Bool → Rule → Option Rule → Option Rule
broken_or broken rule next = if broken then Some rule else next

-- the lowest rule that a tag breaks
abbrev pub broken_by_tag : ℕ → Outline → Tag → Option Rule
broken_by_tag n o t =
    broken_or (repeats (scope_of (inner_scope o.open_elements) t) t.attrs) W7
    (broken_or (misrefers t.attrs) W8
    (broken_or (misnames (scope_of (inner_scope o.open_elements) t) t) W9
    (broken_or (not (nat_lt (length o.open_elements) n)) W10
    (broken_or (is_outside o && o.rooted) W12 None))))

abbrev pub matches : List Opened → List ℕ → Bool
matches [] name = false
matches (e ∷ es) name = bytes_eq e.name name

-- the lowest rule that a construct of its form breaks behind others
unfoldable pub broken_by : ℕ → Outline → Token → Option Rule
broken_by n o (start t) = broken_by_tag n o t
broken_by n o (empty t) = broken_by_tag n o t
broken_by n o (close name) = broken_or (not (matches o.open_elements name)) W5 None
broken_by n o (words text) = broken_or (is_outside o && not (list_all is_white text)) W12 None
broken_by n o (refer char) = broken_or (is_none char) W8 (broken_or (is_outside o) W12 None)
broken_by n o (section text) = broken_or (is_outside o) W12 None
broken_by n o (declaration version encoding) = broken_or (not (is_within version encoding)) W11 None
broken_by n o (doctype has_subset) = broken_or has_subset W11 (broken_or (o.doctyped || o.rooted) W12 None)
broken_by n o silent = None

abbrev pub without_first : List Opened → List Opened
without_first [] = []
without_first (e ∷ es) = es

-- the outline behind a construct that breaks nothing
unfoldable pub outline_behind : Outline → Token → Outline
outline_behind o (start t) = record o {
  open_elements = record { name = t.name; scope = scope_of (inner_scope o.open_elements) t } ∷ o.open_elements;
  rooted = true;
}
outline_behind o (empty t) = record o { rooted = true }
outline_behind o (close name) = record o { open_elements = without_first o.open_elements }
outline_behind o (doctype has_subset) = record o { doctyped = true }
outline_behind o token = o

pub record Fault : Type 0 where
  pub offset : ℕ
  pub rule : Rule

abbrev pub fault : ℕ → Rule → Fault
fault offset rule = record { offset = offset; rule = rule }

abbrev pub walk_past : Option Rule → Construct → Result Outline Fault → Result Outline Fault
walk_past (Some rule) c next = Err (fault c.start rule)
walk_past None c next = next

abbrev pub walk_on : ℕ → Outline → Construct → (Outline → Result Outline Fault) → Option Token → Result Outline Fault
walk_on n o c next None = Err (fault c.start W4)
walk_on n o c next (Some t) = walk_past (broken_by n o t) c (next (outline_behind o t))

-- the first construct that breaks a rule, with the lowest that it breaks, or the outline behind all
unfoldable pub walked : ℕ → Outline → List Construct → Result Outline Fault
walked n o [] = Ok o
walked n o (c ∷ cs) = walk_on n o c (λ p. walked n p cs) (meant c)

-- what is broken at the end of a page of so many bytes
abbrev pub ended : ℕ → Outline → Option Fault
ended size o =
    if not (is_outside o) then Some (fault size W6) else (if not o.rooted then Some (fault size W12) else None)

-- what is broken behind the constructs; the break of a text is never want of memory
abbrev pub behind_constructs : ℕ → Option TextFault → List Byte → Outline → Option Fault
behind_constructs size (Some (BadBytes at)) rest o = Some (fault at W1)
behind_constructs size (Some (BadChar at)) rest o = Some (fault at W2)
behind_constructs size (Some NoMemory) rest o = Some (fault size W1)
behind_constructs size None (u ∷ us) o = Some (fault u.at W3)
behind_constructs size None [] o = ended size o

abbrev pub verdict : ℕ → Option TextFault → List Byte → Result Outline Fault → Option Fault
verdict size stop_ rest (Err f) = Some f
verdict size stop_ rest (Ok o) = behind_constructs size stop_ rest o

-- The first break of a page in which no element may be deeper than n, or none.
abbrev pub w : List ℕ → ℕ → Option Fault
w b n = verdict (length b) (stop b) (cut b).rest (walked n blank (cut b).constructs)
