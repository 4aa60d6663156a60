-- What a set of pages breaks, by the bytes of the pages: how much they may hold together, the first break of each page's text, and
-- then what the set of their trees comes to.
use Rattle.std.specs.Prelude.{◌≡◌, ◌≢◌, ◌⊎◌, ℕ, suc, ◌+◌, ◌==◌, nat_lt, List, [], ◌∷◌, ◌++◌, length, Option, Some, None, if◌then◌else◌}
use Rattle.std.specs.List.{count_by}
use Rattle.ix_base.specs.declared.breach.Found.{Found}
use Rattle.ix_base.specs.declared.limits.TheConstants.{DEEPEST_ELEMENT, MOST_BYTES, MOST_TAGS}
use Rattle.ix_base.specs.declared.rule.Rule.{Rule}
use Rattle.ix_base.specs.declared.rule.Rule.TheVariants.{S1, S2}
use Rattle.ix_base.specs.Trees.{Tree}
use Rattle.page_tree.specs.Break.{Fault, w}
use Rattle.target_contents.specs.declared.outcome.Outcome.{Outcome}
use Rattle.targets.specs.Forest.{AreTrees, page_set}
use Rattle.target_contents.specs.SetOutcomes.{ComesTo, IsReport}

-- how many of the bytes are `<`
abbrev pub tags_in : List ℕ → ℕ
tags_in bytes = count_by (λ b. b == 60) bytes

-- the size rule that so many bytes break, of which so many are `<`
abbrev pub size_rule : ℕ → ℕ → Option Rule
size_rule bytes tags = if nat_lt MOST_BYTES bytes then Some S1 else if nat_lt MOST_TAGS tags then Some S2 else None

-- how many bytes pages have together, and how many of them are `<`
abbrev pub bytes_in : List (List ℕ) → ℕ
bytes_in [] = 0
bytes_in (b ∷ bs) = length b + bytes_in bs

abbrev pub all_tags_in : List (List ℕ) → ℕ
all_tags_in [] = 0
all_tags_in (b ∷ bs) = tags_in b + all_tags_in bs

-- the size rule that pages break together
abbrev pub set_rule : List (List ℕ) → Option Rule
set_rule bs = size_rule (bytes_in bs) (all_tags_in bs)

-- a rule that a page breaks at this offset
abbrev pub on_page : ℕ → ℕ → Rule → Found
on_page n offset rule = record { place = record { page = n; offset = offset }; rule = rule }

abbrev pub fault_row : ℕ → Option Fault → List Found
fault_row n None = []
fault_row n (Some fault) = on_page n fault.offset fault.rule ∷ []

-- the first break of the text of the page of this number, if it has one
abbrev pub text_fault : ℕ → List ℕ → List Found
text_fault n b = fault_row n (w b DEEPEST_ELEMENT)

-- those of pages whose first has this number
abbrev pub text_faults : ℕ → List (List ℕ) → List Found
text_faults n [] = []
text_faults n (b ∷ bs) = text_fault n b ++ text_faults (suc n) bs

-- What pages of these names and bytes come to, under this base: the report of the size rule that they break; else that of the breaks
-- of their texts; else what the set of their trees comes to, class by class.
abbrev pub PagesComeTo : List ℕ → List (List ℕ) → List (List ℕ) → Outcome → Type 0
PagesComeTo base names bs o =
    ((rule : Rule) × (set_rule bs ≡ Some rule) × IsReport names (on_page 0 0 rule ∷ []) o)
    ⊎ ((set_rule bs ≡ None)
    × (((text_faults 0 bs ≢ []) × IsReport names (text_faults 0 bs) o)
    ⊎ ((trees : List Tree) × AreTrees bs trees × ComesTo (page_set base names trees) o)))
