-- The machine over constructs, and over bytes from which they are cut.
use Rattle.std.specs.Prelude.{◌≡◌, ℕ, Bool, true, false, List, [], ◌∷◌, ◌++◌, Option, Some, None, is_none, Result, Ok, Err}
use Rattle.ix_base.specs.declared.rule.Rule.{Rule}
use Rattle.ix_base.specs.declared.rule.Rule.TheVariants.{W4}
use Rattle.page_text.specs.declared.TextFault.{TextFault}
use Rattle.page_tree.specs.Break.{Fault, fault, broken_by, behind_constructs}
use Rattle.page_constructs.specs.Constructs.{Construct, Byte, finished}
use Rattle.page_tree.specs.Machine.{State, outline_of, moved}
use Rattle.page_constructs.specs.Meanings.{meant}
use Rattle.page_constructs.specs.Tokens.{Token}

-- the lowest rule that a construct with this meaning breaks behind others
abbrev pub judged_by : ℕ → State → Option Token → Option Rule
judged_by n s None = Some W4
judged_by n s (Some t) = broken_by n (outline_of s) t

abbrev pub judged : ℕ → State → Construct → Option Rule
judged n s c = judged_by n s (meant c)

-- the state behind it, where it breaks none
abbrev pub behind_by : State → Option Token → State
behind_by s None = s
behind_by s (Some t) = moved s t

abbrev pub state_behind : State → Construct → State
state_behind s c = behind_by s (meant c)

abbrev pub act_past : Option Rule → Construct → Result State Fault → Result State Fault
act_past (Some rule) c next = Err (fault c.start rule)
act_past None c next = next

-- the state behind some constructs, or the first of them that breaks a rule, with the lowest that it breaks
unfoldable pub acted : ℕ → State → List Construct → Result State Fault
acted n s [] = Ok s
acted n s (c ∷ cs) = act_past (judged n s c) c (acted n (state_behind s c) cs)

-- the same for the constructs of some bytes: do they end the page well, and are they its first
abbrev pub acted_on : ℕ → State → Bool → Bool → List Byte → Result State Fault
acted_on n s ended first us = acted n s (finished ended first us).constructs

-- what may follow bytes: anything, unless they end the page
abbrev pub MayFollow : Bool → Bool → List Byte → Type 0
MayFollow false ended more = Unit {0}
MayFollow true ended more = (ended ≡ true) × (more ≡ [])

-- Whatever may follow, the bytes lead from one state to another, and leave these bytes.
pub record Leads (closed : Bool) (n : ℕ) (s : State) (first : Bool) (us : List Byte) (t : State) (next : Bool) (vs : List Byte) : Type 0 where
  pub acts : (ended : Bool) (more : List Byte) → MayFollow closed ended more → acted_on n s ended first (us ++ more) ≡ acted_on n t ended next (vs ++ more)
  pub rests : (ended : Bool) (more : List Byte) → MayFollow closed ended more → (finished ended first (us ++ more)).rest ≡ (finished ended next (vs ++ more)).rest

-- Whatever may follow, the bytes have this break.
abbrev pub Breaks : Bool → ℕ → State → Bool → List Byte → Fault → Type 0
Breaks closed n s first us f = (ended : Bool) (more : List Byte) → MayFollow closed ended more → acted_on n s ended first (us ++ more) ≡ Err f

-- what is broken at the end of a page of so many bytes, whose characters ended so: behind what some bytes lead to
abbrev pub ended_by : ℕ → Option TextFault → List Byte → Result State Fault → Option Fault
ended_by size stop rest (Err f) = Some f
ended_by size stop rest (Ok s) = behind_constructs size stop rest (outline_of s)

abbrev pub end_of : ℕ → State → Bool → List Byte → Option TextFault → ℕ → Option Fault
end_of n s first us stop size = ended_by size stop (finished (is_none stop) first us).rest (acted_on n s (is_none stop) first us)
