-- What waits of a page that goes on: the characters behind the last construct that ends whatever follows.
use Rattle.std.specs.Prelude.{ℕ, true, List, length, Option, Some, None, Result, Ok, Err}
use Rattle.std.specs.Str.{chars}
use Rattle.page_text.specs.Characters.{begun, first_break}
use Rattle.page_text.specs.declared.TextFault.{TextFault}
use Rattle.page_tree.specs.Break.{Outline, Fault, blank, walked}
use Rattle.page_constructs.specs.Constructs.{Byte, Cut, values, spread, settled}

-- the constructs of a page that begins with these bytes which end whatever follows, and what stands behind them
abbrev pub begun_cut : List ℕ → Cut
begun_cut b = settled true (spread (begun b))

-- the number of these characters, unless the page has a break in any case
abbrev pub waiting : Option TextFault → Result Outline Fault → List Byte → ℕ
waiting (Some fault) walk rest = 0
waiting None (Err fault) rest = 0
waiting None (Ok outline) rest = length (chars (values rest))

-- how many characters wait of a page that begins with these bytes, in which no element may be deeper than n
abbrev pub pending_of : List ℕ → ℕ → ℕ
pending_of b n = waiting (first_break b) (walked n blank (begun_cut b).constructs) (begun_cut b).rest
