-- The namespaces of a page, each with its number: 0 for none, 1 for that of xml, and for the others a number each as they are declared.
use Rattle.std.specs.Prelude.{◌≡◌, ◌<◌, ℕ, List, [], All, Option, Some, if◌then◌else◌, bytes_eq, map}
use Rattle.ix_base.specs.Namespaces.{xml_namespace}
use Rattle.ix_base.specs.Spaces.{Space, space_of}
use Rattle.text_map.specs.Texts.{Texts, get_in}
use Rattle.page_tree.specs.declared.names.Expanded.{Expanded}

-- the number of a namespace
abbrev pub number_in : Texts ℕ → List ℕ → Option ℕ
number_in numbers ns = if bytes_eq ns [] then Some 0 else (if bytes_eq ns xml_namespace then Some 1 else get_in numbers ns)

abbrev pub HasNumber : Texts ℕ → Space → Type 0
HasNumber numbers s = number_in numbers s.text ≡ Some s.number

abbrev pub HaveNumbers : Texts ℕ → List Space → Type 0
HaveNumbers numbers spaces = All (HasNumber numbers) spaces

-- each has a number of its own, below the next one
pub record AreApart (numbers : Texts ℕ) (next : ℕ) : Type 0 where
  pub more : 1 < next
  pub above : (ns : List ℕ) (n : ℕ) → get_in numbers ns ≡ Some n → 1 < n
  pub below : (ns : List ℕ) (n : ℕ) → get_in numbers ns ≡ Some n → n < next
  pub one : (ns other : List ℕ) (n : ℕ) → get_in numbers ns ≡ Some n → get_in numbers other ≡ Some n → ns ≡ other

-- what has a number keeps it
abbrev pub Keeps : Texts ℕ → Texts ℕ → Type 0
Keeps old new = (ns : List ℕ) (n : ℕ) → number_in old ns ≡ Some n → number_in new ns ≡ Some n

-- the namespaces of attributes
abbrev pub spaces_expanded : List Expanded → List Space
spaces_expanded es = map (λ e. space_of e.name.now) es

-- whatever numbers those around it have, this one has, too
abbrev pub IsFrom : List Space → Space → Type 0
IsFrom around s = (numbers : Texts ℕ) → HaveNumbers numbers around → HasNumber numbers s

abbrev pub AreFrom : List Space → List Space → Type 0
AreFrom around spaces = (numbers : Texts ℕ) → HaveNumbers numbers around → HaveNumbers numbers spaces
