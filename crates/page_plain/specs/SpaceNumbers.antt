-- Namespaces that are compared by their numbers.
use Rattle.std.specs.Prelude.{◌≡◌, ℕ, ◌-◌, ◌<◌, ◌≤◌, List, [], ◌++◌, Contains, get_or, length, map}
use Rattle.std.specs.BTreeMap.{BTreeMap, values}
use Rattle.std.specs.Borrow.{Bor}
use Rattle.std.specs.List.{All}
use Rattle.ix_base.specs.Once.{SameMembers, in_order}
use Rattle.ix_base.specs.SortedLists.{text_cmp}
use Rattle.ix_base.specs.Spaces.{AreNumbered, IsOuter, Space, space_of}
use Rattle.ix_base.specs.declared.outer.Outer.{Outer}
use Rattle.ix_base.specs.declared.tree.Attr.{Attr}

-- the namespaces of attributes
abbrev pub attr_spaces : List Attr → List Space
attr_spaces attrs = map (λ a. space_of a.name.now) attrs

abbrev pub texts_of : List Space → List (List ℕ)
texts_of spaces = map (λ s. s.text) spaces

-- these are numbered together with those of the prefixes, and with the one around them
abbrev pub IsWithin : Outer → List Space → List Space → Type 0
IsWithin around prefixed spaces = AreNumbered (prefixed ++ spaces) × IsOuter around spaces

-- a namespace that was met, at its number
abbrev pub space_met : ℕ × Bor (List ℕ) → Space
space_met e = record { number = e.0; text = e.1.now }

abbrev pub spaces_met : BTreeMap ℕ (Bor (List ℕ)) → List Space
spaces_met m = map space_met m.entries

-- What was met gains some of these namespaces: those with these texts.
pub record Meets (old spaces : List Space) (texts : List (List ℕ)) (new : List Space) : Type 0 where
  pub within : (s : Space) → Contains new s → Contains (old ++ spaces) s
  pub gained : SameMembers (texts_of new) (texts_of old ++ texts)

-- The namespaces of prefixes: in byte order, and each with its number.
pub record Prefixed : Type 0 where
  pub texts : List (List ℕ)
  pub spaces : List Space

-- of two numbers, the namespace that has the first, where the second is that of its prefix
abbrev pub space_at : List (List ℕ) → ℕ × ℕ → Space
space_at texts e = record { number = e.0; text = get_or texts (e.1 - 1) [] }

abbrev pub spaces_at : List (List ℕ) → BTreeMap ℕ ℕ → List Space
spaces_at texts m = map (space_at texts) m.entries

abbrev pub prefixed : List (List ℕ) → BTreeMap ℕ ℕ → Prefixed
prefixed texts numbers = record { texts = texts; spaces = spaces_at texts numbers }

-- a prefix of this number is there
abbrev pub IsThere : List (List ℕ) → ℕ → Type 0
IsThere texts k = (0 < k) × (k ≤ length texts)

-- The texts are those of the namespaces, in byte order and each once, and the prefix of each is there.
pub record IsListed (texts : List (List ℕ)) (numbers : BTreeMap ℕ ℕ) : Type 0 where
  pub ordered : texts ≡ in_order text_cmp (texts_of (spaces_at texts numbers))
  pub there : All (IsThere texts) (values numbers)
