-- Elements of a chain that stand inside others of it.
use Rattle.std.specs.Prelude.{ℕ, Bool, List}
use Rattle.std.specs.List.{list_any}
use Rattle.std.specs.Ordering.{nat_cmp, ordering_then}
use Rattle.std.specs.declared.cmp.Ordering.{Ordering}
use Rattle.ix_base.specs.LinkRules.{stands_inside}
use Rattle.ix_base.specs.LocatedElements.{Located}
use Rattle.id_table.specs.Slices.{is_key}

-- places by page, then by offset
abbrev pub key_cmp : ℕ × ℕ → ℕ × ℕ → Ordering
key_cmp k l = ordering_then (nat_cmp k.0 l.0) (nat_cmp k.1 l.1)

-- an element around this one is at one of these places
abbrev pub is_around : List (ℕ × ℕ) → Located → Bool
is_around keys e = list_any (λ t. list_any (is_key e.page t.head.offset) keys) e.placed.above

-- one of these elements stands inside another one of them
abbrev pub is_nested : List Located → Bool
is_nested es = list_any (stands_inside es) es
