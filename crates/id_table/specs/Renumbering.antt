-- Pages with other numbers.
use Rattle.std.specs.Prelude.{◌≡◌, ℕ, ◌==◌}
use Rattle.ix_base.specs.LocatedElements.{Located, on_page}

-- an element of the page that has this number now
abbrev pub moved : (ℕ → ℕ) → Located → Located
moved r e = on_page (r e.page) e.placed

-- pages with different numbers have different ones again
abbrev pub KeepsApart : (ℕ → ℕ) → Type 0
KeepsApart r = (x y : ℕ) → (r x == r y) ≡ (x == y)
