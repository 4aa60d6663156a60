-- What is chosen for ids that several elements have.
use Rattle.std.specs.Prelude.{◌≡◌, ◌&&◌, ℕ, List, Option, None, if◌then◌else◌}
use Rattle.ix_base.specs.Asks.{are_many, asks}
use Rattle.ix_base.specs.Ids.{agree, foremost_of, holders, holds_id}
use Rattle.ix_base.specs.LocatedElements.{Located}
use Rattle.id_table.specs.Model.{Held, chosen}

-- what is to be chosen for an id: the first of those that have it by the names of their pages, where several have it and agree
abbrev pub choice : (ℕ → List ℕ) → List Located → List ℕ → Option Located
choice names es id = if are_many (asks es) (holds_id id) && agree (asks es) id then foremost_of names (holders es id) else None

-- an index has the choices that are to be made for these elements, and no other
abbrev pub HasChoices : (ℕ → List ℕ) → List Located → Held → Type 0
HasChoices names es h = (id : List ℕ) → chosen h id ≡ choice names es id
