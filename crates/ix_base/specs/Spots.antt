-- A spot's element and those above it, and that all of them are on its page.
use Rattle.std.specs.Prelude.{◌≡◌, ℕ, List, [], ◌∷◌, All}
use Rattle.std.specs.Option.{option_map_or}
use Rattle.ix_base.specs.declared.tree.Element.{Element}
use Rattle.ix_base.specs.declared.tree.Spot.{Spot}
use Rattle.ix_base.specs.declared.tree.Spot.TheOpen.{Spot-F}
use Rattle.ix_base.specs.declared.tree.Spot.TheFolds.{fold-Spot}
use Rattle.ix_base.specs.Elements.{place_of}
use Rattle.ix_base.specs.Spaces.{AreNumbered, spaces_of}

abbrev pub elements_step : Spot-F (List Element) → List Element
elements_step s = s.element.now ∷ option_map_or (λ up. up.now) s.up []

-- a spot's element and those above it, itself first
abbrev pub elements_up : Spot → List Element
elements_up = fold-Spot (List Element) elements_step

-- an element is of the page with this number, and its namespaces and those below it are numbered
pub record IsOn (number : ℕ) (e : Element) : Type 0 where
  pub page : e.place.page ≡ number
  pub spaces : AreNumbered (spaces_of e)

-- all that stands above a spot is of its own page
abbrev pub IsOnOnePage : Spot → Type 0
IsOnOnePage s = All (IsOn (place_of s).page) (elements_up s)
