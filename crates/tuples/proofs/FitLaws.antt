-- Elements whose orders were tried.
use Rattle.std.proofs.Common.{◌≡◌, Bool, true, false, List, [], ◌∷◌, refl}
use Rattle.std.specs.Prelude.{◌&&◌}
use Rattle.std.specs.List.{list_all, All, AllByRecursion}
use Rattle.std.proofs.lemmas.List.Elements.{All-from_recursion}
use Rattle.std.specs.Borrow.{Bor}
use Rattle.ix_base.specs.declared.tree.Spot.{Spot}
use Rattle.ix_base.specs.LocatedElements.{located}
use Rattle.id_table.specs.Tables.{all_located}
use Rattle.tuples.specs.OrderNumbers.{fits}

parts : (b c : Bool) → (b && c) ≡ true → (b ≡ true) × (c ≡ true)
parts true c h = (refl, h)
parts false c h = absurd (cc)

each : (spots : List (Bor Spot)) → list_all (λ s. fits (located s.now)) spots ≡ true → AllByRecursion (λ e. fits e ≡ true) (all_located spots)
each [] h = tt
each (s ∷ spots) h =
    let both = parts (fits (located s.now)) (list_all (λ (s : Bor Spot). fits (located s.now)) spots) h in (both.0, each spots both.1)

pub all-fit : (spots : List (Bor Spot)) → list_all (λ s. fits (located s.now)) spots ≡ true → All (λ e. fits e ≡ true) (all_located spots)
all-fit spots h = All-from_recursion (λ e. fits e ≡ true) (all_located spots) (each spots h)
