use Rattle.std.proofs.Common.{◌≢◌, ◌≤◌, ◌-◌, ◌==◌, ◌&&◌, List, length, drop}
use Rattle.std.specs.Str.{IsCharBoundary}
use Rattle.page_tree.specs.MachineSteps.{Leads}
use Rattle.page_tree.specs.Buildings.{state_of, IsOnPage}
use Rattle.page_constructs.specs.Constructs.{Byte}
use Rattle.page_tree.specs.TextPlaces.{IsPlaced}
use Rattle.page_constructs.specs.Searches.{IsSought}
use Rattle.page_tree.proofs.settle.settle.Given as goal

pub record Goes (l : goal.Live-constructs) : Type 0 where
  pub boundary : IsCharBoundary l.text l.at
  pub behind : l.at ≢ 0 → l.places.even ≤ l.at
  pub on_page : IsOnPage l.setting.page l.initial.building → IsOnPage l.setting.page l.building
  pub sought : IsSought (l.first && (l.at == 0)) (drop l.at l.text) l.sought
  pub leads : (us : List Byte) → IsPlaced l.text l.places us
      → Leads l.ended l.setting.depth (state_of l.initial.building) l.first us (state_of l.building) (l.first && (l.at == 0)) (drop l.at us)

abbrev pub invariant-constructs : goal.invariant-constructs
invariant-constructs l = Goes l

abbrev pub decreases-constructs : goal.decreases-constructs
decreases-constructs l = length l.text - l.at
