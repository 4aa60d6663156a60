use Rattle.std.proofs.Common.{◌≡◌, ◌≤◌, ℕ, List, false, length, take}
use Rattle.page_links.specs.Choices.{HasChoices}
use Rattle.page_links.specs.LinkTables.{AreLinks}
use Rattle.page_links.proofs.ChoosingLaws.{AreChosenTo}
use Rattle.page_links.proofs.choosing.choose_from.Given as goal

-- for the ids of the elements before here it was chosen
abbrev pub invariant-loop-at : goal.invariant-loop-at
invariant-loop-at l = record {
  spots : l.index.spots ≡ l.initial.index.spots;
  unspent : l.initial.index.is_spent ≡ false → l.index.is_spent ≡ false;
  from : l.first ≤ l.at;
  end : l.at-end ≡ length l.initial.index.spots;
  choices : (names : ℕ → List ℕ) → AreLinks names l.initial.index.spots l.links → HasChoices names (take l.first l.initial.index.spots) l.initial.index
      → AreChosenTo names l.initial.index.spots l.first l.at l.index;
}
