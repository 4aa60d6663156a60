use Rattle.std.proofs.Common.{◌≡◌, ◌≤◌, ◌+◌, ◌-◌, ◌++◌, ℕ, List, None, length, take}
use Rattle.page_tree.specs.Model.{HasRead, IsSameBut}
use Rattle.page_tree.proofs.builder.TreeBuilder.take_piece.Given as goal

pub record Goes (l : goal.Live-parts) : Type 0 where
  pub within : l.at ≤ length l.piece
  pub whole : l.self.broken ≡ None
  pub counts : l.self.feed.pushed ≡ l.initial.self.feed.pushed + l.at
  pub same : IsSameBut l.initial.self l.self
  pub read : (b : List ℕ) → HasRead l.initial.self b → HasRead l.self (b ++ take l.at l.piece)

abbrev pub invariant-parts : goal.invariant-parts
invariant-parts l = Goes l

abbrev pub decreases-parts : goal.decreases-parts
decreases-parts l = length l.piece - l.at
