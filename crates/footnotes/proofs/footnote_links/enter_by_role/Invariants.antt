use Rattle.std.proofs.Common.{◌≡◌, ◌++◌, ℕ, List, take}
use Rattle.std.specs.List.{filter}
use Rattle.std.specs.Prelude.{bytes_eq}
use Rattle.footnotes.specs.ArcGroups.{groups_at}
use Rattle.footnotes.proofs.footnote_links.enter_by_role.Given as goal

-- the groups before here are entered
abbrev pub invariant-loop-group : goal.invariant-loop-group
invariant-loop-group l = (q : List ℕ) → groups_at l.table q ≡ groups_at l.initial.table q ++ filter (λ f. bytes_eq q f.attributes.role.now) (take l.group-index l.groups)
