use Rattle.std.specs.Prelude.{◌≡◌, ◌-◌, ◌≤◌, [], length}
use Rattle.std.specs.List.{All}
use Rattle.text_map.specs.declared.class.TheConstants.{CLASSES}
use Rattle.text_map.proofs.class.blank_tables.Given as goal

abbrev pub invariant-classes : goal.invariant-classes
invariant-classes g l = record {
  upto : length l.tables.items ≤ CLASSES;
  blank : All (λ t. t.entries ≡ []) l.tables.items;
}

abbrev pub decreases-classes : goal.decreases-classes
decreases-classes g l = CLASSES - length l.tables.items
