use Rattle.std.proofs.Common.{◌≡◌, map, take}
use Rattle.std.specs.List.{All}
use Rattle.ix_base.specs.LocatedElements.{base_in}
use Rattle.instance_lines.specs.Writable.{IsWritable}
use Rattle.target_contents.specs.Contents.{IsContent}
use Rattle.target_contents.specs.Visits.{values_of}
use Rattle.target_contents.proofs.contents.targets_named.Given as goal

-- the targets before here are made
abbrev pub invariant-loop-name : goal.invariant-loop-name
invariant-loop-name l = record {
  names : map (λ t. t.name) l.targets ≡ values_of (take l.name-index l.names);
  contents : All (λ t. IsContent (base_in l.valued.bases) l.valued.elements t.name t.content) l.targets;
  written : All (λ t. IsWritable t.content) l.targets;
}
