use Rattle.std.proofs.Common.{◌≡◌, map, take}
use Rattle.ix_base.specs.LocatedElements.{base_in}
use Rattle.id_table.specs.Tables.{all_located}
use Rattle.target_contents.specs.Contents.{linkbase_at}
use Rattle.target_contents.proofs.references.linkbases_at.Given as goal

-- those before here are made
abbrev pub invariant-loop-spot : goal.invariant-loop-spot
invariant-loop-spot l = l.linkbases ≡ map (linkbase_at (base_in l.bases.pages)) (all_located (take l.spot-index l.spots))
