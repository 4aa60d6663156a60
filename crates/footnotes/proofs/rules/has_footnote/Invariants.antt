use Rattle.std.proofs.Common.{◌≡◌, take, false}
use Rattle.std.specs.List.{list_any}
use Rattle.ix_base.specs.LinkRules.{is_footnote}
use Rattle.id_table.specs.Tables.{all_located}
use Rattle.footnotes.proofs.rules.has_footnote.Given as goal

-- no element before here is a footnote
abbrev pub invariant-loop-spot : goal.invariant-loop-spot
invariant-loop-spot l = list_any is_footnote (all_located (take l.spot-index l.spots)) ≡ false
