use Rattle.std.proofs.Common.{◌≡◌, ◌++◌, take}
use Rattle.std.specs.Prelude.{is_none}
use Rattle.std.specs.List.{filter_map, list_any}
use Rattle.ix_base.specs.Ids.{one_such}
use Rattle.id_table.specs.Model.{asked}
use Rattle.id_table.specs.Tables.{all_located}
use Rattle.footnotes.specs.ArcLinks.{texts_of}
use Rattle.footnotes.specs.EndTests.{fits_end}
use Rattle.footnotes.proofs.relationships.push_all_named.Given as goal

-- what the words before here name is there
abbrev pub invariant-loop-word : goal.invariant-loop-word
invariant-loop-word l = record {
  spots : all_located l.spots.items ≡ all_located l.initial.spots.items ++ filter_map (one_such (fits_end l.end) (asked l.index)) (texts_of (take l.word-index l.words));
  missing : l.is_missing ≡ list_any (λ id. is_none (one_such (fits_end l.end) (asked l.index) id)) (texts_of (take l.word-index l.words));
}
