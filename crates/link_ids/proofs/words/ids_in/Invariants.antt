use Rattle.std.proofs.Common.{◌≡◌, map, take}
use Rattle.std.specs.List.{filter}
use Rattle.ix_base.specs.NcName.{is_ncname}
use Rattle.link_ids.proofs.words.ids_in.Given as goal

-- the words before here that may be ids are added
abbrev pub invariant-loop-word : goal.invariant-loop-word
invariant-loop-word l = map (λ s. s.now) l.ids.items ≡ filter is_ncname (map (λ s. s.now) (take l.word-index l.word-items))
