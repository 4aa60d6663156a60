use Rattle.std.proofs.Common.{◌≡◌, map, option_map, take}
use Rattle.std.specs.List.{filter_map}
use Rattle.ix_base.specs.LocatedElements.{located, base_in}
use Rattle.footnotes.specs.ArcLinks.{kept_at, note_in, texts_of}
use Rattle.footnotes.proofs.footnotes.footnotes_at.Given as goal

-- the footnotes of the ids before here are added
abbrev pub invariant-loop-id : goal.invariant-loop-id
invariant-loop-id l = l.footnotes ≡ map (note_in (base_in l.bases.pages) l.chains)
    (filter_map (λ id. option_map (λ s. located s.now) (kept_at l.called id)) (texts_of (take l.id-index l.ids)))
