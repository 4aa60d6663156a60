use Rattle.std.proofs.Common.{map, option_map, List, ℕ}
use Rattle.std.specs.Borrow.{Bor}
use Rattle.std.specs.List.{filter_map}
use Rattle.ix_base.specs.declared.tree.Spot.{Spot}
use Rattle.ix_base.specs.LocatedElements.{located, base_in}
use Rattle.footnotes.specs.ArcLinks.{kept_at, note_in, texts_of}
use Rattle.footnotes.proofs.LinkLaws.{step-at}
use Rattle.footnotes.proofs.NamedLaws.{named-map-join}
use Rattle.footnotes.proofs.footnotes.footnotes_at.Goals as goal

pub loop-id-preserved : goal.loop-id-preserved
loop-id-preserved c =
    let note = note_in (base_in c.args.bases.now.pages) c.args.chains.now in
    let f = λ (id : List ℕ). option_map (λ (s : Bor Spot). located s.now) (kept_at c.args.called.now id) in
    step-at (λ ws. map note (filter_map f (texts_of ws))) (named-map-join f note) c.args.ids.now c.loop-id.id-index _ c.loop-id-test.true _ _
    c.loop-id.invariant c.in_ok-push_called.ensures
