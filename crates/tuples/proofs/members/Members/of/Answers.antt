use Rattle.std.proofs.Common.{◌∙◌, ap, sym, []}
use Rattle.std.specs.Option.{option_map_or}
use Rattle.ix_base.specs.LocatedElements.{located, offset_of}
use Rattle.tuples.specs.Model.{listed, tuples_in}
use Rattle.id_table.specs.Slices.{slice_at}
use Rattle.tuples.proofs.KeptLaws.{listed-is}
use Rattle.tuples.proofs.members.Members.of.Goals as goal

pub returns-clause-members : goal.returns-clause-members
returns-clause-members c =
    let e = located c.args.tuple.now in
    c.spots_in.ensures.members
    ∙ (λ i. option_map_or (λ l. l) (slice_at c.self.inside.slices (c.place_of.ensures.page i) (c.place_of.ensures.offset i)) [])
    ∙ sym (listed-is c.self.inside.slices (tuples_in c.self.inside.tuples) e.page (offset_of e))
    ∙ ap (λ k. listed k e.page (offset_of e)) c.self.view_is
