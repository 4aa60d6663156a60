use Rattle.std.proofs.Common.{◌≡◌, length, arith}
use Rattle.std.proofs.lemmas.List.{length-map}
use Rattle.ix_base.specs.LocatedElements.{located}
use Rattle.fact_trace.specs.Model.{sources_of}
use Rattle.fact_trace.proofs.TextLaws.{element-stands}
use Rattle.fact_trace.proofs.items.traced_of.Goals as goal

pub page_name-requires : goal.page_name-requires
page_name-requires c =
    let s = element-stands (sources_of c.args.pages.now) (located c.args.spot.now) c.requires.there in
    let within = s.within in
    let same : length (sources_of c.args.pages.now) ≡ length c.args.pages.now = simp length-map in
    omega arith
