use Rattle.std.proofs.Common.{◌∙◌, ap, sym, false, option_map}
use Rattle.std.specs.Prelude.{◌&&◌, ◌==◌}
use Rattle.std.specs.Option.{option_map_or}
use Rattle.std.proofs.lemmas.Result.{on_ok_weaker}
use Rattle.ix_base.specs.LinkRules.{is_at}
use Rattle.tuples.specs.MemberTables.{members_at}
use Rattle.tuples.specs.OwnedFacts.{owner_seen}
use Rattle.id_table.specs.Slices.{slice_at, put_first}
use Rattle.tuples.proofs.SliceLaws.{put-none, put-owned}
use Rattle.tuples.proofs.slices.enter.Goals as goal

pub returns-in-Some : goal.returns-in-Some
returns-in-Some c = on_ok_weaker c.enter_members.result (λ h page offset.
    let old = slice_at c.args.slices.now page offset in
    let xs = members_at c.args.index.now.spots page offset in
    h page offset
    ∙ put-owned c.args.groups.now c.args.index.now.spots old c.place_of.result.0 c.place_of.result.1 page offset c.requires.groups
    ∙ (λ i. put_first old ((page == c.place_of.ensures.page i) && (offset == c.place_of.ensures.offset i)) xs)
    ∙ ap (λ o. put_first old (option_map_or (is_at page offset) (option_map owner_seen o) false) xs) (sym c.in-Some.is)) c.enter_members.ensures

pub returns-in-None : goal.returns-in-None
returns-in-None c = λ page offset.
    let old = slice_at c.args.slices.now page offset in
    let xs = members_at c.args.index.now.spots page offset in
    sym (put-none old xs) ∙ ap (λ o. put_first old (option_map_or (is_at page offset) (option_map owner_seen o) false) xs) (sym c.in-None.is)
