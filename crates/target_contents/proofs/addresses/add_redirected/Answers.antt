use Rattle.std.proofs.Common.{◌∙◌, ◌+◌, ◌++◌, ◌<◌, List, ap, length, subst, take}
use Rattle.std.proofs.lemmas.List.{take_all}
use Rattle.std.proofs.lemmas.List.Elements.{All-filter}
use Rattle.std.specs.List.{Contains, filter, flat_map}
use Rattle.ix_base.specs.Asks.{asks}
use Rattle.ix_base.specs.LinkRules.{found_at}
use Rattle.ix_base.specs.LocatedElements.{Located, base_in, located}
use Rattle.ix_base.specs.Rows.{row}
use Rattle.ix_base.specs.declared.rule.Rule.TheVariants.{L17}
use Rattle.id_table.specs.Tables.{all_located, is_other}
use Rattle.target_contents.specs.Faults.{redirected_at}
use Rattle.target_contents.specs.RoleAddresses.{SeesAll}
use Rattle.target_contents.proofs.AmongLaws.{flat-more, located-more, spot-at, spots-are}
use Rattle.target_contents.proofs.ListLaws.{among-such, redirected-of, seen-of}
use Rattle.target_contents.proofs.addresses.add_redirected.Goals as goal

pub seen_roles_of-requires : goal.seen_roles_of-requires
seen_roles_of-requires c =
    let on = λ (e : Located). e.page < length c.args.bases.now.pages in
    let es = c.args.index.now.spots in
    spots-are on c.others.result.now (filter is_other es) c.others.ensures.elements (All-filter is_other on es c.requires)

pub loop-spot-preserved : goal.loop-spot-preserved
loop-spot-preserved c =
    let bases = base_in c.args.bases.now.pages in
    let es = c.args.index.now.spots in
    let spots = c.others-spot-items.result.now in
    let i = c.loop-spot.spot-index in
    let s = c.spot-item.result in
    let sees = seen-of bases es c.in_ok-seen_roles.seen_roles
    (subst (λ (xs : List Located). SeesAll bases xs c.in_ok-seen_roles.seen_roles) c.others.ensures.elements c.in_ok-seen_roles.ensures) in
    let at = spot-at (λ x. Contains es (located x.now)) spots i s (among-such is_other spots es c.others-spot-items.ensures.elements)
    c.loop-spot-test.true c.spot-item.is in
    flat-more (redirected_at bases (asks es)) c.args.found.now c.loop-spot.found c.add_if_redirected.new.found (all_located (take i spots)) (located s.now)
    (all_located (take (i + 1) spots)) (located-more spots i s c.loop-spot-test.true c.spot-item.is) c.loop-spot.invariant
    (c.in_ok-add_if_redirected.ensures ∙ ap (λ b. c.loop-spot.found ++ row b (found_at (located s.now) L17)) (c.is_redirected.ensures bases es sees at))

pub returns-clause-seen : goal.returns-clause-seen
returns-clause-seen c =
    let bases = base_in c.args.bases.now.pages in
    seen-of bases c.args.index.now.spots c.in_ok-seen_roles.seen_roles
    (subst (λ (xs : List Located). SeesAll bases xs c.in_ok-seen_roles.seen_roles) c.others.ensures.elements c.in_ok-seen_roles.ensures)

pub returns-clause-faults : goal.returns-clause-faults
returns-clause-faults c =
    let bases = base_in c.args.bases.now.pages in
    let es = c.args.index.now.spots in
    let spots = c.others-spot-items.result.now in
    c.loop-spot.invariant
    ∙ ap (λ xs. c.args.found.now ++ flat_map (redirected_at bases (asks es)) xs)
    (ap all_located (take_all c.loop-spot.spot-index spots c.loop-spot-test.false) ∙ c.others-spot-items.ensures.elements)
    ∙ ap (λ xs. c.args.found.now ++ xs) (redirected-of bases (asks es) es)
