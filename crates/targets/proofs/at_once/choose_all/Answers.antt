use Rattle.std.proofs.Common.{[], ap, subst, List}
use Rattle.ix_base.specs.LocatedElements.{Located}
use Rattle.id_table.specs.Model.{Choice, chosen_in}
use Rattle.page_links.specs.LinkTables.{AreLinks}
use Rattle.page_links.specs.Model.{names_with}
use Rattle.page_links.proofs.ChoosingLaws.{apart-choices}
use Rattle.targets.proofs.at_once.choose_all.Goals as goal

pub add_all-requires-clause-some : goal.add_all-requires-clause-some
add_all-requires-clause-some c = ([], c.new-links.ensures _)

pub choose_from-requires-clause-links : goal.choose_from-requires-clause-links
choose_from-requires-clause-links c =
    let names = names_with c.args.pages.now [] in
    (names, subst (λ (es : List Located). AreLinks names es c.add_all.new.self) c.spots.ensures.elements (c.in_ok-add_all.ensures [] (c.new-links.ensures names)))

pub returns-clause-choices : goal.returns-clause-choices
returns-clause-choices c =
    let names = names_with c.args.pages.now [] in
    let are = subst (λ (es : List Located). AreLinks names es c.add_all.new.self) c.spots.ensures.elements
    (c.in_ok-add_all.ensures [] (c.new-links.ensures names)) in
    c.choose_from.ensures.choices names are (λ id. ap (λ (cs : List Choice). chosen_in cs id) c.requires)

pub returns-then-not-has_repeats-clause-choices : goal.returns-then-not-has_repeats-clause-choices
returns-then-not-has_repeats-clause-choices c =
    apart-choices (names_with c.args.pages.now []) c.args.index.now 0 (c.has_repeats.ensures.apart c.if-not-has_repeats.true)
    (λ id. ap (λ (cs : List Choice). chosen_in cs id) c.requires)
