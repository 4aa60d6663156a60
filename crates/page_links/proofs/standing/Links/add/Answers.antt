use Rattle.std.proofs.Common.{◌≡◌, ◌∙◌, ap, sym, subst, List, [], ◌∷◌, ◌++◌, append-nil}
use Rattle.std.proofs.lemmas.List.Concat.{flat_map-append}
use Rattle.std.proofs.lemmas.Result.{on_ok_weaker}
use Rattle.ix_base.specs.LocatedElements.{Located, located}
use Rattle.page_links.specs.Model.{names_of}
use Rattle.page_links.specs.LinkTables.{AreLinked}
use Rattle.link_ids.specs.Links.{Link, links, links_of}
use Rattle.page_links.proofs.standing.Links.add.Goals as goal

pub hold-requires-clause-some : goal.hold-requires-clause-some
hold-requires-clause-some c = (names_of c.args.names.now, c.requires.some.0, c.requires.some.0, links c.requires.some.0, c.requires.some.1)

pub hold_tuple-requires : goal.hold_tuple-requires
hold_tuple-requires c =
    let es = c.requires.some.0 in
    (names_of c.args.names.now, es ++ located c.args.spot.now ∷ [], es, links es, c.in_ok-hold.ensures es es (links es) c.requires.some.1)

pub returns : goal.returns
returns c es are =
    let names = names_of c.args.names.now in
    let e : Located = located c.args.spot.now in
    let more : List Located = es ++ e ∷ [] in
    let both = c.in_ok-hold_tuple.ensures names more es (links es) (c.in_ok-hold.ensures es es (links es) are) in
    let is : links es ++ links_of e ≡ links more = ap (λ l. links es ++ l) (sym (append-nil (links_of e))) ∙ sym (flat_map-append links_of es (e ∷ [])) in
    on_ok_weaker c.link_all.result (subst (λ (l : List Link). AreLinked names more more l c.link_all.new.self) is)
    (c.link_all.ensures names more more (links es) both)
