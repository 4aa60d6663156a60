use Rattle.std.proofs.Common.{◌≡◌, ◌∙◌, ◌<◌, ap, sym, subst, List, [], ◌∷◌, ◌++◌, length, take, append_assoc, append-nil}
use Rattle.std.specs.Borrow.{Bor}
use Rattle.std.proofs.lemmas.List.{map_more, take_all}
use Rattle.ix_base.specs.declared.tree.Spot.{Spot}
use Rattle.ix_base.specs.LocatedElements.{Located, located}
use Rattle.id_table.specs.Tables.{all_located}
use Rattle.id_table.proofs.OnPages.{on_page-at}
use Rattle.page_links.specs.Model.{names_of}
use Rattle.page_links.specs.LinkTables.{AreLinks}
use Rattle.page_links.proofs.standing.Links.add_all.Goals as goal

pub loop-spot-init : goal.loop-spot-init
loop-spot-init c es are = subst (λ (xs : List Located). AreLinks (names_of c.args.names.now) xs c.args.self.now) (sym (append-nil es)) are

pub add-requires-clause-some : goal.add-requires-clause-some
add-requires-clause-some c =
    let es = c.requires.some.0 in
    (es ++ all_located (take c.loop-spot.spot-index c.args.spots.now), c.loop-spot.invariant es c.requires.some.1)

pub add-requires-clause-page : goal.add-requires-clause-page
add-requires-clause-page c =
    on_page-at c.args.spots.now c.loop-spot.spot-index c.spot-item.result c.loop-spot-test.true c.spot-item.is c.requires.pages

pub loop-spot-preserved : goal.loop-spot-preserved
loop-spot-preserved c es are =
    let spots = c.args.spots.now in
    let i = c.loop-spot.spot-index in
    let to : Bor Spot → Located = λ s. located s.now in
    let below : i < length spots = c.loop-spot-test.true in
    let next = c.in_ok-add.ensures (es ++ all_located (take i spots)) (c.loop-spot.invariant es are) in
    subst (λ (xs : List Located). AreLinks (names_of c.args.names.now) xs c.add.new.self)
    (append_assoc es (all_located (take i spots)) (to c.spot-item.result ∷ [])
    ∙ ap (λ xs. es ++ (all_located (take i spots) ++ to xs ∷ [])) c.spot-item.is
    ∙ ap (λ xs. es ++ xs) (sym (map_more to spots i c.spot-item.result below))) next

pub returns : goal.returns
returns c es are =
    let spots = c.args.spots.now in
    let whole : take c.loop-spot.spot-index spots ≡ spots = take_all c.loop-spot.spot-index spots c.loop-spot-test.false in
    subst (λ (xs : List Located). AreLinks (names_of c.args.names.now) xs c.loop-spot.self) (ap (λ xs. es ++ all_located xs) whole) (c.loop-spot.invariant es are)
