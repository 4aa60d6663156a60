use Rattle.std.proofs.Common.{◌≡◌, ◌∙◌, ap, sym, subst, List, Some, ◌++◌, append-nil, option_map}
use Rattle.std.specs.Prelude.{OnOk}
use Rattle.ix_base.specs.LocatedElements.{Located, located}
use Rattle.link_ids.specs.LinkAttributes.{list_in, single_in}
use Rattle.page_links.specs.LinkTables.{AreLinked}
use Rattle.link_ids.specs.Links.{Link}
use Rattle.link_ids.proofs.KindLinks.{none-links, single-links}
use Rattle.target_contents.proofs.SaidLaws.{tree-at}
use Rattle.page_links.proofs.standing.Links.link_by.Goals as goal

pub returns-in-Some : goal.returns-in-Some
returns-in-Some c names es ts ls are =
    let e : Located = located c.args.spot.now in
    let id = c.in-Some.id.now in
    let says : single_in c.args.attribute e.placed.tree ≡ Some id =
    ap (single_in c.args.attribute) (tree-at c.args.spot.now) ∙ sym c.single_at.ensures ∙ ap (option_map (λ s. s.now)) c.in-Some.is in
    subst (λ (l : List Link). OnOk c.link_if_id.result (AreLinked names es ts (ls ++ l) c.link_if_id.new.self))
    (single-links c.args.attribute e id says) (c.link_if_id.ensures names es ts ls e are)

pub returns-in-None : goal.returns-in-None
returns-in-None c names es ts ls are =
    let e : Located = located c.args.spot.now in
    subst (λ (l : List Link). AreLinked names es ts l c.args.self.now)
    (sym (append-nil ls) ∙ ap (λ l. ls ++ l) (none-links c.args.attribute e
    (ap (single_in c.args.attribute) (tree-at c.args.spot.now) ∙ sym c.single_at.ensures ∙ ap (option_map (λ s. s.now)) c.in_default.is)
    (ap (list_in c.args.attribute) (tree-at c.args.spot.now) ∙ sym c.list_at.ensures ∙ ap (option_map (λ s. s.now)) c.in-None.is))) are
