use Rattle.std.proofs.Common.{◌≡◌, ◌∙◌, ap, true, nat_lt, length, ◌≤◌, arith}
use Rattle.ix_base.specs.Ids.{holders}
use Rattle.page_links.specs.LinkTables.{Known, first_kept}
use Rattle.page_links.proofs.ChoosingLaws.{holders-count, several-from}
use Rattle.page_links.proofs.KeptLaws.{choice-kept}
use Rattle.page_links.proofs.choosing.choice_for.Goals as goal

pub returns-clause-element : goal.returns-clause-element
returns-clause-element c names are =
    let es = c.args.index.now.spots in
    let id = c.args.id.now in
    let count : length (holders es id) ≡ length c.holders.result.now = holders-count es id c.holders.result.now c.holders.ensures.elements in
    let enough : 2 ≤ length c.holders.result.now = c.if-holders-lt2.false in
    let several : nat_lt 1 (length (holders es id)) ≡ true = several-from (length (holders es id)) (omega arith) in
    c.first.ensures.element ∙ ap (λ (k : Known). first_kept k.kept) (are.ids id) ∙ choice-kept names es id several
