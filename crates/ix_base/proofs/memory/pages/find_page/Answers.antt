use Rattle.std.proofs.Common.{◌≡◌, ◌∙◌, true, bytes_eq, get_or, rules}
use Rattle.ix_base.proofs.PageLemmas.{page_found}
use Rattle.ix_base.proofs.memory.pages.find_page.Goals as goal

pub returns-then-eq : goal.returns-then-eq
returns-then-eq c =
    let same : bytes_eq c.index-pages-i.result.name c.args.name.now ≡ true = search rules in
    let at : bytes_eq (get_or c.args.pages.now c.loop-i.i c.index-pages-i.result).name c.args.name.now ≡ true = rw (← c.index-pages-i.is) same in
    (c.loop-i-test.true, c.loop-i.invariant ∙ page_found _ _ c.index-pages-i.result _ c.loop-i-test.true at)
