use Rattle.std.proofs.Common.{refl}
use Rattle.ix_base.specs.declared.limits.TheConstants.{MOST_BYTES}
use Rattle.page_verdicts.proofs.ForestLaws.{page_gained}
use Rattle.page_verdicts.proofs.read_pages.end_page.Goals as goal

pub returns-clause-gained : goal.returns-clause-gained
returns-clause-gained c =
    page_gained c.end_tree.result c.args.number MOST_BYTES c.args.page c.args.forest.now (record c.args.forest.now { texts = c.keep_text.new.texts }) c.end_tree.new.forest
    c.as_slice.result.now refl refl refl c.requires.keeps c.as_slice.ensures.value c.in_ok-keep_text.ensures c.end_tree.ensures.keeps c.end_tree.ensures.texts
    c.end_tree.ensures.gained
