use Rattle.std.proofs.Common.{refl}
use Rattle.page_tree.specs.Model.{limit}
use Rattle.page_verdicts.proofs.ForestLaws.{gained_root, gained_fault}
use Rattle.page_verdicts.proofs.read_pages.end_tree.Goals as goal

pub returns-in_ok-push-in-Ok-clause-gained : goal.returns-in_ok-push-in-Ok-clause-gained
returns-in_ok-push-in-Ok-clause-gained c b h =
    gained_root c.args.number b (limit c.args.tree) _ _ c.in-Ok.root c.requires.depth (c.in-Ok.ensures.verdict b h (λ e. cc)) refl c.in_ok-push-in-Ok.ensures.items
    (c.in-Ok.ensures.root b h) (c.in-Ok.ensures.page b h) (c.in-Ok.ensures.spaces b h) c.requires.page

pub returns-in_ok-add-in-Err-Broken-clause-gained : goal.returns-in_ok-add-in-Err-Broken-clause-gained
returns-in_ok-add-in-Err-Broken-clause-gained c b h =
    let told = rw c.in-Err-Broken.field-0-is at c.in-Err-Broken.ensures.verdict b h (λ e. cc) in
    gained_fault c.args.number b (limit c.args.tree) _ _ _ _ c.requires.depth told c.in_ok-add-in-Err-Broken.ensures.ok
