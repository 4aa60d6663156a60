use Rattle.std.proofs.Common.{◌∙◌, ap}
use Rattle.page_tree.specs.Break.{broken_by}
use Rattle.page_tree.specs.Machine.{moved, opening}
use Rattle.page_constructs.specs.Model.{tag_of}
use Rattle.page_tree.proofs.tree.Building.take_start_tag.Goals as goal

pub returns : goal.returns
unfolding broken_by moved
returns c =
    let judged = c.judge.ensures.becomes in
    let on = c.in_ok-open.ensures in (
      c.in_ok-own.ensures.rule,
      record {
        state = on.state ∙ ap (λ s. opening s (tag_of c.args.tag.now)) judged.state;
        on_page = λ h. on.on_page (judged.on_page h);
      },
    )
