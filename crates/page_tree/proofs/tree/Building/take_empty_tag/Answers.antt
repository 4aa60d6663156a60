use Rattle.std.proofs.Common.{◌∙◌, ap}
use Rattle.page_tree.specs.Break.{broken_by}
use Rattle.page_tree.specs.Machine.{State, closing, moved}
use Rattle.page_tree.proofs.tree.Building.take_empty_tag.Goals as goal

pub returns : goal.returns
unfolding broken_by moved
returns c =
    let begun = c.in_ok-take_start_tag.ensures in
    let on = c.in_ok-close.ensures in (
      begun.0,
      record {
        state = on.state ∙ ap (λ (s : State). closing s.frames s) begun.1.state;
        on_page = λ h. on.on_page (begun.1.on_page h);
      },
    )
