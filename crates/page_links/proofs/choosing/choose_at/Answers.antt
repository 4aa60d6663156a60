use Rattle.page_links.proofs.ChoosingLaws.{choice-holder}
use Rattle.page_links.proofs.choosing.choose_at.Goals as goal

pub choose-requires-clause-holder : goal.choose-requires-clause-holder
choose-requires-clause-holder c =
    choice-holder c.requires.0 c.args.index.now.spots c.in-Some.id.now c.choice_for-choice.result (c.choice_for-choice.ensures.element c.requires.0 c.requires.1)
