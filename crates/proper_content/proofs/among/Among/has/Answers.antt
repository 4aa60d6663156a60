use Rattle.std.proofs.Common.{◌∙◌}
use Rattle.proper_content.proofs.SearchLaws.{found_in}
use Rattle.proper_content.proofs.among.Among.has.Goals as goal

pub returns : goal.returns
returns c =
    c.is_ok.ensures.value
    ∙ found_in c.args.text.now _ _ _ c.binary_search.result c.deref.ensures.value c.self.invariant c.self.view_is
    c.binary_search.ensures.bound c.binary_search.ensures.position
