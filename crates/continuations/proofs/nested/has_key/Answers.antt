use Rattle.std.proofs.Common.{◌∙◌}
use Rattle.continuations.proofs.Nesting.{key-found}
use Rattle.continuations.proofs.nested.has_key.Goals as goal

pub returns : goal.returns
returns c =
    c.is_ok.ensures.value
    ∙ key-found c.args.page c.args.offset c.args.places.now c.binary_search.result c.requires c.binary_search.ensures.bound c.binary_search.ensures.position
