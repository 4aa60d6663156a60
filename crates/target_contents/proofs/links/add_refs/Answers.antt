use Rattle.std.proofs.Common.{◌∙◌, ◌++◌, ap, append-nil, sym}
use Rattle.target_contents.proofs.NamedLaws.{none-missing}
use Rattle.target_contents.proofs.links.add_refs.Goals as goal

pub returns-then-are_there : goal.returns-then-are_there
returns-then-are_there c =
    let old = c.args.found.now in
    sym (ap (λ xs. old ++ xs) (none-missing c.args.index.now.spots c.args.named.now c.requires.named (sym c.are_there.ensures ∙ c.if-are_there.true)) ∙ append-nil old)
