use Rattle.std.proofs.Common.{◌≡◌, ◌∙◌, sym, ap, subst, true, map, is_some, IfOk, IfSome}
use Rattle.ix_base.specs.Trees.{nodes_of}
use Rattle.instance_lines.specs.Lists.{are_apart}
use Rattle.instance_tree.specs.ReaderWords.{HasEnds, arcs_in, end_of, labels_of}
use Rattle.instance_tree.proofs.EndLaws.{arcs-are}
use Rattle.instance_tree.proofs.notes.arcs_of.Goals as goal

pub returns-in-Some : goal.returns-in-Some
returns-in-Some c =
    let ends = map end_of c.as_slice.result.now in
    let ids : HasEnds c.in-Some.table ends = subst (λ o. IfSome o (λ table. HasEnds table ends)) c.in-Some.is c.in_ok-table.ensures.ids in
    let apart : true ≡ are_apart (labels_of ends) = ap is_some (sym c.in-Some.is) ∙ c.in_ok-table.ensures.apart in
    let same : ends ≡ _ = ap (map end_of) c.as_slice.ensures.value ∙ c.in_ok-ends.ensures in
    subst (λ z. IfOk c.read_links.result (λ o. o ≡ z))
    (arcs-are c.in-Some.table ends (nodes_of c.args.nodes.now) ids apart ∙ ap (λ es. arcs_in es (nodes_of c.args.nodes.now)) same) c.read_links.ensures
