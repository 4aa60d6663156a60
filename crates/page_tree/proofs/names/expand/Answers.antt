use Rattle.std.proofs.Common.{map}
use Rattle.std.specs.List.{filter_map}
use Rattle.ix_base.specs.Trees.{bindings_in}
use Rattle.page_tree.specs.Expansions.{expansion_of}
use Rattle.page_constructs.specs.Model.{attribute_of}
use Rattle.page_tree.proofs.ExpandLaws.{expanded-more}
use Rattle.page_tree.proofs.names.expand.Goals as goal

pub loop-attr-preserved : goal.loop-attr-preserved
loop-attr-preserved c =
    let bs = bindings_in c.args.scope in
    let all = c.args.attrs.now in
    record {
      expansions = expanded-more bs all c.loop-attr.attr-index c.attr-item.result (filter_map (expansion_of bs) (map attribute_of all)) c.attr-item.is c.loop-attr-test.true
          _ _ c.in_ok-push_expanded.ensures.expansions c.loop-attr.invariant.expansions;
      spaces = c.in_ok-push_expanded.ensures.spaces c.loop-attr.invariant.spaces;
    }
