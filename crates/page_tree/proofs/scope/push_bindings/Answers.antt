use Rattle.std.proofs.Common.{rules}
use Rattle.page_tree.proofs.DeclaredLaws.{entered-more}
use Rattle.page_tree.proofs.scope.push_bindings.Goals as goal

pub loop-prefix-preserved : goal.loop-prefix-preserved
loop-prefix-preserved c = record {
  list = entered-more _ _ (c.in-Some.prefix.now, c.in-Some.ns.now) _ _ _ c.in_ok-push_binding.ensures.list (search rules) c.loop-prefix.invariant.list;
  spaces = λ h. c.in_ok-push_binding.ensures.spaces (c.loop-prefix.invariant.spaces h);
  kept = λ ns n e. c.in_ok-push_binding.ensures.kept ns n (c.loop-prefix.invariant.kept ns n e);
}
