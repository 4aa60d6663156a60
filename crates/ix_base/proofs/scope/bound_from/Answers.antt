use Rattle.std.proofs.Common.{◌∙◌, ap, rules, subst, sym}
use Rattle.std.specs.List.{Contains}
use Rattle.ix_base.specs.Scope.{namespace_of}
use Rattle.ix_base.specs.Spaces.{spaces_above}
use Rattle.ix_base.specs.Trees.{bindings_above}
use Rattle.ix_base.proofs.SpaceLemmas.{space_up}
use Rattle.ix_base.proofs.UnderLemmas.{bound_above}
use Rattle.ix_base.proofs.scope.bound_from.Goals as goal

pub loop-at-preserved : goal.loop-at-preserved
loop-at-preserved c =
    let level = c.in-Some.level.now in
    record {
      value = sym (bound_above level c.args.prefix.now (search rules)) ∙ ap (λ o. namespace_of (bindings_above o) c.args.prefix.now) (sym c.in-Some.is) ∙ c.loop-at.invariant.value;
      spaces = λ x h. c.loop-at.invariant.spaces x (subst (λ o. Contains (spaces_above o) x) (sym c.in-Some.is) (space_up level x h));
    }
