use Rattle.std.proofs.Common.{◌≡◌, ◌++◌, ◌≤◌, [], ap, sym, subst, length, arith, rules}
use Rattle.std.proofs.lemmas.List.{drop_all}
use Rattle.targets.specs.Forest.{AreSoundRoots, trees_of}
use Rattle.page_session.specs.Sessions.{trees_kept}
use Rattle.page_session.proofs.AnswerLaws.{trees_end, trees_next}
use Rattle.page_session.proofs.answer.roots_of.Goals as goal

pub loop-page-init : goal.loop-page-init
loop-page-init c =
    let none : c.new-roots.result.items ≡ [] = search rules in
    record {
      trees = ap (λ xs. trees_of xs ++ trees_kept c.args.kept.now) none;
      sound = subst (λ xs. AreSoundRoots 0 xs) (sym none) tt;
      few = subst (λ xs. length xs ≤ 0) (sym none) (omega arith);
    }

pub add_root-requires : goal.add_root-requires
add_root-requires c = omega (arith, c.loop-page.invariant.few, c.loop-page-test.true, c.requires)

pub loop-page-preserved : goal.loop-page-preserved
loop-page-preserved c = record {
  trees = trees_next c.args.kept.now c.loop-page.page-index c.page-item.result (trees_of c.loop-page.roots.items) (trees_of c.add_root.new.roots.items)
      c.loop-page-test.true c.page-item.is c.in_ok-add_root.ensures.trees c.loop-page.invariant.trees;
  sound = c.in_ok-add_root.ensures.sound c.loop-page.invariant.sound;
  few = omega (arith, c.in_ok-add_root.ensures.few, c.loop-page.invariant.few);
}

pub returns-clause-trees : goal.returns-clause-trees
returns-clause-trees c = trees_end c.args.kept.now c.loop-page.page-index (trees_of c.loop-page.roots.items)
    (drop_all c.loop-page.page-index c.args.kept.now c.loop-page-test.false) c.loop-page.invariant.trees
