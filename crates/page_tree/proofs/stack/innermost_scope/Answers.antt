use Rattle.std.proofs.Common.{◌≡◌, ◌+◌, ◌-◌, length, get_or, rules, arith}
use Rattle.std.proofs.lemmas.Grind.{common_steps}
use Rattle.page_tree.proofs.NumberLaws.{scope-open}
use Rattle.page_tree.proofs.StackLaws.{scope-last}
use Rattle.page_tree.proofs.stack.innermost_scope.Goals as goal

pub returns-clause-bindings : goal.returns-clause-bindings
returns-clause-bindings c =
    let o = c.in-Some.parent.now in
    let os = c.args.elements.now in
    let at : o ≡ get_or os (length os - 1) o = search rules in
    let some : length os - 1 + 1 ≡ length os = grind (arith, common_steps) in
    scope-last os (length os - 1) o some at

pub returns-clause-spaces : goal.returns-clause-spaces
returns-clause-spaces c = λ t h.
    let o = c.in-Some.parent.now in
    let os = c.args.elements.now in
    let at : o ≡ get_or os (length os - 1) o = search rules in
    let some : length os - 1 + 1 ≡ length os = grind (arith, common_steps) in
    scope-open t os (length os - 1) o (omega (arith, some)) at h
