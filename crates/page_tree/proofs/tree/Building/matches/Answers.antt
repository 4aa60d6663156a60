use Rattle.std.proofs.Common.{◌≡◌, ◌+◌, ◌-◌, length, get_or, rules, arith, sym, ◌∙◌}
use Rattle.std.proofs.lemmas.Grind.{common_steps}
use Rattle.page_tree.proofs.StackLaws.{matches-last}
use Rattle.page_tree.proofs.tree.Building.matches.Goals as goal

pub returns-in-Some : goal.returns-in-Some
returns-in-Some c =
    let o = c.in-Some.element.now in
    let os = c.args.self.now.elements.items in
    let at : o ≡ get_or os (length os - 1) o = search rules in
    let some : length os - 1 + 1 ≡ length os = grind (arith, common_steps) in
    c.eq.ensures ∙ sym (matches-last os (length os - 1) o c.args.name.now some at)
