use Rattle.std.proofs.Common.{◌∙◌, ◌++◌, ◌∷◌, [], List, ℕ, ap, map, sym, take}
use Rattle.ix_base.specs.declared.content.RoleRef.{RoleRef}
use Rattle.instance_lines.specs.Canonical.{line, role_markup}
use Rattle.instance_lines.proofs.Steps.{all_taken, map_taken}
use Rattle.proper_content.proofs.ListLaws.{lines_rise}
use Rattle.proper_content.proofs.lines.roles_rise.Goals as goal

pub loop-role-preserved : goal.loop-role-preserved
loop-role-preserved c =
    let f : RoleRef → List ℕ = λ x. line (role_markup x) in
    let xs = c.args.roles.now in
    let i = c.loop-role.role-index in
    c.in_ok-push.ensures.items ∙ ap (λ l. l ++ c.in_ok-line.line ∷ []) c.loop-role.invariant
    ∙ ap (λ r. map f (take i xs) ++ r ∷ []) c.in_ok-line.ensures ∙ sym (map_taken f xs i c.role-item.result c.loop-role-test.true c.role-item.is)

pub returns : goal.returns
returns c =
    let f : RoleRef → List ℕ = λ x. line (role_markup x) in
    let xs = c.args.roles.now in
    c.in_ok-answer.ensures
    ∙ lines_rise role_markup xs _ (c.as_slice.ensures.value ∙ c.loop-role.invariant ∙ ap (map f) (all_taken xs c.loop-role.role-index c.loop-role-test.false))
