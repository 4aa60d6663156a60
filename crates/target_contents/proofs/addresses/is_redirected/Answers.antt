use Rattle.std.proofs.Common.{◌∙◌, ap, sym}
use Rattle.std.specs.Prelude.{◌||◌}
use Rattle.ix_base.specs.declared.kind.Kind.TheVariants as kind
use Rattle.ix_base.specs.LocatedElements.{located}
use Rattle.target_contents.proofs.RedirectLaws.{both-seen, seen-two}
use Rattle.target_contents.proofs.addresses.is_redirected.Goals as goal

pub returns-then-has_two : goal.returns-then-has_two
returns-then-has_two c = λ bases es sees at.
    let e = located c.args.spot.now in
    let other = seen-two c.args.seen_roles.now.arcroles kind.ArcroleRef e in
    c.if-has_two.true ∙ sym (ap (λ b. b || other) c.if-has_two.true) ∙ ap (λ b. b || other) c.has_two.ensures ∙ both-seen bases es e c.args.seen_roles.now sees at

pub returns-else-has_two : goal.returns-else-has_two
returns-else-has_two c = λ bases es sees at.
    let e = located c.args.spot.now in
    let second = c.has_two-else-has_two.result in
    sym (ap (λ b. b || second) c.if-has_two.false) ∙ ap (λ b. b || second) c.has_two.ensures
    ∙ ap (λ b. seen-two c.args.seen_roles.now.roles kind.RoleRef e || b) c.has_two-else-has_two.ensures
    ∙ both-seen bases es e c.args.seen_roles.now sees at
