use Rattle.std.proofs.Common.{◌∙◌, ◌∷◌, [], ap, map}
use Rattle.std.proofs.lemmas.List.{map-append}
use Rattle.ix_base.specs.Bindings.{bound}
use Rattle.page_tree.proofs.NumberLaws.{bindings-more}
use Rattle.page_tree.proofs.scope.push_binding.Goals as goal

pub returns-clause-list : goal.returns-clause-list
returns-clause-list c = ap (map bound) c.in_ok-push.ensures.items ∙ map-append bound c.args.list.now.items (_ ∷ [])

pub returns-clause-spaces : goal.returns-clause-spaces
returns-clause-spaces c = λ h. bindings-more _ _ _ _ _ c.in_ok-push.ensures.items c.in_ok-number.ensures.kept h c.in_ok-number.ensures.number
