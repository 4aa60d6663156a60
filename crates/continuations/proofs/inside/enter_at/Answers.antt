use Rattle.std.proofs.Common.{◌∙◌, ◌++◌, ap, refl, List, ℕ, [], ◌∷◌}
use Rattle.std.specs.Prelude.{◌&&◌, ◌==◌}
use Rattle.continuations.specs.InnerElements.{numbers_at}
use Rattle.continuations.proofs.Inner.{entered-at}
use Rattle.continuations.proofs.inside.enter_at.Goals as goal

pub returns : goal.returns
returns c = λ page offset.
    entered-at (numbers_at c.args.numbers.now) c.args.key.0 c.args.key.1 page offset ((c.args.key.0 == page) && (c.args.key.1 == offset)) c.push.new.self.items
    (numbers_at c.take_at-here.new.numbers page offset) c.args.number (numbers_at c.put_at.new.numbers page offset)
    (c.in_ok-push.ensures.items ∙ ap (λ (xs : List ℕ). xs ++ c.args.number ∷ []) c.take_at-here.ensures.taken) refl (c.take_at-here.ensures.others page offset) (c.in_ok-put_at.ensures page offset)
