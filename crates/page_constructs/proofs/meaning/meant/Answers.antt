use Rattle.std.proofs.Common.{sym, subst}
use Rattle.page_constructs.specs.Ends.{IsAround, front_around}
use Rattle.page_constructs.proofs.Around.{ends-around}
use Rattle.page_constructs.proofs.meaning.meant.Goals as goal

pub inside-inner-requires : goal.inside-inner-requires
inside-inner-requires c =
    subst (λ x. IsAround x c.ends_of.result.1.now c.args.text.now) (sym c.ends_of.ensures.front)
    (subst (λ x. IsAround (front_around c.args.kind) x c.args.text.now) (sym c.ends_of.ensures.back) (ends-around c.args.kind c.args.text.now c.requires))
