use Rattle.std.proofs.Common.{◌≡◌, ◌++◌, None, sym, ap, ◌∙◌, subst, drop}
use Rattle.page_constructs.specs.Constructs.{size_by}
use Rattle.page_constructs.specs.Searches.{seek, further}
use Rattle.page_constructs.proofs.SizeLaws.{size-found}
use Rattle.page_constructs.proofs.size.sought_from.Goals as goal

pub returns-then-sought-eq0 : goal.returns-then-sought-eq0
returns-then-sought-eq0 c = λ first cs e s more.
    size-found c.args.kind (cs ++ more) ∙ ap (λ n. further n (seek c.args.kind None (drop n (cs ++ more)))) (sym c.head_size.ensures)

pub returns : goal.returns
returns c = λ first cs e s more.
    subst (λ k. size_by k (cs ++ more) ≡ further c.args.sought.at (seek k c.args.sought.quote (drop c.args.sought.at (cs ++ more)))) (sym e)
    ((s c.if-sought-eq0.false).goes more)
