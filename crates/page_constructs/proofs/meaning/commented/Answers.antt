use Rattle.std.proofs.Common.{sym, arith, length, take, ◌-◌, refl, ◌∙◌}
use Rattle.std.proofs.lemmas.Bool.{false≢true}
use Rattle.std.proofs.lemmas.Str.Pattern.{ends_char}
use Rattle.page_constructs.proofs.Around.{dashes-inside, dashes-end, no-dashes}
use Rattle.page_constructs.proofs.meaning.commented.Goals as goal

pub returns-then-holds : goal.returns-then-holds
returns-then-holds c = rw (dashes-inside c.args.inner.now (sym c.if-holds.ensures)) refl

pub returns-then-ends_with : goal.returns-then-ends_with
returns-then-ends_with c =
    let last = ends_char 45 c.args.inner.now c.ends_with.result c.ends_with.ensures.cases (omega arith) in
    rw (dashes-end c.args.inner.now (take (length c.args.inner.now - 1) c.args.inner.now) (last.0 c.if-ends_with.true)) refl

pub returns-else-ends_with : goal.returns-else-ends_with
returns-else-ends_with c =
    let last = ends_char 45 c.args.inner.now c.ends_with.result c.ends_with.ensures.cases (omega arith) in
    rw (no-dashes c.args.inner.now (sym c.if-holds.ensures) (λ front e. false≢true (sym c.if-ends_with.false ∙ last.1 front e))) refl
