use Rattle.std.proofs.Common.{◌≡◌, true, sym, ap, ◌∙◌, arith, drop}
use Rattle.page_constructs.specs.Constructs.{starts, after}
use Rattle.page_constructs.proofs.SizeLaws.{goes-here, after-next, after-here, after-short}
use Rattle.page_constructs.proofs.size.after.Goals as goal

pub returns-then-starts-clause-value : goal.returns-then-starts-clause-value
returns-then-starts-clause-value c =
    let is : starts c.args.ends.now (drop c.places.at c.args.text.now) ≡ true = ap (starts c.args.ends.now) (sym c.behind_first.ensures) ∙ sym c.starts.ensures ∙ c.if-starts.true in
    sym (goes-here (after c.args.ends.now) (after c.args.ends.now) c.args.text.now c.args.from c.places.at c.places.invariant
    ∙ after-here c.args.ends.now c.args.text.now c.places.at c.places-test.true is)

pub places-preserved : goal.places-preserved
places-preserved c = λ more.
    c.places.invariant more
    ∙ after-next c.args.ends.now c.args.text.now c.places.at c.places-test.true (let r = c.if-ends-text.true in let l = c.places-test.true in omega arith)
    (ap (starts c.args.ends.now) (sym c.behind_first.ensures) ∙ sym c.starts.ensures ∙ c.if-starts.false) more

pub returns-else-ends-text-clause-value : goal.returns-else-ends-text-clause-value
returns-else-ends-text-clause-value c =
    sym (goes-here (after c.args.ends.now) (after c.args.ends.now) c.args.text.now c.args.from c.places.at c.places.invariant
    ∙ after-short c.args.ends.now c.args.text.now c.places.at (λ h. let r = c.if-ends-text.false in omega arith))

pub returns-after-places-clause-value : goal.returns-after-places-clause-value
returns-after-places-clause-value c =
    sym (goes-here (after c.args.ends.now) (after c.args.ends.now) c.args.text.now c.args.from c.places.at c.places.invariant
    ∙ after-short c.args.ends.now c.args.text.now c.places.at (λ h. let r = c.places-test.false in absurd (omega arith)))
