use Rattle.std.proofs.Common.{◌∙◌, ap, map}
use Rattle.std.proofs.lemmas.Result.{IfOk-weaker}
use Rattle.ix_base.specs.LocatedElements.{located, base_in}
use Rattle.ix_base.specs.Readers.{escapes}
use Rattle.facts.specs.ChainTexts.{text_along}
use Rattle.facts.specs.ItemValue.{item_text}
use Rattle.facts.specs.Verdicts.{said}
use Rattle.facts.proofs.ItemLaws.{judged-in}
use Rattle.facts.proofs.OneItem.{item_along, text-along}
use Rattle.facts.proofs.item.value_rule.Goals as goal

pub returns : goal.returns
returns c a same =
    let e = located c.args.spot.now in
    let bases = base_in c.args.bases.now.pages in
    let escape = escapes e.placed.tree in
    let given = text_along bases escape (map (λ s. located s.now) c.args.chain.now) in
    let own = item_text bases a e in
    IfOk-weaker c.rule_in.result _ _
    (λ o is.
    let item = judged-in given e.placed (said c.value_of.result) o c.value_of.ensures is in
    (item.0, item_along given own e.placed item.0 (λ k. ap (text_along bases escape) (same k) ∙ text-along bases a e) item.1, item.2))
    c.rule_in.ensures
