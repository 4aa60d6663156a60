use Rattle.std.proofs.Common.{◌∙◌, ap, map}
use Rattle.ix_base.specs.LocatedElements.{located, base_in}
use Rattle.ix_base.specs.Readers.{escapes}
use Rattle.facts.specs.ChainTexts.{text_along}
use Rattle.facts.specs.ItemValue.{IsItemOf, item_text}
use Rattle.facts.proofs.ItemLaws.{said-weaker}
use Rattle.facts.proofs.OneItem.{item_along, text-along}
use Rattle.facts.proofs.item.item_of.Goals as goal

pub returns : goal.returns
returns c a same =
    let e = located c.args.spot.now in
    let bases = base_in c.args.bases.now.pages in
    let escape = escapes e.placed.tree in
    let given = text_along bases escape (map (λ s. located s.now) c.args.chain.now) in
    let own = item_text bases a e in
    said-weaker (IsItemOf given e.placed) (IsItemOf own e.placed) _
    (λ r h. item_along given own e.placed r (λ is. ap (text_along bases escape) (same is) ∙ text-along bases a e) h)
    (c.item_by.ensures given c.value_of-value.ensures)
