-- Arcs that tie are one.
use Rattle.std.proofs.Common.{◌≡◌}
use Rattle.std.specs.Cmp.{IsTotalOrder}
use Rattle.std.specs.Cmp.Lexicographic.{on_texts}
use Rattle.std.specs.declared.cmp.Ordering.TheVariants.{Equal}
use Rattle.std.proofs.lemmas.Cmp.{then_total}
use Rattle.ix_base.specs.declared.content.Arc.{Arc}
use Rattle.ix_base.specs.SortedLists.{text_cmp}
use Rattle.ix_base.proofs.OnceOrdered.{same_text}
use Rattle.ix_base.proofs.OrderLemmas.{then_first, then_second}
use Rattle.footnotes.specs.FootnoteLinks.{arc_texts_cmp}

-- arcs that tie are one
pub same_arc : (a b : Arc) → arc_texts_cmp a b ≡ Equal → a ≡ b
same_arc a b e =
    let second = then_second (text_cmp a.arcrole b.arcrole) _ e in
    let third = then_second (text_cmp a.from_id b.from_id) _ second in
    let arcrole = same_text a.arcrole b.arcrole (then_first _ _ e) in
    let from = same_text a.from_id b.from_id (then_first _ _ second) in
    let to = same_text a.to_id b.to_id (then_first _ _ third) in
    let order = same_text a.order b.order (then_second (text_cmp a.to_id b.to_id) _ third) in
    λ i. record { arcrole = arcrole i; from_id = from i; to_id = to i; order = order i }

pub arc_total : IsTotalOrder arc_texts_cmp
arc_total = then_total (on_texts (λ x. x.arcrole)) (then_total (on_texts (λ x. x.from_id)) (then_total (on_texts (λ x. x.to_id)) (on_texts (λ x. x.order))))
