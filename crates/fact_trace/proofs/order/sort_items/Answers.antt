use Rattle.std.proofs.Common.{◌≡◌, Bool, List, rules}
use Rattle.std.proofs.lemmas.List.Sorted.{answers_always, ranks_by}
use Rattle.std.specs.Cmp.{IsStrictWeakOrder}
use Rattle.std.specs.List.Sorted.{IsSortedBy, IsStableBy}
use Rattle.std.specs.Ordering.{is_lt}
use Rattle.ix_base.specs.SortedLists.{sorted}
use Rattle.ix_base.proofs.StableLemmas.{stable_is_sorted}
use Rattle.fact_trace.specs.Spans.{traced_cmp}
use Rattle.fact_trace.specs.declared.span.Traced.{Traced}
use Rattle.fact_trace.proofs.OrderLaws.{traced-total}
use Rattle.fact_trace.proofs.order.sort_items.Goals as goal

abbrev is_earlier : Traced → Traced → Bool
is_earlier a b = is_lt (traced_cmp a b)

strict : IsStrictWeakOrder is_earlier
strict = ranks_by traced-total (λ (x : Traced). x)

in_place_order : (xs ys : List Traced) → IsSortedBy is_earlier ys → IsStableBy is_earlier xs ys → ys ≡ sorted traced_cmp xs
in_place_order xs ys up stable = stable_is_sorted traced_cmp traced-total xs ys up stable

pub returns-in-Ok : goal.returns-in-Ok
returns-in-Ok c =
    in_place_order _ _
    (c.in-Ok.ensures.sorted is_earlier strict (answers_always _ _ _ (λ f a r h k. search rules)))
    (c.in-Ok.ensures.stable is_earlier strict (answers_always _ _ _ (λ f a r h k. search rules)))
