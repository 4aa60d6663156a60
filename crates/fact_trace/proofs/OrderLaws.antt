-- The order of items is total.
use Rattle.std.specs.Cmp.{IsTotalOrder}
use Rattle.std.proofs.lemmas.Cmp.{nat_cmp_total, nat_list_cmp_total, on_total, then_total}
use Rattle.fact_trace.specs.Spans.{traced_cmp}
use Rattle.fact_trace.specs.declared.span.Traced.{Traced}

pub traced-total : IsTotalOrder traced_cmp
traced-total = then_total (on_total (λ (t : Traced). t.page) nat_list_cmp_total) (on_total (λ (t : Traced). t.offset) nat_cmp_total)
