use Rattle.fact_trace.proofs.TracerLaws.{in-any-order}
use Rattle.fact_trace.proofs.laws.traced_in_any_order.Goals as goal

pub returns : goal.returns
returns c = in-any-order
