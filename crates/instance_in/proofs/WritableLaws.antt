-- What is proper can be written.
use Rattle.std.proofs.Common.{◌≡◌, nat_lt, nat_le, true, ◌&&◌, pos, negsuc, List, [], ◌∷◌, arith}
use Rattle.std.proofs.lemmas.Bool.{and_parts, ltb-true, leb-true}
use Rattle.std.proofs.lemmas.Int.{ints}
use Rattle.std.proofs.lemmas.List.Elements.{All-from_recursion}
use Rattle.std.specs.List.{AllByRecursion, list_all}
use Rattle.ix_base.specs.declared.limits.TheConstants.{DEEPEST_TUPLE}
use Rattle.ix_base.specs.declared.content.Content.{Content}
use Rattle.ix_base.specs.declared.content.Context.{Context}
use Rattle.ix_base.specs.declared.content.Period.{Period}
use Rattle.ix_base.specs.declared.content.Period.TheVariants as period
use Rattle.ix_base.specs.Facts.{facts_of}
use Rattle.ix_base.specs.PlainContents.{said_of}
use Rattle.instance_out.specs.Proper.{are_normal_dims, forms_fit, is_normal_context, is_normal_period, is_normal_unit, is_proper, last_moment, nil_is_empty, tuples_fit}
use Rattle.instance_lines.specs.Writable.{IsEnd, IsStart, IsTimely, IsWritable, depth}
use Rattle.instance_out.proofs.ProperLaws.{passed}

period-timely : (p : Period) → is_normal_period p ≡ true → IsTimely p
period-timely (period.Instant (pos end)) h =
    let q = and_parts (nat_lt 0 end) (nat_le end last_moment) h in
    let low = ltb-true 0 end q.0 in
    let high = leb-true end last_moment q.1 in
    record { after = omega (arith, ints); most = omega (arith, ints) }
period-timely (period.Instant (negsuc end)) h = absurd (cc)
period-timely (period.Duration (pos start) (pos end)) h =
    let q = and_parts (nat_lt start end) (nat_le end last_moment) h in
    let low = ltb-true start end q.0 in
    let high = leb-true end last_moment q.1 in
    let first : IsStart (pos start) = record { least = omega (arith, ints); before = omega (arith, ints) } in
    let last : IsEnd (pos end) = record { after = omega (arith, ints); most = omega (arith, ints) } in
    (first, last)
period-timely (period.Duration (pos start) (negsuc end)) h = absurd (cc)
period-timely (period.Duration (negsuc start) (pos end)) h = absurd (cc)
period-timely (period.Duration (negsuc start) (negsuc end)) h = absurd (cc)
period-timely period.Forever h = tt

all-timely : (xs : List Context) → list_all is_normal_context xs ≡ true → AllByRecursion (λ x. IsTimely x.period) xs
all-timely [] h = tt
all-timely (x ∷ xs) h =
    let q = and_parts (is_normal_context x) (list_all is_normal_context xs) h in
    let r = and_parts (is_normal_period x.period && are_normal_dims x.segment) (are_normal_dims x.scenario) q.0 in
    let s = and_parts (is_normal_period x.period) (are_normal_dims x.segment) r.0 in
    (period-timely x.period s.0, all-timely xs q.1)

pub writable : (c : Content) → is_proper (said_of c) ≡ true → IsWritable c
unfolding forms_fit tuples_fit
writable c h =
    let p = passed (said_of c) h in
    let forms = and_parts (list_all is_normal_context c.contexts) (list_all is_normal_unit c.units) p.forms in
    let facts = and_parts (nil_is_empty (facts_of c.facts)) (nat_le (depth (facts_of c.facts)) DEEPEST_TUPLE) p.tuples in
    record {
      times = All-from_recursion (λ (x : Context). IsTimely x.period) c.contexts (all-timely c.contexts forms.0);
      tuples = leb-true (depth (facts_of c.facts)) DEEPEST_TUPLE facts.1;
    }
