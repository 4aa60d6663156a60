-- The moments of a context in normal form can be written.
use Rattle.std.proofs.Common.{◌≡◌, subst, ◌≤◌, ◌<◌, nat_lt, ◌&&◌, List, [], ◌∷◌, Some, None, codes, pos, arith}
use Rattle.std.proofs.lemmas.Bool.{ltb-true}
use Rattle.ix_base.specs.ContextForm.{context, id_of, whom_of, dims_of, period_of, period_from, instant_of, duration_of, forever_of}
use Rattle.ix_base.specs.ElementContent.{are_blank, elements_in, holds_only, is_blank_beside, is_of, named_in, text_alone}
use Rattle.ix_base.specs.Namespaces.{xbrli_namespace}
use Rattle.ix_base.specs.Steps.{sole}
use Rattle.ix_base.specs.Times.{end_time, start_time}
use Rattle.ix_base.specs.Token.{token_of}
use Rattle.ix_base.specs.Trees.{Tree}
use Rattle.ix_base.specs.declared.content.Context.{Context}
use Rattle.ix_base.specs.declared.content.Period.{Period}
use Rattle.ix_base.specs.declared.content.Period.TheVariants as period
use Rattle.xbrl_parts.proofs.SmallTimes.{by_side, chosen, step_ok, time_small}
use Rattle.instance_lines.proofs.DayLaws.{end-is_end, start-is_start}
use Rattle.instance_lines.specs.Writable.{IsTimely}

instant_timely : (t : Tree) (p : Period) → instant_of t ≡ Some p → IsTimely p
instant_timely t p e =
    let text = step_ok (text_alone t.children) _ p e in
    let end = step_ok (end_time (token_of text.0)) _ p text.2 in
    let c = chosen (nat_lt 0 end.0) (period.Instant (pos end.0)) p end.2 in
    let most : end.0 ≤ 315537897600 = time_small 86400 (token_of text.0) end.0 (omega arith) end.1 in
    let some : 0 < end.0 = ltb-true 0 end.0 c.0 in
    subst IsTimely c.1 (end-is_end end.0 some most)

duration_timely : (first last : Tree) (p : Period) → duration_of first last ≡ Some p → IsTimely p
duration_timely first last p e =
    let a = step_ok (text_alone first.children) _ p e in
    let b = step_ok (text_alone last.children) _ p a.2 in
    let start = step_ok (start_time (token_of a.0)) _ p b.2 in
    let end = step_ok (end_time (token_of b.0)) _ p start.2 in
    let c = chosen (nat_lt start.0 end.0) (period.Duration (pos start.0) (pos end.0)) p end.2 in
    let most : end.0 ≤ 315537897600 = time_small 86400 (token_of b.0) end.0 (omega arith) end.1 in
    let order : start.0 < end.0 = ltb-true start.0 end.0 c.0 in
    let some : 0 < end.0 = omega arith in
    let before : start.0 < 315537897600 = omega arith in
    subst IsTimely c.1 (start-is_start start.0 before, end-is_end end.0 some most)

forever_timely : (t : Tree) (p : Period) → forever_of t ≡ Some p → IsTimely p
forever_timely t p e = subst IsTimely (chosen (are_blank t.children) period.Forever p e).1 tt

from_timely : (ts : List Tree) (p : Period) → period_from ts ≡ Some p → IsTimely p
from_timely [] p e = cc
from_timely (t ∷ []) p e =
    by_side (is_of t.head.name xbrli_namespace (codes "instant")) (instant_of t) _ p e (instant_timely t p)
    (λ f. by_side (is_of t.head.name xbrli_namespace (codes "forever")) (forever_of t) None p f (forever_timely t p) (λ g. cc))
from_timely (t ∷ u ∷ []) p e =
    by_side (is_of t.head.name xbrli_namespace (codes "startDate") && is_of u.head.name xbrli_namespace (codes "endDate")) (duration_of t u) _ p e
    (duration_timely t u p)
    (λ f. by_side (is_of t.head.name xbrli_namespace (codes "endDate") && is_of u.head.name xbrli_namespace (codes "startDate")) (duration_of u t) None p f
    (duration_timely u t p) (λ g. cc))
from_timely (t ∷ u ∷ v ∷ ts) p e = cc

period_timely : (t : Tree) (p : Period) → period_of t ≡ Some p → IsTimely p
unfolding period_of
period_timely t p e = by_side (is_blank_beside t.children) (period_from (elements_in t.children)) None p e (from_timely (elements_in t.children) p) (λ f. cc)

pub timely_form : (t : Tree) (c : Context) → context t ≡ Some c → IsTimely c.period
unfolding context
timely_form t c e =
    let id = step_ok (id_of t) _ c e in
    let entity = step_ok (sole (named_in xbrli_namespace (codes "entity") t.children)) _ c id.2 in
    let whom = step_ok (whom_of entity.0) _ c entity.2 in
    let when = step_ok (sole (named_in xbrli_namespace (codes "period") t.children)) _ c whom.2 in
    let at = step_ok (period_of when.0) _ c when.2 in
    let scenario = step_ok (dims_of (named_in xbrli_namespace (codes "scenario") t.children)) _ c at.2 in
    let made = chosen (holds_only xbrli_namespace (codes "entity" ∷ codes "period" ∷ codes "scenario" ∷ []) t.children) _ c scenario.2 in
    subst (λ (d : Context). IsTimely d.period) made.1 (period_timely when.0 at.0 at.1)
