use Rattle.std.proofs.Common.{◌≡◌, ◌∙◌, ◌++◌, [], List, ap, subst, sym}
use Rattle.std.specs.List.Sorted.{IsPermutation}
use Rattle.std.proofs.lemmas.Result.{IfOk-weaker}
use Rattle.ix_base.specs.LinkRules.{breaking}
use Rattle.ix_base.specs.LocatedElements.{Located}
use Rattle.ix_base.specs.declared.rule.Rule.TheVariants.{L4, L5, L6, L7}
use Rattle.target_contents.specs.LinkedSets.{AreApart}
use Rattle.targets.proofs.UnbrokenLaws.{elements-apart}
use Rattle.fact_trace.specs.Model.{Held, sources_of}
use Rattle.fact_trace.specs.Spans.{Source, traces}
use Rattle.fact_trace.specs.declared.page.Page.{Page}
use Rattle.fact_trace.proofs.RearrangedLaws.{rearranged}
use Rattle.fact_trace.specs.ValidPages.{BreakNoRule}
use Rattle.fact_trace.proofs.TracerLaws.{are-apart, as_set, clean-of, of-trees, unbroken-links}
use Rattle.fact_trace.proofs.tracer.Tracer.traced.Goals as goal

pub traced_all-requires-clause-apart : goal.traced_all-requires-clause-apart
traced_all-requires-clause-apart c =
    let pages = c.self.inside.pages.items in
    let k = c.self.invariant c.if-self.false in
    let u : BreakNoRule (sources_of pages) = subst BreakNoRule (sym (ap (λ (h : Held). h.sources) c.self.view_is)) c.requires in
    subst AreApart (sym k.spots) (elements-apart (as_set u.base (sources_of pages)) (clean-of (sources_of pages) (of-trees 0 pages k.pages_are) u))

pub traced_all-requires-clause-linked : goal.traced_all-requires-clause-linked
traced_all-requires-clause-linked c =
    let pages = c.self.inside.pages.items in
    let k = c.self.invariant c.if-self.false in
    let u : BreakNoRule (sources_of pages) = subst BreakNoRule (sym (ap (λ (h : Held). h.sources) c.self.view_is)) c.requires in
    subst (λ (es : List Located). breaking L4 es ++ breaking L5 es ++ breaking L6 es ++ breaking L7 es ≡ []) (sym k.spots)
    (unbroken-links (as_set u.base (sources_of pages)) (clean-of (sources_of pages) (of-trees 0 pages k.pages_are) u))

pub returns-clause-rearranged : goal.returns-clause-rearranged
returns-clause-rearranged c =
    let pages = c.self.inside.pages.items in
    let k = c.self.invariant c.if-self.false in
    let seen : sources_of pages ≡ c.args.self.now.sources = ap (λ (h : Held). h.sources) c.self.view_is in
    let u : BreakNoRule (sources_of pages) = subst BreakNoRule (sym seen) c.requires in
    IfOk-weaker c.traced_all.result _ _
    (λ l e others m. e ∙ ap (λ (ps : List Page). traces (sources_of ps)) c.as_slice.ensures.value
    ∙ rearranged (sources_of pages) others k.names (are-apart (sources_of pages) (of-trees 0 pages k.pages_are) u) (subst (λ (ps : List Source). IsPermutation ps others) (sym seen) m))
    c.traced_all.ensures
