use Rattle.std.proofs.Common.{◌≡◌, ◌∙◌, [], ap, sym, subst, ℕ, All, List, length, map, arith}
use Rattle.std.specs.List.{Contains}
use Rattle.std.proofs.lemmas.List.{length-map}
use Rattle.std.proofs.lemmas.Result.{IfOk-weaker}
use Rattle.ix_base.specs.Elements.{pages_of}
use Rattle.ix_base.specs.Trees.{tree_of}
use Rattle.fact_trace.specs.Model.{Held}
use Rattle.fact_trace.specs.Spans.{Source, traces}
use Rattle.fact_trace.specs.ValidPages.{BreakNoRule}
use Rattle.page_verdicts.proofs.TraceLaws.{all_came, held_more, no_rule, page_comes, roots_length}
use Rattle.page_verdicts.proofs.trace.items_of.Goals as goal

pub bounds-roots-number : goal.bounds-roots-number
bounds-roots-number c =
    let size = roots_length 0 (map (λ t. t.now) c.args.texts.now) c.args.roots.now c.requires.roots in
    let texts = length-map c.args.texts.now (λ t. t.now) in
    let count = c.requires.count in
    omega (arith, c.loop-number-test.true)

pub add_page-requires-clause-tree : goal.add_page-requires-clause-tree
add_page-requires-clause-tree c =
    (page_comes c.args.names.now c.args.texts.now c.args.roots.now c.loop-number.number c.index-names-number.result _ c.index-roots-number.result
    c.loop-number-test.true c.requires.count c.requires.once c.requires.roots c.index-names-number.is c.index-roots-number.is).root.0

pub add_page-requires-clause-number : goal.add_page-requires-clause-number
add_page-requires-clause-number c =
    let here = page_comes c.args.names.now c.args.texts.now c.args.roots.now c.loop-number.number c.index-names-number.result (record { ref_ptr = (0, 0); now = [] })
    c.index-roots-number.result c.loop-number-test.true c.requires.count c.requires.once c.requires.roots c.index-names-number.is c.index-roots-number.is in
    subst (λ (m : ℕ). All (λ k. k ≡ m) (pages_of c.index-roots-number.result.now))
    (sym (ap (λ (h : Held). length h.sources) c.loop-number.invariant ∙ here.count)) here.root.1

pub add_page-requires-clause-fresh : goal.add_page-requires-clause-fresh
add_page-requires-clause-fresh c = λ k.
    let here = page_comes c.args.names.now c.args.texts.now c.args.roots.now c.loop-number.number c.index-names-number.result (record { ref_ptr = (0, 0); now = [] })
    c.index-roots-number.result c.loop-number-test.true c.requires.count c.requires.once c.requires.roots c.index-names-number.is c.index-roots-number.is in
    here.fresh (subst (λ (l : List Source). Contains (map (λ p. p.name) l) c.index-names-number.result) (ap (λ (h : Held). h.sources) c.loop-number.invariant)
    (subst (λ (y : List ℕ). Contains (map (λ p. p.name) c.loop-number.tracer.sources) y) c.as_str.ensures k))

pub loop-number-preserved : goal.loop-number-preserved
loop-number-preserved c =
    let here = page_comes c.args.names.now c.args.texts.now c.args.roots.now c.loop-number.number c.index-names-number.result (record { ref_ptr = (0, 0); now = [] })
    c.index-roots-number.result c.loop-number-test.true c.requires.count c.requires.once c.requires.roots c.index-names-number.is c.index-roots-number.is in
    c.in_ok-add_page.ensures.ok
    ∙ held_more c.loop-number.tracer _ c.as_str.result.now c.index-names-number.result _ (tree_of c.index-roots-number.result.now) _ c.loop-number.invariant c.as_str.ensures (sym here.cut)

pub finish-requires : goal.finish-requires
finish-requires c =
    let past = c.loop-number-test.false in
    let all = all_came c.args.names.now (map (λ t. t.now) c.args.texts.now) c.args.roots.now c.loop-number.number (omega (arith, past))
    (length-map c.args.texts.now (λ t. t.now) ∙ c.requires.count) c.requires.roots in
    subst BreakNoRule (sym (ap (λ (h : Held). h.sources) c.loop-number.invariant ∙ all))
    (no_rule c.args.names.now (map (λ t. t.now) c.args.texts.now) c.args.roots.now c.requires.unbroken.0 c.requires.unbroken.1.0
    (length-map c.args.texts.now (λ t. t.now) ∙ c.requires.count) c.requires.roots c.requires.unbroken.1.1)

pub returns : goal.returns
returns c =
    let past = c.loop-number-test.false in
    let all = all_came c.args.names.now (map (λ t. t.now) c.args.texts.now) c.args.roots.now c.loop-number.number (omega (arith, past))
    (length-map c.args.texts.now (λ t. t.now) ∙ c.requires.count) c.requires.roots in
    IfOk-weaker c.finish.result _ _ (λ l h. h ∙ ap traces (ap (λ (h : Held). h.sources) c.loop-number.invariant ∙ all)) c.finish.ensures.traced

pub add_page-requires-clause-spaces : goal.add_page-requires-clause-spaces
add_page-requires-clause-spaces c =
    (page_comes c.args.names.now c.args.texts.now c.args.roots.now c.loop-number.number c.index-names-number.result (record { ref_ptr = (0, 0); now = [] }) c.index-roots-number.result
    c.loop-number-test.true c.requires.count c.requires.once c.requires.roots c.index-names-number.is c.index-roots-number.is).root.2
