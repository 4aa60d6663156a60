use Rattle.std.proofs.Common.{Err, sym, ap, ◌∙◌}
use Rattle.page_text.specs.Characters.{stop}
use Rattle.page_tree.specs.MachineSteps.{end_of}
use Rattle.page_tree.specs.Buildings.{state_of}
use Rattle.page_tree.specs.Model.{verdict_of}
use Rattle.page_tree.specs.PendingText.{fault_at}
use Rattle.ix_base.specs.Trees.{tree_of}
use Rattle.page_tree.proofs.FinishLaws.{w-end, w-breaks, page-end}
use Rattle.page_tree.proofs.StandingLaws.{if-ok}
use Rattle.page_tree.proofs.builder.TreeBuilder.finish.Goals as goal

pub returns-in-Some-clause-verdict : goal.returns-in-Some-clause-verdict
returns-in-Some-clause-verdict c = λ b h n.
    ap (λ f. verdict_of (Err f)) c.fault_of.ensures ∙ sym (w-breaks b c.args.self.setting.depth (fault_at c.in-Some.broken) (h.built.read.led.breaks c.in-Some.broken c.in-Some.is))

pub returns-clause-root : goal.returns-clause-root
returns-clause-root c = if-ok c.end.result (λ e f b h.
    let t = c.args.self in
    let x = h.built.read.led.leads c.in_default.is in
    let r = f x.left (stop b) x.waits (c.end-stop.ensures.exact b (h.built.read.reads c.in_default.is)) in
    page-end b t.setting.depth (state_of t.building) t.pending.is_first x.left x.leads r.0 (tree_of e.now) r.1 r.2 r.3 r.4) c.end.ensures.root

pub returns-clause-verdict : goal.returns-clause-verdict
returns-clause-verdict c = λ b h n.
    let t = c.args.self in
    let x = h.built.read.led.leads c.in_default.is in
    c.end.ensures.verdict x.left (stop b) x.waits (c.end-stop.ensures.exact b (h.built.read.reads c.in_default.is)) n
    ∙ ap (end_of t.setting.depth (state_of t.building) t.pending.is_first x.left (stop b)) h.counted
    ∙ sym (w-end b t.setting.depth (state_of t.building) t.pending.is_first x.left x.leads)
