use Rattle.std.proofs.Common.{◌≡◌, ◌∙◌, ◌∷◌, [], ◌++◌, All, List, ap, length, map, subst, sym}
use Rattle.std.specs.List.{Contains}
use Rattle.ix_base.specs.Elements.{pages_of}
use Rattle.fact_trace.specs.Model.{Held, sources_of}
use Rattle.fact_trace.specs.Spans.{Source}
use Rattle.fact_trace.specs.declared.page.Page.{Page}
use Rattle.fact_trace.proofs.TracerLaws.{keeps-more}
use Rattle.fact_trace.proofs.tracer.Tracer.add_page.Goals as goal

pub invariant_of-self-2 : goal.invariant_of-self-2
invariant_of-self-2 c = λ u.
    let pages = c.self.inside.pages.items in
    let page : Page = record { name = c.args.name.now; bytes = c.args.bytes; root = c.args.root } in
    let same : c.args.self.now.sources ≡ sources_of pages = sym (ap (λ (h : Held). h.sources) c.self.view_is) in
    keeps-more pages c.push.new.self.items page c.self.inside.index c.add_page.new.self
    (c.in_ok-push.ensures.items ∙ ap (λ n. pages ++ record { name = n; bytes = c.args.bytes; root = c.args.root } ∷ []) c.in_ok-name.ensures)
    (c.self.invariant c.if-self.false)
    c.requires.tree
    (subst (λ (ps : List Source). All (λ n. n ≡ length ps) (pages_of c.args.root.now)) same c.requires.number)
    (subst (λ (ps : List Source). ¬ Contains (map (λ p. p.name) ps) c.args.name.now) same c.requires.fresh)
    c.in_ok-add_page.ensures.ok
