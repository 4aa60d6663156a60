use Rattle.std.proofs.Common.{◌<◌, All, List, ap, inl, inr, length, subst}
use Rattle.std.proofs.lemmas.Result.{IfOk-weaker}
use Rattle.ix_base.specs.LocatedElements.{Located}
use Rattle.scopes.specs.Model.{Kept}
use Rattle.target_contents.specs.Faults.{link_faults}
use Rattle.page_links.specs.Model.{set_of}
use Rattle.target_contents.specs.PageSet.{base_at, elements}
use Rattle.targets.proofs.BelowLaws.{broken-below, same-below}
use Rattle.targets.proofs.ComesLaws.{keeps-on, none-is, none-same, on-names, report-alike, some-is, some-same}
use Rattle.targets.proofs.closing.comes_of_linked.Goals as goal

pub of-set-requires : goal.of-set-requires
of-set-requires c = c.requires.linked (none-is c.args.found c.is_empty.result c.is_empty.ensures c.if-is_empty.true)

pub returns-then-is_empty-clause-comes : goal.returns-then-is_empty-clause-comes
returns-then-is_empty-clause-comes c =
    let none = none-same c.args.found (link_faults (set_of c.args.pages.now)) c.requires.faults
    (none-is c.args.found c.is_empty.result c.is_empty.ensures c.if-is_empty.true) in
    IfOk-weaker c.comes_of_values.result _ _ (λ o h. inr (none, h)) c.comes_of_values.ensures.comes

pub broken-requires : goal.broken-requires
broken-requires c =
    let s = set_of c.args.pages.now in
    let m = length c.args.names.now in
    same-below m c.args.found (link_faults s) c.requires.faults
    (broken-below m (base_at s) (elements s)
    (subst (λ (es : List Located). All (λ e. e.page < m) es) c.requires.keeps.spots
    (on-names s c.args.pages.now.index.now.spots c.args.names.now c.args.pages.now.bases.now.pages c.requires.names
    (ap (λ (k : Kept). k.pages) c.requires.keeps.bases) (keeps-on _ _ _ _ c.requires.keeps))))

pub returns-clause-comes : goal.returns-clause-comes
returns-clause-comes c =
    let s = set_of c.args.pages.now in
    let some = some-same c.args.found (link_faults s) c.requires.faults (some-is c.args.found c.is_empty.result c.is_empty.ensures c.if-is_empty.false) in
    IfOk-weaker c.broken.result _ _
    (λ o h. inl (some, report-alike c.args.names.now c.args.found (link_faults s) c.requires.faults o h)) c.broken.ensures.report
