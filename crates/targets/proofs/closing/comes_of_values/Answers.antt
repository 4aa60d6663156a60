use Rattle.std.proofs.Common.{◌∙◌, ◌<◌, All, ap, length, subst, sym}
use Rattle.std.specs.List.{filter}
use Rattle.std.proofs.lemmas.List.Elements.{All-filter}
use Rattle.std.proofs.lemmas.Result.{IfOk-weaker}
use Rattle.ix_base.specs.Asks.{asks}
use Rattle.ix_base.specs.LocatedElements.{Located, base_in, is_item}
use Rattle.facts.specs.ItemValue.{IsItem}
use Rattle.scopes.specs.Model.{Kept}
use Rattle.page_links.specs.Model.{set_of}
use Rattle.targets.proofs.BelowLaws.{values-below}
use Rattle.targets.proofs.ComesLaws.{keeps-on, no-faults, none-is, on-names}
use Rattle.targets.proofs.ValuesCome.{values-come}
use Rattle.targets.proofs.closing.comes_of_values.Goals as goal

pub all_targets-requires : goal.all_targets-requires
all_targets-requires c =
    no-faults (base_in c.args.set.bases) c.args.set.elements c.in_ok-found.found c.in_ok-found.ensures
    (none-is c.in_ok-found.found c.is_empty.result c.is_empty.ensures c.if-is_empty.true)

pub broken-requires : goal.broken-requires
broken-requires c =
    let s = set_of c.args.pages.now in
    let es = c.args.set.elements in
    let m = length c.args.names.now in
    let below = λ (e : Located). e.page < m in
    let on : All below es =
    subst (All below) (c.requires.keeps.spots ∙ sym c.requires.elements)
    (on-names s c.args.pages.now.index.now.spots c.args.names.now c.args.pages.now.bases.now.pages c.requires.names
    (ap (λ (k : Kept). k.pages) c.requires.keeps.bases) (keeps-on _ _ _ _ c.requires.keeps)) in
    values-below m (IsItem (base_in c.args.set.bases) (asks es)) (filter is_item es) c.in_ok-found.found (All-filter is_item below es on) c.in_ok-found.ensures

pub returns-then-is_empty-clause-comes : goal.returns-then-is_empty-clause-comes
returns-then-is_empty-clause-comes c =
    let none = none-is c.in_ok-found.found c.is_empty.result c.is_empty.ensures c.if-is_empty.true in
    IfOk-weaker c.all_targets.result _ _
    (λ o h. values-come (set_of c.args.pages.now) c.args.set c.in_ok-found.found o c.requires.elements c.requires.bases c.in_ok-found.ensures none h)
    c.all_targets.ensures.whole
