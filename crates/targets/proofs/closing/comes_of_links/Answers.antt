use Rattle.std.proofs.Common.{◌≡◌, All, List, [], ap, map, subst, sym, true}
use Rattle.std.specs.Borrow.{Bor}
use Rattle.ix_base.specs.declared.rule.Rule.TheVariants as rule
use Rattle.ix_base.specs.LinkRules.{breaking}
use Rattle.ix_base.specs.LocatedElements.{Located, base_in}
use Rattle.id_table.specs.Model.{Held}
use Rattle.scopes.specs.Model.{Kept}
use Rattle.tuples.specs.OrderNumbers.{fits}
use Rattle.page_links.specs.Model.{as_paged}
use Rattle.targets.proofs.ComesLaws.{faults-are, is-linked, keeps-on, none-deep, none-same}
use Rattle.target_contents.proofs.FitLaws.{all-fit}
use Rattle.targets.proofs.closing.comes_of_links.Goals as goal

pub link_all-requires-clause-fits : goal.link_all-requires-clause-fits
link_all-requires-clause-fits c =
    subst (λ (es : List Located). All (λ e. fits e ≡ true) es) (sym c.requires.keeps.spots) (all-fit (map as_paged c.args.pages.now.pages.now) c.requires.sound)

pub link_all-requires-clause-chosen : goal.link_all-requires-clause-chosen
link_all-requires-clause-chosen c = c.requires.keeps.chosen

pub link_all-requires-clause-pages : goal.link_all-requires-clause-pages
link_all-requires-clause-pages c = keeps-on _ _ _ _ c.requires.keeps

pub comes_of_linked-requires-clause-faults : goal.comes_of_linked-requires-clause-faults
comes_of_linked-requires-clause-faults c = faults-are _ _ _ _ c.link_all.new.found c.requires.keeps c.in_ok-linked.ensures.faults

pub comes_of_linked-requires-clause-linked : goal.comes_of_linked-requires-clause-linked
comes_of_linked-requires-clause-linked c = λ none. (
  is-linked c.in_ok-linked.linked _ _ _ _ c.requires.keeps (ap (λ (b : Bor Held). b.now) c.in_ok-linked.ensures.keeps.0)
      (ap (λ (b : Bor Kept). b.now) c.in_ok-linked.ensures.keeps.1) (c.in_ok-linked.ensures.chains none)
      c.in_ok-linked.ensures.ties.0 c.in_ok-linked.ensures.ties.1 c.in_ok-linked.ensures.seen_roles
      c.in_ok-linked.ensures.named,
  subst (λ (b : Bor Held). breaking rule.L9 b.now.spots ≡ []) (sym c.in_ok-linked.ensures.keeps.0)
      (none-deep (base_in c.args.pages.now.bases.now.pages) c.args.pages.now.index.now.spots
      (none-same c.link_all.new.found _ c.in_ok-linked.ensures.faults none)),
)
