use Rattle.std.proofs.Common.{◌∙◌, [], ap, subst, sym, List}
use Rattle.ix_base.specs.LocatedElements.{Located}
use Rattle.id_table.specs.Model.{Held}
use Rattle.page_links.specs.Choices.{HasChoices}
use Rattle.page_links.specs.Model.{names_with}
use Rattle.page_links.proofs.ChoiceLaws.{index-chosen}
use Rattle.targets.proofs.at_once.made_of.Goals as goal

pub closed-requires : goal.closed-requires
closed-requires c =
    let names = names_with c.args.pages.now [] in
    let index = c.choose_all.new.index in
    let same = c.in_ok-choose_all.ensures.spots.0 in
    let made = c.in_ok-index.ensures in record {
      spots = same ∙ ap (λ (h : Held). h.spots) made;
      unspent = c.in_ok-choose_all.ensures.spots.1 (ap (λ (h : Held). h.is_spent) made);
      chosen = index-chosen names index (subst (λ (es : List Located). HasChoices names es index) (sym same) c.in_ok-choose_all.ensures.choices);
      bases = c.in_ok-bases.ensures;
      sound = c.requires;
    }
