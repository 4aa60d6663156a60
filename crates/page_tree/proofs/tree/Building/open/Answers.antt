use Rattle.std.proofs.Common.{◌≡◌, ◌++◌, ◌∷◌, ◌∙◌, [], rules, sym, subst, option_map, string_bytes}
use Rattle.std.specs.Borrow.{Bor}
use Rattle.ix_base.specs.Trees.{tree_of}
use Rattle.ix_base.specs.declared.tree.Element.{Element}
use Rattle.page_tree.specs.Buildings.{state_of}
use Rattle.ix_base.specs.Elements.{pages_of}
use Rattle.ix_base.specs.Spaces.{spaces_of}
use Rattle.page_tree.specs.Spaces.{HasNumber, HaveNumbers}
use Rattle.page_tree.specs.Stacks.{frames_of, pages_built, pages_open, spaces_built, spaces_open, AreAll}
use Rattle.page_tree.specs.declared.spaces.Spaces.{Spaces}
use Rattle.page_constructs.specs.Model.{tag_of}
use Rattle.page_tree.proofs.BuiltLaws.{open-built}
use Rattle.page_tree.proofs.PageNumbers.{all-one}
use Rattle.page_tree.proofs.Spelled.{st}
use Rattle.page_tree.proofs.StateLaws.{opening-is}
use Rattle.page_tree.proofs.tree.Building.open.Goals as goal

pub returns : goal.returns
returns c =
    let page = c.args.setting.now.page in
    let b = c.args.self.now in
    let s = state_of b in
    let o = c.in_ok-element.element in
    let mid = c.begin.new.self.elements.items in
    let more = c.push.new.self.items in
    let pushed : more ≡ mid ++ o ∷ [] = search rules in
    let rest = c.in_ok-element.ensures.rest in
    record {
      state = (λ i. st (frames_of more) (string_bytes c.begin.new.self.text) (option_map (λ (e : Bor Element). tree_of e.now) (rest.0 i)) (rest.1 i))
          ∙ opening-is s (tag_of c.args.tag.now) mid more o _ pushed c.in_ok-element.ensures.flushed.0 c.in_ok-element.ensures.frame c.in_ok-element.ensures.flushed.1;
      on_page = λ all. record {
        pages = subst (λ r. AreAll page (pages_built more r)) (sym rest.0)
            (open-built pages_of pages_open (λ p. p ≡ page) b.elements.items mid more o b.root c.in_ok-element.ensures.on_page pushed (all-one page (pages_open o) c.in_ok-element.ensures.pages) all.pages);
        spaces = subst (λ (t : Spaces). HaveNumbers t.numbers (spaces_built more c.begin.new.self.root)) (sym rest.2)
            (subst (λ r. HaveNumbers b.spaces.numbers (spaces_built more r)) (sym rest.0)
            (open-built spaces_of spaces_open (HasNumber b.spaces.numbers) b.elements.items mid more o b.root c.in_ok-element.ensures.spaces pushed
            (c.in_ok-element.ensures.own_spaces c.requires.from b.spaces.numbers (c.requires.spaces all)) all.spaces));
      };
    }
