use Rattle.std.proofs.Common.{◌≡◌, ◌++◌, ◌∷◌, [], ◌∙◌, ap, rules, subst, sym, option_map, Option, string_bytes}
use Rattle.std.specs.Borrow.{Bor}
use Rattle.ix_base.specs.Elements.{pages_of}
use Rattle.ix_base.specs.Trees.{Tree, tree_of}
use Rattle.ix_base.specs.declared.tree.Element.{Element}
use Rattle.page_tree.specs.Buildings.{state_of}
use Rattle.ix_base.specs.Spaces.{spaces_of}
use Rattle.page_tree.specs.Spaces.{HasNumber, HaveNumbers}
use Rattle.page_tree.specs.Machine.{closing}
use Rattle.page_tree.specs.Stacks.{AreAll, frames_of, pages_built, pages_open, spaces_built, spaces_open}
use Rattle.page_tree.proofs.BuiltLaws.{fewer-built, last-built, same-built}
use Rattle.page_tree.proofs.PageNumbers.{all-same}
use Rattle.page_tree.proofs.StateLaws.{closing-is, flushed-none, some-last}
use Rattle.page_tree.proofs.tree.Building.close.Goals as goal

pub returns : goal.returns
returns c =
    let page = c.args.setting.now.page in
    let b = c.args.self.now in
    let s = state_of b in
    let os = b.elements.items in
    let mid = c.flush_innermost.new.elements.items in
    let rest = c.pop.new.self.items in
    let own = c.in-Some.own in
    let flushed = c.in_ok-flush_innermost.ensures in
    let split : mid ≡ rest ++ own ∷ [] = search rules in
    let root : Option Tree = option_map (λ (e : Bor Element). tree_of e.now) c.put.new.root in
    record {
      state = closing-is s rest mid own (tree_of c.in_ok-element.element.now) (frames_of c.put.new.elements.items) _ root split
          flushed.frames c.in_ok-element.ensures.tree (c.in_ok-put.ensures.state s.doctyped) (flushed.text (λ e. some-last rest own (sym split ∙ e)));
      on_page = λ all.
          let numbers = b.spaces.numbers in
          let pages = same-built pages_of pages_open (λ p. p ≡ page) os mid b.root flushed.pages all.pages in
          let spaces = same-built spaces_of spaces_open (HasNumber numbers) os mid b.root flushed.spaces all.spaces in
          let one = all-same page (pages_of c.in_ok-element.element.now) (pages_open own) c.in_ok-element.ensures.pages
          (last-built pages_of pages_open (λ p. p ≡ page) mid rest own b.root split pages) in
          let named = subst (HaveNumbers numbers) (sym c.in_ok-element.ensures.spaces)
          (last-built spaces_of spaces_open (HasNumber numbers) mid rest own b.root split spaces) in
          record {
            pages = c.in_ok-put.ensures.pages page one (fewer-built pages_of pages_open (λ p. p ≡ page) mid rest own b.root split pages);
            spaces = c.in_ok-put.ensures.spaces numbers named (fewer-built spaces_of spaces_open (HasNumber numbers) mid rest own b.root split spaces);
          };
    }

pub returns-in_default : goal.returns-in_default
returns-in_default c =
    let page = c.args.setting.now.page in
    let b = c.args.self.now in
    let s = state_of b in
    let os = b.elements.items in
    let mid = c.flush_innermost.new.elements.items in
    let flushed = c.in_ok-flush_innermost.ensures in
    let none : mid ≡ [] = search rules in
    let same : c.pop.new.self.items ≡ mid = search rules in
    let outside : frames_of os ≡ [] = flushed-none (frames_of os) s.text (sym flushed.frames ∙ ap frames_of none) in
    record {
      state = (λ i. record s { frames = frames_of (same i); text = string_bytes (flushed.none none i) })
          ∙ (λ i. record s { frames = frames_of (none i) })
          ∙ (λ i. record s { frames = sym outside i })
          ∙ sym (ap (λ fs. closing fs s) outside);
      on_page = λ all. record {
        pages = subst (λ l. AreAll page (pages_built l b.root)) (sym same) (same-built pages_of pages_open (λ p. p ≡ page) os mid b.root flushed.pages all.pages);
        spaces = subst (λ l. HaveNumbers b.spaces.numbers (spaces_built l b.root)) (sym same)
            (same-built spaces_of spaces_open (HasNumber b.spaces.numbers) os mid b.root flushed.spaces all.spaces);
      };
    }
