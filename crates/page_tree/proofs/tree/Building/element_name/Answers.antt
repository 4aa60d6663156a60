use Rattle.std.proofs.Common.{ap, flat_map, subst, sym}
use Rattle.ix_base.specs.Spaces.{spaces_bound}
use Rattle.page_tree.specs.Spaces.{HasNumber, HaveNumbers}
use Rattle.page_tree.specs.Stacks.{spaces_open}
use Rattle.page_tree.specs.declared.tree.Building.{Building}
use Rattle.page_tree.proofs.BuiltLaws.{all-left}
use Rattle.page_tree.proofs.NumberLaws.{becomes-numbered}
use Rattle.page_tree.proofs.tree.Building.element_name.Goals as goal

pub returns-in_err-scope-clause-becomes : goal.returns-in_err-scope-clause-becomes
returns-in_err-scope-clause-becomes c =
    becomes-numbered c.args.setting.now.page c.args.self.now c.element_scope.new.self c.element_scope.ensures.same c.element_scope.ensures.kept

pub returns-in_err-expand-clause-becomes : goal.returns-in_err-expand-clause-becomes
returns-in_err-expand-clause-becomes c =
    let so = becomes-numbered c.args.setting.now.page c.args.self.now c.element_scope.new.self c.element_scope.ensures.same c.element_scope.ensures.kept in record {
      state = so.state;
      on_page = λ all. record { pages = (so.on_page all).pages; spaces = (so.on_page all).spaces };
    }

pub returns-clause-becomes : goal.returns-clause-becomes
returns-clause-becomes c =
    let so = becomes-numbered c.args.setting.now.page c.args.self.now c.element_scope.new.self c.element_scope.ensures.same c.element_scope.ensures.kept in record {
      state = so.state;
      on_page = λ all. record { pages = (so.on_page all).pages; spaces = (so.on_page all).spaces };
    }

pub returns-clause-spaces : goal.returns-clause-spaces
returns-clause-spaces c = λ on.
    let numbers = c.element_scope.new.self.spaces.numbers in
    subst (λ s. HaveNumbers numbers (spaces_bound s)) (sym c.element_name.ensures.scope)
    (c.in_ok-scope.ensures.spaces (subst (λ os. HaveNumbers numbers (flat_map spaces_open os)) (ap (λ (x : Building). x.elements.items) c.element_scope.ensures.same)
    (all-left (HasNumber numbers) (flat_map spaces_open c.element_scope.new.self.elements.items) _ on.spaces)))
