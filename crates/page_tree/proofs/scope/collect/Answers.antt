use Rattle.std.proofs.Common.{◌∙◌, ◌+◌, sym, ap, map, option_map, drop}
use Rattle.std.specs.List.{filter_map}
use Rattle.page_tree.specs.Orders.{bound_under, entered}
use Rattle.page_tree.specs.Tags.{binding_of}
use Rattle.page_constructs.specs.Model.{attribute_of}
use Rattle.page_tree.specs.Expansions.{declared}
use Rattle.page_tree.proofs.ScopeLaws.{declared-next, declared-past}
use Rattle.page_tree.proofs.scope.collect.Goals.{in-Some+in_ok-insert, in_default}
use Rattle.page_tree.proofs.scope.collect.Goals as goal

pub loop-attr-preserved : goal.loop-attr-preserved
loop-attr-preserved c =
    let all = c.args.attrs.now in
    let i = c.loop-attr.attr-index in
    let r = bound_under (map entered c.args.declared.now.entries) (filter_map binding_of (map attribute_of all)) in
    elim c.match-declaration_of.branch [
      | in-Some+in_ok-insert w ↦
          ap (λ m. bound_under (map entered m.entries) (filter_map binding_of (map attribute_of (drop (i + 1) all)))) w.declared-is
          ∙ declared-next all i c.attr-item.result r c.attr-item.is c.loop-attr-test.true c.loop-attr.declared.entries w.insert.new.self.entries w.in-Some.declaration.prefix w.in-Some.declaration.ns w.in_ok-insert.ensures.entries
          (ap (option_map declared) (sym w.in-Some.is) ∙ c.declaration_of.ensures) c.loop-attr.invariant
      | in_default w ↦
          ap (λ m. bound_under (map entered m.entries) (filter_map binding_of (map attribute_of (drop (i + 1) all)))) w.declared-is
          ∙ declared-past all i c.attr-item.result r c.attr-item.is c.loop-attr-test.true c.loop-attr.declared.entries (ap (option_map declared) (sym w.in_default.is) ∙ c.declaration_of.ensures) c.loop-attr.invariant
    ]
