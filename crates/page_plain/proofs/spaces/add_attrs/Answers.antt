use Rattle.std.proofs.Common.{◌∙◌, ◌&&◌, Bool, not, ap, sym}
use Rattle.std.specs.BTreeMap.{insert_entry}
use Rattle.std.specs.Ordering.{nat_cmp}
use Rattle.ix_base.specs.Trees.{valued}
use Rattle.ix_base.specs.declared.tree.Attr.{Attr}
use Rattle.page_plain.specs.Bare.{is_inline, needs_prefix}
use Rattle.page_plain.specs.SpaceNumbers.{spaces_met}
use Rattle.page_plain.proofs.MetLaws.{attr-left, attr-put}
use Rattle.page_plain.proofs.spaces.add_attrs.Goals as goal
use Rattle.page_plain.proofs.spaces.add_attrs.Goals.{then-is_prefixed+in_ok-insert, else-is_prefixed}

-- an attribute that shows a namespace which needs a prefix
abbrev is_counted : Attr → Bool
is_counted a = not (is_inline (valued a).name) && needs_prefix (valued a).name.ns

pub loop-attr-preserved : goal.loop-attr-preserved
loop-attr-preserved c = elim c.if-is_prefixed.branch [
  | then-is_prefixed+in_ok-insert w ↦ attr-put c.args.attrs.now c.loop-attr.attr-index c.attr-item.result (spaces_met c.args.met.now) c.loop-attr.met
      c.if-is_prefixed.met _ c.loop-attr-test.true (sym (ap is_counted c.attr-item.is) ∙ sym c.is_prefixed.ensures ∙ w.if-is_prefixed.true)
      (ap (λ m. m.entries) w.met-is ∙ w.in_ok-insert.ensures.entries
      ∙ ap (λ (a : Attr). insert_entry nat_cmp c.loop-attr.met.entries a.name.now.number a.name.now.ns) c.attr-item.is)
      c.requires c.loop-attr.invariant
  | else-is_prefixed w ↦ attr-left c.args.attrs.now c.loop-attr.attr-index c.attr-item.result (spaces_met c.args.met.now) (spaces_met c.loop-attr.met)
      (spaces_met c.if-is_prefixed.met) _ c.loop-attr-test.true
      (sym (ap is_counted c.attr-item.is) ∙ sym c.is_prefixed.ensures ∙ w.if-is_prefixed.false) (ap spaces_met w.met-is) c.loop-attr.invariant
]
