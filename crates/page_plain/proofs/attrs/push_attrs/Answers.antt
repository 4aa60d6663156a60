use Rattle.std.proofs.Common.{◌∷◌, subst, sym}
use Rattle.ix_base.specs.Spaces.{AreNumbered, space_of}
use Rattle.page_plain.proofs.NumberedLaws.{numbered_attr}
use Rattle.page_plain.proofs.attrs.push_attrs.Goals as goal

pub push_attr-requires : goal.push_attr-requires
push_attr-requires c = subst (λ a. AreNumbered (space_of a.name.now ∷ c.args.prefixes.now.spaces)) (sym c.attr-item.is)
    (numbered_attr c.args.prefixes.now.spaces c.args.attrs.now c.loop-attr.attr-index c.attr-item.result c.loop-attr-test.true c.requires)
