-- Small contents can be written.
use Rattle.std.proofs.Common.{◌≡◌, ◌∙◌, ap, sym, subst, [], ◌∷◌, arith}
use Rattle.std.specs.Prelude.{All}
use Rattle.std.proofs.lemmas.List.Elements.{All-from_recursion}
use Rattle.ix_base.specs.declared.content.Content.{Content}
use Rattle.ix_base.specs.declared.content.Context.{Context}
use Rattle.ix_base.specs.declared.content.Fact.TheVariants as fact
use Rattle.ix_base.specs.declared.content.Item.{Item}
use Rattle.ix_base.specs.Facts.{none, facts_of}
use Rattle.ix_base.proofs.FactLaws.{before-Item}
use Rattle.instance_lines.specs.Writable.{IsTimely, IsWritable, depth}

-- a content of one context and one item
pub one_item-writable : (c : Content) (x : Context) (i : Item) → c.contexts ≡ x ∷ [] → c.facts ≡ fact.Item i ∷ [] → IsTimely x.period → IsWritable c
one_item-writable c x i contexts facts timely =
    let flat : depth (facts_of c.facts) ≡ 0 = ap (λ fs. depth (facts_of fs)) facts ∙ ap depth (before-Item i none) in
    record {
      times = subst (All (λ (y : Context). IsTimely y.period)) (sym contexts) (All-from_recursion (λ (y : Context). IsTimely y.period) (x ∷ []) (timely, tt));
      tuples = omega (arith, flat);
    }
