use Rattle.std.proofs.Common.{rules, ◌∙◌, ap, sym, map, refl}
use Rattle.std.proofs.lemmas.List.Sorted.{answers_always, ranks_by}
use Rattle.std.proofs.lemmas.Cmp.{nat_list_cmp_total}
use Rattle.std.specs.Cmp.{IsStrictWeakOrder}
use Rattle.std.specs.Cmp.Lexicographic.{on_texts}
use Rattle.ix_base.specs.Markup.{attribute_cmp}
use Rattle.ix_base.proofs.StableLemmas.{stable_is_sorted, sorted-map}
use Rattle.escape_text.specs.OwnedAttributes.{own, own_cmp, is_earlier}
use Rattle.escape_text.specs.declared.attributes.Own.{Own}
use Rattle.escape_text.proofs.attributes.sort_owns.Goals as goal

strict : IsStrictWeakOrder is_earlier
strict = ranks_by nat_list_cmp_total (λ (o : Own). o.name)

pub returns-in-Ok : goal.returns-in-Ok
returns-in-Ok c =
    ap (map own) (stable_is_sorted own_cmp (on_texts (λ (o : Own). o.name)) _ _
    (c.in-Ok.ensures.sorted is_earlier strict (answers_always _ _ _ (λ f a r g h. search rules)))
    (c.in-Ok.ensures.stable is_earlier strict (answers_always _ _ _ (λ f a r g h. search rules))))
    ∙ sym (sorted-map own_cmp attribute_cmp own (λ x y. refl) c.args.owns.now.items)
