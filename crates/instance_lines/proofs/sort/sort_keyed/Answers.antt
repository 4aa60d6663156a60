use Rattle.std.proofs.Common.{◌≡◌, Bool, List, rules}
use Rattle.std.proofs.lemmas.List.Sorted.{answers_always, ranks_by}
use Rattle.std.proofs.lemmas.Cmp.{nat_list_cmp_total}
use Rattle.std.specs.Cmp.{IsStrictWeakOrder}
use Rattle.std.specs.Cmp.Lexicographic.{on_texts}
use Rattle.std.specs.List.Sorted.{IsSortedBy, IsStableBy}
use Rattle.std.specs.Ordering.{is_lt}
use Rattle.ix_base.specs.SortedLists.{sorted}
use Rattle.instance_lines.specs.Keys.{by_key}
use Rattle.instance_lines.specs.declared.sort.Keyed.{Keyed}
use Rattle.ix_base.proofs.StableLemmas.{stable_is_sorted}
use Rattle.instance_lines.proofs.sort.sort_keyed.Goals as goal

abbrev is_earlier : {T : Type 0} → Keyed T → Keyed T → Bool
is_earlier a b = is_lt (by_key a b)

strict : {T : Type 0} → IsStrictWeakOrder (is_earlier {T = T})
strict {T} = ranks_by nat_list_cmp_total (λ (x : Keyed T). x.key)

in_key_order : {T : Type 0} (xs ys : List (Keyed T)) → IsSortedBy is_earlier ys → IsStableBy is_earlier xs ys → ys ≡ sorted by_key xs
in_key_order {T} xs ys up stable = stable_is_sorted by_key (on_texts (λ (x : Keyed T). x.key)) xs ys up stable

pub returns-in-Ok : goal.returns-in-Ok
returns-in-Ok g c =
    in_key_order _ _
    (c.in-Ok.ensures.sorted is_earlier strict (answers_always _ _ _ (λ f a r h k. search rules)))
    (c.in-Ok.ensures.stable is_earlier strict (answers_always _ _ _ (λ f a r h k. search rules)))
