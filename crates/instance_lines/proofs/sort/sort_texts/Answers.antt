use Rattle.std.proofs.Common.{Bool, List, ℕ, rules}
use Rattle.std.proofs.lemmas.List.Sorted.{answers_always, ranks_by}
use Rattle.std.proofs.lemmas.Cmp.{nat_list_cmp_total}
use Rattle.std.specs.Cmp.{IsStrictWeakOrder}
use Rattle.std.specs.Ordering.{is_lt}
use Rattle.ix_base.specs.SortedLists.{text_cmp}
use Rattle.instance_lines.proofs.Sorting.{sorted_texts}
use Rattle.instance_lines.proofs.sort.sort_texts.Goals as goal

abbrev is_earlier : List ℕ → List ℕ → Bool
is_earlier a b = is_lt (text_cmp a b)

strict : IsStrictWeakOrder is_earlier
strict = ranks_by nat_list_cmp_total (λ (x : List ℕ). x)

pub returns : goal.returns
returns c =
    sorted_texts _ _ c.sort_unstable_by.ensures.permutation
    (c.sort_unstable_by.ensures.sorted is_earlier strict (answers_always _ _ _ (λ f a r g h. search rules)))
