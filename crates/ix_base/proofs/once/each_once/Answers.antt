use Rattle.std.proofs.Common.{sym}
use Rattle.std.proofs.lemmas.Cmp.{nat_list_cmp_total}
use Rattle.std.proofs.lemmas.List.Filters.{dedup_is}
use Rattle.std.proofs.lemmas.Map.Text.{is_eq-slice_cmp}
use Rattle.ix_base.specs.SortedLists.{text_cmp}
use Rattle.ix_base.proofs.OnceOrdered.{once_in_order, same_text}
use Rattle.ix_base.proofs.once.each_once.Goals as goal

pub returns : goal.returns
returns c =
    once_in_order (λ x. x.now) text_cmp nat_list_cmp_total same_text _ (λ x y. sym (is_eq-slice_cmp x.now y.now))
    c.args.texts.now.items c.sort_unstable.new.self.items c.dedup.new.self.items
    c.sort_unstable.ensures.permutation c.sort_unstable.ensures.sorted (dedup_is _ _ _ c.dedup.ensures.filtered)
