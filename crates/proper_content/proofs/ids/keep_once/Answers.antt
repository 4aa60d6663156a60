use Rattle.std.proofs.Common.{◌∙◌, ◌+◌, ap, get_or, sym}
use Rattle.std.specs.Ordering.{is_lt}
use Rattle.std.proofs.lemmas.List.Filters.{dedup_is}
use Rattle.proper_content.proofs.NoteLaws.{kept_once, keys_cmp, keys_eq}
use Rattle.proper_content.proofs.ids.keep_once.Goals as goal

pub returns : goal.returns
returns c =
    let zs = c.sort_unstable.new.self.items in
    kept_once _ c.args.notes.now.items zs c.dedup.new.self.items keys_eq c.sort_unstable.ensures.permutation
    (λ k d low high. ap is_lt (sym (keys_cmp (get_or zs (k + 1) d) (get_or zs k d))) ∙ c.sort_unstable.ensures.sorted k d low high)
    (dedup_is _ _ _ c.dedup.ensures.filtered)
