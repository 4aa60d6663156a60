use Rattle.std.proofs.Common.{◌<◌, get_or, length, sym, ◌∙◌, subst}
use Rattle.std.proofs.lemmas.Str.{IsCharBoundary-after_ascii}
use Rattle.std.specs.Str.{IsUtf8}
use Rattle.ix_base.proofs.WhiteLemmas.{white_low}
use Rattle.ix_base.proofs.white.trim_start.Goals as goal

-- behind a byte of white space a character begins
pub range_from-text-requires : goal.range_from-text-requires
range_from-text-requires c =
    let same = c.as_bytes.ensures.value in
    λ _. IsCharBoundary-after_ascii c.loop-first.text.now 0 (subst IsUtf8 same c.as_bytes.ensures.utf8)
    (subst (λ t. 0 < length t) same c.in-len1-up.len_at_least)
    (subst (λ t. get_or t 0 0 < 128) same (white_low _ (sym c.is_white.ensures ∙ c.if-is_white.true)))
