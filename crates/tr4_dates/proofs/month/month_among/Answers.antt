use Rattle.std.proofs.Common.{sym, ◌∙◌, chars, true≢false}
use Rattle.caseless.specs.Caseless.{canonical_key}
use Rattle.tr4_dates.proofs.CodeLemmas.{month_here, month_later}
use Rattle.tr4_dates.proofs.month.month_among.Goals as goal

pub returns-then-branch : goal.returns-then-branch
returns-then-branch c =
    let same = c.in_ok-canonical_caseless_match_str.ensures.value.0 c.if-branch.true in
    let key = canonical_key (chars c.args.text.now) in
    let here = month_here c.args.rows.now c.loop-name.name-index _ key c.loop-name-test.true same in
    sym (c.loop-name.invariant ∙ here)

pub loop-name-preserved : goal.loop-name-preserved
loop-name-preserved c =
    let key = canonical_key (chars c.args.text.now) in
    let match = c.in_ok-canonical_caseless_match_str.ensures.value in
    let later =
    month_later c.args.rows.now c.loop-name.name-index _ key c.loop-name-test.true
    (λ same. true≢false (sym (match.1 same) ∙ c.if-branch.false)) in
    c.loop-name.invariant ∙ later
