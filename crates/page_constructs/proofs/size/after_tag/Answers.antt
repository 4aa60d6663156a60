use Rattle.std.proofs.Common.{◌≡◌, ◌==◌, ◌&&◌, true, is_none, sym, ◌∙◌, get_or}
use Rattle.page_constructs.specs.Constructs.{after_tag}
use Rattle.page_constructs.proofs.SizeLaws.{goes-here, past-byte, at-byte, at-end, tag-ends, tag-none}
use Rattle.page_constructs.proofs.size.after_tag.Goals as goal

pub returns-then-ends_tag-clause-value : goal.returns-then-ends_tag-clause-value
returns-then-ends_tag-clause-value c =
    let b = get_or c.args.text.now c.bytes.at 0 in
    let is : (is_none c.bytes.quote && (b == 62)) ≡ true = sym c.ends_tag.ensures ∙ c.if-ends_tag.true in
    sym (goes-here (after_tag c.args.from.quote) (after_tag c.bytes.quote) c.args.text.now c.args.from.at c.bytes.at c.bytes.invariant
    ∙ at-byte (after_tag c.bytes.quote) c.args.text.now c.bytes.at 1 c.bytes-test.true (tag-ends c.bytes.quote b is))

pub bytes-preserved : goal.bytes-preserved
bytes-preserved c = λ more.
    c.bytes.invariant more ∙ past-byte (after_tag c.bytes.quote) (after_tag c.quote_behind-quote.result) c.args.text.now c.bytes.at c.bytes-test.true (λ cs. c.quote_behind-quote.ensures cs) more
    ∙ c.next_turn-at.ensures.goes more

pub returns-clause-value : goal.returns-clause-value
returns-clause-value c =
    sym (goes-here (after_tag c.args.from.quote) (after_tag c.bytes.quote) c.args.text.now c.args.from.at c.bytes.at c.bytes.invariant ∙ at-end (after_tag c.bytes.quote) c.args.text.now c.bytes.at (tag-none c.bytes.quote) c.bytes-test.false)
