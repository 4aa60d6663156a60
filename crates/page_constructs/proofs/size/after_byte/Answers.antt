use Rattle.std.proofs.Common.{◌≡◌, ◌==◌, ◌∷◌, [], true, sym, ap, ◌∙◌, get_or, refl}
use Rattle.page_constructs.specs.Constructs.{after}
use Rattle.page_constructs.proofs.SizeLaws.{goes-here, at-byte, at-end}
use Rattle.page_constructs.proofs.SpanLaws.{is_same}
use Rattle.page_constructs.proofs.size.after_byte.Goals as goal

pub returns-then-text-at-clause-value : goal.returns-then-text-at-clause-value
returns-then-text-at-clause-value c =
    let end = c.args.end in
    let is : (get_or c.args.text.now c.bytes.at 0 == end) ≡ true = ap (λ b. b == end) c.if-text-at.true ∙ is_same end in
    sym (goes-here (after (end ∷ [])) (after (end ∷ [])) c.args.text.now c.args.from c.bytes.at c.bytes.invariant
    ∙ at-byte (after (end ∷ [])) c.args.text.now c.bytes.at 1 c.bytes-test.true (λ cs. rw is refl))

pub returns-clause-value : goal.returns-clause-value
returns-clause-value c =
    sym (goes-here (after (c.args.end ∷ [])) (after (c.args.end ∷ [])) c.args.text.now c.args.from c.bytes.at c.bytes.invariant
    ∙ at-end (after (c.args.end ∷ [])) c.args.text.now c.bytes.at refl c.bytes-test.false)
