use Rattle.std.proofs.Common.{◌≡◌, ◌==◌, ◌||◌, true, false, Some, option_map, suc, sym, ap, ◌∙◌, arith, get_or, if◌then◌else◌, refl}
use Rattle.ix_base.specs.NcName.{is_white}
use Rattle.page_constructs.specs.Constructs.{reference_size}
use Rattle.page_constructs.proofs.SizeLaws.{goes-here, at-byte, at-end, same-number, other-number}
use Rattle.page_constructs.proofs.size.run.reference_size.Goals as goal

pub returns-then-text-at-eq59-clause-value : goal.returns-then-text-at-eq59-clause-value
returns-then-text-at-eq59-clause-value c =
    let b = get_or c.args.text.now c.bytes.at 0 in
    let is : (b == 59) ≡ true = same-number b 59 c.if-text-at-eq59.true in
    sym (goes-here reference_size reference_size c.args.text.now c.args.from c.bytes.at c.bytes.invariant
    ∙ at-byte reference_size c.args.text.now c.bytes.at 1 c.bytes-test.true
    (λ cs. ap (λ t. if t then Some 1 else (if is_white b || b == 60 || b == 38 then Some 0 else option_map suc (reference_size cs))) is))

pub returns-then-ends_reference-clause-value : goal.returns-then-ends_reference-clause-value
returns-then-ends_reference-clause-value c =
    let b = get_or c.args.text.now c.bytes.at 0 in
    let isnt : (b == 59) ≡ false = other-number b 59 c.if-text-at-eq59.false in
    let is : (is_white b || b == 60 || b == 38) ≡ true = sym c.ends_reference.ensures ∙ c.if-ends_reference.true in
    sym (goes-here reference_size reference_size c.args.text.now c.args.from c.bytes.at c.bytes.invariant
    ∙ at-byte reference_size c.args.text.now c.bytes.at 0 c.bytes-test.true
    (λ cs. ap (λ t. if t then Some 1 else (if is_white b || b == 60 || b == 38 then Some 0 else option_map suc (reference_size cs))) isnt
    ∙ ap (λ t. if t then Some 0 else option_map suc (reference_size cs)) is) ∙ ap Some (omega arith))

pub returns-clause-value : goal.returns-clause-value
returns-clause-value c =
    sym (goes-here reference_size reference_size c.args.text.now c.args.from c.bytes.at c.bytes.invariant ∙ at-end reference_size c.args.text.now c.bytes.at refl c.bytes-test.false)
