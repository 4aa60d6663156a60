use Rattle.std.proofs.Common.{◌≡◌, ◌==◌, ◌||◌, true, Some, option_map, suc, sym, ap, ◌∙◌, arith, get_or, if◌then◌else◌, refl}
use Rattle.page_constructs.specs.Constructs.{text_size}
use Rattle.page_constructs.proofs.SizeLaws.{goes-here, at-byte, at-end}
use Rattle.page_constructs.proofs.size.run.text_size.Goals as goal

pub returns-then-is_markup-clause-value : goal.returns-then-is_markup-clause-value
returns-then-is_markup-clause-value c =
    let is : (get_or c.args.text.now c.bytes.at 0 == 60 || get_or c.args.text.now c.bytes.at 0 == 38) ≡ true = sym c.is_markup.ensures ∙ c.if-is_markup.true in
    sym (goes-here text_size text_size c.args.text.now c.args.from c.bytes.at c.bytes.invariant
    ∙ at-byte text_size c.args.text.now c.bytes.at 0 c.bytes-test.true (λ cs. ap (λ b. if b then Some 0 else option_map suc (text_size cs)) is) ∙ ap Some (omega arith))

pub returns-clause-value : goal.returns-clause-value
returns-clause-value c =
    sym (goes-here text_size text_size c.args.text.now c.args.from c.bytes.at c.bytes.invariant ∙ at-end text_size c.args.text.now c.bytes.at refl c.bytes-test.false)
