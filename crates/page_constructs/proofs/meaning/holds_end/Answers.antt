use Rattle.std.proofs.Common.{◌≡◌, ◌∷◌, [], false, sym, ap, ◌∙◌}
use Rattle.page_constructs.specs.Forms.{has}
use Rattle.page_constructs.proofs.Around.{ends-none}
use Rattle.page_constructs.proofs.meaning.holds_end.Goals as goal

pub returns-else-contains : goal.returns-else-contains
returns-else-contains c =
    let none : has 62 c.args.text.now ≡ false = ap (has 62) (sym c.as_bytes.ensures.value) ∙ sym c.contains.ensures.value ∙ c.if-contains.false in
    c.if-contains.false ∙ sym (ends-none 62 (93 ∷ 93 ∷ []) c.args.text.now none)
