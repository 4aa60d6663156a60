use Rattle.std.proofs.Common.{◌≡◌, ◌∙◌, ap, arith, sym, false, length, option_map, Option, List, ℕ}
use Rattle.std.specs.Borrow.{Bor}
use Rattle.std.specs.Option.{option_map_or}
use Rattle.ix_base.specs.Ids.{holds_id}
use Rattle.ix_base.specs.LocatedElements.{Located, is_text}
use Rattle.id_table.specs.Tables.{all_located, chain_spots}
use Rattle.continuations.proofs.Numbering.{count-elements, element-at, none-at}
use Rattle.continuations.proofs.numbers.has_id.Goals as goal

pub returns-in-Some : goal.returns-in-Some
returns-in-Some c =
    let e = c.index-elements-number.result in
    c.eq.ensures
    ∙ ap (is_text c.args.id.now) (sym (ap (option_map (λ (s : Bor (List ℕ)). s.now)) c.in-Some.is) ∙ e.has_id)
    ∙ sym (ap (λ (o : Option Located). option_map_or (holds_id c.args.id.now) o false)
    (element-at c.args.elements.now c.args.number e c.if-number-elements.false c.index-elements-number.is))

pub returns-in-None : goal.returns-in-None
returns-in-None c =
    let e = c.index-elements-number.result in
    ap (is_text c.args.id.now) (sym (ap (option_map (λ (s : Bor (List ℕ)). s.now)) c.in-None.is) ∙ e.has_id)
    ∙ sym (ap (λ (o : Option Located). option_map_or (holds_id c.args.id.now) o false)
    (element-at c.args.elements.now c.args.number e c.if-number-elements.false c.index-elements-number.is))

pub returns-then-number-elements : goal.returns-then-number-elements
returns-then-number-elements c =
    let many : length (all_located (chain_spots c.args.elements.now)) ≡ length c.args.elements.now = count-elements c.args.elements.now in
    sym (ap (λ (o : Option Located). option_map_or (holds_id c.args.id.now) o false)
    (none-at (all_located (chain_spots c.args.elements.now)) c.args.number (omega (arith, many, c.if-number-elements.true))))
