use Rattle.std.proofs.Common.{◌≡◌, ◌∙◌, ap, arith, length, subst, sym}
use Rattle.std.specs.List.{range_with_len}
use Rattle.std.specs.List.Sorted.{IsPermutation}
use Rattle.ix_base.specs.SortedLists.{sorted}
use Rattle.instance_lines.specs.Arrangement.{by_line}
use Rattle.instance_lines.specs.Elements.{fact_line, fact_markup, ordered_lines}
use Rattle.instance_lines.specs.Numbering.{numbers_by}
use Rattle.instance_lines.proofs.NumberLaws.{numbers-moved, sorted-by_numbers}
use Rattle.instance_lines.proofs.arrangement.put_facts_by_line.Goals as goal

pub put_in_order-requires : goal.put_in_order-requires
put_in_order-requires c =
    let key = fact_line c.args.prefixes.now in
    let items = c.into_vec-items.ensures ∙ c.replace.ensures.value in
    let all : length c.into_vec-items.result.items ≡ c.into_vec-items.result.len = omega arith in
    subst (λ n. IsPermutation (range_with_len 0 n) c.in_ok-lines.numbers.items) (ap length (sym items) ∙ all)
    (rw (c.in_ok-lines.ensures.numbers, c.as_slice.ensures) (numbers-moved key c.args.facts.now))

pub returns-clause-facts : goal.returns-clause-facts
returns-clause-facts c =
    let key = fact_line c.args.prefixes.now in
    let items = c.into_vec-items.ensures ∙ c.replace.ensures.value in
    c.of.ensures
    ∙ sorted-by_numbers key c.into_vec-items.result.items c.put_in_order.new.things.items c.in_ok-lines.numbers.items
    (c.in_ok-lines.ensures.numbers ∙ ap (numbers_by key) (c.as_slice.ensures ∙ sym items)) c.in_ok-put_in_order.ensures
    ∙ ap (sorted (by_line (fact_markup c.args.prefixes.now))) items

pub returns-clause-lines : goal.returns-clause-lines
returns-clause-lines c = c.of-2.ensures ∙ c.in_ok-lines.ensures.lines ∙ ap (ordered_lines c.args.prefixes.now) c.as_slice.ensures
