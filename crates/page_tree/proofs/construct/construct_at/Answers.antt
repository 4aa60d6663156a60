use Rattle.std.proofs.Common.{◌∙◌, sym, ap}
use Rattle.page_constructs.specs.Searches.{found}
use Rattle.page_tree.proofs.AtLaws.{at-end, at-found, at-nowhere}
use Rattle.page_tree.proofs.construct.construct_at.Goals as goal

pub returns-then-is_empty : goal.returns-then-is_empty
returns-then-is_empty c = at-end c.args.bytes.now c.args.from c.behind_first-rest.result.now c.requires.unbroken c.behind_first-rest.ensures (sym c.is_empty.ensures ∙ c.if-is_empty.true)

pub returns-in-At : goal.returns-in-At
returns-in-At c =
    at-found c.args.bytes.now c.args.from c.behind_first-rest.result.now c.is_front-first.result c.in-At.size c.kind_of.result
    (record { unbroken = c.requires.unbroken; stands = c.requires.stands; rest_is = c.behind_first-rest.ensures; first_is = c.is_front-first.ensures })
    (sym c.is_empty.ensures ∙ c.if-is_empty.false) (sym (ap found c.in-At.is) ∙ c.whole_size.ensures.value)
    c.kind_of.ensures

pub returns-in-Beyond : goal.returns-in-Beyond
returns-in-Beyond c =
    at-nowhere c.args.bytes.now c.args.from c.behind_first-rest.result.now c.is_front-first.result
    (record { unbroken = c.requires.unbroken; stands = c.requires.stands; rest_is = c.behind_first-rest.ensures; first_is = c.is_front-first.ensures })
    (sym c.is_empty.ensures ∙ c.if-is_empty.false) (sym (ap found c.in-Beyond.is) ∙ c.whole_size.ensures.value)
