use Rattle.std.proofs.Common.{◌∙◌, ap, sym, true, ◌&&◌, length, eqb}
use Rattle.ix_base.specs.Facts.{before, none, facts_of}
use Rattle.ix_base.proofs.FactLaws.{before-Tuple}
use Rattle.instance_out.specs.Proper.{is_none_nil, nil_is_empty}
use Rattle.proper_content.proofs.FactLaws.{nil_members}
use Rattle.proper_content.proofs.tuples.+empty.Goals as goal

pub is_nil_empty-returns-then-tuple : goal.is_nil_empty-returns-then-tuple
is_nil_empty-returns-then-tuple t c =
    let members = c.in-Tuple.tuple.members in
    c.is_empty.ensures ∙ ap (λ l. eqb (length l) 0) c.as_slice-members.ensures ∙ sym (nil_members members)
    ∙ ap (λ b. is_none_nil b (facts_of members) && nil_is_empty (facts_of members) && true) (sym c.if-tuple.true)
    ∙ ap nil_is_empty (sym (before-Tuple c.in-Tuple.tuple none))
    ∙ ap (λ f. nil_is_empty (before f none)) (sym c.in-Tuple.is)
