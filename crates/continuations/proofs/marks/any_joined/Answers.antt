use Rattle.std.proofs.Common.{◌∙◌, ◌<◌, ap, false, get_or, subst, sym, true, length}
use Rattle.std.proofs.lemmas.List.{get_or_default, length-set}
use Rattle.continuations.proofs.Joining.{joined-no, joined-yes, marked-more}
use Rattle.continuations.proofs.marks.any_joined.Goals as goal

pub loop-next-preserved : goal.loop-next-preserved
loop-next-preserved c =
    let marks = c.loop-next.marks.items in
    record {
      len = length-set marks c.in-Some.number true ∙ c.loop-next.invariant.len;
      marked = marked-more c.args.nexts.now c.loop-next.next-index c.in-Some.number marks c.in-Some.is
          (subst (λ n. c.in-Some.number < n) (sym c.loop-next.invariant.len) (c.requires c.loop-next.next-index c.in-Some.number c.in-Some.is))
          (ap (get_or marks c.in-Some.number) (sym c.if-index.false) ∙ sym c.index.ensures ∙ c.if-index.false) c.loop-next.invariant.marked;
    }

pub returns-then-index : goal.returns-then-index
returns-then-index c =
    let marks = c.loop-next.marks.items in
    let k = c.in-Some.number in
    let within : k < length marks = subst (λ n. k < n) (sym c.loop-next.invariant.len) (c.requires c.loop-next.next-index k c.in-Some.is) in
    joined-yes c.args.nexts.now c.loop-next.next-index k marks c.in-Some.is
    (sym (get_or_default marks k c.index.result.now false within) ∙ sym c.index.ensures ∙ c.if-index.true) c.loop-next.invariant.marked

pub returns : goal.returns
returns c = joined-no c.args.nexts.now c.loop-next.next-index c.loop-next.marks.items c.loop-next-test.false c.loop-next.invariant.marked
