use Rattle.std.proofs.Common.{◌≡◌, ◌-◌, length, slice_get, Some, ap, sym, subst}
use Rattle.std.proofs.lemmas.Cmp.{nat_list_cmp_total, tied_itself}
use Rattle.std.proofs.lemmas.Slice.Eq.{bytes_eq-Decides}
use Rattle.ix_base.specs.Once.{in_order}
use Rattle.ix_base.specs.SortedLists.{text_cmp}
use Rattle.ix_base.proofs.OnceAgain.{pushed, in_order_again}
use Rattle.ix_base.proofs.once.push_unlike.Goals as goal

pub returns-then-eq : goal.returns-then-eq
returns-then-eq c = λ rest. in_order_again text_cmp c.args.text.now (tied_itself nat_list_cmp_total c.args.text.now) (λ x. x.now)
    c.args.texts.now.items c.in-Some.last.now rest
    (subst (λ xs. slice_get xs (length xs - 1) ≡ Some c.in-Some.last.now) c.deref.ensures.value (sym c.in-Some.ensures.value))
    ((bytes_eq-Decides c.in-Some.last.now.now c.args.text.now).0 (sym c.if-eq.ensures))

pub returns : goal.returns
returns c = λ rest.
    ap (in_order text_cmp) (pushed (λ x. x.now) c.push.new.self.items c.args.texts.now.items c.args.text rest c.in_ok-push.ensures.items)
