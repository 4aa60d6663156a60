use Rattle.std.proofs.Common.{◌≡◌, ◌++◌, OnOk, subst, sym, ap, ◌∙◌}
use Rattle.std.specs.List.{list_all}
use Rattle.ix_base.specs.Escapes.{is_own}
use Rattle.ix_base.specs.Manners.{ref_in}
use Rattle.ix_base.proofs.EscapeLemmas.{escaped-own}
use Rattle.ix_base.proofs.escape.push_escaped.Goals as goal

pub returns-then-are_own-clause-ok : goal.returns-then-are_own-clause-ok
returns-then-are_own-clause-ok c =
    let table = ref_in c.args.manner in
    let own = escaped-own table c.args.text.now (ap (list_all (is_own table)) (sym c.as_bytes.ensures.value) ∙ sym c.are_own.ensures ∙ c.if-are_own.true) in
    subst (λ x. OnOk c.push.result (c.push.new.self ≡ c.args.out.now ++ x)) (sym own) c.push.ensures.ok
