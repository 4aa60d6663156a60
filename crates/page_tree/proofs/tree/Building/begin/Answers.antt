use Rattle.std.proofs.Common.{subst, sym}
use Rattle.std.proofs.lemmas.Result.{IfOk-weaker}
use Rattle.ix_base.specs.Spaces.{spaces_bound}
use Rattle.page_tree.specs.Buildings.{state_of}
use Rattle.page_tree.specs.Machine.{scope_in}
use Rattle.page_tree.specs.Spaces.{AreFrom, spaces_expanded}
use Rattle.page_tree.proofs.tree.Building.begin.Goals as goal

pub returns-clause-frame : goal.returns-clause-frame
returns-clause-frame c =
    IfOk-weaker c.open_element.result _ _ (λ o h. h (scope_in (state_of c.args.self.now).frames) c.requires.scope) c.open_element.ensures.frame

pub returns-clause-own_spaces : goal.returns-clause-own_spaces
returns-clause-own_spaces c =
    let around = spaces_bound c.args.own.scope in
    IfOk-weaker c.open_element.result _ _ (λ o h from. h (subst (λ es. AreFrom around (spaces_expanded es)) (sym c.as_slice.ensures.value) from)) c.open_element.ensures.spaces
