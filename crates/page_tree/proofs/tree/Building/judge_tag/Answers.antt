use Rattle.std.proofs.Common.{sym, ◌∙◌, arith}
use Rattle.std.proofs.lemmas.Result.{err_from_is_err_and}
use Rattle.ix_base.specs.Trees.{bindings_in}
use Rattle.page_tree.specs.Buildings.{state_of}
use Rattle.page_constructs.specs.Model.{tag_of}
use Rattle.page_tree.proofs.StackLaws.{length-frames}
use Rattle.page_tree.proofs.StateLaws.{state-broken, state-deep, state-fine}
use Rattle.page_tree.proofs.TakingLaws.{refuses-on}
use Rattle.page_tree.proofs.tree.Building.judge_tag.Goals as goal

pub returns-in_err-judge_names : goal.returns-in_err-judge_names
returns-in_err-judge_names c =
    let p = err_from_is_err_and c.from_residual.result c.from_residual.ensures.1 in
    rw (p.1, p.2) (refuses-on c.in_err-judge_names.field-0.0 _ _ (state-broken c.args.setting.now.depth (state_of c.args.self.now) (tag_of c.args.tag.now) (bindings_in c.args.own.now.scope) c.requires.scope) c.in_err-judge_names.ensures)

pub returns-then-len-setting : goal.returns-then-len-setting
returns-then-len-setting c =
    let os = c.args.self.now.elements in
    state-deep c.args.setting.now.depth (state_of c.args.self.now) (tag_of c.args.tag.now) (bindings_in c.args.own.now.scope) c.requires.scope c.in_ok-judge_names.ensures
    (omega (arith, length-frames os.items, os.ok.0))

pub returns : goal.returns
returns c =
    let os = c.args.self.now.elements in
    state-fine c.args.setting.now.depth (state_of c.args.self.now) (tag_of c.args.tag.now) (bindings_in c.args.own.now.scope) c.requires.scope c.in_ok-judge_names.ensures
    (omega (arith, length-frames os.items, os.ok.0)) (sym c.is_behind_root.ensures ∙ c.if-is_behind_root.false)
