use Rattle.std.proofs.Common.{◌≡◌, ◌∙◌, ◌++◌, ap, sym, subst, append-nil, OnOk}
use Rattle.ix_base.specs.Sound.{Rise}
use Rattle.ix_base.specs.Trees.{tree_of}
use Rattle.page_tree.specs.Reaches.{StandsAt, reach_at, reaches}
use Rattle.std.specs.Prelude.{Some, None, option_map}
use Rattle.fact_trace.specs.Walks.{stepped}
use Rattle.fact_trace.proofs.ElementLaws.{is-standing, none-due, nothing-due, offset-is, opens-due}
use Rattle.fact_trace.proofs.WayLaws.{ahead, is-off, is-on}
use Rattle.fact_trace.proofs.elements.push_element.Goals as goal

pub step_at-requires-clause-stands : goal.step_at-requires-clause-stands
step_at-requires-clause-stands c =
    subst (StandsAt c.args.page.now.bytes.now) (sym (offset-is c.args.element.now)) (is-standing c.args.page.now.bytes.now (tree_of c.args.element.now) c.requires).stands

pub returns-in_default : goal.returns-in_default
returns-in_default c =
    let b = c.args.page.now.bytes.now in
    let t = tree_of c.args.element.now in
    let off = is-off b t.head.offset (subst (λ n. None ≡ option_map stepped (reach_at (reaches b) n)) (offset-is c.args.element.now) c.in_default.ensures) in
    sym (append-nil c.args.spans.now) ∙ ap (λ l. c.args.spans.now ++ l) (none-due c.args.page.now.name b t off)

pub push_way-requires-clause-stands : goal.push_way-requires-clause-stands
push_way-requires-clause-stands c =
    let b = c.args.page.now.bytes.now in
    let t = tree_of c.args.element.now in
    (is-on b t.head.offset c.in-Some.tag (is-standing b t c.requires).whole
    (subst (λ n. Some c.in-Some.tag ≡ option_map stepped (reach_at (reaches b) n)) (offset-is c.args.element.now) c.in-Some.ensures)).stands

pub push_way-requires-clause-rise : goal.push_way-requires-clause-rise
push_way-requires-clause-rise c =
    subst Rise (sym (c.as_slice.ensures.value ∙ c.in_ok-left_out-in-Opens.ensures)) (is-standing c.args.page.now.bytes.now (tree_of c.args.element.now) c.requires).rises

pub returns-in_ok-left_out-in-Opens : goal.returns-in_ok-left_out-in-Opens
returns-in_ok-left_out-in-Opens c =
    let name = c.args.page.now.name in
    let b = c.args.page.now.bytes.now in
    let t = tree_of c.args.element.now in
    let o = is-on b t.head.offset c.in-Some.tag (is-standing b t c.requires).whole
    (subst (λ n. Some c.in-Some.tag ≡ option_map stepped (reach_at (reaches b) n)) (offset-is c.args.element.now) c.in-Some.ensures) in
    let all = ap (λ os. ahead name b os 0 0 c.in-Some.tag.end) (c.as_slice.ensures.value ∙ c.in_ok-left_out-in-Opens.ensures) ∙ opens-due name b t c.in-Some.tag o c.in-Opens.field-0 c.in-Opens.is in
    subst (λ l. OnOk c.push_way.result (c.push_way.new.spans ≡ c.args.spans.now ++ l)) all c.push_way.ensures

pub returns-in-Closes : goal.returns-in-Closes
returns-in-Closes c =
    let b = c.args.page.now.bytes.now in
    let t = tree_of c.args.element.now in
    let o = is-on b t.head.offset c.in-Some.tag (is-standing b t c.requires).whole
    (subst (λ n. Some c.in-Some.tag ≡ option_map stepped (reach_at (reaches b) n)) (offset-is c.args.element.now) c.in-Some.ensures) in
    sym (append-nil c.args.spans.now) ∙ ap (λ l. c.args.spans.now ++ l) (nothing-due c.args.page.now.name b t c.in-Some.tag o c.in-Closes.is)
