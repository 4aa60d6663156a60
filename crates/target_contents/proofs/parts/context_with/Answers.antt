use Rattle.std.proofs.Common.{◌≡◌, ◌∙◌, ap, sym, subst, rules, true, false, IfOk, option_map}
use Rattle.ix_base.specs.declared.kind.Kind.TheVariants as kind
use Rattle.ix_base.specs.ContextForm.{context}
use Rattle.ix_base.specs.LocatedElements.{Located, is_kind, located}
use Rattle.id_table.specs.declared.entries.Entry.{Entry}
use Rattle.target_contents.proofs.SaidLaws.{context_given, found-said, said, tree-at}
use Rattle.target_contents.proofs.parts.context_with.Goals as goal

pub returns-then-ne : goal.returns-then-ne
returns-then-ne c =
    let form = λ (x : Located). context x.placed.tree in
    let e : Located = located c.in-Some.entry.spot.now in
    let kind_is : is_kind kind.Context e ≡ false = search rules in
    sym (found-said kind.Context form e false kind_is) ∙ sym (ap (λ o. said kind.Context form (option_map (λ (x : Entry). located x.spot.now) o)) c.in-Some.is)
    ∙ context_given c.args.index.now c.args.id.now c.one.result c.one.ensures.element c.one.ensures.held c.requires

pub returns : goal.returns
returns c =
    let form = λ (x : Located). context x.placed.tree in
    let e : Located = located c.in-Some.entry.spot.now in
    let kind_is : is_kind kind.Context e ≡ true = search rules in
    subst (λ z. IfOk c.read_context.result (λ o. o ≡ z))
    (sym (ap context (tree-at c.in-Some.entry.spot.now)) ∙ sym (found-said kind.Context form e true kind_is)
    ∙ sym (ap (λ o. said kind.Context form (option_map (λ (x : Entry). located x.spot.now) o)) c.in-Some.is)
    ∙ context_given c.args.index.now c.args.id.now c.one.result c.one.ensures.element c.one.ensures.held c.requires)
    c.read_context.ensures
