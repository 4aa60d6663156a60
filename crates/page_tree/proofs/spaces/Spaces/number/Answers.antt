use Rattle.std.proofs.Common.{◌≡◌, ◌∙◌, [], ap, bytes_eq, false, sym, true}
use Rattle.std.specs.Option.{option_copied}
use Rattle.std.proofs.lemmas.Result.{IfOk-weaker}
use Rattle.ix_base.specs.Namespaces.{xml_namespace}
use Rattle.page_tree.proofs.NumberLaws.{number-met, number-xml, some-text}
use Rattle.page_tree.proofs.spaces.Spaces.number.Goals as goal

pub returns-then-eq-clause-number : goal.returns-then-eq-clause-number
unfolding xml_namespace
returns-then-eq-clause-number c =
    let some : bytes_eq c.args.ns.now [] ≡ false = some-text c.args.ns.now (sym c.is_empty.ensures ∙ c.if-is_empty.false) in
    let xml : bytes_eq c.args.ns.now xml_namespace ≡ true = sym c.eq.ensures ∙ c.if-eq.true in number-xml c.args.self.now.numbers c.args.ns.now some xml

pub returns-in-Some-clause-number : goal.returns-in-Some-clause-number
unfolding xml_namespace
returns-in-Some-clause-number c =
    let some : bytes_eq c.args.ns.now [] ≡ false = some-text c.args.ns.now (sym c.is_empty.ensures ∙ c.if-is_empty.false) in
    let other : bytes_eq c.args.ns.now xml_namespace ≡ false = sym c.eq.ensures ∙ c.if-eq.false in
    number-met c.args.self.now.numbers c.args.ns.now some other ∙ sym c.get.ensures ∙ ap option_copied c.in-Some.is

pub returns-clause-number : goal.returns-clause-number
unfolding xml_namespace
returns-clause-number c =
    let some : bytes_eq c.args.ns.now [] ≡ false = some-text c.args.ns.now (sym c.is_empty.ensures ∙ c.if-is_empty.false) in
    let other : bytes_eq c.args.ns.now xml_namespace ≡ false = sym c.eq.ensures ∙ c.if-eq.false in
    IfOk-weaker c.enter.result _ _ (λ n h. number-met c.enter.new.self.numbers c.args.ns.now some other ∙ h) c.enter.ensures.number
