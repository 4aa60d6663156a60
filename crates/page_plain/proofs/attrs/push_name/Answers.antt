use Rattle.std.proofs.Common.{◌≡◌, ◌∙◌, ◌++◌, ◌==◌, ap, sym, append_assoc, codes, false, length, true, bytes_eq}
use Rattle.std.proofs.lemmas.Result.{on_ok_weaker}
use Rattle.ix_base.specs.Namespaces.{xml_namespace}
use Rattle.ix_base.specs.Trees.{named}
use Rattle.page_plain.specs.Bare.{numbered}
use Rattle.page_plain.proofs.NameLaws.{xml-name}
use Rattle.page_plain.proofs.attrs.push_name.Goals as goal

pub returns-then-eq : goal.returns-then-eq
unfolding xml_namespace
returns-then-eq c =
    let name = named c.args.name.now in
    let other : (length name.ns == 0) ≡ false = sym c.is_empty.ensures ∙ c.if-is_empty.false in
    let xml : bytes_eq name.ns xml_namespace ≡ true = sym c.eq.ensures ∙ c.if-eq.true in
    on_ok_weaker c.push-then-eq-2.result
    (λ h. h ∙ ap (λ xs. xs ++ name.local) c.in_ok-push.ensures.ok ∙ append_assoc c.args.out.now (codes "xml:") name.local
    ∙ ap (λ xs. c.args.out.now ++ xs) (sym (xml-name (numbered 1 c.args.prefixes.now.texts) name other xml))) c.push-then-eq-2.ensures.ok
