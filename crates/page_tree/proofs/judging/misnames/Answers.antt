use Rattle.std.proofs.Common.{◌≡◌, ◌∙◌, true, false, not, ◌&&◌, refl, sym, ap, map, length}
use Rattle.std.specs.List.{filter_map, list_any}
use Rattle.ix_base.specs.Trees.{bindings_in}
use Rattle.page_tree.specs.Expansions.{expansion_of, is_unknown}
use Rattle.page_tree.specs.Tags.{declares, is_unbound}
use Rattle.page_constructs.specs.Model.{attribute_of}
use Rattle.page_tree.proofs.TwiceLaws.{unbound-is, undeclared}
use Rattle.page_tree.proofs.judging.misnames.Goals as goal

pub returns-then-has_unknown : goal.returns-then-has_unknown
returns-then-has_unknown c =
    let scope = bindings_in c.args.own.now.scope in
    let attrs = map attribute_of c.args.tag.now.attrs.now in
    let name : is_unbound scope c.args.tag.now.name.name.now ≡ false = sym c.requires.named.prefix ∙ sym c.is_unbound.ensures ∙ c.if-is_unbound.false in
    let some : list_any (λ a. not (declares a) && is_unbound scope a.name) attrs ≡ true =
    sym (unbound-is scope attrs) ∙ ap (list_any is_unknown) (sym c.requires.expanded) ∙ sym c.has_unknown.ensures ∙ c.if-has_unknown.true in
    rw (name, some) refl

pub returns-then-are_all : goal.returns-then-are_all
returns-then-are_all c =
    let scope = bindings_in c.args.own.now.scope in
    let attrs = map attribute_of c.args.tag.now.attrs.now in
    let name : is_unbound scope c.args.tag.now.name.name.now ≡ false = sym c.requires.named.prefix ∙ sym c.is_unbound.ensures ∙ c.if-is_unbound.false in
    let none : list_any (λ a. not (declares a) && is_unbound scope a.name) attrs ≡ false =
    sym (unbound-is scope attrs) ∙ ap (list_any is_unknown) (sym c.requires.expanded) ∙ sym c.has_unknown.ensures ∙ c.if-has_unknown.false in
    let all : length (filter_map (expansion_of scope) attrs) ≡ length attrs = ap length (sym c.requires.expanded) ∙ c.are_all.ensures c.if-are_all.true in
    rw (name, none, undeclared scope attrs all) refl

pub returns : goal.returns
returns c =
    let scope = bindings_in c.args.own.now.scope in
    let attrs = map attribute_of c.args.tag.now.attrs.now in
    let name : is_unbound scope c.args.tag.now.name.name.now ≡ false = sym c.requires.named.prefix ∙ sym c.is_unbound.ensures ∙ c.if-is_unbound.false in
    let none : list_any (λ a. not (declares a) && is_unbound scope a.name) attrs ≡ false =
    sym (unbound-is scope attrs) ∙ ap (list_any is_unknown) (sym c.requires.expanded) ∙ sym c.has_unknown.ensures ∙ c.if-has_unknown.false in
    rw (name, none) c.has_bad.ensures
