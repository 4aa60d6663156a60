use Rattle.std.proofs.Common.{◌≡◌, ◌∙◌, ◌||◌, true, false, sym, ap, map}
use Rattle.std.specs.Prelude.{bytes_eq}
use Rattle.std.specs.List.{filter_map}
use Rattle.page_tree.specs.Expansions.{expansion, known_name, repeats_by}
use Rattle.page_tree.specs.Tags.{same_name}
use Rattle.page_constructs.specs.Model.{attribute_of}
use Rattle.page_tree.proofs.TwiceLaws.{attributes-named, repeats-split, repeats-short}
use Rattle.page_tree.proofs.twice.repeats.Goals as goal

pub returns-then-attrs-lt2 : goal.returns-then-attrs-lt2
returns-then-attrs-lt2 c scope e = repeats-short scope c.args.attrs.now c.if-attrs-lt2.true

pub returns-then-is_named : goal.returns-then-is_named
returns-then-is_named c scope e =
    let named : repeats_by bytes_eq (map (λ a. a.name) (map attribute_of c.args.attrs.now)) ≡ true =
    ap (repeats_by bytes_eq) (attributes-named c.args.attrs.now) ∙ sym c.in_ok-is_named.ensures ∙ c.if-is_named.true in
    sym (repeats-split scope (map attribute_of c.args.attrs.now) (map expansion c.args.expanded.now) e
    ∙ ap (λ b. b || repeats_by same_name (filter_map known_name (map expansion c.args.expanded.now))) named)

pub returns : goal.returns
returns c scope e =
    let named : repeats_by bytes_eq (map (λ a. a.name) (map attribute_of c.args.attrs.now)) ≡ false =
    ap (repeats_by bytes_eq) (attributes-named c.args.attrs.now) ∙ sym c.in_ok-is_named.ensures ∙ c.if-is_named.false in
    c.in_ok-is_expanded.ensures
    ∙ sym (repeats-split scope (map attribute_of c.args.attrs.now) (map expansion c.args.expanded.now) e
    ∙ ap (λ b. b || repeats_by same_name (filter_map known_name (map expansion c.args.expanded.now))) named)
