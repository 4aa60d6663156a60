use Rattle.std.proofs.Common.{◌≡◌, ◌∙◌, ◌-◌, ap, length, slice_get, sym, subst, Some}
use Rattle.std.proofs.lemmas.Slice.Eq.{bytes_eq-Decides}
use Rattle.std.specs.List.{Contains}
use Rattle.instance_lines.specs.Prefixes.{is_known}
use Rattle.instance_lines.specs.Tables.{values_of}
use Rattle.instance_lines.proofs.SpaceLaws.{space-known, space-new, space-there, values-have}
use Rattle.instance_lines.proofs.spaces.add.Goals as goal

pub returns-then-eq : goal.returns-then-eq
returns-then-eq c =
    let items = c.args.spaces.now.items in
    let last = c.in-Some.last.now in
    let there : slice_get items (length items - 1) ≡ Some last =
    subst (λ xs. slice_get xs (length xs - 1) ≡ Some last) c.deref.ensures.value (sym c.in-Some.ensures.value) in
    let same = (bytes_eq-Decides last.now c.as_str-space.result.now).0 (sym c.if-eq.ensures) ∙ c.as_str-space.ensures in
    space-there c.args.name.now (values_of items) (subst (Contains (values_of items)) same (values-have items _ last there))

pub returns-then-is_known : goal.returns-then-is_known
returns-then-is_known c =
    space-known c.args.name.now (values_of c.args.spaces.now.items) (ap is_known (sym c.as_str-space.ensures) ∙ sym c.is_known.ensures ∙ c.if-is_known.true)

pub returns : goal.returns
returns c =
    space-new c.args.name.now c.args.spaces.now.items c.push.new.self.items c.as_str-space.result
    (ap is_known (sym c.as_str-space.ensures) ∙ sym c.is_known.ensures ∙ c.if-is_known.false) c.as_str-space.ensures c.in_ok-push.ensures.items
