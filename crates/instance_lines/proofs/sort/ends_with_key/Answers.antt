use Rattle.std.proofs.Common.{◌∙◌, ap, sym, refl}
use Rattle.std.specs.Ordering.{is_eq}
use Rattle.instance_lines.specs.Keys.{by_key}
use Rattle.instance_lines.proofs.LastLaws.{ties_last-is, ties_last-none}
use Rattle.instance_lines.proofs.sort.ends_with_key.Goals as goal

pub returns-in-Some : goal.returns-in-Some
returns-in-Some g c =
    c.is_eq.ensures ∙ ap is_eq c.compare_keys.ensures
    ∙ sym (ties_last-is by_key c.args.kept.now _ c.in-Some.last.now c.args.one.now refl (sym c.in-Some.ensures.value))

pub returns-in-None : goal.returns-in-None
returns-in-None g c = sym (ties_last-none by_key c.args.kept.now _ c.args.one.now refl (sym c.in-None.ensures.value))
