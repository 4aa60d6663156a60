use Rattle.std.proofs.Common.{◌∙◌, ap, refl, sym, ◌∷◌}
use Rattle.std.specs.Option.{option_copied}
use Rattle.instance_lines.specs.Prefixes.{xml, fixed, numbered}
use Rattle.instance_lines.proofs.PrefixLaws.{start_in-found, start_in-missed}
use Rattle.instance_lines.proofs.prefix.Prefixes.start.Goals as goal

pub returns-in-Some : goal.returns-in-Some
returns-in-Some c = rw (start_in-found (xml ∷ fixed) _ c.args.space.now c.in-Some.start.now (sym c.in-Some.ensures)) refl

pub returns-in-Some-get : goal.returns-in-Some-get
returns-in-Some-get c =
    let q = c.args.space.now in
    let found = ap option_copied (sym c.in-Some-get.is) ∙ c.get.ensures.value ∙ c.self.invariant q in
    rw (start_in-missed (xml ∷ fixed) (numbered 1 c.args.self.now) q (sym c.in_default.ensures), ← c.self.view_is, ← found, c.as_str.ensures) refl

pub returns-in-None : goal.returns-in-None
returns-in-None c =
    let q = c.args.space.now in
    let missed = ap option_copied (sym c.in-None.is) ∙ c.get.ensures.value ∙ c.self.invariant q in
    rw (start_in-missed (xml ∷ fixed) (numbered 1 c.args.self.now) q (sym c.in_default.ensures), ← c.self.view_is, ← missed) refl
