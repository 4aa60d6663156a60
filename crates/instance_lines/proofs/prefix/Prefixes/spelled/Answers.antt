use Rattle.std.proofs.Common.{◌∷◌}
use Rattle.instance_lines.specs.Prefixes.{xml, declared_for}
use Rattle.instance_lines.proofs.PrefixLaws.{started}
use Rattle.instance_lines.proofs.prefix.Prefixes.spelled.Goals as goal

pub returns : goal.returns
returns c =
    let name = c.args.name.now in
    rw (c.start.ensures, c.as_str.ensures, c.as_str-2.ensures) (started (xml ∷ declared_for c.args.self.now) name.ns name.local)
