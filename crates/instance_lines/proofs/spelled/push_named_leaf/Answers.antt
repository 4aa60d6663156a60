use Rattle.std.proofs.Common.{refl}
use Rattle.instance_lines.specs.SpelledNames.{spelled}
use Rattle.instance_lines.proofs.ItemLaws.{tag-more}
use Rattle.instance_lines.proofs.spelled.push_named_leaf.Goals as goal

pub returns : goal.returns
returns c more =
    rw (
      tag-more (spelled c.args.name),
      c.in_ok-push_plain-2.ensures,
      c.in_ok-push_attributes.ensures,
      c.in_ok-push_name.ensures,
      c.in_ok-push_plain.ensures,
    ) refl
