use Rattle.std.proofs.Common.{refl}
use Rattle.instance_lines.specs.SpelledNames.{spelled}
use Rattle.instance_lines.proofs.ItemLaws.{attrs_text-both, tag-more}
use Rattle.instance_lines.proofs.fact.push_value.Goals as goal

pub returns-in_ok-push_plain-in-Nil : goal.returns-in_ok-push_plain-in-Nil
returns-in_ok-push_plain-in-Nil c before attrs opened more =
    rw (c.in_ok-push_plain-in-Nil.ensures, opened, c.in-Nil.is, tag-more, attrs_text-both) refl

pub returns-in_ok-push_named_close-in-Fraction : goal.returns-in_ok-push_named_close-in-Fraction
returns-in_ok-push_named_close-in-Fraction c before attrs opened more =
    rw (
      c.in-Fraction.is,
      tag-more (spelled c.args.name),
      c.in_ok-push_named_close-in-Fraction.ensures,
      c.in_ok-push_element-in-Fraction-2.ensures,
      c.in_ok-push_element-in-Fraction.ensures,
      c.in_ok-push_plain-in-Fraction.ensures,
      opened,
      c.as_str-in-Fraction.ensures,
      c.as_str-in-Fraction-2.ensures,
    ) refl
