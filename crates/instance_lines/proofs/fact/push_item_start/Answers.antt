use Rattle.std.proofs.Common.{refl, append_assoc, codes}
use Rattle.instance_lines.proofs.ItemLaws.{item_attrs-text}
use Rattle.instance_lines.proofs.fact.push_item_start.Goals as goal

pub returns : goal.returns
returns c more =
    rw (
      item_attrs-text,
      c.in_ok-push_further-2.ensures (codes "id") refl,
      c.in_ok-push_accuracy.ensures,
      c.in_ok-push_further.ensures (codes "unitRef") refl,
      c.in_ok-push_ae.ensures.ok,
      append_assoc c.push_plain-2.new.out,
      c.in_ok-push_plain-2.ensures,
      c.in_ok-push_name.ensures,
      c.in_ok-push_plain.ensures,
      c.shown.ensures,
      c.shown-2.ensures,
      c.as_str.ensures,
    ) refl
