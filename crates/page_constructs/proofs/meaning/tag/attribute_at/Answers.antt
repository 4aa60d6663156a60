use Rattle.std.proofs.Common.{rules, arith, sym, ap, ◌∙◌, length, option_map}
use Rattle.page_constructs.specs.Meanings.{ends_name}
use Rattle.page_constructs.specs.Spans.{parted}
use Rattle.page_constructs.proofs.Parting.{from-short}
use Rattle.page_constructs.proofs.TagReading.{equalled-short, attribute-open, attribute-unequalled}
use Rattle.page_constructs.proofs.meaning.tag.attribute_at.Goals.{in_default-equalled-via-in-Some-equalled+else-not-contains, in_default-equalled-via-in_default-equalled}
use Rattle.page_constructs.proofs.meaning.tag.attribute_at.Goals as goal

pub returns-in_ok-value-in-Some-equalled-clause-shorter : goal.returns-in_ok-value-in-Some-equalled-clause-shorter
returns-in_ok-value-in-Some-equalled-clause-shorter c =
    let named = rw c.in-Some.is at c.in_ok-name.ensures in
    omega (arith, equalled-short c.in-Some.rest.now _ c.in-Some-equalled.ensures, ap length named.2, from-short ends_name c.args.text.now)

pub returns-in_default-equalled-clause-value : goal.returns-in_default-equalled-clause-value
returns-in_default-equalled-clause-value c =
    let text = c.args.text.now in
    let rest = c.in-Some.rest.now in
    let named = rw c.in-Some.is at c.in_ok-name.ensures in
    elim c.in_default-equalled.branch [
      | in_default-equalled-via-in-Some-equalled+else-not-contains w ↦
          attribute-open text _ rest (sym named.1) (sym named.2) (ap Rattle.ix_base.specs.Scope.is_qname named.1 ∙ named.0) (w.in-Some-equalled.raw.now, w.in-Some-equalled.more.now) w.in-Some-equalled.ensures (search rules)
      | in_default-equalled-via-in_default-equalled w ↦
          attribute-unequalled text _ rest (sym named.1) (sym named.2) (ap Rattle.ix_base.specs.Scope.is_qname named.1 ∙ named.0) (sym (ap (option_map parted) w.in_default-equalled.is) ∙ c.equalled.ensures)
    ]

pub returns-in-Some-own_equalled-clause-shorter : goal.returns-in-Some-own_equalled-clause-shorter
returns-in-Some-own_equalled-clause-shorter c =
    let named = rw c.in-Some.is at c.in_ok-name.ensures in
    omega (arith, equalled-short c.in-Some.rest.now _ (sym c.in-Some-own_equalled.ensures.equalled), ap length named.2, from-short ends_name c.args.text.now)
