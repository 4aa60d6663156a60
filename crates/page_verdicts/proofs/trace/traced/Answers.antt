use Rattle.std.proofs.Common.{◌∙◌}
use Rattle.target_contents.specs.declared.outcome.Outcome.TheVariants.{Whole}
use Rattle.page_verdicts.proofs.TraceLaws.{kept, kept_count, kept_roots, kept_unbroken, said_as, traced_report, traced_says}
use Rattle.page_verdicts.proofs.trace.traced.Goals as goal

pub returns-in-Broken-clause-makes : goal.returns-in-Broken-clause-makes
returns-in-Broken-clause-makes c =
    traced_report c.args.names.now c.args.base.now c.args.forest c.in_ok-report.field-0 c.in-Broken.report c.in-Broken.is c.in_ok-report.ensures.says

pub printed-requires-clause-count : goal.printed-requires-clause-count
printed-requires-clause-count c =
    let says = said_as c.args.names.now c.args.base.now c.args.forest c.in_ok-report.field-0 (Whole c.in-Whole.field-0) c.in-Whole.is c.in_ok-report.ensures.says in
    let read = c.requires.read in
    let whole = kept c.no_tree.ensures c.args.names.now read.0 c.args.base.now c.args.forest c.in-Whole.field-0 c.requires.keeps c.requires.sound read.1 (says read.0 read.1) in
    kept_count c.args.names.now c.args.forest c.as_slice-in-Whole.result.now whole
    (c.as_slice-in-Whole.ensures.value ∙ c.in_ok-texts.ensures.items_if_clones_equal (λ x y h. h) ∙ c.as_slice.ensures.value)

pub printed-requires-clause-roots : goal.printed-requires-clause-roots
printed-requires-clause-roots c =
    let says = said_as c.args.names.now c.args.base.now c.args.forest c.in_ok-report.field-0 (Whole c.in-Whole.field-0) c.in-Whole.is c.in_ok-report.ensures.says in
    let read = c.requires.read in
    let whole = kept c.no_tree.ensures c.args.names.now read.0 c.args.base.now c.args.forest c.in-Whole.field-0 c.requires.keeps c.requires.sound read.1 (says read.0 read.1) in
    kept_roots c.args.names.now c.args.forest c.as_slice-in-Whole.result.now c.as_slice-in-Whole-2.result.now whole
    (c.as_slice-in-Whole.ensures.value ∙ c.in_ok-texts.ensures.items_if_clones_equal (λ x y h. h) ∙ c.as_slice.ensures.value)
    (c.as_slice-in-Whole-2.ensures.value ∙ c.in_ok-roots.ensures.items_if_clones_equal (λ x y h. h) ∙ c.as_slice-2.ensures.value)

pub printed-requires-clause-unbroken : goal.printed-requires-clause-unbroken
printed-requires-clause-unbroken c =
    let says = said_as c.args.names.now c.args.base.now c.args.forest c.in_ok-report.field-0 (Whole c.in-Whole.field-0) c.in-Whole.is c.in_ok-report.ensures.says in
    let read = c.requires.read in
    let whole = kept c.no_tree.ensures c.args.names.now read.0 c.args.base.now c.args.forest c.in-Whole.field-0 c.requires.keeps c.requires.sound read.1 (says read.0 read.1) in (
      c.args.base.now,
      (
        c.in-Whole.field-0,
        kept_unbroken c.args.names.now c.args.base.now c.args.forest c.in-Whole.field-0 c.as_slice-in-Whole.result.now whole
            (c.as_slice-in-Whole.ensures.value ∙ c.in_ok-texts.ensures.items_if_clones_equal (λ x y h. h) ∙ c.as_slice.ensures.value) says,
      ),
    )

pub returns-clause-makes : goal.returns-clause-makes
returns-clause-makes c =
    let says = said_as c.args.names.now c.args.base.now c.args.forest c.in_ok-report.field-0 (Whole c.in-Whole.field-0) c.in-Whole.is c.in_ok-report.ensures.says in
    let read = c.requires.read in
    let whole = kept c.no_tree.ensures c.args.names.now read.0 c.args.base.now c.args.forest c.in-Whole.field-0 c.requires.keeps c.requires.sound read.1 (says read.0 read.1) in
    traced_says c.args.names.now c.args.base.now c.args.forest c.in-Whole.field-0 c.as_slice-in-Whole.result.now c.as_slice-in-Whole-2.result.now c.printed.result c.requires.keeps whole
    (c.as_slice-in-Whole.ensures.value ∙ c.in_ok-texts.ensures.items_if_clones_equal (λ x y h. h) ∙ c.as_slice.ensures.value)
    (c.as_slice-in-Whole-2.ensures.value ∙ c.in_ok-roots.ensures.items_if_clones_equal (λ x y h. h) ∙ c.as_slice-2.ensures.value) says c.printed.ensures
