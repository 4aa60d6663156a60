use Rattle.std.proofs.Common.{◌≡◌, Some, None, sym, ◌∙◌, true≢false}
use Rattle.tr4_dates.specs.Formats.{language_of, layout_of}
use Rattle.tr4_dates.specs.Readers.{read}
use Rattle.tr4_dates.specs.Transformation.{parts_of}
use Rattle.tr4_dates.proofs.FormatLaws.{related, unread, unreal, one_value}
use Rattle.tr4_dates.proofs.apply.Goals as goal

pub returns-in-None-clause-refused : goal.returns-in-None-clause-refused
returns-in-None-clause-refused c =
    let text = c.as_bytes.ensures.value in
    let layout = c.layout_in.ensures in
    let parts = c.parts_in.ensures in
    let language = c.language_in.ensures in
    let reading = c.in_ok-fields_in.ensures in
    let field = c.in-None.is in
    let r : read (language_of c.args.format) (parts_of (layout_of c.args.format)) c.args.text.now ≡ None = cc in
    λ _ v x. unread c.args.format c.args.text.now v r x

pub returns-then-not-is_real-clause-refused : goal.returns-then-not-is_real-clause-refused
returns-then-not-is_real-clause-refused c =
    let text = c.as_bytes.ensures.value in
    let layout = c.layout_in.ensures in
    let parts = c.parts_in.ensures in
    let language = c.language_in.ensures in
    let reading = c.in_ok-fields_in.ensures in
    let field = c.in-Some.is in
    let r : read (language_of c.args.format) (parts_of (layout_of c.args.format)) c.args.text.now ≡ Some c.in-Some.said = cc in
    λ _ v x. unreal c.args.format c.args.text.now v c.in-Some.said r (λ real. true≢false (sym (c.is_real.ensures.1 real) ∙ c.if-not-is_real.true)) x

pub returns-in_ok-written-in-Some-clause-only : goal.returns-in_ok-written-in-Some-clause-only
returns-in_ok-written-in-Some-clause-only c =
    let text = c.as_bytes.ensures.value in
    let layout = c.layout_in.ensures in
    let parts = c.parts_in.ensures in
    let language = c.language_in.ensures in
    let reading = c.in_ok-fields_in.ensures in
    let field = c.in-Some.is in
    let r : read (language_of c.args.format) (parts_of (layout_of c.args.format)) c.args.text.now ≡ Some c.in-Some.said = cc in
    let real = c.is_real.ensures.0 c.if-not-is_real.false in
    let gives = related c.args.format c.args.text.now c.in_ok-written-in-Some.field-0 c.in-Some.said r real c.in_ok-written-in-Some.ensures in
    λ v x. one_value c.args.format c.args.text.now c.in_ok-written-in-Some.field-0 v gives x
