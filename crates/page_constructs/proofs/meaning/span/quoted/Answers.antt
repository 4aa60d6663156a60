use Rattle.std.proofs.Common.{refl, arith}
use Rattle.std.proofs.lemmas.Str.Pattern.{strip_prefix_char}
use Rattle.page_constructs.proofs.Parting.{closed-some, closed-none, quoted-none}
use Rattle.page_constructs.proofs.meaning.span.quoted.Goals as goal

pub returns-in_err-strip_prefix : goal.returns-in_err-strip_prefix
returns-in_err-strip_prefix c =
    let opened = strip_prefix_char 34 c.args.text.now _ c.strip_prefix.ensures.cases (omega arith) in
    let closed = strip_prefix_char 34 c.split.result.1.now _ c.strip_prefix-in-Some.ensures.cases (omega arith) in
    rw c.from_residual.ensures (closed-none 34 c.args.text.now c.in-Some.value.now c.split.result.1.now (rw c.in-Some.is at opened) c.split.ensures.from (rw c.in_err-strip_prefix.was at closed))

pub returns-in-Some : goal.returns-in-Some
returns-in-Some c =
    let opened = strip_prefix_char 34 c.args.text.now _ c.strip_prefix.ensures.cases (omega arith) in
    let closed = strip_prefix_char 34 c.split.result.1.now _ c.strip_prefix-in-Some.ensures.cases (omega arith) in
    closed-some 34 c.args.text.now c.in-Some.value.now c.split.result.0.now c.split.result.1.now c.in_ok-strip_prefix.field-0.now refl (rw c.in-Some.is at opened)
    c.split.ensures.before c.split.ensures.from (rw c.in_ok-strip_prefix.was at closed)

pub returns-in_err-value : goal.returns-in_err-value
returns-in_err-value c =
    let double = strip_prefix_char 34 c.args.text.now _ c.strip_prefix.ensures.cases (omega arith) in
    let single = strip_prefix_char 39 c.args.text.now _ c.strip_prefix-2.ensures.cases (omega arith) in
    rw c.from_residual-in_err-value.ensures (quoted-none c.args.text.now (rw c.in_default.is at double) (rw c.in_err-value.was at single))

pub returns-in_err-strip_prefix-2 : goal.returns-in_err-strip_prefix-2
returns-in_err-strip_prefix-2 c =
    let opened = strip_prefix_char 39 c.args.text.now _ c.strip_prefix-2.ensures.cases (omega arith) in
    let closed = strip_prefix_char 39 c.split-2.result.1.now _ c.strip_prefix-3.ensures.cases (omega arith) in
    rw c.from_residual-in_err-strip_prefix-2.ensures
    (closed-none 39 c.args.text.now c.in_ok-value.value.now c.split-2.result.1.now (rw c.in_ok-value.was at opened) c.split-2.ensures.from (rw c.in_err-strip_prefix-2.was at closed))

pub returns : goal.returns
returns c =
    let opened = strip_prefix_char 39 c.args.text.now _ c.strip_prefix-2.ensures.cases (omega arith) in
    let closed = strip_prefix_char 39 c.split-2.result.1.now _ c.strip_prefix-3.ensures.cases (omega arith) in
    closed-some 39 c.args.text.now c.in_ok-value.value.now c.split-2.result.0.now c.split-2.result.1.now c.in_ok-strip_prefix-2.field-0.now refl (rw c.in_ok-value.was at opened)
    c.split-2.ensures.before c.split-2.ensures.from (rw c.in_ok-strip_prefix-2.was at closed)
