use Rattle.std.proofs.Common.{sym, ap, ◌∙◌, ◌≡◌, ◌++◌, ◌==◌, arith, subst, length, Some, None, true, false}
use Rattle.std.specs.Char.{encode_utf8}
use Rattle.std.specs.String.{string_bytes}
use Rattle.page_constructs.specs.Meanings.{before}
use Rattle.page_constructs.specs.Stops.{is_special, begins_special}
use Rattle.page_constructs.specs.Values.{meant_in}
use Rattle.page_constructs.proofs.Parting.{from-short, is-empty}
use Rattle.page_constructs.proofs.ValueLaws.{After, after-end, after-more, after-none, begins-from}
use Rattle.page_constructs.proofs.meaning.value.value_in.Goals as goal

pub returns-then-is_empty : goal.returns-then-is_empty
returns-then-is_empty c =
    let v = string_bytes c.loop-value.value in
    let plain : string_bytes c.push_str.new.self ≡ v ++ before is_special c.loop-value.rest.now = c.in_ok-push_str.ensures.bytes ∙ ap (λ x. v ++ x) c.split.ensures.before in
    ap Some plain ∙ after-end v c.loop-value.rest.now (sym c.split.ensures.from ∙ is-empty c.split.result.1.now (sym c.if-is_empty.ensures)) ∙ c.loop-value.invariant.1

pub special_at-requires : goal.special_at-requires
special_at-requires c =
    subst (λ x. begins_special x ≡ true) (sym c.split.ensures.from)
    (begins-from c.loop-value.rest.now (subst (λ x. (length x == 0) ≡ false) c.split.ensures.from (sym c.if-is_empty.ensures)))

pub loop-value-smaller : goal.loop-value-smaller
loop-value-smaller c =
    let less = c.in-Some.ensures.shorter in
    omega (arith, ap length c.split.ensures.from, from-short is_special c.loop-value.rest.now)

pub loop-value-preserved : goal.loop-value-preserved
loop-value-preserved c =
    let v = string_bytes c.loop-value.value in
    let rest = c.loop-value.rest.now in
    let plain : string_bytes c.push_str.new.self ≡ v ++ before is_special rest = c.in_ok-push_str.ensures.bytes ∙ ap (λ x. v ++ x) c.split.ensures.before in (
      c.in-Some.ensures.text,
      ap (λ x. After x c.in-Some.more.now) (c.in_ok-push-in-Some.ensures.bytes ∙ ap (λ x. x ++ encode_utf8 c.in-Some.ch) plain)
          ∙ after-more v rest c.in-Some.ch c.in-Some.more.now (c.in-Some.ensures.value ∙ ap (meant_in None) c.split.ensures.from)
          ∙ c.loop-value.invariant.1,
    )

pub returns-in-None : goal.returns-in-None
returns-in-None c =
    after-none (string_bytes c.loop-value.value) c.loop-value.rest.now (c.in-None.ensures.value ∙ ap (meant_in None) c.split.ensures.from) ∙ c.loop-value.invariant.1
