use Rattle.std.proofs.Common.{◌≡◌, [], Some, sym, ap, ◌∙◌, option_map}
use Rattle.page_constructs.specs.Meanings.{before, behind_front, ends_tag_name}
use Rattle.page_constructs.proofs.TagReading.{tag-name-known}
use Rattle.page_constructs.proofs.room.Names.tag_at.Goals as goal

pub returns-clause-name : goal.returns-clause-name
returns-clause-name c =
    let known = c.in_ok-known.field-0.now in
    let rest = c.in_ok-rest.rest.now in
    let front : Some rest ≡ behind_front known.name.now c.args.text.now = sym (ap (option_map (λ r. r.now)) c.in_ok-rest.was) ∙ c.behind_front.ensures in
    let ends : before ends_tag_name rest ≡ [] = ap (before ends_tag_name) (sym c.as_bytes.ensures.value) ∙ c.may_follow.ensures c.if-not-may_follow.false in
    (tag-name-known known.name.now c.args.text.now rest known.qname front ends).0

pub returns-clause-rest : goal.returns-clause-rest
returns-clause-rest c =
    let known = c.in_ok-known.field-0.now in
    let rest = c.in_ok-rest.rest.now in
    let front : Some rest ≡ behind_front known.name.now c.args.text.now = sym (ap (option_map (λ r. r.now)) c.in_ok-rest.was) ∙ c.behind_front.ensures in
    let ends : before ends_tag_name rest ≡ [] = ap (before ends_tag_name) (sym c.as_bytes.ensures.value) ∙ c.may_follow.ensures c.if-not-may_follow.false in
    (tag-name-known known.name.now c.args.text.now rest known.qname front ends).1
