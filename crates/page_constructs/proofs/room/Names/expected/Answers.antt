use Rattle.std.proofs.Common.{◌≡◌, ◌∷◌, [], Some, true, sym, ap, ◌∙◌, option_map}
use Rattle.page_constructs.specs.Constructs.{starts}
use Rattle.page_constructs.specs.Meanings.{behind_front}
use Rattle.page_constructs.proofs.TagReading.{name-known}
use Rattle.page_constructs.proofs.room.Names.expected.Goals as goal

pub returns-clause-name : goal.returns-clause-name
returns-clause-name c =
    let known = c.in_ok-known.field-0.now in
    let rest = c.in_ok-rest.rest.now in
    let front : Some rest ≡ behind_front known.name.now c.args.text.now = sym (ap (option_map (λ r. r.now)) c.in_ok-rest.was) ∙ c.behind_front.ensures in
    let equal : starts (61 ∷ []) rest ≡ true = ap (starts (61 ∷ [])) (sym c.as_bytes.ensures.value) ∙ sym c.starts.ensures ∙ c.if-not-starts.false in
    (name-known known.name.now c.args.text.now rest known.qname front equal).0

pub returns-clause-rest : goal.returns-clause-rest
returns-clause-rest c =
    let known = c.in_ok-known.field-0.now in
    let rest = c.in_ok-rest.rest.now in
    let front : Some rest ≡ behind_front known.name.now c.args.text.now = sym (ap (option_map (λ r. r.now)) c.in_ok-rest.was) ∙ c.behind_front.ensures in
    let equal : starts (61 ∷ []) rest ≡ true = ap (starts (61 ∷ [])) (sym c.as_bytes.ensures.value) ∙ sym c.starts.ensures ∙ c.if-not-starts.false in
    (name-known known.name.now c.args.text.now rest known.qname front equal).1
