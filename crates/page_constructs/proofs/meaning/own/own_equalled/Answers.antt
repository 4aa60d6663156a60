use Rattle.std.proofs.Common.{◌≡◌, ◌∷◌, [], Some, refl, arith, sym, ap, ◌∙◌, option_map}
use Rattle.std.proofs.lemmas.Str.Pattern.{strip_prefix_char}
use Rattle.page_constructs.specs.Forms.{has}
use Rattle.page_constructs.specs.Meanings.{behind_front, equalled, quoted}
use Rattle.page_constructs.specs.Values.{value_of}
use Rattle.page_constructs.proofs.OwnValues.{own-closed, own-meant, own-open}
use Rattle.page_constructs.proofs.TagForms.{behind-is}
use Rattle.page_constructs.proofs.meaning.own.own_equalled.Goals as goal

pub returns-clause-equalled : goal.returns-clause-equalled
returns-clause-equalled c =
    let text = c.args.text.now in
    let value = c.in_ok-value.value.now in
    let more = c.in_ok-strip_prefix.field-0.now in
    let front : behind_front (61 ∷ 34 ∷ []) text ≡ Some value = sym c.behind_front.ensures ∙ ap (option_map (λ r. r.now)) c.in_ok-value.was in
    let splits : text ≡ 61 ∷ 34 ∷ value = behind-is (61 ∷ 34 ∷ []) text value front in
    let opens : equalled (61 ∷ 34 ∷ value) ≡ quoted (34 ∷ value) = refl in
    let closed = strip_prefix_char 34 c.split.result.1.now _ c.strip_prefix.ensures.cases (omega arith) in
    ap equalled splits ∙ opens
    ∙ sym (own-closed value (34 ∷ value) more refl (sym c.split.ensures.from ∙ rw c.in_ok-strip_prefix.was at closed))
    ∙ ap (λ x. Some (x, more)) (sym c.split.ensures.before)

pub returns-clause-value : goal.returns-clause-value
returns-clause-value c =
    ap value_of c.split.ensures.before ∙ own-meant c.in_ok-value.value.now ∙ ap Some (sym c.split.ensures.before)

pub returns-clause-open : goal.returns-clause-open
returns-clause-open c = ap (has 60) c.split.ensures.before ∙ own-open c.in_ok-value.value.now
