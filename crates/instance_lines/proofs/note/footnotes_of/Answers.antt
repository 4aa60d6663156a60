use Rattle.std.proofs.Common.{◌≡◌, ◌∙◌, ap, sym, refl, map, take, ◌++◌, ◌∷◌, [], List, ℕ}
use Rattle.std.proofs.lemmas.Result.{IfOk-weaker}
use Rattle.ix_base.specs.declared.content.Footnote.{Footnote}
use Rattle.instance_lines.specs.Elements.{footnote_text}
use Rattle.instance_lines.specs.declared.sort.Keyed.{Keyed}
use Rattle.instance_lines.proofs.Sorting.{made_by_keys}
use Rattle.instance_lines.proofs.Steps.{all_taken, map_taken}
use Rattle.instance_lines.proofs.note.footnotes_of.Goals as goal

pub loop-footnote-preserved : goal.loop-footnote-preserved
loop-footnote-preserved c =
    let f : Footnote → Keyed (List ℕ) = λ x. record { key = x.id; item = footnote_text x } in
    let xs = c.args.footnotes.now in
    let i = c.loop-footnote.footnote-index in
    let x = c.footnote-item.result in
    let made : Keyed (List ℕ) = record { key = c.in_ok-key.key; item = c.in_ok-item.item } in
    let same : made ≡ f x = rw (c.in_ok-key.ensures, c.as_str.ensures, c.in_ok-item.ensures) refl in
    c.in_ok-push.ensures.items ∙ ap (λ l. l ++ made ∷ []) c.loop-footnote.invariant
    ∙ ap (λ r. map f (take i xs) ++ r ∷ []) same ∙ sym (map_taken f xs i x c.loop-footnote-test.true c.footnote-item.is)

pub returns : goal.returns
returns c =
    let text : Footnote → List ℕ = λ x. footnote_text x in
    let f : Footnote → Keyed (List ℕ) = λ x. record { key = x.id; item = text x } in
    IfOk-weaker c.by_keys.result _ _
    (λ v e. e ∙ made_by_keys (λ (x : Footnote). x.id) text c.args.footnotes.now c.loop-footnote.keyed.items
    (c.loop-footnote.invariant ∙ ap (map f) (all_taken c.args.footnotes.now c.loop-footnote.footnote-index c.loop-footnote-test.false)))
    c.by_keys.ensures
