use Rattle.std.proofs.Common.{◌∙◌, ap, sym, ◌++◌, [], ◌∷◌, map, take, get_or, List, ℕ, Bor}
use Rattle.std.proofs.lemmas.List.{map-append}
use Rattle.instance_lines.specs.Elements.{locator_text}
use Rattle.instance_lines.specs.Tables.{values_of}
use Rattle.instance_lines.proofs.Gathered.{values-more}
use Rattle.instance_lines.proofs.Steps.{all_taken}
use Rattle.instance_lines.proofs.note.locators_to.Goals as goal

pub loop-id-preserved : goal.loop-id-preserved
loop-id-preserved c =
    let xs = c.args.ids.now in
    let i = c.loop-id.id-index in
    let d : Bor (List ℕ) = record { ref_ptr = (0, 0); now = [] } in
    let front = values_of (take i xs) in
    c.in_ok-push.ensures.items ∙ ap (λ l. l ++ c.in_ok-text.text ∷ []) c.loop-id.invariant
    ∙ ap (λ r. map locator_text front ++ r ∷ []) c.in_ok-text.ensures
    ∙ sym (ap (map locator_text) (values-more xs i d c.loop-id-test.true) ∙ map-append locator_text front ((get_or xs i d).now ∷ []))

pub returns : goal.returns
returns c =
    c.loop-id.invariant ∙ ap (λ l. map locator_text (values_of l)) (all_taken c.args.ids.now c.loop-id.id-index c.loop-id-test.false)
