use Rattle.std.proofs.Common.{◌≡◌, ◌∙◌, ap, sym, refl, map, take, ◌++◌, ◌∷◌, [], List, ℕ}
use Rattle.std.proofs.lemmas.Result.{IfOk-weaker}
use Rattle.ix_base.specs.declared.content.NoteLink.{NoteLink}
use Rattle.instance_lines.specs.Canonical.{line, link_markup}
use Rattle.instance_lines.specs.declared.sort.Keyed.{Keyed}
use Rattle.instance_lines.proofs.Sorting.{made_by_keys}
use Rattle.instance_lines.proofs.Steps.{all_taken, map_taken}
use Rattle.instance_lines.proofs.note.link_lines.Goals as goal

pub loop-link-preserved : goal.loop-link-preserved
loop-link-preserved c =
    let f : NoteLink → Keyed (List ℕ) = λ x. record { key = x.role; item = line (link_markup x) } in
    let xs = c.args.links.now in
    let i = c.loop-link.link-index in
    let x = c.link-item.result in
    let made : Keyed (List ℕ) = record { key = c.in_ok-key.key; item = c.in_ok-item.item } in
    let same : made ≡ f x = rw (c.in_ok-key.ensures, c.as_str.ensures, c.in_ok-item.ensures) refl in
    c.in_ok-push.ensures.items ∙ ap (λ l. l ++ made ∷ []) c.loop-link.invariant
    ∙ ap (λ r. map f (take i xs) ++ r ∷ []) same ∙ sym (map_taken f xs i x c.loop-link-test.true c.link-item.is)

pub returns : goal.returns
returns c =
    let text : NoteLink → List ℕ = λ x. line (link_markup x) in
    let f : NoteLink → Keyed (List ℕ) = λ x. record { key = x.role; item = text x } in
    IfOk-weaker c.by_keys.result _ _
    (λ v e. e ∙ made_by_keys (λ (x : NoteLink). x.role) text c.args.links.now c.loop-link.keyed.items
    (c.loop-link.invariant ∙ ap (map f) (all_taken c.args.links.now c.loop-link.link-index c.loop-link-test.false)))
    c.by_keys.ensures
