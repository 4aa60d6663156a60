use Rattle.std.proofs.Common.{◌≡◌, ◌∙◌, ap, sym, refl, map, take, ◌++◌, ◌∷◌, [], List, ℕ}
use Rattle.std.proofs.lemmas.Result.{IfOk-weaker}
use Rattle.ix_base.specs.declared.content.Context.{Context}
use Rattle.instance_lines.specs.Canonical.{context_markup, line}
use Rattle.instance_lines.specs.declared.sort.Keyed.{Keyed}
use Rattle.instance_lines.proofs.Sorting.{made_by_keys}
use Rattle.instance_lines.proofs.Steps.{all_taken, map_taken}
use Rattle.instance_lines.proofs.context.context_lines.Goals as goal

pub loop-context-preserved : goal.loop-context-preserved
loop-context-preserved c =
    let f : Context → Keyed (List ℕ) = λ x. record { key = x.id; item = line (context_markup c.args.prefixes.now x) } in
    let xs = c.args.contexts.now in
    let i = c.loop-context.context-index in
    let x = c.context-item.result in
    let made : Keyed (List ℕ) = record { key = c.in_ok-key.key; item = c.in_ok-item.item } in
    let same : made ≡ f x = rw (c.in_ok-key.ensures, c.as_str.ensures, c.in_ok-item.ensures) refl in
    c.in_ok-push.ensures.items ∙ ap (λ l. l ++ made ∷ []) c.loop-context.invariant
    ∙ ap (λ r. map f (take i xs) ++ r ∷ []) same ∙ sym (map_taken f xs i x c.loop-context-test.true c.context-item.is)

pub returns : goal.returns
returns c =
    let text : Context → List ℕ = λ x. line (context_markup c.args.prefixes.now x) in
    let f : Context → Keyed (List ℕ) = λ x. record { key = x.id; item = text x } in
    IfOk-weaker c.by_keys.result _ _
    (λ v e. e ∙ made_by_keys (λ (x : Context). x.id) text c.args.contexts.now c.loop-context.keyed.items
    (c.loop-context.invariant ∙ ap (map f) (all_taken c.args.contexts.now c.loop-context.context-index c.loop-context-test.false)))
    c.by_keys.ensures
