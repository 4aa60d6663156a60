use Rattle.std.proofs.Common.{◌≡◌, ◌∙◌, ap, sym, refl, map, take, ◌++◌, ◌∷◌, [], List, ℕ}
use Rattle.std.proofs.lemmas.Result.{IfOk-weaker}
use Rattle.ix_base.specs.declared.content.Unit.{Unit as UnitContent}
use Rattle.instance_lines.specs.Canonical.{unit_markup, line}
use Rattle.instance_lines.specs.declared.sort.Keyed.{Keyed}
use Rattle.instance_lines.proofs.Sorting.{made_by_keys}
use Rattle.instance_lines.proofs.Steps.{all_taken, map_taken}
use Rattle.instance_lines.proofs.unit.unit_lines.Goals as goal

pub loop-unit-preserved : goal.loop-unit-preserved
loop-unit-preserved c =
    let f : UnitContent → Keyed (List ℕ) = λ x. record { key = x.id; item = line (unit_markup c.args.prefixes.now x) } in
    let xs = c.args.units.now in
    let i = c.loop-unit.unit-index in
    let x = c.unit-item.result in
    let made : Keyed (List ℕ) = record { key = c.in_ok-key.key; item = c.in_ok-item.item } in
    let same : made ≡ f x = rw (c.in_ok-key.ensures, c.as_str.ensures, c.in_ok-item.ensures) refl in
    c.in_ok-push.ensures.items ∙ ap (λ l. l ++ made ∷ []) c.loop-unit.invariant
    ∙ ap (λ r. map f (take i xs) ++ r ∷ []) same ∙ sym (map_taken f xs i x c.loop-unit-test.true c.unit-item.is)

pub returns : goal.returns
returns c =
    let text : UnitContent → List ℕ = λ x. line (unit_markup c.args.prefixes.now x) in
    let f : UnitContent → Keyed (List ℕ) = λ x. record { key = x.id; item = text x } in
    IfOk-weaker c.by_keys.result _ _
    (λ v e. e ∙ made_by_keys (λ (x : UnitContent). x.id) text c.args.units.now c.loop-unit.keyed.items
    (c.loop-unit.invariant ∙ ap (map f) (all_taken c.args.units.now c.loop-unit.unit-index c.loop-unit-test.false)))
    c.by_keys.ensures
