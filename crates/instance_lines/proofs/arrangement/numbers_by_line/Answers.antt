use Rattle.std.proofs.Common.{◌∙◌, ◌∷◌, ◌++◌, [], ap, arith, map, sym, ℕ}
use Rattle.std.specs.List.{range_with_len}
use Rattle.std.proofs.lemmas.List.FromFn.{map-range_with_len_more}
use Rattle.std.proofs.lemmas.Result.{IfOk-weaker}
use Rattle.instance_lines.specs.Elements.{fact_line}
use Rattle.instance_lines.specs.Numbering.{key_at}
use Rattle.instance_lines.specs.declared.sort.Keyed.{Keyed}
use Rattle.instance_lines.proofs.NumberLaws.{key_at-is, keys-by_numbers}
use Rattle.instance_lines.proofs.Sorting.{by_keys_of, keys_of}
use Rattle.instance_lines.proofs.arrangement.numbers_by_line.Goals as goal

pub loop-number-preserved : goal.loop-number-preserved
loop-number-preserved c =
    let key = key_at (fact_line c.args.prefixes.now) c.args.facts.now in
    let f : ℕ → Keyed ℕ = λ k. record { key = key k; item = k } in
    let n = c.loop-number.number in
    c.in_ok-push.ensures.items
    ∙ ap (λ l. l ++ record { key = c.in_ok-key.key; item = n } ∷ []) c.loop-number.invariant
    ∙ ap (λ k. map f (range_with_len 0 n) ++ record { key = k; item = n } ∷ [])
    (c.in_ok-key.ensures ∙ sym (key_at-is (fact_line c.args.prefixes.now) c.args.facts.now n c.index-facts-number.result (omega arith) c.index-facts-number.is))
    ∙ sym (map-range_with_len_more f 0 n n (omega arith))

pub returns-clause-lines : goal.returns-clause-lines
returns-clause-lines c =
    let line = fact_line c.args.prefixes.now in
    let key = key_at line c.args.facts.now in
    let f : ℕ → Keyed ℕ = λ k. record { key = key k; item = k } in
    IfOk-weaker c.with_keys.result _ _
    (λ p e. e ∙ keys_of key _ c.loop-number.keyed.items (c.loop-number.invariant ∙ ap (λ n. map f (range_with_len 0 n)) (omega arith)) ∙ keys-by_numbers line c.args.facts.now)
    c.with_keys.ensures.keys

pub returns-clause-numbers : goal.returns-clause-numbers
returns-clause-numbers c =
    let key = key_at (fact_line c.args.prefixes.now) c.args.facts.now in
    let f : ℕ → Keyed ℕ = λ k. record { key = key k; item = k } in
    IfOk-weaker c.with_keys.result _ _
    (λ p e. e ∙ by_keys_of key _ c.loop-number.keyed.items (c.loop-number.invariant ∙ ap (λ n. map f (range_with_len 0 n)) (omega arith)))
    c.with_keys.ensures.items
