use Rattle.std.proofs.Common.{◌≡◌, ◌∙◌, sym, None, Ok, Err, Result, IfOk}
use Rattle.row_tables.proofs.tables.call_difference.Goals as goal

pub returns : goal.returns
returns g c = within c.differing_line.result (λ told. told ≡ None → c.as_bytes.result.now ≡ c.bytes.result.now) _ c.differing_line.ensures
    (λ told same none. (c.in_ok-text.text, c.in_ok-text.ensures, sym (c.as_bytes.ensures.value ∙ c.as_str.ensures.value) ∙ same none ∙ c.bytes.ensures))
  where
    within : {T E : Type 0} (r : Result T E) (P Q : T → Type 0) → IfOk r P → ((t : T) → P t → Q t) → IfOk r Q
    within (Ok t) P Q p f = f t p
    within (Err e) P Q p f = tt
