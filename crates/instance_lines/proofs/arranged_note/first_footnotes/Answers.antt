use Rattle.std.proofs.Common.{◌≡◌, ◌∙◌, ap, sym, Bool, true, false, cond, List, [], ◌∷◌, ◌++◌, append-nil}
use Rattle.std.specs.Prelude.{bytes_eq, not}
use Rattle.ix_base.specs.declared.content.Footnote.{Footnote}
use Rattle.instance_lines.specs.Arrangement.{firsts}
use Rattle.instance_lines.specs.Elements.{footnote_text}
use Rattle.instance_lines.proofs.FirstLaws.{firsts-push, has_text, has_text-push}
use Rattle.instance_lines.proofs.arranged_note.first_footnotes.Goals as goal

not_not : (a b : Bool) → a ≡ not b → not a ≡ b
not_not a true e = ap not e
not_not a false e = ap not e

-- one more that is new, and one more that isn't

kept_new : (ks new xs : List Footnote) (x : Footnote) (b : Bool) → ks ≡ firsts footnote_text xs → new ≡ ks ++ x ∷ []
    → b ≡ not (has_text footnote_text xs (footnote_text x)) → b ≡ true
    → new ≡ firsts footnote_text (xs ++ x ∷ [])
kept_new ks new xs x b inv e told h =
    e ∙ ap (λ l. l ++ x ∷ []) inv
    ∙ ap (λ c. firsts footnote_text xs ++ cond c [] (x ∷ [])) (sym (ap not h)
    ∙ not_not b (has_text footnote_text xs (footnote_text x)) told)
    ∙ sym (firsts-push footnote_text xs x)

kept_old : (ks xs : List Footnote) (x : Footnote) (b : Bool) → ks ≡ firsts footnote_text xs
    → b ≡ not (has_text footnote_text xs (footnote_text x)) → b ≡ false
    → ks ≡ firsts footnote_text (xs ++ x ∷ [])
kept_old ks xs x b inv told h =
    inv ∙ sym (append-nil (firsts footnote_text xs))
    ∙ ap (λ c. firsts footnote_text xs ++ cond c [] (x ∷ [])) (sym (ap not h)
    ∙ not_not b (has_text footnote_text xs (footnote_text x)) told)
    ∙ sym (firsts-push footnote_text xs x)

pub loop-footnote-preserved-then-not-is_new : goal.loop-footnote-preserved-then-not-is_new
loop-footnote-preserved-then-not-is_new c =
    let x = c.in-Some.footnote in
    let xs = c.loop-footnote.yielded in
    record {
      kept = kept_old _ xs x _ c.loop-footnote.invariant.kept
          (c.in_ok-is_new.ensures.told ∙ ap not (c.loop-footnote.invariant.seen (footnote_text x))) c.if-not-is_new.true;
      seen = λ t. c.in_ok-is_new.ensures.noted t
          ∙ ap (λ a. cond (bytes_eq (footnote_text x) t) true a) (c.loop-footnote.invariant.seen t)
          ∙ sym (has_text-push footnote_text xs x t);
    }

pub loop-footnote-preserved : goal.loop-footnote-preserved
loop-footnote-preserved c =
    let x = c.in-Some.footnote in
    let xs = c.loop-footnote.yielded in
    record {
      kept = kept_new _ _ xs x _ c.loop-footnote.invariant.kept c.in_ok-push.ensures.items
          (c.in_ok-is_new.ensures.told ∙ ap not (c.loop-footnote.invariant.seen (footnote_text x))) c.if-not-is_new.false;
      seen = λ t. c.in_ok-is_new.ensures.noted t
          ∙ ap (λ a. cond (bytes_eq (footnote_text x) t) true a) (c.loop-footnote.invariant.seen t)
          ∙ sym (has_text-push footnote_text xs x t);
    }
