-- Bodies that are given as markup write the same bytes.
use Rattle.std.proofs.Common.{◌≡◌, ◌∙◌, refl, ap, sym, ℕ, List, [], ◌++◌, append_assoc}
use Rattle.ix_base.specs.Escapes.{te}
use Rattle.ix_base.specs.WrittenMarkup.{Markup, nothing, words, node, leaf, verbatim, written, start_text, leaf_text, close_text}
use Rattle.ix_base.specs.FilledMarkup.{then, filled, AreBodies}

pub written-then : (m n : Markup) (more : List ℕ) → written (then m n) more ≡ written m (written n more)
written-then nothing n more = refl
written-then (words text rest) n more = ap (λ x. te text ++ x) (written-then rest n more)
written-then (node name attrs kids rest) n more =
    ap (λ x. start_text name attrs ++ written kids (close_text name ++ x)) (written-then rest n more)
written-then (leaf name attrs rest) n more = ap (λ x. leaf_text name attrs ++ x) (written-then rest n more)
written-then (verbatim bytes rest) n more = ap (λ x. bytes ++ x) (written-then rest n more)

pub written-more : (m : Markup) (more : List ℕ) → written m more ≡ written m [] ++ more
written-more nothing more = refl
written-more (words text rest) more = ap (λ x. te text ++ x) (written-more rest more) ∙ sym (append_assoc (te text) (written rest []) more)
written-more (node name attrs kids rest) more =
    ap (λ x. start_text name attrs ++ x) (written-more kids (close_text name ++ written rest more)
    ∙ ap (λ x. written kids [] ++ (close_text name ++ x)) (written-more rest more)
    ∙ ap (λ x. written kids [] ++ x) (sym (append_assoc (close_text name) (written rest []) more))
    ∙ sym (append_assoc (written kids []) (close_text name ++ written rest []) more)
    ∙ ap (λ x. x ++ more) (sym (written-more kids (close_text name ++ written rest []))))
    ∙ sym (append_assoc (start_text name attrs) (written kids (close_text name ++ written rest [])) more)
written-more (leaf name attrs rest) more = ap (λ x. leaf_text name attrs ++ x) (written-more rest more) ∙ sym (append_assoc (leaf_text name attrs) (written rest []) more)
written-more (verbatim bytes rest) more = ap (λ x. bytes ++ x) (written-more rest more) ∙ sym (append_assoc bytes (written rest []) more)

pub written-filled : (f : List ℕ → Markup) (m : Markup) → AreBodies f m → (more : List ℕ) → written (filled f m) more ≡ written m more
written-filled f nothing h more = refl
written-filled f (words text rest) h more = ap (λ x. te text ++ x) (written-filled f rest h more)
written-filled f (node name attrs kids rest) (h, k) more =
    ap (λ x. start_text name attrs ++ x) (written-filled f kids h (close_text name ++ written (filled f rest) more)
    ∙ ap (λ x. written kids (close_text name ++ x)) (written-filled f rest k more))
written-filled f (leaf name attrs rest) h more = ap (λ x. leaf_text name attrs ++ x) (written-filled f rest h more)
written-filled f (verbatim bytes rest) (is, k) more =
    written-then (f bytes) (filled f rest) more
    ∙ ap (written (f bytes)) (written-filled f rest k more)
    ∙ written-more (f bytes) (written rest more)
    ∙ ap (λ b. b ++ written rest more) is
