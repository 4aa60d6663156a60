-- One construct at the front of a text, built in.
use Rattle.std.proofs.Common.{◌≡◌, ℕ, ◌<◌, ◌≤◌, ◌==◌, ◌&&◌, Bool, true, false, List, [], ◌∷◌, length, take, drop, Some, None, refl, sym, ap, ◌∙◌, subst, arith}
use Rattle.std.proofs.lemmas.Bool.Decides.{nat_tests}
use Rattle.std.proofs.Math.ListN.{drop_of_length-le}
use Rattle.std.proofs.lemmas.List.{take-map}
use Rattle.ix_base.specs.declared.rule.Rule.{Rule}
use Rattle.page_tree.specs.MachineSteps.{judged, state_behind, Leads, Breaks}
use Rattle.page_tree.specs.Break.{fault}
use Rattle.page_constructs.specs.Constructs.{Byte, values, kind_of, whole_size, construct, offset_of}
use Rattle.page_tree.specs.Machine.{State}
use Rattle.page_constructs.specs.declared.kind.Kind.{Kind}
use Rattle.page_tree.proofs.ActingLaws.{one-step, one-break}
use Rattle.page_tree.proofs.PieceLaws.{whole-takes}
use Rattle.page_constructs.proofs.SpanLaws.{one_number}

pub none-whole : (closed first : Bool) → whole_size closed first [] ≡ None
none-whole closed first = (elim (whole_size closed first []) as (λ o. whole_size closed first [] ≡ o → o ≡ None) [
  | None ↦ λ e. refl
  | Some k ↦ λ e. absurd (let t = whole-takes closed first [] k e in let a = t.0 in let b = t.1 in omega arith)
]) refl

module _ (closed : Bool) (n : ℕ) (s : State) (first : Bool) (xs : List ℕ) (us : List Byte) (o k : ℕ) (kind : Kind) (text : List ℕ)
    (says : values us ≡ xs) (at : offset_of us ≡ o) (whole : whole_size closed first xs ≡ Some k) (is : kind ≡ kind_of first xs) (cut : text ≡ take k xs) where
  same : record { kind = kind; start = o; text = text } ≡ construct first k us
  same = λ i. record { kind = (is ∙ ap (kind_of first) (sym says)) i; start = sym at i; text = (cut ∙ ap (take k) (sym says) ∙ take-map (λ u. u.value) k us) i }

  size : whole_size closed first (values us) ≡ Some k
  size = ap (whole_size closed first) says ∙ whole

  pub step-breaks : (r : Rule) → Some r ≡ judged n s (record { kind = kind; start = o; text = text }) → Breaks closed n s first us (fault o r)
  step-breaks r j = subst (λ x. Breaks closed n s first us (fault x r)) at (one-break closed n s first us k r size (ap (judged n s) (sym same) ∙ sym j))

  pub step-takes : (t : State) → None ≡ judged n s (record { kind = kind; start = o; text = text }) → t ≡ state_behind s (record { kind = kind; start = o; text = text })
      → Leads closed n s first us t false (drop k us)
  step-takes t j e =
      subst (λ u. Leads closed n s first us u false (drop k us)) (ap (state_behind s) (sym same) ∙ sym e)
      (one-step closed n s first us k size (ap (judged n s) (sym same) ∙ sym j))

pub same-front : (first : Bool) → (first && (0 == 0)) ≡ first
same-front true = refl
same-front false = refl

pub not-front : (first : Bool) (n : ℕ) → 0 < n → (first && (n == 0)) ≡ false
not-front true n h = grind (arith, nat_tests)
not-front false n h = refl

pub behind-whole : (closed first : Bool) (xs : List ℕ) (at : ℕ) → length xs ≤ at → whole_size closed first (drop at xs) ≡ None
behind-whole closed first xs at h = ap (whole_size closed first) (drop_of_length-le xs h) ∙ none-whole closed first

pub no-bytes : (xs : List ℕ) → (length xs == 0) ≡ true → xs ≡ []
no-bytes [] e = refl
no-bytes (x ∷ xs) e = absurd (let z : length (x ∷ xs) ≡ 0 = one_number (length (x ∷ xs)) 0 e in omega arith)
