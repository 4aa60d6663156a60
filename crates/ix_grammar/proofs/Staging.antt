-- What is added step by step.
use Rattle.std.proofs.Common.{◌≡◌, ◌∙◌, ap, sym, refl, List, [], ◌++◌, ◌≤◌, length, take, drop, append_assoc, Result, Ok, Err}
use Rattle.std.proofs.lemmas.List.{take-append-drop, append-nil, take-append-le, drop-append-le}
use Rattle.std.proofs.Math.Seq.{take-append_seam, drop-append_seam}
use Rattle.std.specs.Result.{OnErr}
use Rattle.ix_base.specs.declared.breach.Found.{Found}
use Rattle.ix_base.specs.Fronts.{AppendsFront}
use Rattle.ix_grammar.specs.Additions.{Stands}

pub begins : (added old : List Found) → Stands added old old added
begins added old = ([], sym (append-nil old), refl)

pub goes_on : (added old now x left new : List Found) → Stands added old now (x ++ left) → new ≡ now ++ x → Stands added old new left
goes_on added old now x left new (done, is, due) e =
    (done ++ x, e ∙ ap (λ l. l ++ x) is ∙ append_assoc old done x, append_assoc done x left ∙ due)

pub ends : (added old now : List Found) → Stands added old now [] → now ≡ old ++ added
ends added old now (done, is, due) = is ∙ ap (λ l. old ++ l) (sym (append-nil done) ∙ due)

pub stays : (added old now left new : List Found) → Stands added old now left → new ≡ now → AppendsFront added old new
stays added old now left new (done, is, due) e =
    (length done, e ∙ is ∙ ap (λ l. old ++ l) (sym (take-append_seam done left) ∙ ap (λ l. take (length done) l) due))

pub stops : (added old now x left new : List Found) → Stands added old now (x ++ left) → AppendsFront x now new → AppendsFront added old new
stops added old now x left new (done, is, due) (n, e) =
    stays added old new (drop n x ++ left) new
    (goes_on added old now (take n x) (drop n x ++ left) new
    (done, is, ap (λ l. done ++ l) (sym (append_assoc (take n x) (drop n x) left) ∙ ap (λ l. l ++ left) (take-append-drop n x)) ∙ due) e)
    refl

-- what holds of a refusal
pub on_refusal : {A E : Type 0} (r : Result A E) {P : Type 0} → P → OnErr r P
on_refusal (Ok x) p = tt
on_refusal (Err x) p = p

-- a step was refused: behind what is done it is next, and nothing was taken away before
pub refused : (added old now x left new : List Found) → (now ++ x) ++ left ≡ old ++ added → length old ≤ length now → AppendsFront x now new → AppendsFront added old new
refused added old now x left new e h front = stops added old now x left new (drop (length old) now, is, due) front where
  flat : now ++ (x ++ left) ≡ old ++ added
  flat = sym (append_assoc now x left) ∙ e

  is : now ≡ old ++ drop (length old) now
  is = sym (take-append-drop (length old) now)
      ∙ ap (λ l. l ++ drop (length old) now) (sym (take-append-le (length old) now (x ++ left) h) ∙ ap (take (length old)) flat ∙ take-append_seam old added)

  due : drop (length old) now ++ (x ++ left) ≡ added
  due = sym (drop-append-le (length old) now (x ++ left) h) ∙ ap (drop (length old)) flat ∙ drop-append_seam old added

-- the first step was refused
pub first_refused : (added old x left new : List Found) → x ++ left ≡ added → AppendsFront x old new → AppendsFront added old new
first_refused added old x left new e front = stops added old old x left new ([], sym (append-nil old), e) front

-- a later step was refused, behind what was left to add
pub later_refused : (added old now rest x left new : List Found) → now ++ rest ≡ old ++ added → length old ≤ length now → rest ≡ x ++ left → AppendsFront x now new → AppendsFront added old new
later_refused added old now rest x left new e h s front = refused added old now x left new (append_assoc now x left ∙ ap (λ l. now ++ l) (sym s) ∙ e) h front
