-- What a tree builder stands for, when a piece comes.
use Rattle.std.proofs.Common.{◌≡◌, ℕ, Bool, true, false, List, [], ◌++◌, length, Result, Ok, Err, OnOk, IfOk, refl, sym, ap, ◌∙◌, subst}
use Rattle.page_text.specs.Characters.{begun, scan, scan_from, unified}
use Rattle.page_text.specs.Model.{reading_of, due}
use Rattle.page_text.specs.declared.Mark.{Mark}
use Rattle.page_text.proofs.Readings.{gains}
use Rattle.page_tree.specs.MachineSteps.{Leads, Breaks}
use Rattle.page_tree.specs.Break.{Fault}
use Rattle.page_constructs.specs.Constructs.{Byte, spread}
use Rattle.page_tree.specs.Machine.{State, begin}
use Rattle.page_tree.proofs.ActingLaws.{leads-stay, leads-more, breaks-more}
use Rattle.page_tree.proofs.PlacingLaws.{spread-append}

pub on-ok : {A E P Q : Type 0} (r : Result A E) → (P → Q) → OnOk r P → OnOk r Q
on-ok (Ok x) f p = f p
on-ok (Err e) f p = tt

pub if-ok : {A E : Type 0} {P Q : A → Type 0} (r : Result A E) → ((x : A) → P x → Q x) → IfOk r P → IfOk r Q
if-ok (Ok x) f p = f x p
if-ok (Err e) f p = tt

begun-nil : begun [] ≡ []
unfolding scan_from unified
begun-nil = refl

pub leads-new : (n : ℕ) (s : State) (us : List Byte) → s ≡ begin → us ≡ [] → Leads false n begin true (spread (begun [])) s true us
leads-new n s us e f =
    subst (λ x. Leads false n begin true (spread x) s true us) (sym begun-nil)
    (subst (λ x. Leads false n begin true [] x true us) (sym e) (subst (λ x. Leads false n begin true [] begin true x) (sym f) (leads-stay false n begin true [])))

pub leads-read : (n : ℕ) (s : State) (first : Bool) (old new : List Mark) (left ws : List Byte) → spread new ≡ spread old ++ ws
    → Leads false n begin true (spread old) s first left → Leads false n begin true (spread new) s first (left ++ ws)
leads-read n s first old new left ws e a =
    subst (λ x. Leads false n begin true x s first (left ++ ws)) (sym e) (leads-more n begin s true first (spread old) left ws a)

pub breaks-text : (n : ℕ) (old new : List Mark) (ws : List Byte) (f : Fault) → spread new ≡ spread old ++ ws → Breaks false n begin true (spread old) f → Breaks false n begin true (spread new) f
breaks-text n old new ws f e h = subst (λ x. Breaks false n begin true x f) (sym e) (breaks-more n begin true (spread old) ws f h)

-- what a page has begun with stays its front
begun-more : (b piece : List ℕ) → begun (b ++ piece) ≡ begun b ++ due (reading_of (length b) (scan false 0 b)) piece
begun-more b piece = let g = gains (reading_of (length b) (scan false 0 b)) b piece [] (due (reading_of (length b) (scan false 0 b)) piece) refl refl in g.beyond ∙ ap (λ x. begun b ++ x) (sym g.added)

pub breaks-read : (n : ℕ) (b piece : List ℕ) (f : Fault) → Breaks false n begin true (spread (begun b)) f → Breaks false n begin true (spread (begun (b ++ piece))) f
breaks-read n b piece f h =
    let ms = due (reading_of (length b) (scan false 0 b)) piece in
    subst (λ x. Breaks false n begin true x f) (sym (ap spread (begun-more b piece) ∙ spread-append (begun b) ms)) (breaks-more n begin true (spread (begun b)) (spread ms) f h)
