-- How many characters wait, by what a tree builder stands for.
use Rattle.std.proofs.Common.{◌≡◌, ℕ, Bool, true, false, List, [], ◌++◌, length, Option, Some, None, is_some, Result, Ok, Err, refl, sym, ap, ◌∙◌, append-nil}
use Rattle.std.specs.Str.{chars}
use Rattle.page_text.specs.Characters.{begun, first_break}
use Rattle.page_text.specs.declared.TextFault.{TextFault}
use Rattle.page_tree.specs.MachineSteps.{acted, acted_on, Leads, Breaks}
use Rattle.page_tree.specs.Break.{Fault, blank, walked}
use Rattle.page_constructs.specs.Constructs.{Byte, values, spread, whole_size, finished}
use Rattle.page_tree.specs.Machine.{State, begin}
use Rattle.page_tree.specs.OpenEnds.{begun_cut, waiting, pending_of}
use Rattle.page_tree.proofs.EndingLaws.{finished-none}
use Rattle.page_tree.proofs.FinishLaws.{outlined_result, walked-acted}

pub is-some : {A : Type 0} (o : Option A) → is_some o ≡ true → (x : A) × (o ≡ Some x)
is-some None e = absurd (cc)
is-some (Some x) e = (x, refl)

pub is-none : {A : Type 0} (o : Option A) → is_some o ≡ false → o ≡ None
is-none None e = refl
is-none (Some x) e = absurd (cc)

none-stopped : (o : Option TextFault) (f : Fault) (rest : List Byte) → waiting o (Err f) rest ≡ 0
none-stopped None f rest = refl
none-stopped (Some g) f rest = refl

module _ (b : List ℕ) (n : ℕ) where
  -- how the walk over the constructs that end goes
  walk : (r : Result State Fault) → acted_on n begin false true (spread (begun b) ++ []) ≡ r → walked n blank (begun_cut b).constructs ≡ outlined_result r
  walk r e = walked-acted n (begun_cut b).constructs begin ∙ ap outlined_result (ap (acted_on n begin false true) (sym (append-nil (spread (begun b)))) ∙ e)

  pub pending-broken : (f : Fault) → Breaks false n begin true (spread (begun b)) f → pending_of b n ≡ 0
  pending-broken f h = ap (λ r. waiting (first_break b) r (begun_cut b).rest) (walk (Err f) (h false [] tt)) ∙ none-stopped (first_break b) f (begun_cut b).rest

  pub pending-stopped : (f : TextFault) → first_break b ≡ Some f → pending_of b n ≡ 0
  pending-stopped f e = ap (λ o. waiting o (walked n blank (begun_cut b).constructs) (begun_cut b).rest) e

  pub pending-left : (s : State) (first : Bool) (us : List Byte) → Leads false n begin true (spread (begun b)) s first us → first_break b ≡ None → whole_size false first (values us) ≡ None
      → pending_of b n ≡ length (chars (values us))
  unfolding acted
  pending-left s first us h e left =
      let nothing = finished-none false first us left in
      let acts : acted_on n begin false true (spread (begun b) ++ []) ≡ Ok s = h.acts false [] tt ∙ ap (acted_on n s false first) (append-nil us) ∙ ap (λ c. acted n s c.constructs) nothing in
      let rests : (begun_cut b).rest ≡ us = ap (λ x. (finished false true x).rest) (sym (append-nil (spread (begun b)))) ∙ h.rests false [] tt ∙ ap (λ x. (finished false first x).rest) (append-nil us) ∙ ap (λ c. c.rest) nothing in
      ap (λ o. waiting o (walked n blank (begun_cut b).constructs) (begun_cut b).rest) e
      ∙ ap (λ r. waiting None r (begun_cut b).rest) (walk (Ok s) acts)
      ∙ ap (λ x. length (chars (values x))) rests
