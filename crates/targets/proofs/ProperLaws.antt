-- Every content of a whole set is proper.
use Rattle.ix_base.specs.declared.limits.TheConstants.{DEEPEST_ELEMENT}
use Rattle.std.proofs.Common.{◌≡◌, ⊎_elim, refl, ℕ, List, [], All}
use Rattle.std.proofs.lemmas.Bool.{and_from}
use Rattle.std.proofs.lemmas.List.Elements.{All-weaker}
use Rattle.ix_base.specs.declared.breach.Found.{Found}
use Rattle.ix_base.specs.declared.content.Content.{Content}
use Rattle.ix_base.specs.PlainContents.{said_of}
use Rattle.ix_base.specs.Sound.{IsSoundTree}
use Rattle.instance_out.specs.Proper.{Proper, is_proper}
use Rattle.target_contents.specs.declared.outcome.Outcome.{Outcome}
use Rattle.target_contents.specs.declared.outcome.Outcome.TheVariants.{Broken, Whole}
use Rattle.target_contents.specs.declared.outcome.Target.{Target}
use Rattle.targets.specs.ValidSets.{AreProper, IsClean}
use Rattle.target_contents.specs.Contents.{IsContent}
use Rattle.target_contents.specs.Faults.{element_faults, link_faults}
use Rattle.target_contents.specs.SetOutcomes.{ComesOfValues, ComesTo, FirstOf, IsReport, ComesToTargets}
use Rattle.target_contents.specs.PageSet.{PageSet, base_at, elements, names}
use Rattle.targets.proofs.BodiesFit.{bodies-fit}
use Rattle.targets.proofs.FormFits.{forms-fit}
use Rattle.targets.proofs.IdsFit.{ids-fit}
use Rattle.targets.proofs.ListsFit.{lists-fit}
use Rattle.targets.proofs.LocatorFit.{whole-links-fit}
use Rattle.targets.proofs.NameFits.{names-fit}
use Rattle.targets.proofs.NoteTexts.{link-texts-fit, link-tokens-fit}
use Rattle.targets.proofs.NumberFits.{fractions-fit, numbers-fit, unitless-fit}
use Rattle.targets.proofs.OrderFit.{orders-fit}
use Rattle.targets.proofs.PartsFit.{parts-fit}
use Rattle.targets.proofs.RolesFit.{roles-fit}
use Rattle.targets.proofs.TextFits.{texts-fit}
use Rattle.targets.proofs.TokenFits.{tokens-fit}
use Rattle.targets.proofs.TupleFit.{tuples-fit}

module _ (s : PageSet) (clean : IsClean s) where
  pub proper-content : (target : List ℕ) (c : Content) → IsContent (base_at s) (elements s) target c → Proper (said_of c)
  unfolding is_proper
  proper-content target c is = record {
    tested =
        and_from _ _ (ids-fit s clean target c is) (and_from _ _ (names-fit s clean target c is) (and_from _ _ (texts-fit s clean target c is (link-texts-fit s clean target c is))
        (and_from _ _ (lists-fit s clean target c is) (and_from _ _ (parts-fit s clean target c is) (and_from _ _ (roles-fit s clean target c is)
        (and_from _ _ (forms-fit s clean target c is) (and_from _ _ (numbers-fit s clean target c is) (and_from _ _ (unitless-fit s clean target c is)
        (and_from _ _ (fractions-fit s clean target c is) (and_from _ _ (tuples-fit s clean target c is) (and_from _ _ (whole-links-fit s clean target c is)
        (and_from _ _ (orders-fit s clean target c is) (and_from _ _ (tokens-fit s clean target c is (link-tokens-fit s clean target c is)) refl)))))))))))));
    bodies = bodies-fit s clean target c is;
  }

  whole-proper : (o : Outcome) → ComesToTargets s o → AreProper o
  whole-proper (Broken report) h = tt
  whole-proper (Whole targets) h = All-weaker (λ (t : Target). IsContent (base_at s) (elements s) t.name t.content)
      (λ (t : Target). Proper (said_of t.content)) (λ t is. proper-content t.name t.content is) targets h.contents

-- a report has no contents
reported-proper : (ns : List (List ℕ)) (found : List Found) (o : Outcome) → IsReport ns found o → AreProper o
reported-proper ns found (Broken report) h = tt
reported-proper ns found (Whole targets) h = absurd h

first-proper : (ns : List (List ℕ)) (found : List Found) (Else : Outcome → Type 0) (o : Outcome) → (found ≡ [] → Else o → AreProper o)
    → FirstOf ns found Else o → AreProper o
first-proper ns found Else o more h = ⊎_elim (λ b. reported-proper ns found o b.1) (λ e. more e.0 e.1) h

-- what a set of sound pages comes to has proper contents alone
pub comes-proper : (s : PageSet) → All (λ p. IsSoundTree p.tree DEEPEST_ELEMENT) s.pages → (o : Outcome) → ComesTo s o → AreProper o
comes-proper s sound o h =
    first-proper (names s) (element_faults s) (FirstOf (names s) (link_faults s) (ComesOfValues s)) o
    (λ e. first-proper (names s) (link_faults s) (ComesOfValues s) o
    (λ l v. first-proper (names s) v.0 (ComesToTargets s) o (λ n w. whole-proper s (record { sound = sound; elements = e; links = l }) o w) v.2)) h
