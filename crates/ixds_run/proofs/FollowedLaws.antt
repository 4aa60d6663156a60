-- A script that was read and followed.
use Rattle.std.proofs.Common.{◌≡◌, ◌⊎◌, inl, inr, ◌∙◌, ap, sym, refl, ℕ, suc, ◌≤◌, ◌<◌, IsTrue, is_some, List, [], ◌∷◌, length, take, Option, Some, None, IfSome, subst, arith}
use Rattle.ix_base.specs.declared.limits.TheConstants.{LONGEST_SCRIPT, MOST_BYTES, MOST_BYTES_PUT}
use Rattle.ix_base.specs.Outside.{TellsAlso}
use Rattle.ix_base.specs.declared.rule.Rule.TheVariants.{X1}
use Rattle.page_session.specs.Course.{AreTold, names_read}
use Rattle.page_session.specs.Script.{script_of}
use Rattle.page_session.specs.Sessions.{OfPage}
use Rattle.page_session.specs.Sources.{Source, told, told_both}
use Rattle.page_session.specs.declared.script.Script.{Script}
use Rattle.page_session.specs.declared.script.Script.TheVariants.{Good, Bad}
use Rattle.page_session.specs.declared.script.ScriptLine.{ScriptLine}
use Rattle.targets.specs.Breaches.{bytes_in}
use Rattle.ixds_run.specs.DueTables.{outcome_of}
use Rattle.ixds_run.specs.ScriptRuns.{IsEnded, IsLastPut, OfLines, Started, WhyUnfollowed, WhyUnread}
use Rattle.page_verdicts.specs.Gains.{GainsStarts}
use Rattle.page_verdicts.specs.PageReads.{IsAmong}
use Rattle.ixds_run.specs.SessionBytes.{OfScript, names_said, to_read}
use Rattle.ixds_run.specs.SessionOutcomes.{IsSaidDue, IsSession, broken_line}
use Rattle.page_verdicts.specs.Texts.{cannot_read_line}
use Rattle.ixds_run.specs.declared.due.Due.{Due}
use Rattle.page_verdicts.specs.declared.read_pages.Stopped.{Stopped}
use Rattle.page_verdicts.specs.declared.read_pages.Stopped.TheVariants as stopped
use Rattle.ixds_run.proofs.FollowLaws.{started_more}
use Rattle.page_verdicts.proofs.ForestLaws.{none_started}
use Rattle.ixds_run.proofs.ScriptLaws.{script_small}
use Rattle.ixds_run.proofs.SessionLaws.{of_nothing}

-- The script alone was asked for.

pub starts_script : (page : List ℕ → Option (List ℕ)) (script : List ℕ) (old new : Option (List (List ℕ))) → (new ≡ old) ⊎ Started (script ∷ []) old new
    → OfScript page script (λ text bs. GainsStarts (to_read script text bs) old new)
starts_script page script old new (inl same) = of_nothing page script (λ text. (0, same ∙ none_started old))
starts_script page script old new (inr on) = of_nothing page script (λ text. (1, on))

pub unread_script : (script : List ℕ) (line : List ℕ) (old new : Source) → IfSome new.asked (λ n. n ≡ script) → line ≡ cannot_read_line script → IsTrue new.failed
    → OfScript old.page script (λ text bs. (name : List ℕ) × IsAmong old.page (to_read script text bs) new.asked name × (line ≡ cannot_read_line name) × IsTrue new.failed)
unread_script script line old new asked is failed = of_nothing old.page script (λ text. (
  script,
  record {
    front = [];
    back = names_said (script_of text) [];
    splits = refl;
    asked_is = asked;
    within = omega arith;
    telling = λ n some. refl;
  },
  is,
  failed,
))

-- The script is bad.

module _ (page : List ℕ → Option (List ℕ)) (script : List ℕ) (at : ℕ) (read : OfPage (page script) (λ b. Bad at ≡ script_of b)) where
  bad_of : {P : List ℕ → List (List ℕ) → Type 0} → P read.0 [] → OfScript page script P
  bad_of h = (read.0, read.1, ([], tt, h))

  pub bad_due : (base : List ℕ) (due : Due) → ((dir : List ℕ) → outcome_of (Some dir) due ≡ broken_line script X1 at)
      → OfScript page script (λ text bs. (dir : List ℕ) → IsSession base dir script text bs (outcome_of (Some dir) due))
  bad_due base due is = bad_of (λ dir. subst (λ (s : Script). IsSaidDue base dir script s [] (outcome_of (Some dir) due)) read.2 (is dir))

  pub bad_starts : (old new : Option (List (List ℕ))) → Started (script ∷ []) old new → OfScript page script (λ text bs. Started (to_read script text bs) old new)
  bad_starts old new on = bad_of (subst (λ (s : Script). Started (script ∷ names_said s []) old new) read.2 on)

-- The script is good.

within_both : (a : Option (List ℕ)) (all : Option (List (List ℕ))) (text : List ℕ) → IfSome a (λ t. t ≡ text) → length text ≤ LONGEST_SCRIPT → IfSome all (λ bs. bytes_in bs ≤ MOST_BYTES_PUT)
    → IfSome (told_both a all) (λ bs. bytes_in bs ≤ MOST_BYTES)
within_both None all text same small within = tt
within_both (Some x) None text same small within = tt
within_both (Some x) (Some xs) text same small within = let len : length x ≡ length text = ap length same in omega arith

both_some : (a : Option (List ℕ)) (all : Option (List (List ℕ))) → IsTrue (is_some a) → IsTrue (is_some all) → IsTrue (is_some (told_both a all))
both_some None all some more = absurd cc
both_some (Some x) None some more = absurd cc
both_some (Some x) (Some xs) some more = refl

gains_behind : (script : List ℕ) (names : List (List ℕ)) (old mid new : Option (List (List ℕ))) → Started (script ∷ []) old mid → GainsStarts names mid new → GainsStarts (script ∷ names) old new
gains_behind script names old mid new on (n, more) = (suc n, started_more (script ∷ []) (take n names) old mid new on more)

module _ (page : List ℕ → Option (List ℕ)) (script : List ℕ) (lines : List ScriptLine) (read : OfPage (page script) (λ b. Good lines ≡ script_of b)) where
  good_of : {P : List (List ℕ) → Type 0} {Q : List ℕ → List (List ℕ) → Type 0} → OfLines page lines P → ((bs : List (List ℕ)) → P bs → Q read.0 bs) → OfScript page script Q
  good_of h step = (read.0, read.1, (h.0, subst (λ (s : Script). AreTold page (names_said s h.0) h.0) read.2 h.1, step h.0 h.2))

  pub good_due : (base : List ℕ) (before now : Option (List (List ℕ))) (due : Due) → OfLines page lines (IsEnded base script lines before now due)
      → OfScript page script (λ text bs. (dir : List ℕ) → IsSession base dir script text bs (outcome_of (Some dir) due))
  good_due base before now due h = good_of h (λ bs d dir. subst (λ (s : Script). IsSaidDue base dir script s bs (outcome_of (Some dir) due)) read.2 (d.due_is dir))

  pub good_starts : (base : List ℕ) (old mid new : Option (List (List ℕ))) (due : Due) → Started (script ∷ []) old mid → OfLines page lines (IsEnded base script lines mid new due)
      → OfScript page script (λ text bs. Started (to_read script text bs) old new)
  good_starts base old mid new due on h = good_of h (λ bs d. subst (λ (s : Script). Started (script ∷ names_said s bs) old new) read.2
      (started_more (script ∷ []) (names_read lines bs) old mid new on d.starts))

  pub good_gains : (old mid new : Option (List (List ℕ))) → Started (script ∷ []) old mid → OfLines page lines (λ bs. GainsStarts (names_read lines bs) mid new)
      → OfScript page script (λ text bs. GainsStarts (to_read script text bs) old new)
  good_gains old mid new on h = good_of h (λ bs more. subst (λ (s : Script). GainsStarts (script ∷ names_said s bs) old new) read.2
      (gains_behind script (names_read lines bs) old mid new on more))

  among : TellsAlso page script → (bs : List (List ℕ)) (asked : Option (List ℕ)) (name : List ℕ) → IsLastPut page (names_read lines bs) asked name → IsAmong page (to_read script read.0 bs) asked name
  among also bs asked name h = record {
    front = script ∷ h.front;
    back = [];
    splits = ap (λ (s : Script). script ∷ names_said s bs) (sym read.2) ∙ ap (λ (ns : List (List ℕ)). script ∷ ns) h.splits;
    asked_is = h.asked_is;
    within = within_both (page script) (told page h.front) read.0 read.1 (script_small read.0 lines (sym read.2)) h.within;
    telling = λ n some. both_some (page script) (told page h.front) (also n some) (h.telling n some);
  }

  pub good_stopped : (old mid new : Source) (why : Stopped) → old.page ≡ page → mid.page ≡ page → mid.faults ≡ old.faults → TellsAlso page script → WhyUnfollowed lines mid new why
      → WhyUnread script old new why
  good_stopped old mid new (stopped.Failed line) first same level also w =
      let w' = subst (λ (p : List ℕ → Option (List ℕ)). OfLines p lines (λ bs. (name : List ℕ) × IsLastPut p (names_read lines bs) new.asked name
      × (line.items ≡ cannot_read_line name) × IsTrue new.failed)) same w.1 in (
        subst (λ (n : ℕ). n < new.faults) level w.0,
        subst (λ (p : List ℕ → Option (List ℕ)). OfScript p script (λ text bs. (name : List ℕ) × IsAmong p (to_read script text bs) new.asked name
            × (line.items ≡ cannot_read_line name) × IsTrue new.failed)) (sym first)
            (good_of w' (λ bs u. (u.0, among also bs new.asked u.0 u.1, u.2, u.3))),
      )
  good_stopped old mid new stopped.NoMemory first same level also w = w ∙ level
