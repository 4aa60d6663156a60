-- What is ready of targets.
use Rattle.std.proofs.Common.{◌≡◌, ◌⊎◌, ◌∙◌, ap, sym, refl, ℕ, ◌+◌, ◌<◌, ◌≤◌, ◌==◌, cond, subst, Bool, true, false, List, [], ◌∷◌, ◌++◌, All, length, drop, get_or, map, Option, Some, None, Result, Ok, Err, IfOk, inl, inr, option_map, arith}
use Rattle.std.specs.Borrow.{Bor}
use Rattle.std.specs.List.{concat}
use Rattle.std.proofs.lemmas.Bool.{ne_eqb}
use Rattle.std.proofs.lemmas.Iterator.Adapters.{YieldsList-from_vec}
use Rattle.std.proofs.lemmas.Iterator.Consumers.{YieldsList-turn}
use Rattle.std.proofs.lemmas.List.{drop_all}
use Rattle.std.proofs.lemmas.List.Elements.{All-get_or}
use Rattle.std.specs.declared.vec.IntoIter.{IntoIter}
use Rattle.std.specs.Iterator.{Yields}
use Rattle.std.specs.Vec.Iter.{into_iter_items, into_iter_steps}
use Rattle.ix_base.specs.Forms.{is_empty}
use Rattle.ix_base.specs.Outside.{Begun}
use Rattle.ix_base.specs.declared.NoMemory.{NoMemory}
use Rattle.ixds_run.specs.declared.status.Status.{Status}
use Rattle.ixds_run.specs.declared.status.Status.TheVariants as status
use Rattle.ixds_run.specs.declared.status.Status.TheVariants.{Broken, Done, ReadFault, Usage, WriteFault}
use Rattle.command_words.specs.Commands.{IsGiven, dir_of, number_of, pages_of}
use Rattle.page_verdicts.specs.CommandKinds.{with_pages}
use Rattle.command_words.specs.declared.command.Command.{Command}
use Rattle.command_words.specs.declared.command.Command.TheVariants.{Extract, Check, Sample, Plain, Trace, Session}
use Rattle.page_verdicts.specs.declared.verdict.Verdict.{Verdict}
use Rattle.page_verdicts.specs.declared.verdict.Verdict.TheVariants.{Reported, Extracted, Printed}
use Rattle.page_session.specs.HandedPages.{names_of}
use Rattle.ixds_run.specs.Rearrangement.{IsRearranged}
use Rattle.ixds_run.specs.DueOutcomes.{AreReadBack, InstanceLines, DueOutcome, HasBreach, instance_lines, default_len, due_of, targets_under, whole_target}
use Rattle.ixds_run.specs.DueTables.{IsDueFrom, status_of, ready_lines, outcome_of, ready, ready_under}
use Rattle.ixds_run.specs.SessionOutcomes.{behind}
use Rattle.page_verdicts.specs.Verdicts.{CommandMakes, PagesMake}
use Rattle.page_verdicts.specs.PageReads.{IsRead}
use Rattle.ixds_run.specs.declared.due.Due.{Due}
use Rattle.page_verdicts.specs.declared.read_pages.Forest.{Forest}
use Rattle.ixds_run.specs.declared.due.DueTarget.{DueTarget}
use Rattle.targets.proofs.MadeLaws.{cut_at}
use Rattle.target_contents.specs.declared.outcome.Target.{Target}

abbrev under : List ℕ → InstanceLines → Begun
under dir b = record { dir = dir; name = b.name; bytes = concat b.lines; finished = true }

ready-under : (dir : List ℕ) (xs : List DueTarget) → map (ready dir) xs ≡ map (under dir) (map ready_lines xs)
ready-under dir [] = refl
ready-under dir (x ∷ xs) = ap (λ r. ready dir x ∷ r) (ready-under dir xs)

whole-under : (dir : List ℕ) (xs : List Target) → map (whole_target dir) xs ≡ map (under dir) (map instance_lines xs)
whole-under dir [] = refl
whole-under dir (x ∷ xs) = ap (λ r. whole_target dir x ∷ r) (whole-under dir xs)

empty_is : (xs : List ℕ) → (length xs == 0) ≡ is_empty xs
empty_is [] = refl
empty_is (x ∷ xs) = ne_eqb (length (x ∷ xs)) 0 (λ e. let z : length (x ∷ xs) ≡ 0 = e in absurd (omega arith))

-- what is ready is what is due
pub ready_is : (xs : List DueTarget) (ts : List Target) → map ready_lines xs ≡ map instance_lines ts → (dir : Option (List ℕ)) → ready_under dir xs ≡ targets_under dir ts
ready_is xs ts e None = refl
ready_is xs ts e (Some dir) = ready-under dir xs ∙ ap (map (under dir)) e ∙ sym (whole-under dir ts)

-- what holds of each item of a `Vec` holds of one that a loop takes
pub one_moved : {A Z : Type 0} {r : Option A} (P : A → Type 0) (s t u : IntoIter A Z) (xs ys : List A) (x : A) → into_iter_items s ≡ xs
    → Yields into_iter_steps s ys t → r ≡ Some x → into_iter_steps t r u → All P xs → P x
one_moved {r = r} P s t u xs ys x items taken some next all =
    let turn = YieldsList-turn (YieldsList-from_vec (into_iter_items s) refl s.rest.ok.0) ys t taken r u x some next in
    subst P (sym turn.1) (All-get_or P (into_iter_items s) (length ys) x turn.0 (subst (All P) (sym items) all))

-- the targets from this one on: it is the default target, or that stands behind it
pub default_here : (ts : List DueTarget) (n : ℕ) (t : DueTarget) → n < length ts → t ≡ get_or ts n t → (length t.name == 0) ≡ true
    → default_len (map ready_lines (drop n ts)) ≡ length (concat t.prepared)
default_here ts n t within at empty =
    ap (λ (xs : List DueTarget). default_len (map ready_lines xs)) (cut_at ts n t within at)
    ∙ (λ i. cond ((sym (empty_is t.name) ∙ empty) i) (length (concat t.prepared)) (default_len (map ready_lines (drop (n + 1) ts))))

pub default_behind : (ts : List DueTarget) (n : ℕ) (t : DueTarget) → n < length ts → t ≡ get_or ts n t → (length t.name == 0) ≡ false
    → default_len (map ready_lines (drop n ts)) ≡ default_len (map ready_lines (drop (n + 1) ts))
default_behind ts n t within at some =
    ap (λ (xs : List DueTarget). default_len (map ready_lines xs)) (cut_at ts n t within at)
    ∙ (λ i. cond ((sym (empty_is t.name) ∙ some) i) (length (concat t.prepared)) (default_len (map ready_lines (drop (n + 1) ts))))

pub default_none : (ts : List DueTarget) (n : ℕ) → length ts ≤ n → default_len (map ready_lines (drop n ts)) ≡ 0
default_none ts n past = ap (λ (xs : List DueTarget). default_len (map ready_lines xs)) (drop_all n ts past)

pub by_either : (s x : Status) → (s ≡ x) ⊎ (s ≡ WriteFault) → (s ≡ WriteFault → ⊥) → s ≡ x
by_either s x (inl e) other = e
by_either s x (inr e) other = absurd (other e)

pub broken_status : (b : Bool) → status_of b ≡ Broken → b ≡ true
broken_status true e = refl
broken_status false e = cc

same_dir : (c : Command) (names : List (List ℕ)) → dir_of (with_pages c names) ≡ dir_of c
same_dir (Extract base dir pages) names = refl
same_dir (Check base pages) names = refl
same_dir (Sample number) names = refl
same_dir (Plain page) names = refl
same_dir (Trace base pages) names = refl
same_dir (Session base dir script) names = refl

same_number : (c : Command) (names : List (List ℕ)) → number_of (with_pages c names) ≡ number_of c
same_number (Extract base dir pages) names = refl
same_number (Check base pages) names = refl
same_number (Sample number) names = refl
same_number (Plain page) names = refl
same_number (Trace base pages) names = refl
same_number (Session base dir script) names = refl

-- nothing is due to be written where a rule is broken
none_due : (due : Due) (c : Command) (bs : List (List ℕ)) (v : Verdict) → CommandMakes c bs v → status_of due.is_broken ≡ (due_of None None v).status
    → (due.is_broken ≡ true → due.targets.items ≡ []) → HasBreach c bs → due.targets.items ≡ []
none_due due c bs (Reported report) made is none breach = none (broken_status due.is_broken is)
none_due due c bs (Extracted ts) made is none breach = absurd (let z : false ≡ true = breach (Extracted ts) made in cc)
none_due due c bs (Printed text) made is none breach = absurd (let z : false ≡ true = breach (Printed text) made in cc)

same_status : (dir : Option (List ℕ)) (number : Option ℕ) (v : Verdict) → (due_of dir number v).status ≡ (due_of None None v).status
same_status dir number (Reported report) = refl
same_status dir number (Extracted ts) = refl
same_status dir number (Printed text) = refl

-- what is due of a command is that of what its pages come to
pub due_is : (r : Result Due NoMemory) (c : Command) (number : Option ℕ) (v : Verdict) (f : Forest) → number ≡ number_of c
    → ((c : Command) (ns bs : List (List ℕ)) (v : Verdict) → PagesMake c ns bs v → AreReadBack v)
    → IsGiven c → ((c d : Command) (bs cs : List (List ℕ)) (v : Verdict) → IsGiven c → IsRearranged c bs d cs → CommandMakes c bs v → CommandMakes d cs v)
    → ((bs : List (List ℕ)) → IsRead bs f → CommandMakes c bs v)
    → IfOk r (λ due. (dir : Option (List ℕ)) → outcome_of dir due ≡ due_of dir number v)
    → IfOk r (λ due. due.is_broken ≡ true → due.targets.items ≡ [])
    → IfOk r (λ due. (bs : List (List ℕ)) → IsRead bs f → IsDueFrom c bs due)
due_is (Ok due) c number v f same back given order makes is none = λ bs read.
    let made = makes bs read in
    let is_due = is (dir_of c) ∙ ap (λ (o : Option ℕ). due_of (dir_of c) o v) same in
    record {
      outcome = record {
        verdict = v;
        is = record { makes = made; due_is = is_due };
        any_order = λ d cs r.
            let dir = ap dir_of r.command ∙ same_dir c (names_of r.others) in
            let facts = ap number_of r.command ∙ same_number c (names_of r.others) in
            record { makes = order c d bs cs v given r made; due_is = is_due ∙ (λ i. due_of (sym dir i) (sym facts i) v) };
        read_back = back c (pages_of c) bs v made;
      };
      none = none_due due c bs v made (ap (λ (o : DueOutcome). o.status) (is None) ∙ same_status None number v) none;
    }
due_is (Err x) c number v f same back given order makes is none = tt

-- what gives all that is due, or fails to, answers no other status
either_other : (b : Bool) (s x : Status) → (s ≡ status_of b) ⊎ (s ≡ WriteFault) → (Done ≡ x → ⊥) → (Broken ≡ x → ⊥) → (WriteFault ≡ x → ⊥) → s ≡ x → ⊥
either_other true s x (inl e) done broken write f = broken (sym e ∙ f)
either_other false s x (inl e) done broken write f = done (sym e ∙ f)
either_other b s x (inr e) done broken write f = write (sym e ∙ f)

pub no_usage : (b : Bool) (s : Status) → (s ≡ status_of b) ⊎ (s ≡ WriteFault) → s ≡ Usage → ⊥
no_usage b s either e = either_other b s Usage either (λ z. cc) (λ z. cc) (λ z. cc) e

pub no_read_fault : (b : Bool) (s : Status) → (s ≡ status_of b) ⊎ (s ≡ WriteFault) → s ≡ ReadFault → ⊥
no_read_fault b s either e = either_other b s ReadFault either (λ z. cc) (λ z. cc) (λ z. cc) e

pub no_want : (b : Bool) (s : Status) → (s ≡ status_of b) ⊎ (s ≡ WriteFault) → s ≡ status.NoMemory → ⊥
no_want b s either e = either_other b s status.NoMemory either (λ z. cc) (λ z. cc) (λ z. cc) e

-- no directory word is none
pub dir_none : (o : Option (Bor (List ℕ))) → option_map (λ t. t.now) o ≡ None → o ≡ None
dir_none None e = refl
dir_none (Some d) e = cc

-- what is ready is due behind a text where that stands in front of its own
pub due_behind : (dir front whole : List ℕ) (due : Due) (d : DueOutcome) → whole ≡ front ++ due.text → outcome_of (Some dir) due ≡ d
    → outcome_of (Some dir) (record due { text = whole }) ≡ behind front d
due_behind dir front whole due d is same = ap (λ (t : List ℕ). record (outcome_of (Some dir) due) { text = t }) is ∙ ap (behind front) same
