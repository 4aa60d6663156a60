-- What a run answers, by what was made ready and by what giving it did.
use Rattle.std.proofs.Common.{◌≡◌, ◌⊎◌, ◌∙◌, inl, inr, sym, refl, subst, ℕ, ◌<◌, false, IsTrue, List, [], Option, Some, None, Ok, Err, Result, arith}
use Rattle.std.specs.Prelude.{Vec}
use Rattle.std.specs.Global.{Global}
use Rattle.ix_base.specs.Outside.{TextGainsFront}
use Rattle.page_session.specs.Sources.{Source}
use Rattle.ixds_run.specs.Answers.{Answers, Outside}
use Rattle.page_verdicts.specs.CommandBytes.{AreSome, bytes_told}
use Rattle.command_words.specs.Commands.{dir_of}
use Rattle.page_verdicts.specs.CommandKinds.{is_session}
use Rattle.ixds_run.specs.Deliveries.{Gives}
use Rattle.ixds_run.specs.DueTables.{outcome_of, status_of, targets_due}
use Rattle.ixds_run.specs.ScriptRuns.{IsFollowed}
use Rattle.page_verdicts.specs.Gains.{GainsAll, GainsPart, GainsText}
use Rattle.ixds_run.specs.ReadyTexts.{IsPrepared, IsReady}
use Rattle.ixds_run.specs.SessionAnswers.{Answered, Following, SessionAnswers, SessionGives}
use Rattle.ixds_run.specs.SessionBytes.{OfScript}
use Rattle.command_words.specs.declared.command.Command.{Command}
use Rattle.command_words.specs.declared.command.Command.TheVariants.{Extract, Check, Sample, Plain, Trace, Session}
use Rattle.ixds_run.specs.declared.due.Due.{Due}
use Rattle.page_verdicts.specs.declared.read_pages.Stopped.{Stopped}
use Rattle.page_verdicts.specs.declared.read_pages.Stopped.TheVariants as stopped
use Rattle.ixds_run.specs.declared.status.Status.{Status}
use Rattle.ixds_run.specs.declared.status.Status.TheVariants.{Done, Broken, ReadFault, WriteFault, NoMemory}
use Rattle.ixds_run.proofs.AnswerLaws.{complete_by, fault_answer, memory_answer, of_some, told_of}
use Rattle.ixds_run.proofs.DueLaws.{broken_status, by_either, no_read_fault, no_usage, no_want}
use Rattle.ixds_run.proofs.SessionLaws.{of_script, session_fault, session_memory}

-- what was made ready by the command's own kind
pub prepared_ready : (c : Command) (old new : Source) (A : Type 0) (r : Result Due Stopped) → is_session c ≡ false → IsPrepared c old new A r → IsReady c old new A r
prepared_ready (Extract base dir pages) old new A r other h = h
prepared_ready (Check base pages) old new A r other h = h
prepared_ready (Sample number) old new A r other h = h
prepared_ready (Plain page) old new A r other h = h
prepared_ready (Trace base pages) old new A r other h = h
prepared_ready (Session base dir script) old new A r other h = absurd cc

pub followed_ready : (c : Command) (base dir script b n : List ℕ) (old new : Source) (A : Type 0) (r : Result Due Stopped) → c ≡ Session base dir script → b ≡ base → n ≡ script
    → IsFollowed b n old new r → IsReady c old new A r
followed_ready c base dir script b n old new A r is e f h =
    subst (λ (k : Command). IsReady k old new A r) (sym is)
    (subst (λ (x : List ℕ). IsFollowed base x old new r) f (subst (λ (x : List ℕ). IsFollowed x n old new r) e h))

-- what the pages of the outside tell
abbrev pub source_in : Outside → Source
source_in o = record {
  page = o.page;
  left = o.left;
  asked = o.page_asked;
  starts = o.page_starts;
  faults = o.page_faults;
  failed = o.page_failed;
  numbers = o.page_numbers;
}

-- memory is wanted, and both sinks are untouched
module _ (old new : Outside) (A B C : Type 0) (b : B) (d : C) (targets : new.target_numbers ≡ old.target_numbers) (text : new.text_numbers ≡ old.text_numbers) where
  prepared_memory : (c : Command) → IsPrepared c (source_in old) (source_in new) A (Err stopped.NoMemory) → Answers (Some c) old new A B C NoMemory
  prepared_memory c h =
      let asks = h.gathered.asks in
      memory_answer (Some c) old new A B C b d asks.pages asks.stopped (asks.numbers, targets, text) h.gathered.sample asks.starts asks.asked

  pub memory_answered : (c : Command) → IsReady c (source_in old) (source_in new) A (Err stopped.NoMemory) → Answered (Some c) old new A B C NoMemory
  memory_answered (Extract base dir pages) h = prepared_memory (Extract base dir pages) h
  memory_answered (Check base pages) h = prepared_memory (Check base pages) h
  memory_answered (Sample number) h = prepared_memory (Sample number) h
  memory_answered (Plain page) h = prepared_memory (Plain page) h
  memory_answered (Trace base pages) h = prepared_memory (Trace base pages) h
  memory_answered (Session base dir script) h =
      session_memory (record { base = base; dir = dir; script = script }) old new B C b d h.pages h.stopped (h.numbers, targets, text) h.starts

-- the line of a page that can't be read was put
pub record Told (line : List ℕ) (old new : Outside) (s : Status) : Type 0 where
  pub either : (s ≡ ReadFault) ⊎ (s ≡ WriteFault)
  pub read : s ≡ ReadFault → GainsText line old.taken new.taken
  pub quiet : s ≡ ReadFault → new.text_faults ≡ old.text_faults
  pub cause : s ≡ WriteFault → old.text_faults < new.text_faults
  pub last : s ≡ WriteFault → IsTrue new.text_failed
  pub front : s ≡ WriteFault → TextGainsFront line old.taken new.taken

module _ (old new : Outside) (A B C : Type 0) (s : Status) (line : Vec ℕ Global) (put : Told line.items old new s) (b : B)
    (faults : new.target_faults ≡ old.target_faults) (targets : new.target_numbers ≡ old.target_numbers) (text : new.text_numbers ≡ old.text_numbers) where
  prepared_fault : (c : Command) → IsPrepared c (source_in old) (source_in new) A (Err (stopped.Failed line)) → Answers (Some c) old new A B C s
  prepared_fault c h =
      let asks = h.gathered.asks in
      let why = asks.stopped in
      fault_answer c old new A B C s why.1.0 b asks.pages h.gathered.sample why.0 faults why.1.1 why.1.3 (asks.numbers, targets, text) asks.starts put.either
      (λ e. subst (λ (t : List ℕ). GainsText t old.taken new.taken) why.1.2 (put.read e)) put.quiet put.cause put.last
      (λ e. subst (λ (t : List ℕ). TextGainsFront t old.taken new.taken) why.1.2 (put.front e))

  pub fault_answered : (c : Command) → IsReady c (source_in old) (source_in new) A (Err (stopped.Failed line)) → Answered (Some c) old new A B C s
  fault_answered (Extract base dir pages) h = prepared_fault (Extract base dir pages) h
  fault_answered (Check base pages) h = prepared_fault (Check base pages) h
  fault_answered (Sample number) h = prepared_fault (Sample number) h
  fault_answered (Plain page) h = prepared_fault (Plain page) h
  fault_answered (Trace base pages) h = prepared_fault (Trace base pages) h
  fault_answered (Session base dir script) h =
      session_fault (record { base = base; dir = dir; script = script }) old new B C s line.items b h.pages h.stopped.0 faults h.stopped.1 (h.numbers, targets, text) h.starts
      put.either put.read put.quiet put.cause put.last put.front

-- what is due was given under this directory word, or why not all of it
pub record Delivered (due : Due) (dir : Option (List ℕ)) (old new : Outside) (B C : Type 0) (s : Status) : Type 0 where
  pub either : (s ≡ status_of due.is_broken) ⊎ (s ≡ WriteFault)
  pub targets : s ≡ status_of due.is_broken → GainsAll (targets_due dir due) old.targets new.targets
  pub text : s ≡ status_of due.is_broken → GainsText due.text old.taken new.taken
  pub quiet : s ≡ status_of due.is_broken → (new.target_faults ≡ old.target_faults) × (new.text_faults ≡ old.text_faults)
  pub cause : s ≡ WriteFault → (old.target_faults < new.target_faults) ⊎ (old.text_faults < new.text_faults)
  pub last : s ≡ WriteFault → old.target_faults < new.target_faults → IsTrue new.target_failed
  pub last_text : s ≡ WriteFault → new.target_faults ≡ old.target_faults → IsTrue new.text_failed
  pub numbers : (new.target_numbers ≡ old.target_numbers) × (new.text_numbers ≡ old.text_numbers)
  pub part : s ≡ WriteFault → old.target_faults < new.target_faults → C × GainsPart (targets_due dir due) old.targets new.targets new.target_asked
  pub all : s ≡ WriteFault → new.target_faults ≡ old.target_faults
      → GainsAll (targets_due dir due) old.targets new.targets × TextGainsFront due.text old.taken new.taken
  pub no_dir : dir ≡ None → B
  pub none : due.targets.items ≡ [] → B

module _ (old new : Outside) (A B C : Type 0) (due : Due) (s : Status) where
  whole : (dir : Option (List ℕ)) → Delivered due dir old new B C s → (x : Status) → s ≡ x → (x ≡ WriteFault → ⊥) → s ≡ status_of due.is_broken
  whole dir put x e other = by_either s (status_of due.is_broken) put.either (λ z. other (sym e ∙ z))

  prepared_given : (c : Command) → IsPrepared c (source_in old) (source_in new) A (Ok due) → Delivered due (dir_of c) old new B C s → Answers (Some c) old new A B C s
  prepared_given c ready put =
      let dir = dir_of c in
      let all = bytes_told old.page c in
      let asks = ready.gathered.asks in
      let same = asks.ok in
      let gives : (x : Status) → s ≡ x → (x ≡ WriteFault → ⊥) → AreSome all (Gives x old.targets new.targets old.taken new.taken c)
      = λ x e other. of_some all (λ bs d. (
        outcome_of dir due,
        d.outcome,
        sym (whole dir put x e other) ∙ e,
        put.targets (whole dir put x e other),
        put.text (whole dir put x e other),
      )) ready.due in
      let quiet : (x : Status) → s ≡ x → (x ≡ WriteFault → ⊥) → (new.target_faults ≡ old.target_faults) × (new.text_faults ≡ old.text_faults)
      = λ x e other. put.quiet (whole dir put x e other) in
      record {
        complete = complete_by s (λ (x : Status) (bs : List (List ℕ)). Gives x old.targets new.targets old.taken new.taken c bs) B C
            old.page_faults new.page_faults old.target_faults new.target_faults old.text_faults new.text_faults
            all (no_usage due.is_broken s put.either) (no_read_fault due.is_broken s put.either)
            (λ e. gives Done e (λ z. cc)) (λ e. gives Broken e (λ z. cc)) put.cause (λ e. absurd (no_want due.is_broken s put.either e));
        done = λ e. gives Done e (λ z. cc);
        broken = λ e. gives Broken e (λ z. cc);
        broken_targets = λ e. put.none (ready.silent (broken_status due.is_broken (sym (whole dir put Broken e (λ z. cc)) ∙ e)));
        broken_pages = told_of all (of_some all (λ bs d breach. put.none (d.none breach)) ready.due);
        check = put.no_dir;
        sample = ready.gathered.sample;
        usage = λ e. absurd (no_usage due.is_broken s put.either e);
        usage_exactly = λ e. cc;
        read_fault = λ e. absurd (no_read_fault due.is_broken s put.either e);
        write_fault = put.cause;
        write_fault_last = put.last;
        write_fault_last_text = put.last_text;
        write_fault_targets = λ e rose. ((put.part e rose).0, of_some all (λ bs d. (outcome_of dir due, d.outcome, (put.part e rose).1)) ready.due);
        write_fault_text = λ e level pages. of_some all (λ bs d. (outcome_of dir due, d.outcome, (put.all e level).0, (put.all e level).1)) ready.due;
        write_fault_line = λ e rose. absurd (omega (arith, same));
        write_fault_usage = λ e f. cc;
        no_memory = λ e. absurd (no_want due.is_broken s put.either e);
        no_memory_pages = λ e. same;
        starts = asks.starts;
        asked_page = asks.asked;
        same_pages = asks.pages;
        page_count = omega (arith, same);
        same_numbers = (asks.numbers, put.numbers.0, put.numbers.1);
        stops = λ e. ready.gathered.stops;
        quiet_done = λ e. (same, (quiet Done e (λ z. cc)).0, (quiet Done e (λ z. cc)).1);
        quiet_broken = λ e. (same, (quiet Broken e (λ z. cc)).0, (quiet Broken e (λ z. cc)).1);
        quiet_text = λ e. absurd (elim e [ inl x ↦ no_usage due.is_broken s put.either x | inr x ↦ no_read_fault due.is_broken s put.either x ]);
      }

  followed_given : (f : Following) → IsFollowed f.base f.script (source_in old) (source_in new) (Ok due) → Delivered due (Some f.dir) old new B C s
      → SessionAnswers f old new B C s
  followed_given f read put =
      let dir : Option (List ℕ) = Some f.dir in
      let same = read.ok in
      let gives : (x : Status) → s ≡ x → (x ≡ WriteFault → ⊥) → OfScript old.page f.script (SessionGives f x old new)
      = λ x e other. of_script old.page f.script (λ text bs d. (
        outcome_of dir due,
        d f.dir,
        (sym (whole dir put x e other) ∙ e, put.targets (whole dir put x e other), put.text (whole dir put x e other)),
      )) read.due in
      let quiet = λ (x : Status) (e : s ≡ x) (other : x ≡ WriteFault → ⊥). put.quiet (whole dir put x e other) in
      record {
        complete = complete_by s (λ (x : Status) (bs : List (List ℕ)). OfScript old.page f.script (SessionGives f x old new)) B C
            old.page_faults new.page_faults old.target_faults new.target_faults old.text_faults new.text_faults
            (Some []) (no_usage due.is_broken s put.either) (no_read_fault due.is_broken s put.either)
            (λ e. ([], refl, gives Done e (λ z. cc))) (λ e. ([], refl, gives Broken e (λ z. cc))) put.cause (λ e. absurd (no_want due.is_broken s put.either e));
        done = λ e. gives Done e (λ z. cc);
        broken = λ e. gives Broken e (λ z. cc);
        broken_targets = λ e. put.none (read.silent (broken_status due.is_broken (sym (whole dir put Broken e (λ z. cc)) ∙ e)));
        broken_pages = of_script old.page f.script (λ text bs d breach. put.none (read.silent (broken_status due.is_broken (breach (outcome_of dir due) (d f.dir))))) read.due;
        usage = λ e. no_usage due.is_broken s put.either e;
        read_fault = λ e. absurd (no_read_fault due.is_broken s put.either e);
        write_fault = put.cause;
        write_fault_last = put.last;
        write_fault_last_text = put.last_text;
        write_fault_targets = λ e rose. ((put.part e rose).0, of_script old.page f.script (λ text bs d. (outcome_of dir due, d f.dir, (put.part e rose).1)) read.due);
        write_fault_text = λ e level pages. of_script old.page f.script (λ text bs d. (outcome_of dir due, d f.dir, ((put.all e level).0, (put.all e level).1))) read.due;
        write_fault_line = λ e rose. absurd (omega (arith, same));
        no_memory = λ e. absurd (no_want due.is_broken s put.either e);
        no_memory_pages = λ e. same;
        starts = read.starts;
        all_starts = λ e. read.all_starts;
        same_pages = read.pages;
        page_count = omega (arith, same);
        same_numbers = (read.numbers, put.numbers.0, put.numbers.1);
        quiet_done = λ e. (same, (quiet Done e (λ z. cc)).0, (quiet Done e (λ z. cc)).1);
        quiet_broken = λ e. (same, (quiet Broken e (λ z. cc)).0, (quiet Broken e (λ z. cc)).1);
        quiet_text = λ e. absurd (no_read_fault due.is_broken s put.either e);
      }

  pub due_answered : (c : Command) → IsReady c (source_in old) (source_in new) A (Ok due) → Delivered due (dir_of c) old new B C s → Answered (Some c) old new A B C s
  due_answered (Extract base dir pages) h put = prepared_given (Extract base dir pages) h put
  due_answered (Check base pages) h put = prepared_given (Check base pages) h put
  due_answered (Sample number) h put = prepared_given (Sample number) h put
  due_answered (Plain page) h put = prepared_given (Plain page) h put
  due_answered (Trace base pages) h put = prepared_given (Trace base pages) h put
  due_answered (Session base dir script) h put = followed_given (record { base = base; dir = dir; script = script }) h put
