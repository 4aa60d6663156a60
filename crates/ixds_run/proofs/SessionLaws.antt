-- What a run answers to a session, put together from what its parts answer.
use Rattle.std.proofs.Common.{◌≡◌, ◌⊎◌, refl, ℕ, ◌<◌, false, IsTrue, List, [], Option, Some, None, IfSome, subst, inl, inr, arith}
use Rattle.ix_base.specs.Outside.{TextGainsFront}
use Rattle.ixds_run.specs.Answers.{Answers, Outside}
use Rattle.command_words.specs.Commands.{number_of}
use Rattle.page_verdicts.specs.CommandKinds.{is_session}
use Rattle.page_verdicts.specs.Gains.{GainsStarts, GainsText}
use Rattle.page_verdicts.specs.PageReads.{IsAmong}
use Rattle.ixds_run.specs.SessionAnswers.{Answered, Following, SessionAnswers, TellsUnread}
use Rattle.ixds_run.specs.SessionBytes.{OfScript, to_read}
use Rattle.page_verdicts.specs.Texts.{cannot_read_line}
use Rattle.command_words.specs.declared.command.Command.{Command}
use Rattle.command_words.specs.declared.command.Command.TheVariants.{Extract, Check, Sample, Plain, Trace, Session}
use Rattle.ixds_run.specs.declared.status.Status.{Status}
use Rattle.ixds_run.specs.declared.status.Status.TheVariants.{Done, Broken, Usage, ReadFault, WriteFault, NoMemory}
use Rattle.ixds_run.proofs.AnswerLaws.{memory_answer, not_one, some_all}
use Rattle.page_verdicts.proofs.ForestLaws.{none_started}

-- what is so of all texts and bytes is so of some
pub of_script : {P Q : List ℕ → List (List ℕ) → Type 0} (page : List ℕ → Option (List ℕ)) (script : List ℕ) → ((text : List ℕ) (bs : List (List ℕ)) → P text bs → Q text bs)
    → OfScript page script P → OfScript page script Q
of_script page script step some = (some.0, some.1, (some.2.0, some.2.1, step some.0 some.2.0 some.2.2))

-- nothing was read yet
told_itself : (o : Option (List ℕ)) → (text : List ℕ) × IfSome o (λ told. told ≡ text)
told_itself None = ([], tt)
told_itself (Some text) = (text, refl)

pub of_nothing : {P : List ℕ → List (List ℕ) → Type 0} (page : List ℕ → Option (List ℕ)) (script : List ℕ) → ((text : List ℕ) → P text []) → OfScript page script P
of_nothing page script h = let t = told_itself (page script) in (t.0, t.1, ([], tt, h t.0))

-- want of memory
pub session_memory : (f : Following) (old new : Outside) (B C : Type 0) → B → C → new.page ≡ old.page → new.page_faults ≡ old.page_faults
    → (new.page_numbers ≡ old.page_numbers) × (new.target_numbers ≡ old.target_numbers) × (new.text_numbers ≡ old.text_numbers)
    → OfScript old.page f.script (λ text bs. GainsStarts (to_read f.script text bs) old.page_starts new.page_starts) → SessionAnswers f old new B C NoMemory
session_memory f old new B C b d page faults numbers starts = record {
  complete = λ p q r. inr (refl, b, d);
  done = λ e. cc;
  broken = λ e. cc;
  broken_targets = λ e. b;
  broken_pages = of_nothing old.page f.script (λ text h. b);
  usage = λ e. cc;
  read_fault = λ e. cc;
  write_fault = λ e. cc;
  write_fault_last = λ e r. cc;
  write_fault_last_text = λ e r. cc;
  write_fault_targets = λ e r. cc;
  write_fault_text = λ e r h. cc;
  write_fault_line = λ e r. cc;
  no_memory = λ e. (b, d);
  no_memory_pages = λ e. faults;
  starts = starts;
  all_starts = λ e. absurd (elim e [ inl x ↦ cc | inr x ↦ cc ]);
  same_pages = page;
  page_count = omega arith;
  same_numbers = numbers;
  quiet_done = λ e. cc;
  quiet_broken = λ e. cc;
  quiet_text = λ e. cc;
}

-- the script or a page that it reads can't be read
pub session_fault : (f : Following) (old new : Outside) (B C : Type 0) (s : Status) (line : List ℕ) → B → new.page ≡ old.page → old.page_faults < new.page_faults
    → new.target_faults ≡ old.target_faults
    → OfScript old.page f.script (λ text bs. (name : List ℕ) × IsAmong old.page (to_read f.script text bs) new.page_asked name × (line ≡ cannot_read_line name) × IsTrue new.page_failed)
    → (new.page_numbers ≡ old.page_numbers) × (new.target_numbers ≡ old.target_numbers) × (new.text_numbers ≡ old.text_numbers)
    → OfScript old.page f.script (λ text bs. GainsStarts (to_read f.script text bs) old.page_starts new.page_starts) → (s ≡ ReadFault) ⊎ (s ≡ WriteFault)
    → (s ≡ ReadFault → GainsText line old.taken new.taken) → (s ≡ ReadFault → new.text_faults ≡ old.text_faults)
    → (s ≡ WriteFault → old.text_faults < new.text_faults) → (s ≡ WriteFault → IsTrue new.text_failed)
    → (s ≡ WriteFault → TextGainsFront line old.taken new.taken) → SessionAnswers f old new B C s
session_fault f old new B C s line b page rose same unread numbers starts either gains quiet cause last front = record {
  complete = λ p q r. absurd (omega arith);
  done = λ e. absurd (not_one s ReadFault WriteFault Done either (λ x. cc) (λ x. cc) e);
  broken = λ e. absurd (not_one s ReadFault WriteFault Broken either (λ x. cc) (λ x. cc) e);
  broken_targets = λ e. b;
  broken_pages = of_nothing old.page f.script (λ text h. b);
  usage = λ e. not_one s ReadFault WriteFault Usage either (λ x. cc) (λ x. cc) e;
  read_fault = λ e. (rose, b, tells GainsText (gains e));
  write_fault = λ e. inr (cause e);
  write_fault_last = λ e r. absurd (omega arith);
  write_fault_last_text = λ e r. last e;
  write_fault_targets = λ e r. absurd (omega arith);
  write_fault_text = λ e r h. absurd (omega arith);
  write_fault_line = λ e r. (b, tells TextGainsFront (front e));
  no_memory = λ e. absurd (not_one s ReadFault WriteFault NoMemory either (λ x. cc) (λ x. cc) e);
  no_memory_pages = λ e. absurd (not_one s ReadFault WriteFault NoMemory either (λ x. cc) (λ x. cc) e);
  starts = starts;
  all_starts = λ e. absurd (elim e [ inl x ↦ not_one s ReadFault WriteFault Done either (λ y. cc) (λ y. cc) x | inr x ↦ not_one s ReadFault WriteFault Broken either (λ y. cc) (λ y. cc) x ]);
  same_pages = page;
  page_count = omega arith;
  same_numbers = numbers;
  quiet_done = λ e. absurd (not_one s ReadFault WriteFault Done either (λ x. cc) (λ x. cc) e);
  quiet_broken = λ e. absurd (not_one s ReadFault WriteFault Broken either (λ x. cc) (λ x. cc) e);
  quiet_text = quiet;
}
  where
    tells : (Gains : List ℕ → Option (List ℕ) → Option (List ℕ) → Type 0) → Gains line old.taken new.taken → TellsUnread f old new Gains
    tells Gains h = of_script old.page f.script (λ text bs u. (u.0, u.1, u.3, subst (λ (t : List ℕ). Gains t old.taken new.taken) u.2 h)) unread

-- nothing was called, and memory is wanted
other_untouched : (o : Option Command) (old : Outside) (A B C : Type 0) → A → B → C → Answers o old old A B C NoMemory
other_untouched o old A B C a b d = memory_answer o old old A B C b d refl refl (refl, refl, refl)
    (some_all o _ (λ command. some_all (number_of command) _ (λ n. a))) (some_all o _ (λ command. (0, none_started old.page_starts))) (some_all o _ (λ command. inl a))

pub untouched : (o : Option Command) (old : Outside) (A B C : Type 0) → A → B → C → Answered o old old A B C NoMemory
untouched None old A B C a b d = other_untouched None old A B C a b d
untouched (Some (Extract base dir pages)) old A B C a b d = other_untouched (Some (Extract base dir pages)) old A B C a b d
untouched (Some (Check base pages)) old A B C a b d = other_untouched (Some (Check base pages)) old A B C a b d
untouched (Some (Sample number)) old A B C a b d = other_untouched (Some (Sample number)) old A B C a b d
untouched (Some (Plain page)) old A B C a b d = other_untouched (Some (Plain page)) old A B C a b d
untouched (Some (Trace base pages)) old A B C a b d = other_untouched (Some (Trace base pages)) old A B C a b d
untouched (Some (Session base dir script)) old A B C a b d =
    session_memory (record { base = base; dir = dir; script = script }) old old B C b d refl refl (refl, refl, refl)
    (of_nothing old.page script (λ text. (0, none_started old.page_starts)))

-- what is answered to a command is answered to the same command
pub along_answered : (old new : Outside) (A B C : Type 0) (s : Status) (o o' : Option Command) → o ≡ o' → Answered o old new A B C s → Answered o' old new A B C s
along_answered old new A B C s o o' e h = subst (λ (k : Option Command). Answered k old new A B C s) e h

-- a command that isn't a session
pub no_session : (c : Command) → ((base dir script : List ℕ) → c ≡ Session base dir script → ⊥) → is_session c ≡ false
no_session (Extract base dir pages) none = refl
no_session (Check base pages) none = refl
no_session (Sample number) none = refl
no_session (Plain page) none = refl
no_session (Trace base pages) none = refl
no_session (Session base dir script) none = absurd (none base dir script refl)
