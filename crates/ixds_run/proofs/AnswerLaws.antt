-- What a run answers, put together from what its parts answer.
use Rattle.std.proofs.Common.{◌≡◌, ◌⊎◌, ◌∙◌, sym, refl, ℕ, ◌<◌, IsTrue, List, Option, Some, None, IfSome, subst, inl, inr, arith}
use Rattle.ix_base.specs.Outside.{TextGainsFront}
use Rattle.ixds_run.specs.Answers.{Answers, Outside}
use Rattle.command_words.specs.Commands.{number_of, pages_of}
use Rattle.page_verdicts.specs.Gains.{GainsStarts, GainsText}
use Rattle.page_verdicts.specs.CommandBytes.{AreSome, IfTold, bytes_told}
use Rattle.page_verdicts.specs.PageReads.{IsAmong}
use Rattle.page_verdicts.specs.Texts.{cannot_read_line, usage_text}
use Rattle.command_words.specs.declared.command.Command.{Command}
use Rattle.ixds_run.specs.declared.status.Status.{Status}
use Rattle.ixds_run.specs.declared.status.Status.TheVariants.{Done, Broken, Usage, ReadFault, WriteFault, NoMemory}

pub some_all : {X : Type 0} (o : Option X) (P : X → Type 0) → ((x : X) → P x) → IfSome o P
some_all None P h = tt
some_all (Some x) P h = h x

-- what is so of all commands and pages is so of those that are told
told_all : (o : Option Command) (page : List ℕ → Option (List ℕ)) (P : Command → List (List ℕ) → Type 0)
    → ((c : Command) (bs : List (List ℕ)) → P c bs) → IfTold o page P
told_all o page P h = some_all o (λ c. IfSome (bytes_told page c) (P c)) (λ c. some_all (bytes_told page c) (P c) (h c))

-- what is so of these bytes, where there are any, since it is so of some
pub told_of : {P : List (List ℕ) → Type 0} (all : Option (List (List ℕ))) → AreSome all P → IfSome all P
told_of None some = tt
told_of {P} (Some all) some = subst P (sym some.1) some.2

-- what is so of all bytes is so of some
pub of_some : {P Q : List (List ℕ) → Type 0} (all : Option (List (List ℕ))) → ((bs : List (List ℕ)) → P bs → Q bs) → AreSome all P → AreSome all Q
of_some all step some = (some.0, some.1, step some.0 some.2)

-- want of memory
pub memory_answer : (o : Option Command) (old new : Outside) (A B C : Type 0) → B → C → new.page ≡ old.page → new.page_faults ≡ old.page_faults
    → (new.page_numbers ≡ old.page_numbers) × (new.target_numbers ≡ old.target_numbers) × (new.text_numbers ≡ old.text_numbers)
    → IfSome o (λ c. IfSome (number_of c) (λ n. A)) → IfSome o (λ c. GainsStarts (pages_of c) old.page_starts new.page_starts)
    → IfSome o (λ c. A ⊎ ((name : List ℕ) × IsAmong old.page (pages_of c) new.page_asked name)) → Answers o old new A B C NoMemory
memory_answer o old new A B C b d page faults numbers sample starts asked = record {
  complete = told_all o old.page _ (λ c bs e f g. inr (refl, b, d));
  done = λ e. cc;
  broken = λ e. cc;
  broken_targets = λ e. b;
  broken_pages = told_all o old.page _ (λ c bs h. b);
  check = some_all o _ (λ c e. b);
  sample = sample;
  usage = λ e. cc;
  usage_exactly = λ e. inr (inr refl);
  read_fault = λ e. cc;
  write_fault = λ e. cc;
  write_fault_last = λ e f. cc;
  write_fault_last_text = λ e f. cc;
  write_fault_targets = λ e f. cc;
  write_fault_text = λ e f h. cc;
  write_fault_line = λ e f. cc;
  write_fault_usage = λ e f. cc;
  no_memory = λ e. (b, d);
  no_memory_pages = λ e. faults;
  starts = starts;
  asked_page = asked;
  same_pages = page;
  page_count = omega arith;
  same_numbers = numbers;
  stops = λ e. absurd (elim e [ inl x ↦ cc | inr x ↦ cc ]);
  quiet_done = λ e. cc;
  quiet_broken = λ e. cc;
  quiet_text = λ e. absurd (elim e [ inl x ↦ cc | inr x ↦ cc ]);
}

-- a status that is one of two is no other
pub not_one : (s x y z : Status) → (s ≡ x) ⊎ (s ≡ y) → (x ≡ z → ⊥) → (y ≡ z → ⊥) → s ≡ z → ⊥
not_one s x y z (inl e) p q f = p (sym e ∙ f)
not_one s x y z (inr e) p q f = q (sym e ∙ f)

-- the words give no command
pub usage_answer : (o : Option Command) (old new : Outside) (A B C : Type 0) (s : Status) → o ≡ None → A → B → new.page ≡ old.page
    → new.page_faults ≡ old.page_faults → new.target_faults ≡ old.target_faults
    → (new.page_numbers ≡ old.page_numbers) × (new.target_numbers ≡ old.target_numbers) × (new.text_numbers ≡ old.text_numbers) → (s ≡ Usage) ⊎ (s ≡ WriteFault)
    → (s ≡ Usage → GainsText usage_text old.taken new.taken) → (s ≡ Usage → new.text_faults ≡ old.text_faults)
    → (s ≡ WriteFault → old.text_faults < new.text_faults) → (s ≡ WriteFault → IsTrue new.text_failed)
    → (s ≡ WriteFault → TextGainsFront usage_text old.taken new.taken)
    → Answers o old new A B C s
usage_answer o old new A B C s none a b page faults same numbers either gains quiet cause last front =
    subst (λ (k : Option Command). Answers k old new A B C s) (sym none) (record {
      complete = tt;
      done = λ e. tt;
      broken = λ e. tt;
      broken_targets = λ e. b;
      broken_pages = tt;
      check = tt;
      sample = tt;
      usage = λ e. (refl, a, b, gains e);
      usage_exactly = λ e. elim either [ inl x ↦ inl x | inr x ↦ inr (inl x) ];
      read_fault = λ e. absurd (not_one s Usage WriteFault ReadFault either (λ x. cc) (λ x. cc) e);
      write_fault = λ e. inr (cause e);
      write_fault_last = λ e rose. absurd (omega arith);
      write_fault_last_text = λ e f. last e;
      write_fault_targets = λ e rose. absurd (omega arith);
      write_fault_text = λ e f h. tt;
      write_fault_line = λ e rose. absurd (omega arith);
      write_fault_usage = λ e f. (a, b, front e);
      no_memory = λ e. absurd (not_one s Usage WriteFault NoMemory either (λ x. cc) (λ x. cc) e);
      no_memory_pages = λ e. faults;
      starts = tt;
      asked_page = tt;
      same_pages = page;
      page_count = omega arith;
      same_numbers = numbers;
      stops = λ e. tt;
      quiet_done = λ e. absurd (not_one s Usage WriteFault Done either (λ x. cc) (λ x. cc) e);
      quiet_broken = λ e. absurd (not_one s Usage WriteFault Broken either (λ x. cc) (λ x. cc) e);
      quiet_text = λ e. elim e [ inl x ↦ quiet x | inr x ↦ absurd (not_one s Usage WriteFault ReadFault either (λ y. cc) (λ y. cc) x) ];
    })

-- a page can't be read
pub fault_answer : (c : Command) (old new : Outside) (A B C : Type 0) (s : Status) (name : List ℕ) → B → new.page ≡ old.page
    → IfSome (number_of c) (λ n. A) → old.page_faults < new.page_faults → new.target_faults ≡ old.target_faults → IsAmong old.page (pages_of c) new.page_asked name
    → IsTrue new.page_failed → (new.page_numbers ≡ old.page_numbers) × (new.target_numbers ≡ old.target_numbers) × (new.text_numbers ≡ old.text_numbers)
    → GainsStarts (pages_of c) old.page_starts new.page_starts → (s ≡ ReadFault) ⊎ (s ≡ WriteFault)
    → (s ≡ ReadFault → GainsText (cannot_read_line name) old.taken new.taken) → (s ≡ ReadFault → new.text_faults ≡ old.text_faults)
    → (s ≡ WriteFault → old.text_faults < new.text_faults) → (s ≡ WriteFault → IsTrue new.text_failed)
    → (s ≡ WriteFault → TextGainsFront (cannot_read_line name) old.taken new.taken)
    → Answers (Some c) old new A B C s
fault_answer c old new A B C s name b page sample rose same among failed numbers starts either gains quiet cause last front = record {
  complete = some_all (bytes_told old.page c) _ (λ bs e f g. absurd (omega arith));
  done = λ e. absurd (not_one s ReadFault WriteFault Done either (λ x. cc) (λ x. cc) e);
  broken = λ e. absurd (not_one s ReadFault WriteFault Broken either (λ x. cc) (λ x. cc) e);
  broken_targets = λ e. b;
  broken_pages = some_all (bytes_told old.page c) _ (λ bs h. b);
  check = λ e. b;
  sample = sample;
  usage = λ e. absurd (not_one s ReadFault WriteFault Usage either (λ x. cc) (λ x. cc) e);
  usage_exactly = λ e. cc;
  read_fault = λ e. (rose, b, (name, among, failed, gains e));
  write_fault = λ e. inr (cause e);
  write_fault_last = λ e f. absurd (omega arith);
  write_fault_last_text = λ e f. last e;
  write_fault_targets = λ e f. absurd (omega arith);
  write_fault_text = λ e f h. absurd (omega arith);
  write_fault_line = λ e f. (b, (name, among, failed, front e));
  write_fault_usage = λ e f. cc;
  no_memory = λ e. absurd (not_one s ReadFault WriteFault NoMemory either (λ x. cc) (λ x. cc) e);
  no_memory_pages = λ e. absurd (not_one s ReadFault WriteFault NoMemory either (λ x. cc) (λ x. cc) e);
  starts = starts;
  asked_page = inr (name, among);
  same_pages = page;
  page_count = omega arith;
  same_numbers = numbers;
  stops = λ e. absurd (elim e [ inl x ↦ not_one s ReadFault WriteFault Done either (λ y. cc) (λ y. cc) x | inr x ↦ not_one s ReadFault WriteFault Broken either (λ y. cc) (λ y. cc) x ]);
  quiet_done = λ e. absurd (not_one s ReadFault WriteFault Done either (λ x. cc) (λ x. cc) e);
  quiet_broken = λ e. absurd (not_one s ReadFault WriteFault Broken either (λ x. cc) (λ x. cc) e);
  quiet_text = λ e. elim e [ inl x ↦ absurd (not_one s ReadFault WriteFault Usage either (λ y. cc) (λ y. cc) x) | inr x ↦ quiet x ];
}

-- with no fault, all that is due is given, or memory is wanted
pub complete_by : (s : Status) (fact : Status → List (List ℕ) → Type 0) (memory more : Type 0) (p p' q q' r r' : ℕ) (pages : Option (List (List ℕ)))
    → ¬ (s ≡ Usage) → ¬ (s ≡ ReadFault) → (s ≡ Done → AreSome pages (fact Done)) → (s ≡ Broken → AreSome pages (fact Broken))
    → (s ≡ WriteFault → (q < q') ⊎ (r < r')) → (s ≡ NoMemory → memory × more)
    → IfSome pages (λ bs. p' ≡ p → q' ≡ q → r' ≡ r → fact s bs ⊎ ((s ≡ NoMemory) × memory × more))
complete_by s fact memory more p p' q q' r r' None usage read done broken write want = tt
complete_by Done fact memory more p p' q q' r r' (Some b) usage read done broken write want = λ e f g. inl (told_of (Some b) (done refl))
complete_by Broken fact memory more p p' q q' r r' (Some b) usage read done broken write want = λ e f g. inl (told_of (Some b) (broken refl))
complete_by Usage fact memory more p p' q q' r r' (Some b) usage read done broken write want = λ e f g. absurd (usage refl)
complete_by ReadFault fact memory more p p' q q' r r' (Some b) usage read done broken write want = λ e f g. absurd (read refl)
complete_by WriteFault fact memory more p p' q q' r r' (Some b) usage read done broken write want = λ e f g.
    absurd (elim (write refl) [ inl rose ↦ above q q' f rose | inr rose ↦ above r r' g rose ])
  where
    above : (m n : ℕ) → n ≡ m → m < n → ⊥
    above m n e rose = omega arith
complete_by NoMemory fact memory more p p' q q' r r' (Some b) usage read done broken write want = λ e f g.
    let both = want refl in inr (refl, both.0, both.1)

-- what is answered to a command is answered to the same command
pub along : {old new : Outside} {A B C : Type 0} {s : Status} (o o' : Option Command) → o ≡ o' → Answers o old new A B C s → Answers o' old new A B C s
along {old} {new} {A} {B} {C} {s} o o' e h = subst (λ (k : Option Command). Answers k old new A B C s) e h
