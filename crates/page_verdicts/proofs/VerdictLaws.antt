-- What the pages of a command come to, by the kind of the command.
use Rattle.std.proofs.Common.{◌≡◌, ◌∙◌, ap, refl, sym, subst, ℕ, false, List, Some, None, Result, Ok, Err, IfOk}
use Rattle.ix_base.specs.declared.NoMemory.{NoMemory}
use Rattle.command_words.specs.Commands.{base_of, pages_of}
use Rattle.page_verdicts.specs.CommandKinds.{is_session}
use Rattle.page_verdicts.specs.PageReads.{IsRead}
use Rattle.sample_page.specs.Sample.{sample_base}
use Rattle.page_verdicts.specs.Verdicts.{CommandMakes, IsOfSet, IsShown, IsTraced, PagesMake}
use Rattle.command_words.specs.declared.command.Command.{Command}
use Rattle.command_words.specs.declared.command.Command.TheVariants.{Extract, Check, Sample, Plain, Trace, Session}
use Rattle.page_verdicts.specs.declared.read_pages.Forest.{Forest}
use Rattle.page_verdicts.specs.declared.verdict.Verdict.{Verdict}

-- the only command without a base shows a page
pub shown_by : (c : Command) (names bs : List (List ℕ)) (v : Verdict) → None ≡ base_of c → IsShown names bs v → PagesMake c names bs v
shown_by (Extract base dir pages) names bs v none h = absurd cc
shown_by (Check base pages) names bs v none h = absurd cc
shown_by (Sample number) names bs v none h = absurd cc
shown_by (Plain page) names bs v none h = h
shown_by (Trace base pages) names bs v none h = absurd cc
shown_by (Session base dir script) names bs v none h = absurd cc

pub traced_by : (c : Command) (b : List ℕ) (pages : List (List ℕ)) (base : List ℕ) (names bs : List (List ℕ)) (v : Verdict) → c ≡ Trace b pages → Some base ≡ base_of c
    → IsTraced base names bs v → PagesMake c names bs v
traced_by c b pages base names bs v is some h =
    let same : Some base ≡ Some b = some ∙ ap base_of is in
    let one : base ≡ b = cc in
    subst (λ (d : Command). PagesMake d names bs v) (sym is) (subst (λ (x : List ℕ). IsTraced x names bs v) one h)

-- any other makes of its pages what they come to as a set
pub set_by : (c : Command) (base : List ℕ) (names bs : List (List ℕ)) (v : Verdict) → Some base ≡ base_of c
    → ((b : List ℕ) (pages : List (List ℕ)) → c ≡ Trace b pages → ⊥) → is_session c ≡ false → IsOfSet base names bs v → PagesMake c names bs v
set_by (Extract b dir pages) base names bs v some other alone h = let one : base ≡ b = cc in subst (λ (x : List ℕ). IsOfSet x names bs v) one h
set_by (Check b pages) base names bs v some other alone h = let one : base ≡ b = cc in subst (λ (x : List ℕ). IsOfSet x names bs v) one h
set_by (Sample number) base names bs v some other alone h = let one : base ≡ sample_base = cc in subst (λ (x : List ℕ). IsOfSet x names bs v) one h
set_by (Plain page) base names bs v some other alone h = absurd cc
set_by (Trace b pages) base names bs v some other alone h = absurd (other b pages refl)
set_by (Session b dir script) base names bs v some other alone h = absurd cc

-- what the pages of these names make
pub made_by : (c : Command) (names : List (List ℕ)) (f : Forest) (Q : List (List ℕ) → Verdict → Type 0) (r : Result Verdict NoMemory) → names ≡ pages_of c
    → ((bs : List (List ℕ)) (v : Verdict) → Q bs v → PagesMake c names bs v) → IfOk r (λ v. (bs : List (List ℕ)) → IsRead bs f → Q bs v)
    → IfOk r (λ v. (bs : List (List ℕ)) → IsRead bs f → CommandMakes c bs v)
made_by c names f Q (Ok v) named is h = λ bs read. subst (λ (ns : List (List ℕ)). PagesMake c ns bs v) named (is bs v (h bs read))
made_by c names f Q (Err x) named is h = tt
