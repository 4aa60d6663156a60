-- What following one line of a script answers.
use Rattle.std.proofs.Common.{◌≡◌, ◌⊎◌, ◌↔◌, inl, inr, ◌∙◌, ap, sym, refl, ℕ, ◌≤◌, ◌<◌, Bool, true, false, IsTrue, List, [], ◌∷◌, ◌++◌, Option, Some, None, IfSome, Result, Ok, Err, IfOk, append-nil, subst, arith, length, drop, ◌||◌}
use Rattle.std.specs.Global.{Global}
use Rattle.std.specs.List.{list_any}
use Rattle.std.proofs.lemmas.List.{drop_all}
use Rattle.std.specs.Prelude.{Vec}
use Rattle.std.proofs.lemmas.Result.{IfOk-weaker}
use Rattle.ix_base.specs.declared.limits.TheConstants.{MOST_BYTES_PUT, MOST_TAGS_PUT}
use Rattle.ix_base.specs.Outside.{TellsAlso}
use Rattle.ix_base.specs.declared.NoMemory.{NoMemory}
use Rattle.ix_base.specs.declared.rule.Rule.TheVariants.{X2, X3, X4}
use Rattle.page_session.specs.Course.{AreTold, Standing, StandsAs, breaks, bytes_behind, effect_of, leads, name_read, names_read, names_read_from, nothing_put, stops, with_page, without_page}
use Rattle.page_session.specs.HandedPages.{Handed, handed, is_one_too_many, is_there}
use Rattle.page_session.specs.Script.{is_extract}
use Rattle.page_session.specs.Sessions.{HasDropped, HasPut, IsOver, IsWithin, OfPage, StandsFor, base_of, bytes_put, names_in, tags_put}
use Rattle.page_session.specs.Sources.{Source}
use Rattle.page_session.specs.declared.put.PutFault.{PutFault}
use Rattle.page_session.specs.declared.put.PutFault.TheVariants as fault
use Rattle.page_session.specs.declared.script.Line.{Line}
use Rattle.page_session.specs.declared.script.Line.TheVariants as line
use Rattle.page_session.specs.declared.script.ScriptLine.{ScriptLine}
use Rattle.page_session.specs.declared.session.Session.{Session}
use Rattle.ixds_run.specs.DueTables.{outcome_of}
use Rattle.ixds_run.specs.ScriptRuns.{HasFollowed, IsEnded, IsLastPut, IsLineFollowed, IsSilent, OfLines, OnLines, Started, WhyUnfollowed, ended}
use Rattle.page_verdicts.specs.Gains.{GainsStarts}
use Rattle.ixds_run.specs.SessionOutcomes.{IsChecked, IsExtracted, broken_line}
use Rattle.page_verdicts.specs.Texts.{cannot_read_line}
use Rattle.ixds_run.specs.declared.due.Due.{Due}
use Rattle.page_verdicts.specs.declared.read_pages.Stopped.{Stopped}
use Rattle.page_verdicts.specs.declared.read_pages.Stopped.TheVariants as stopped
use Rattle.ixds_run.proofs.FollowLaws.{checks_here, closes_here, front_started, full_read, has_room, last_put, leads_here, puts_here, room_read, started_none, starts_here, starts_one, stops_here}

module _ (script : List ℕ) (l : ScriptLine) (old new : Source) (s s' : Session) (text text' : List ℕ) where
  pub goes_on : new.faults ≡ old.faults → is_extract l.line ≡ false
      → OnLines old.page l old.starts s text (λ base lines rest before. HasFollowed old.page base lines rest before new.starts s' text')
      → IsLineFollowed script l old new s s' text text' (Ok None)
  goes_on faults other next = record {
    leads = next;
    on = λ e. other;
    silent = tt;
    starts = λ base lines rest before h. gained base lines rest before (next base lines rest before h);
    ok = faults;
    stopped = tt;
  }
    where
      told_front : (ns more bs : List (List ℕ)) → AreTold old.page ns bs → AreTold old.page (ns ++ more) bs
      told_front ns more [] k = tt
      told_front [] more (b ∷ bs) k = absurd k
      told_front (n ∷ ns) more (b ∷ bs) k = (k.0, told_front ns more bs k.1)

      gained : (base : List ℕ) (lines rest : List ScriptLine) (before : Option (List (List ℕ))) → HasFollowed old.page base lines rest before new.starts s' text'
          → OfLines old.page lines (λ bs. GainsStarts (names_read lines bs) before new.starts)
      gained base lines rest before h =
          let names = h.names_are [] in (
            h.bs ++ [],
            subst (λ ns. AreTold old.page ns (h.bs ++ [])) (sym names) (subst (λ bs. AreTold old.page (h.names ++ names_read_from rest h.standing []) bs) (sym (append-nil h.bs))
                (told_front h.names (names_read_from rest h.standing []) h.bs h.told_are)),
            subst (λ ns. GainsStarts ns before new.starts) (sym names) (front_started h.names (names_read_from rest h.standing []) before new.starts h.starts),
          )

  pub wanted : new.faults ≡ old.faults
      → OnLines old.page l old.starts s text (λ base lines rest before. OfLines old.page lines (λ bs. GainsStarts (names_read lines bs) before new.starts))
      → IsLineFollowed script l old new s s' text text' (Err stopped.NoMemory)
  wanted faults starts = record {
    leads = tt;
    on = tt;
    silent = tt;
    starts = starts;
    ok = tt;
    stopped = λ base lines rest before h. faults;
  }

  pub ends_by : (r : Result Due NoMemory) → new.faults ≡ old.faults → IfOk r IsSilent
      → IfOk r (λ due. OnLines old.page l old.starts s text (λ base lines rest before. OfLines old.page lines (IsEnded base script lines before new.starts due)))
      → OnLines old.page l old.starts s text (λ base lines rest before. OfLines old.page lines (λ bs. GainsStarts (names_read lines bs) before new.starts))
      → IsLineFollowed script l old new s s' text text' (ended r)
  ends_by (Ok due) faults silent end starts = record {
    leads = end;
    on = λ e. absurd (let z : Some due ≡ None = e in cc);
    silent = silent;
    starts = starts;
    ok = faults;
    stopped = tt;
  }
  ends_by (Err e) faults silent end starts = wanted faults starts

  pub along_end : (r r' : Result (Option Due) Stopped) → r' ≡ r → IsLineFollowed script l old new s s' text text' r → IsLineFollowed script l old new s s' text text' r'
  along_end r r' e h = subst (λ (x : Result (Option Due) Stopped). IsLineFollowed script l old new s s' text text' x) (sym e) h

-- A line that puts.

is_full : (r : Result Unit PutFault) (v : Bool) → r ≡ Err fault.TooMany → ((r ≡ Err fault.TooMany) ↔ (v ≡ true)) → v ≡ true
is_full r v is iff = iff.0 is

pub has_space : (r : Result Unit PutFault) (v : Bool) → (r ≡ Err fault.TooMany → ⊥) → ((r ≡ Err fault.TooMany) ↔ (v ≡ true)) → v ≡ false
has_space r true not iff = absurd (not (iff.1 refl))
has_space r false not iff = refl

module _ (script : List ℕ) (start : ℕ) (name : List ℕ) (old new : Source) (s s' : Session) (text : List ℕ) where
  pub put_goes : ((old new : Session) (t : Standing) (n : ℕ) (name b : List ℕ) (bs : List (List ℕ)) → StandsAs old t → HasPut (handed name b) old new → is_one_too_many (names_in old) name ≡ false
      → IsWithin new → (effect_of t n (line.Put name) (b ∷ bs) ≡ leads (with_page t name b)) × StandsAs new (with_page t name b))
      → is_one_too_many (names_in s) name ≡ false → OfPage (old.page name) (λ b. HasPut (handed name b) s s') → IsWithin s' → TellsAlso old.page name → Started (name ∷ []) old.starts new.starts
      → new.faults ≡ old.faults → IsLineFollowed script (record { start = start; line = line.Put name }) old new s s' text text (Ok None)
  put_goes law room put within also on faults = goes_on script (record { start = start; line = line.Put name }) old new s s' text text faults refl (λ base lines rest before h.
      puts_here old.page base lines rest (record { start = start; line = line.Put name }) before old.starts s text h name put.0 new.starts s' refl
      (λ bs. law s s' h.standing start name put.0 bs h.stands put.2 room within) room put.1 also on put.2 within)

  pub put_full : ((s : Session) (t : Standing) (n : ℕ) (name : List ℕ) (bs : List (List ℕ)) → StandsAs s t → is_one_too_many (names_in s) name ≡ true
      → effect_of t n (line.Put name) bs ≡ stops (breaks n X3))
      → is_one_too_many (names_in s) name ≡ true → new.faults ≡ old.faults → new.starts ≡ old.starts → (r : Result Due NoMemory) → IfOk r IsSilent
      → IfOk r (λ due. (dir : List ℕ) → outcome_of (Some dir) due ≡ broken_line script X3 start)
      → IsLineFollowed script (record { start = start; line = line.Put name }) old new s s' text text (ended r)
  put_full law full faults same r silent due_is = ends_by script (record { start = start; line = line.Put name }) old new s s' text text r faults silent
      (IfOk-weaker r _ _ (λ due is base lines rest before h.
      stops_here old.page base lines rest (record { start = start; line = line.Put name }) before old.starts s text h [] [] new.starts script X3 due
      (law s h.standing start name [] h.stands full) (full_read h.standing name (has_room s h.standing name true h.stands full)) tt (same ∙ started_none old.starts) is) due_is)
      (λ base lines rest before h. starts_here old.page base lines rest (record { start = start; line = line.Put name }) before old.starts s text h new.starts same)

  pub put_passes : ((s : Session) (t : Standing) (n : ℕ) (name b : List ℕ) (bs : List (List ℕ)) → StandsAs s t → is_one_too_many (names_in s) name ≡ false → IsOver s b
      → effect_of t n (line.Put name) (b ∷ bs) ≡ stops (breaks n X4))
      → is_one_too_many (names_in s) name ≡ false → OfPage (old.page name) (IsOver s) → Started (name ∷ []) old.starts new.starts → new.faults ≡ old.faults → (r : Result Due NoMemory) → IfOk r IsSilent
      → IfOk r (λ due. (dir : List ℕ) → outcome_of (Some dir) due ≡ broken_line script X4 start)
      → IsLineFollowed script (record { start = start; line = line.Put name }) old new s s' text text (ended r)
  put_passes law room over on faults r silent due_is = ends_by script (record { start = start; line = line.Put name }) old new s s' text text r faults silent
      (IfOk-weaker r _ _ (λ due is base lines rest before h.
      stops_here old.page base lines rest (record { start = start; line = line.Put name }) before old.starts s text h (over.0 ∷ []) (name ∷ []) new.starts script X4 due
      (law s h.standing start name over.0 [] h.stands room over.2) (room_read h.standing name (has_room s h.standing name false h.stands room)) (over.1, tt) on is) due_is)
      (λ base lines rest before h. starts_one old.page base lines rest (record { start = start; line = line.Put name }) before old.starts s text h name new.starts refl room on)

  either_starts : is_one_too_many (names_in s) name ≡ false → (new.starts ≡ old.starts) ⊎ Started (name ∷ []) old.starts new.starts
      → OnLines old.page (record { start = start; line = line.Put name }) old.starts s text (λ base lines rest before. OfLines old.page lines (λ bs. GainsStarts (names_read lines bs) before new.starts))
  either_starts room (inl same) base lines rest before h = starts_here old.page base lines rest (record { start = start; line = line.Put name }) before old.starts s text h new.starts same
  either_starts room (inr on) base lines rest before h = starts_one old.page base lines rest (record { start = start; line = line.Put name }) before old.starts s text h name new.starts refl room on

  pub put_wanted : is_one_too_many (names_in s) name ≡ false → (new.starts ≡ old.starts) ⊎ Started (name ∷ []) old.starts new.starts → new.faults ≡ old.faults
      → IsLineFollowed script (record { start = start; line = line.Put name }) old new s s' text text (Err stopped.NoMemory)
  put_wanted room either faults = wanted script (record { start = start; line = line.Put name }) old new s s' text text faults (either_starts room either)

  pub none_wanted : new.starts ≡ old.starts → new.faults ≡ old.faults → IsLineFollowed script (record { start = start; line = line.Put name }) old new s s' text text (Err stopped.NoMemory)
  none_wanted same faults = wanted script (record { start = start; line = line.Put name }) old new s s' text text faults
      (λ base lines rest before h. starts_here old.page base lines rest (record { start = start; line = line.Put name }) before old.starts s text h new.starts same)

  pub put_fails : (l : Vec ℕ Global) → is_one_too_many (names_in s) name ≡ false → (new.starts ≡ old.starts) ⊎ Started (name ∷ []) old.starts new.starts → old.faults < new.faults → IfSome new.asked (λ n. n ≡ name)
      → IsTrue new.failed → l.items ≡ cannot_read_line name → IsLineFollowed script (record { start = start; line = line.Put name }) old new s s' text text (Err (stopped.Failed l))
  put_fails l room either rose asked failed is = record {
    leads = tt;
    on = tt;
    silent = tt;
    starts = either_starts room either;
    ok = tt;
    stopped = λ base lines rest before h. (
      rose,
      last_put old.page base lines rest (record { start = start; line = line.Put name }) before old.starts s text h name l.items new.asked new.failed refl room asked is failed,
    );
  }

-- The other lines.

pub same_line : (l : ScriptLine) (k : Line) → l.line ≡ k → record { start = l.start; line = k } ≡ l
same_line l k is = λ i. record { start = l.start; line = sym is i }

module _ (script : List ℕ) (l : ScriptLine) (old new : Source) (s s' : Session) (text text' : List ℕ) where
  pub put_line : (name : List ℕ) (r : Result (Option Due) Stopped) → l.line ≡ line.Put name → text' ≡ text
      → IsLineFollowed script (record { start = l.start; line = line.Put name }) old new s s' text text r → IsLineFollowed script l old new s s' text text' r
  put_line name r is same h =
      subst (λ (t : List ℕ). IsLineFollowed script l old new s s' text t r) (sym same)
      (subst (λ (k : ScriptLine). IsLineFollowed script k old new s s' text text r) (same_line l (line.Put name) is) h)

  pub drop_goes : ((old new : Session) (t : Standing) (n : ℕ) (name : List ℕ) (bs : List (List ℕ)) → StandsAs old t → HasDropped name old new → is_there (names_in old) name ≡ true
      → (effect_of t n (line.Drop name) bs ≡ leads (without_page t name)) × StandsAs new (without_page t name))
      → (name : List ℕ) → l.line ≡ line.Drop name → HasDropped name s s' → is_there (names_in s) name ≡ true → new.faults ≡ old.faults → new.starts ≡ old.starts → text' ≡ text
      → IsLineFollowed script l old new s s' text text' (Ok None)
  drop_goes law name is dropped there faults same kept = goes_on script l old new s s' text text' faults (ap is_extract is) (λ base lines rest before h.
      subst (λ (t : List ℕ). HasFollowed old.page base lines rest before new.starts s' t) (sym kept)
      (leads_here old.page base lines rest l before old.starts s text h (without_page h.standing name) new.starts s'
      (λ bs. ap (λ k. effect_of h.standing l.start k bs) is ∙ (law s s' h.standing l.start name bs h.stands dropped there).0)
      (ap (λ k. name_read h.standing k) is) (λ bs. ap (λ k. bytes_behind k bs) is) (law s s' h.standing l.start name [] h.stands dropped there).1 dropped.base refl
      (let sums = dropped.sums in let within = h.within in
      (subst (λ n. n ≤ MOST_BYTES_PUT) (sym (ap (λ x. x.bytes) sums)) within.0, subst (λ n. n ≤ MOST_TAGS_PUT) (sym (ap (λ x. x.tags) sums)) within.1)) same))

  pub drop_misses : ((s : Session) (t : Standing) (n : ℕ) (name : List ℕ) (bs : List (List ℕ)) → StandsAs s t → is_there (names_in s) name ≡ false
      → effect_of t n (line.Drop name) bs ≡ stops (breaks n X2))
      → (name : List ℕ) → l.line ≡ line.Drop name → is_there (names_in s) name ≡ false → new.faults ≡ old.faults → new.starts ≡ old.starts → (r : Result Due NoMemory) → IfOk r IsSilent
      → IfOk r (λ due. (dir : List ℕ) → outcome_of (Some dir) due ≡ broken_line script X2 l.start) → IsLineFollowed script l old new s s' text text' (ended r)
  drop_misses law name is missing faults same r silent due_is = ends_by script l old new s s' text text' r faults silent
      (IfOk-weaker r _ _ (λ due told base lines rest before h.
      stops_here old.page base lines rest l before old.starts s text h [] [] new.starts script X2 due
      (ap (λ k. effect_of h.standing l.start k []) is ∙ law s h.standing l.start name [] h.stands missing) (ap (λ k. name_read h.standing k) is) tt (same ∙ started_none old.starts) told) due_is)
      (λ base lines rest before h. starts_here old.page base lines rest l before old.starts s text h new.starts same)

  pub check_goes : l.line ≡ line.Check → s' ≡ s → new.faults ≡ old.faults → new.starts ≡ old.starts
      → ((pages : List Handed) → StandsFor s pages → (added : List ℕ) × IsChecked (base_of s) pages added × (text' ≡ text ++ added))
      → IsLineFollowed script l old new s s' text text' (Ok None)
  check_goes is kept faults same checked = goes_on script l old new s s' text text' faults (ap is_extract is) (λ base lines rest before h.
      let one = checked h.standing.pages h.stands.stands in
      subst (λ (x : Session). HasFollowed old.page base lines rest before new.starts x text') (sym kept)
      (checks_here old.page base lines rest l before old.starts s text h one.0 text' new.starts is one.1 one.2 same))

  pub line_wanted : new.faults ≡ old.faults → new.starts ≡ old.starts → IsLineFollowed script l old new s s' text text' (Err stopped.NoMemory)
  line_wanted faults same = wanted script l old new s s' text text' faults
      (λ base lines rest before h. starts_here old.page base lines rest l before old.starts s text h new.starts same)

  pub extract_ends : l.line ≡ line.Extract → new.faults ≡ old.faults → new.starts ≡ old.starts → (r : Result Due NoMemory) → IfOk r IsSilent
      → IfOk r (λ due. (pages : List Handed) → StandsFor s pages → (dir : List ℕ) → IsExtracted (base_of s) dir pages text (outcome_of (Some dir) due))
      → IsLineFollowed script l old new s s' text text' (ended r)
  extract_ends is faults same r silent due_is = ends_by script l old new s s' text text' r faults silent
      (IfOk-weaker r _ _ (λ due told base lines rest before h.
      closes_here old.page base lines rest l before old.starts s text h new.starts script due is same (told h.standing.pages h.stands.stands)) due_is)
      (λ base lines rest before h. starts_here old.page base lines rest l before old.starts s text h new.starts same)

-- Lines one behind another.

module _ (script : List ℕ) (l : ScriptLine) (old new : Source) (s s' : Session) (text text' : List ℕ) (page : List ℕ → Option (List ℕ)) (base : List ℕ) (lines rest : List ScriptLine)
    (before : Option (List (List ℕ))) (same : old.page ≡ page) (h : HasFollowed page base lines (l ∷ rest) before old.starts s text) where
  here : HasFollowed old.page base lines (l ∷ rest) before old.starts s text
  here = subst (λ (p : List ℕ → Option (List ℕ)). HasFollowed p base lines (l ∷ rest) before old.starts s text) (sym same) h

  pub line_next : IsLineFollowed script l old new s s' text text' (Ok None) → HasFollowed page base lines rest before new.starts s' text'
  line_next f = subst (λ (p : List ℕ → Option (List ℕ)). HasFollowed p base lines rest before new.starts s' text') same (f.leads base lines rest before here)

  pub line_end : (due : Due) → IsLineFollowed script l old new s s' text text' (Ok (Some due)) → OfLines page lines (IsEnded base script lines before new.starts due)
  line_end due f = subst (λ (p : List ℕ → Option (List ℕ)). OfLines p lines (IsEnded base script lines before new.starts due)) same (f.leads base lines rest before here)

  pub line_starts : (r : Result (Option Due) Stopped) → IsLineFollowed script l old new s s' text text' r → OfLines page lines (λ bs. GainsStarts (names_read lines bs) before new.starts)
  line_starts r f = subst (λ (p : List ℕ → Option (List ℕ)). OfLines p lines (λ bs. GainsStarts (names_read lines bs) before new.starts)) same (f.starts base lines rest before here)

  why_since : (first : Source) (why : Stopped) → old.page ≡ first.page → old.faults ≡ first.faults → WhyUnfollowed lines old new why → WhyUnfollowed lines first new why
  why_since first (stopped.Failed line) pages faults w = (
    subst (λ (n : ℕ). n < new.faults) faults w.0,
    subst (λ (p : List ℕ → Option (List ℕ)). OfLines p lines (λ bs. (name : List ℕ) × IsLastPut p (names_read lines bs) new.asked name × (line.items ≡ cannot_read_line name) × IsTrue new.failed)) pages w.1,
  )
  why_since first stopped.NoMemory pages faults w = w ∙ faults

  pub line_stopped : (first : Source) (why : Stopped) → old.page ≡ first.page → old.faults ≡ first.faults → IsLineFollowed script l old new s s' text text' (Err why)
      → WhyUnfollowed lines first new why
  line_stopped first why pages faults f = why_since first why pages faults (f.stopped base lines rest before here)

-- nothing was followed yet
pub followed_none : (page : List ℕ → Option (List ℕ)) (base : List ℕ) (lines : List ScriptLine) (before : Option (List (List ℕ))) (s : Session) (text : List ℕ)
    → StandsAs s nothing_put → base_of s ≡ base → bytes_put s ≡ 0 → tags_put s ≡ 0 → text ≡ [] → HasFollowed page base lines lines before before s text
followed_none page base lines before s text stands is bytes tags none = record {
  bs = [];
  names = [];
  standing = nothing_put;
  checks = [];
  texts = [];
  course_is = λ more. refl;
  names_are = λ more. refl;
  count = refl;
  told_are = tt;
  telling = λ n some. refl;
  starts = started_none before;
  stands = stands;
  base_is = is;
  sum = refl;
  within = (omega (arith, bytes), omega (arith, tags));
  checked = tt;
  text_is = none;
}

pub nothing_started : (page : List ℕ → Option (List ℕ)) (lines : List ScriptLine) (before : Option (List (List ℕ))) → OfLines page lines (λ bs. GainsStarts (names_read lines bs) before before)
nothing_started page lines before = ([], tt, (0, started_none before))

-- an extract is among the lines behind one that is none
pub extract_behind : (l : ScriptLine) (rest lines : List ScriptLine) → lines ≡ l ∷ rest → list_any (λ x. is_extract x.line) lines ≡ true → is_extract l.line ≡ false
    → list_any (λ x. is_extract x.line) rest ≡ true
extract_behind l rest lines is all not =
    let z : (is_extract l.line || list_any (λ x. is_extract x.line) rest) ≡ true = sym (ap (list_any (λ x. is_extract x.line)) is) ∙ all in
    let y : (false || list_any (λ x. is_extract x.line) rest) ≡ true = subst (λ (b : Bool). (b || list_any (λ x. is_extract x.line) rest) ≡ true) not z in y

pub none_behind : (lines : List ScriptLine) (n : ℕ) → length lines ≤ n → list_any (λ x. is_extract x.line) (drop n lines) ≡ true → ⊥
none_behind lines n past some = let z : false ≡ true = sym (ap (list_any (λ x. is_extract x.line)) (drop_all n lines past)) ∙ some in cc
