-- The lines of a script, one behind another.
use Rattle.std.proofs.Common.{◌≡◌, ◌∙◌, ap, sym, refl, ℕ, suc, ◌+◌, ◌≤◌, Bool, true, false, IsTrue, List, [], ◌∷◌, ◌++◌, length, Option, Some, None, IfSome, option_map, append_assoc, append-nil, length-append, subst, if◌then◌else◌}
use Rattle.std.specs.List.{concat}
use Rattle.std.proofs.Math.Seq.{take-append_seam, take-length}
use Rattle.std.proofs.lemmas.List.Folds.{concat-append}
use Rattle.ix_base.specs.declared.limits.TheConstants.{MOST_BYTES_PUT}
use Rattle.ix_base.specs.Outside.{TellsAlso}
use Rattle.ix_base.specs.declared.rule.Rule.{Rule}
use Rattle.ix_base.specs.declared.rule.Rule.TheVariants.{X3}
use Rattle.page_session.specs.Course.{AreTold, Course, Effect, Standing, StandsAs, asks, breaks, bytes_behind, closes, course, course_by, course_from, effect_of, ends, leads, name_read, names_by, names_read, names_read_from, stops, wants, with_check, with_page}
use Rattle.page_session.specs.HandedPages.{Handed, handed, is_one_too_many, names_of}
use Rattle.page_session.specs.Sessions.{AreKept, HasPut, IsWithin, base_of, bytes_put, names_in, names_kept}
use Rattle.page_session.specs.declared.kept.Kept.{Kept}
use Rattle.page_session.specs.declared.script.Line.TheVariants as line
use Rattle.page_session.specs.declared.script.ScriptLine.{ScriptLine}
use Rattle.page_session.specs.declared.session.Session.{Session}
use Rattle.targets.specs.Breaches.{bytes_in}
use Rattle.ixds_run.specs.DueTables.{outcome_of}
use Rattle.ixds_run.specs.ScriptRuns.{HasFollowed, IsEnded, IsLastPut, OfLines, Started, with_checks}
use Rattle.page_verdicts.specs.Gains.{GainsStarts}
use Rattle.ixds_run.specs.SessionOutcomes.{AreChecked, IsChecked, IsCourseDue, IsExtracted, broken_line}
use Rattle.page_session.specs.Sources.{told, told_both}
use Rattle.page_verdicts.specs.Texts.{cannot_read_line}
use Rattle.ixds_run.specs.declared.due.Due.{Due}
use Rattle.page_verdicts.proofs.ForestLaws.{bytes-more, telling_more}

-- Names and bytes.

told_append : (page : List ℕ → Option (List ℕ)) (ns bs xs ys : List (List ℕ)) → length ns ≡ length bs → AreTold page ns bs → AreTold page xs ys → AreTold page (ns ++ xs) (bs ++ ys)
told_append page [] [] xs ys e h more = more
told_append page [] (b ∷ bs) xs ys e h more = absurd h
told_append page (n ∷ ns) [] xs ys e h more = absurd (let z : suc (length ns) ≡ 0 = e in cc)
told_append page (n ∷ ns) (b ∷ bs) xs ys e h more = (h.0, told_append page ns bs xs ys (let z : suc (length ns) ≡ suc (length bs) = e in cc) h.1 more)

-- where the source tells all of these names, they have these bytes
told_all : (page : List ℕ → Option (List ℕ)) (ns bs : List (List ℕ)) → length ns ≡ length bs → AreTold page ns bs → IfSome (told page ns) (λ all. all ≡ bs)
told_all page [] [] e h = refl
told_all page [] (b ∷ bs) e h = absurd h
told_all page (n ∷ ns) [] e h = absurd (let z : suc (length ns) ≡ 0 = e in cc)
told_all page (n ∷ ns) (b ∷ bs) e h = both (page n) (told page ns) h.0 (told_all page ns bs (let z : suc (length ns) ≡ suc (length bs) = e in cc) h.1)
  where
    both : (o : Option (List ℕ)) (all : Option (List (List ℕ))) → IfSome o (λ t. t ≡ b) → IfSome all (λ cs. cs ≡ bs) → IfSome (told_both o all) (λ cs. cs ≡ b ∷ bs)
    both None all one more = tt
    both (Some x) None one more = tt
    both (Some x) (Some xs) one more = λ i. one i ∷ more i

if_some : {X : Type 0} {P Q : X → Type 0} (o : Option X) → ((x : X) → P x → Q x) → IfSome o P → IfSome o Q
if_some None f h = tt
if_some (Some x) f h = f x h

pub started_none : (old : Option (List (List ℕ))) → Started [] old old
started_none None = refl
started_none (Some starts) = ap Some (sym (append-nil starts))

pub started_more : (names more : List (List ℕ)) (old mid new : Option (List (List ℕ))) → Started names old mid → Started more mid new → Started (names ++ more) old new
started_more names more None mid new h k = k ∙ ap (option_map (λ s. s ++ more)) h
started_more names more (Some starts) mid new h k = k ∙ ap (option_map (λ s. s ++ more)) h ∙ ap Some (append_assoc starts names more)

pub front_started : (names more : List (List ℕ)) (old new : Option (List (List ℕ))) → Started names old new → GainsStarts (names ++ more) old new
front_started names more old new h = (length names, h ∙ ap (λ ns. option_map (λ s. s ++ ns) old) (sym (take-append_seam names more)))

pub all_started : (names : List (List ℕ)) (old new : Option (List (List ℕ))) → Started names old new → GainsStarts names old new
all_started names old new h = (length names, h ∙ ap (λ ns. option_map (λ s. s ++ ns) old) (sym (take-length names)))

-- Courses and their checks.

checks_break : (checks : List (List Handed)) (n : ℕ) (rule : Rule) → with_checks checks (breaks n rule) ≡ breaks n rule
checks_break [] n rule = refl
checks_break (pages ∷ checks) n rule = ap (with_check pages) (checks_break checks n rule)

checks_end : (checks : List (List Handed)) (last : List Handed) → with_checks checks (ends [] last) ≡ ends checks last
checks_end [] last = refl
checks_end (pages ∷ checks) last = ap (with_check pages) (checks_end checks last)

checks_more : (checks : List (List Handed)) (pages : List Handed) (c : Course) → with_checks (checks ++ pages ∷ []) c ≡ with_checks checks (with_check pages c)
checks_more [] pages c = refl
checks_more (first ∷ checks) pages c = ap (with_check first) (checks_more checks pages c)

checked_more : (base : List ℕ) (checks : List (List Handed)) (texts : List (List ℕ)) (pages : List Handed) (text : List ℕ) → AreChecked base checks texts → IsChecked base pages text
    → AreChecked base (checks ++ pages ∷ []) (texts ++ text ∷ [])
checked_more base [] [] pages text h one = (one, tt)
checked_more base [] (x ∷ texts) pages text h one = absurd h
checked_more base (c ∷ checks) [] pages text h one = absurd h
checked_more base (c ∷ checks) (x ∷ texts) pages text h one = (h.0, checked_more base checks texts pages text h.1 one)

-- Sessions that stand as courses do.

kept_names : (ks : List Kept) (ps : List Handed) → AreKept ks ps → names_kept ks ≡ names_of ps
kept_names [] [] h = refl
kept_names [] (p ∷ ps) h = absurd h
kept_names (k ∷ ks) [] h = absurd h
kept_names (k ∷ ks) (p ∷ ps) h = λ i. h.0.0 i ∷ kept_names ks ps h.1 i

-- a page isn't one too many for the course where it isn't for the session
pub has_room : (s : Session) (t : Standing) (name : List ℕ) (v : Bool) → StandsAs s t → is_one_too_many (names_in s) name ≡ v → is_one_too_many (names_of t.pages) name ≡ v
has_room s t name v at is = ap (λ ns. is_one_too_many ns name) (sym (kept_names s.kept.items t.pages at.stands.kept)) ∙ is

pub room_read : (t : Standing) (name : List ℕ) → is_one_too_many (names_of t.pages) name ≡ false → name_read t (line.Put name) ≡ name ∷ []
room_read t name is = λ i. if is i then [] else name ∷ []

room_wants : (t : Standing) (n : ℕ) (name : List ℕ) → is_one_too_many (names_of t.pages) name ≡ false → effect_of t n (line.Put name) [] ≡ stops wants
room_wants t n name is = λ i. if is i then stops (breaks n X3) else stops wants

pub full_read : (t : Standing) (name : List ℕ) → is_one_too_many (names_of t.pages) name ≡ true → name_read t (line.Put name) ≡ []
full_read t name is = λ i. if is i then [] else name ∷ []

-- One line.

module _ (page : List ℕ → Option (List ℕ)) (base : List ℕ) (lines rest : List ScriptLine) (l : ScriptLine) (before old : Option (List (List ℕ))) (s : Session) (text : List ℕ)
    (h : HasFollowed page base lines (l ∷ rest) before old s text) where
  course_at : (ys : List (List ℕ)) (e : Effect) → effect_of h.standing l.start l.line ys ≡ e
      → course lines (h.bs ++ ys) ≡ with_checks h.checks (course_by e h.standing (λ t. course_from rest t (bytes_behind l.line ys)))
  course_at ys e is = h.course_is ys ∙ ap (λ x. with_checks h.checks (course_by x h.standing (λ t. course_from rest t (bytes_behind l.line ys)))) is

  names_at : (ys xs : List (List ℕ)) (e : Effect) → effect_of h.standing l.start l.line ys ≡ e → name_read h.standing l.line ≡ xs
      → names_read lines (h.bs ++ ys) ≡ h.names ++ (xs ++ names_by e h.standing (λ t. names_read_from rest t (bytes_behind l.line ys)))
  names_at ys xs e is reads = h.names_are ys
      ∙ (λ i. h.names ++ (reads i ++ names_by (is i) h.standing (λ t. names_read_from rest t (bytes_behind l.line ys))))

  -- the pages that are asked for up to this line and these
  names_here : (ys xs : List (List ℕ)) (e : Effect) → effect_of h.standing l.start l.line ys ≡ e → name_read h.standing l.line ≡ xs
      → names_by e h.standing (λ t. names_read_from rest t (bytes_behind l.line ys)) ≡ [] → names_read lines (h.bs ++ ys) ≡ h.names ++ xs
  names_here ys xs e is reads none = names_at ys xs e is reads ∙ ap (λ ns. h.names ++ (xs ++ ns)) none ∙ ap (λ ns. h.names ++ ns) (append-nil xs)

  told_here : (ys xs : List (List ℕ)) → names_read lines (h.bs ++ ys) ≡ h.names ++ xs → AreTold page xs ys → AreTold page (names_read lines (h.bs ++ ys)) (h.bs ++ ys)
  told_here ys xs is more = subst (λ ns. AreTold page ns (h.bs ++ ys)) (sym is) (told_append page h.names h.bs xs ys h.count h.told_are more)

  -- the line breaks a rule
  pub stops_here : (ys xs : List (List ℕ)) (new : Option (List (List ℕ))) (script : List ℕ) (rule : Rule) (due : Due) → effect_of h.standing l.start l.line ys ≡ stops (breaks l.start rule)
      → name_read h.standing l.line ≡ xs → AreTold page xs ys → Started xs old new
      → ((dir : List ℕ) → outcome_of (Some dir) due ≡ broken_line script rule l.start) → OfLines page lines (IsEnded base script lines before new due)
  stops_here ys xs new script rule due is reads more on due_is =
      let names = names_here ys xs (stops (breaks l.start rule)) is reads refl in
      let at = course_at ys (stops (breaks l.start rule)) is ∙ checks_break h.checks l.start rule in (
        h.bs ++ ys,
        told_here ys xs names more,
        record {
          due_is = λ dir. subst (λ (c : Course). IsCourseDue base dir script c (outcome_of (Some dir) due)) (sym at) (due_is dir);
          starts = subst (λ (ns : List (List ℕ)). Started ns before new) (sym names) (started_more h.names xs before old new h.starts on);
        },
      )

  -- the line closes the script
  pub closes_here : (new : Option (List (List ℕ))) (script : List ℕ) (due : Due) → l.line ≡ line.Extract → new ≡ old
      → ((dir : List ℕ) → IsExtracted (base_of s) dir h.standing.pages text (outcome_of (Some dir) due)) → OfLines page lines (IsEnded base script lines before new due)
  closes_here new script due is same due_is =
      let effect : effect_of h.standing l.start l.line [] ≡ closes = ap (λ k. effect_of h.standing l.start k []) is in
      let none : name_read h.standing l.line ≡ [] = ap (λ k. name_read h.standing k) is in
      let names = names_here [] [] closes effect none refl in
      let at = course_at [] closes effect ∙ checks_end h.checks h.standing.pages in (
        h.bs ++ [],
        told_here [] [] names tt,
        record {
          due_is = λ dir. subst (λ (c : Course). IsCourseDue base dir script c (outcome_of (Some dir) due)) (sym at) (
            h.texts,
            h.checked,
            subst (λ (b : List ℕ). IsExtracted b dir h.standing.pages (concat h.texts) (outcome_of (Some dir) due)) h.base_is
                (subst (λ (x : List ℕ). IsExtracted (base_of s) dir h.standing.pages x (outcome_of (Some dir) due)) h.text_is (due_is dir)),
          );
          starts = subst (λ (ns : List (List ℕ)). Started ns before new) (sym names)
              (started_more h.names [] before old new h.starts (same ∙ started_none old));
        },
      )

  -- nothing more was asked for
  pub starts_here : (new : Option (List (List ℕ))) → new ≡ old → OfLines page lines (λ bs. GainsStarts (names_read lines bs) before new)
  starts_here new same =
      let names = h.names_are [] in (
        h.bs ++ [],
        subst (λ ns. AreTold page ns (h.bs ++ [])) (sym names) (subst (λ bs. AreTold page (h.names ++ names_read_from (l ∷ rest) h.standing []) bs) (sym (append-nil h.bs))
            (told_front h.names (names_read_from (l ∷ rest) h.standing []) h.bs h.told_are)),
        subst (λ ns. GainsStarts ns before new) (sym names) (front_started h.names (names_read_from (l ∷ rest) h.standing []) before new (same ∙ h.starts)),
      )
    where
      told_front : (ns more bs : List (List ℕ)) → AreTold page ns bs → AreTold page (ns ++ more) bs
      told_front ns more [] k = tt
      told_front [] more (b ∷ bs) k = absurd k
      told_front (n ∷ ns) more (b ∷ bs) k = (k.0, told_front ns more bs k.1)

  -- a page is asked for, and isn't put
  pub asks_here : (name : List ℕ) (new : Option (List (List ℕ))) → l.line ≡ line.Put name → is_one_too_many (names_in s) name ≡ false
      → names_read lines (h.bs ++ []) ≡ h.names ++ name ∷ []
  asks_here name new is room =
      let fits = has_room s h.standing name false h.stands room in
      names_here [] (name ∷ []) (stops wants) (ap (λ k. effect_of h.standing l.start k []) is ∙ room_wants h.standing l.start name fits)
      (ap (λ k. name_read h.standing k) is ∙ room_read h.standing name fits) refl

  pub starts_one : (name : List ℕ) (new : Option (List (List ℕ))) → l.line ≡ line.Put name → is_one_too_many (names_in s) name ≡ false → Started (name ∷ []) old new
      → OfLines page lines (λ bs. GainsStarts (names_read lines bs) before new)
  starts_one name new is room on =
      let names = asks_here name new is room in (
        h.bs ++ [],
        told_here [] (name ∷ []) names tt,
        subst (λ ns. GainsStarts ns before new) (sym names) (all_started (h.names ++ name ∷ []) before new (started_more h.names (name ∷ []) before old new h.starts on)),
      )

  pub last_put : (name shown : List ℕ) (asked : Option (List ℕ)) (failed : Bool) → l.line ≡ line.Put name → is_one_too_many (names_in s) name ≡ false → IfSome asked (λ n. n ≡ name)
      → shown ≡ cannot_read_line name → IsTrue failed
      → OfLines page lines (λ bs. (n : List ℕ) × IsLastPut page (names_read lines bs) asked n × (shown ≡ cannot_read_line n) × IsTrue failed)
  last_put name shown asked failed is room at told_line fails =
      let names = asks_here name None is room in
      let sum : bytes_put s ≡ bytes_in h.bs = h.stands.bytes ∙ h.sum in (
        h.bs ++ [],
        told_here [] (name ∷ []) names tt,
        (
          name,
          record {
            front = h.names;
            splits = names;
            asked_is = at;
            within = if_some (told page h.names) (λ all same. subst (λ bs. bytes_in bs ≤ MOST_BYTES_PUT) (sym same) (subst (λ n. n ≤ MOST_BYTES_PUT) sum h.within.0)) (told_all page h.names h.bs h.count h.told_are);
            telling = h.telling;
          },
          told_line,
          fails,
        ),
      )

  -- the page of this name was put
  pub puts_here : (name b : List ℕ) (new : Option (List (List ℕ))) (s' : Session) → l.line ≡ line.Put name
      → ((bs : List (List ℕ)) → (effect_of h.standing l.start (line.Put name) (b ∷ bs) ≡ leads (with_page h.standing name b)) × StandsAs s' (with_page h.standing name b))
      → is_one_too_many (names_in s) name ≡ false → IfSome (page name) (λ t. t ≡ b) → TellsAlso page name → Started (name ∷ []) old new → HasPut (handed name b) s s' → IsWithin s'
      → HasFollowed page base lines rest before new s' text
  puts_here name b new s' is effect room one also on put within =
      let fits = has_room s h.standing name false h.stands room in
      let reads : name_read h.standing l.line ≡ name ∷ [] = ap (λ k. name_read h.standing k) is ∙ room_read h.standing name fits in
      let does : (more : List (List ℕ)) → effect_of h.standing l.start l.line (b ∷ more) ≡ leads (with_page h.standing name b)
      = λ more. ap (λ k. effect_of h.standing l.start k (b ∷ more)) is ∙ (effect more).0 in
      let left : (more : List (List ℕ)) → bytes_behind l.line (b ∷ more) ≡ more = λ more. ap (λ k. bytes_behind k (b ∷ more)) is in
      record {
        bs = h.bs ++ b ∷ [];
        names = h.names ++ name ∷ [];
        standing = with_page h.standing name b;
        checks = h.checks;
        texts = h.texts;
        course_is = λ more. ap (course lines) (append_assoc h.bs (b ∷ []) more) ∙ course_at (b ∷ more) (leads (with_page h.standing name b)) (does more)
            ∙ ap (λ bs. with_checks h.checks (course_from rest (with_page h.standing name b) bs)) (left more);
        names_are = λ more. ap (names_read lines) (append_assoc h.bs (b ∷ []) more) ∙ names_at (b ∷ more) (name ∷ []) (leads (with_page h.standing name b)) (does more) reads
            ∙ ap (λ bs. h.names ++ (name ∷ names_read_from rest (with_page h.standing name b) bs)) (left more)
            ∙ sym (append_assoc h.names (name ∷ []) (names_read_from rest (with_page h.standing name b) more));
        count = length-append h.names (name ∷ []) ∙ ap (λ k. k + 1) h.count ∙ sym (length-append h.bs (b ∷ []));
        told_are = told_append page h.names h.bs (name ∷ []) (b ∷ []) h.count h.told_are (one, tt);
        telling = telling_more page h.names name h.telling also;
        starts = started_more h.names (name ∷ []) before old new h.starts on;
        stands = (effect []).1;
        base_is = put.base ∙ h.base_is;
        sum = ap (λ k. k + length b) h.sum ∙ sym (bytes-more h.bs b);
        within = within;
        checked = h.checked;
        text_is = h.text_is;
      }

  -- nothing was put, and the session stands as the course does behind this line
  pub leads_here : (t : Standing) (new : Option (List (List ℕ))) (s' : Session) → ((bs : List (List ℕ)) → effect_of h.standing l.start l.line bs ≡ leads t)
      → name_read h.standing l.line ≡ [] → ((bs : List (List ℕ)) → bytes_behind l.line bs ≡ bs) → StandsAs s' t → base_of s' ≡ base_of s → t.bytes ≡ h.standing.bytes → IsWithin s' → new ≡ old
      → HasFollowed page base lines rest before new s' text
  leads_here t new s' does reads left stands same_base same_sum within same = record {
    bs = h.bs;
    names = h.names;
    standing = t;
    checks = h.checks;
    texts = h.texts;
    course_is = λ more. course_at more (leads t) (does more) ∙ ap (λ bs. with_checks h.checks (course_from rest t bs)) (left more);
    names_are = λ more. names_at more [] (leads t) (does more) reads ∙ ap (λ bs. h.names ++ names_read_from rest t bs) (left more);
    count = h.count;
    told_are = h.told_are;
    telling = h.telling;
    starts = same ∙ h.starts;
    stands = stands;
    base_is = same_base ∙ h.base_is;
    sum = same_sum ∙ h.sum;
    within = within;
    checked = h.checked;
    text_is = h.text_is;
  }

  -- the pages that are there were checked
  pub checks_here : (added text' : List ℕ) (new : Option (List (List ℕ))) → l.line ≡ line.Check → IsChecked (base_of s) h.standing.pages added → text' ≡ text ++ added → new ≡ old
      → HasFollowed page base lines rest before new s text'
  checks_here added text' new is checked grown same =
      let does : (more : List (List ℕ)) → effect_of h.standing l.start l.line more ≡ asks = λ more. ap (λ k. effect_of h.standing l.start k more) is in
      let left : (more : List (List ℕ)) → bytes_behind l.line more ≡ more = λ more. ap (λ k. bytes_behind k more) is in
      record {
        bs = h.bs;
        names = h.names;
        standing = h.standing;
        checks = h.checks ++ h.standing.pages ∷ [];
        texts = h.texts ++ added ∷ [];
        course_is = λ more. course_at more asks (does more) ∙ ap (λ bs. with_checks h.checks (with_check h.standing.pages (course_from rest h.standing bs))) (left more)
            ∙ sym (checks_more h.checks h.standing.pages (course_from rest h.standing more));
        names_are = λ more. names_at more [] asks (does more) (ap (λ k. name_read h.standing k) is) ∙ ap (λ bs. h.names ++ names_read_from rest h.standing bs) (left more);
        count = h.count;
        told_are = h.told_are;
        telling = h.telling;
        starts = same ∙ h.starts;
        stands = h.stands;
        base_is = h.base_is;
        sum = h.sum;
        within = h.within;
        checked = checked_more base h.checks h.texts h.standing.pages added h.checked (subst (λ (b : List ℕ). IsChecked b h.standing.pages added) h.base_is checked);
        text_is = grown ∙ ap (λ t. t ++ added) h.text_is ∙ ap (λ t. concat h.texts ++ t) (sym (append-nil added)) ∙ sym (concat-append h.texts (added ∷ []));
      }
