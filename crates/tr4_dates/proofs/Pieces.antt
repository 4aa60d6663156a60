-- The pieces that a separator and a name take from the front of a text.
use Rattle.std.proofs.Common.{◌≡◌, ℕ, ◌≤◌, Bool, true, false, not, ◌&&◌, List, [], ◌∷◌, ◌++◌, length, drop, if◌then◌else◌, refl, sym, ap, ◌∙◌, arith, inl, inr, ◌⊎◌, append_assoc, append-nil}
use Rattle.std.proofs.Math.Seq.{drop-append_seam}
use Rattle.std.proofs.lemmas.Bool.{and_parts, and_from, and_right, cases_Bool, cond-true, cond-false, true≢false}
use Rattle.tr4_dates.specs.declared.format.Language.{Language}
use Rattle.tr4_dates.specs.Runs.{Class, Digit, Letter, Sign, class_of, letters, others, signs, alphanumerics, all_in, begins_in, ends_in, run, after}
use Rattle.tr4_dates.specs.Languages.{has_links}
use Rattle.tr4_dates.specs.Parts.{IsSigns, IsLinked, IsSeparator, is_link_word}
use Rattle.tr4_dates.specs.Readers.{is_linked, link_and_signs, separator, closes, name_at}
use Rattle.tr4_dates.proofs.RunLemmas.{run_after, all_in-run, begins_in-after, run-append, after-append, run-all, after-all, run-whole, after-whole, run-stops, ends_in-tail, all_in-tail}
use Rattle.tr4_dates.proofs.PlainNames.{link_letters, link_some}

-- what follows the separator at the front
abbrev pub behind_separator : Language → List ℕ → List ℕ
behind_separator l text =
    if has_links l && is_linked (after signs text) then after signs (after letters (after signs text)) else after signs text

pub separator_parted : (l : Language) (text : List ℕ) → text ≡ separator l text ++ behind_separator l text
unfolding separator
separator_parted l text =
    let first = run_after signs text in
    let word = run_after letters (after signs text) in
    let last = run_after signs (after letters (after signs text)) in
    elim (cases_Bool (has_links l && is_linked (after signs text))) [
      | inl linked ↦
          rw (linked) (first ∙ ap (λ t. run signs text ++ t) (word ∙ ap (λ t. run letters (after signs text) ++ t) last ∙ sym (append_assoc (run letters (after signs text)) _ _))
          ∙ sym (append_assoc (run signs text) _ _))
      | inr plain ↦ rw (plain) first
    ]

pub drop-separator : (l : Language) (text : List ℕ) → drop (length (separator l text)) text ≡ behind_separator l text
drop-separator l text =
    ap (drop (length (separator l text))) (separator_parted l text)
    ∙ drop-append_seam (separator l text) (behind_separator l text)

-- ---- a separator is taken whole

no_sign : (set : Class → Bool) (w t : List ℕ) → ((c : Class) → set c ≡ true → signs c ≡ false) → 1 ≤ length w
    → all_in set w ≡ true → begins_in signs (w ++ t) ≡ false
unfolding all_in
no_sign set [] t apart some all = absurd (omega arith)
no_sign set (b ∷ bs) t apart some all = apart (class_of b) (and_parts (set (class_of b)) _ all).0

letter_no_sign : (c : Class) → letters c ≡ true → signs c ≡ false
letter_no_sign Digit h = absurd (cc)
letter_no_sign Letter h = refl
letter_no_sign Sign h = absurd (cc)

pub sign_first : (w t : List ℕ) → IsSigns w → begins_in signs (w ++ t) ≡ true
unfolding all_in
sign_first [] t h = let some = h.some in absurd (omega arith)
sign_first (b ∷ bs) t h = (and_parts (signs (class_of b)) _ h.run).0

turned : (c : Class) → signs c ≡ true → letters c ≡ false
turned Digit h = absurd (cc)
turned Letter h = absurd (cc)
turned Sign h = refl

neither : (x y : Bool) → (x ≡ true → y ≡ false) → (x && y) ≡ false
neither false y h = refl
neither true y h = h refl

pub sign_no_letter : (t : List ℕ) → begins_in signs t ≡ true → begins_in letters t ≡ false
sign_no_letter [] h = absurd (cc)
sign_no_letter (b ∷ bs) h = turned (class_of b) h

signs_whole : (l : Language) (piece behind : List ℕ) → IsSigns piece → begins_in signs behind ≡ false
    → (has_links l ≡ true → is_linked behind ≡ false) → separator l (piece ++ behind) ≡ piece
unfolding separator
signs_whole l piece behind h stop no_link =
    let r = run-whole signs piece behind h.run stop in
    let a = after-whole signs piece behind h.run stop in
    let plain : (has_links l && is_linked (after signs (piece ++ behind))) ≡ false =
    ap (λ t. has_links l && is_linked t) a ∙ neither (has_links l) (is_linked behind) no_link in
    cond-false _ _ _ plain ∙ r

linked_whole : (l : Language) (piece behind : List ℕ) → has_links l ≡ true → IsLinked piece
    → begins_in signs behind ≡ false → separator l (piece ++ behind) ≡ piece
unfolding separator
linked_whole l piece behind links h stop =
    let front = h.front in
    let link = h.link in
    let back = h.back in
    let all = link_letters link h.is_de in
    let word_stop = sign_no_letter (back ++ behind) (sign_first back behind h.back_signs) in
    let tail = link ++ (back ++ behind) in
    let front_stop : begins_in signs tail ≡ false =
    no_sign letters link (back ++ behind) letter_no_sign (link_some link h.is_de) all in
    let whole : piece ++ behind ≡ front ++ tail =
    ap (λ t. t ++ behind) h.joined ∙ append_assoc front (link ++ back) behind
    ∙ ap (λ t. front ++ t) (append_assoc link back behind) in
    let r = run-whole signs front tail h.front_signs.run front_stop in
    let a = after-whole signs front tail h.front_signs.run front_stop in
    let rw_word = run-whole letters link (back ++ behind) all word_stop in
    let aw_word = after-whole letters link (back ++ behind) all word_stop in
    let rb = run-whole signs back behind h.back_signs.run stop in
    let linked : is_linked tail ≡ true =
    and_from (is_link_word (run letters tail)) _ (ap is_link_word rw_word ∙ h.is_de) (ap (begins_in signs) aw_word ∙ sign_first back behind h.back_signs) in
    let chosen : (has_links l && is_linked (after signs (front ++ tail))) ≡ true =
    and_from (has_links l) _ links (ap is_linked a ∙ linked) in
    let words : link_and_signs tail ≡ link ++ back =
    ap (λ t. t ++ run signs (after letters tail)) rw_word ∙ ap (λ t. link ++ run signs t) aw_word
    ∙ ap (λ t. link ++ t) rb in
    ap (separator l) whole ∙ cond-true _ _ _ chosen
    ∙ ap (λ t. t ++ link_and_signs (after signs (front ++ tail))) r ∙ ap (λ t. front ++ link_and_signs t) a
    ∙ ap (λ t. front ++ t) words ∙ sym h.joined

pub separator_whole : (l : Language) (piece behind : List ℕ) → IsSeparator l piece → begins_in signs behind ≡ false
    → (has_links l ≡ true → is_linked behind ≡ false) → separator l (piece ++ behind) ≡ piece
separator_whole l piece behind (inl h) stop no_link = signs_whole l piece behind h stop no_link
separator_whole l piece behind (inr h) stop no_link = linked_whole l piece behind h.0 h.1 stop

-- ---- and only a separator is taken

signs_run : (text : List ℕ) → 1 ≤ length (run signs text) → IsSigns (run signs text)
signs_run text some = record { some = some; run = all_in-run signs text }

some_run : (text : List ℕ) → begins_in signs text ≡ true → 1 ≤ length (run signs text)
unfolding run
some_run [] h = absurd (cc)
some_run (b ∷ bs) h = rw (h) (omega arith)

run_none : (text : List ℕ) → begins_in signs text ≡ false → run signs text ≡ []
unfolding run
run_none [] h = refl
run_none (b ∷ bs) h = cond-false _ _ _ h

pub separator_is : (l : Language) (text : List ℕ) → begins_in signs text ≡ true → IsSeparator l (separator l text)
unfolding separator
separator_is l text first =
    elim (cases_Bool (has_links l && is_linked (after signs text))) [
      | inl both ↦
          let links = and_parts (has_links l) _ both in
          let parts = and_parts (is_link_word (run letters (after signs text))) _ links.1 in
          rw (both) (inr (
            links.0,
            record {
              front = run signs text;
              link = run letters (after signs text);
              back = run signs (after letters (after signs text));
              joined = refl;
              front_signs = signs_run text (some_run text first);
              is_de = parts.0;
              back_signs = signs_run _ (some_run _ parts.1);
            },
          ))
      | inr plain ↦ rw (plain) (inl (signs_run text (some_run text first)))
    ]

-- ---- a name is taken whole

pub record IsNameText (l : Language) (v : List ℕ) : Type 0 where
  pub no_digit : all_in others v ≡ true
  pub last : ends_in letters v ≡ true
  pub no_back_link : has_links l ≡ true → (u w : List ℕ) → v ≡ u ++ w → is_link_word w ≡ false

one_letter : (c : Class) → others c ≡ true → signs c ≡ false → letters c ≡ true
one_letter Digit o s = absurd (cc)
one_letter Letter o s = refl
one_letter Sign o s = absurd (cc)

letter_first : (v t : List ℕ) → all_in others v ≡ true → ends_in letters v ≡ true → begins_in signs v ≡ false
    → begins_in letters (v ++ t) ≡ true
unfolding all_in ends_in
letter_first [] t all ends first = absurd (cc)
letter_first (b ∷ bs) t all ends first = one_letter (class_of b) (and_parts (others (class_of b)) _ all).0 first

cases_nil : (v : List ℕ) → (v ≡ []) ⊎ (1 ≤ length v)
cases_nil [] = inl refl
cases_nil (b ∷ bs) = inr (omega arith)

-- behind signs in the midst of a name a letter comes
past_signs : (v t : List ℕ) → all_in others v ≡ true → ends_in letters v ≡ true
    → begins_in letters (after signs (v ++ t)) ≡ true
past_signs v t all ends =
    let stops = run-stops letters signs v t letter_no_sign ends in
    let rest_all = all_in-tail others (run signs v) (after signs v) (sym (ap (all_in others) (run_after signs v)) ∙ all) in
    ap (begins_in letters) stops.1 ∙ letter_first (after signs v) t rest_all stops.2 (begins_in-after signs v)

inside : (l : Language) (v t : List ℕ) → IsNameText l v → begins_in letters t ≡ false
    → begins_in letters (behind_separator l (v ++ t)) ≡ true
inside l v t h stop =
    let stops = run-stops letters signs v t letter_no_sign h.last in
    let rest = after signs v in
    let rest_all : all_in others rest ≡ true =
    all_in-tail others (run signs v) rest (sym (ap (all_in others) (run_after signs v)) ∙ h.no_digit) in
    let later = after letters rest in
    let word = run-append letters rest t stop in
    let past = after-append letters rest t stop in
    elim (cases_Bool (has_links l && is_linked (after signs (v ++ t)))) [
      | inr plain ↦ ap (begins_in letters) (cond-false _ _ _ plain) ∙ past_signs v t h.no_digit h.last
      | inl both ↦
          let parts = and_parts (has_links l) _ both in
          let linked : is_linked (rest ++ t) ≡ true = sym (ap is_linked stops.1) ∙ parts.1 in
          let link : is_link_word (run letters rest) ≡ true =
          sym (ap is_link_word word) ∙ (and_parts (is_link_word (run letters (rest ++ t))) _ linked).0 in
          elim (cases_nil later) [
            | inl none ↦
                let whole : rest ≡ run letters rest =
                run_after letters rest ∙ ap (λ x. run letters rest ++ x) none ∙ append-nil _ in
                let not_link =
                h.no_back_link parts.0 (run signs v) (run letters rest) (run_after signs v ∙ ap (λ x. run signs v ++ x) whole) in
                absurd (true≢false (sym link ∙ not_link))
            | inr some ↦
                let later_ends : ends_in letters later ≡ true =
                sym (ends_in-tail letters (run letters rest) later some)
                ∙ sym (ap (ends_in letters) (run_after letters rest)) ∙ stops.2 in
                let later_all : all_in others later ≡ true =
                all_in-tail others (run letters rest) later (sym (ap (all_in others) (run_after letters rest)) ∙ rest_all) in
                ap (begins_in letters) (cond-true _ _ _ both ∙ ap (λ x. after signs (after letters x)) stops.1 ∙ ap (after signs) past)
                ∙ past_signs later t later_all later_ends
          ]
    ]

closed_nowhere : (l : Language) (v t : List ℕ) → IsNameText l v → begins_in letters t ≡ false
    → closes l (v ++ t) ≡ false
unfolding closes
closed_nowhere l v t h stop =
    and_right (not (begins_in alphanumerics (v ++ t))) _ (ap not (ap (begins_in letters) (drop-separator l (v ++ t)) ∙ inside l v t h stop))

pub name_whole : (l : Language) (v t : List ℕ) → IsNameText l v → begins_in letters t ≡ false → closes l t ≡ true
    → name_at l (v ++ t) ≡ v
unfolding name_at ends_in all_in
name_whole l [] t h stop close = let ends = h.last in absurd (cc)
name_whole l (b ∷ []) t h stop close = cond-true _ _ _ (and_from (letters (class_of b)) _ h.last close)
name_whole l (b ∷ c ∷ bs) t h stop close =
    let later : IsNameText l (c ∷ bs) = record {
      no_digit = (and_parts (others (class_of b)) _ h.no_digit).1;
      last = h.last;
      no_back_link = λ links u w e. h.no_back_link links (b ∷ u) w (ap (λ x. b ∷ x) e);
    } in
    cond-false _ _ _ (and_right (letters (class_of b)) _ (closed_nowhere l (c ∷ bs) t later stop))
    ∙ ap (λ x. b ∷ x) (name_whole l (c ∷ bs) t later stop close)

pub name_parted : (l : Language) (text : List ℕ) → text ≡ name_at l text ++ drop (length (name_at l text)) text
unfolding name_at
name_parted l [] = refl
name_parted l (b ∷ bs) =
    elim (cases_Bool (letters (class_of b) && closes l bs)) [
      | inl here ↦ rw (here) refl
      | inr later ↦ rw (later) (ap (λ x. b ∷ x) (name_parted l bs))
    ]

-- ---- where a name closes

nothing_linked : is_linked [] ≡ false
unfolding run after
nothing_linked = refl

sign_first_class : (c : Class) → signs c ≡ true → alphanumerics c ≡ false
sign_first_class Digit h = absurd (cc)
sign_first_class Letter h = absurd (cc)
sign_first_class Sign h = refl

pub no_first : (t : List ℕ) → all_in signs t ≡ true → begins_in alphanumerics t ≡ false
unfolding all_in
no_first [] all = refl
no_first (b ∷ bs) all = sign_first_class (class_of b) (and_parts (signs (class_of b)) _ all).0

pub closes_before_end : (l : Language) (t : List ℕ) → all_in signs t ≡ true → closes l t ≡ true
unfolding closes separator
closes_before_end l t all =
    let r = run-all signs t all in
    let a = after-all signs t all in
    let plain : (has_links l && is_linked (after signs t)) ≡ false =
    and_right (has_links l) _ (ap is_linked a ∙ nothing_linked) in
    let rest : behind_separator l t ≡ [] = cond-false _ _ _ plain ∙ a in
    and_from (not (begins_in alphanumerics t)) _ (ap not (no_first t all)) (ap not (ap (begins_in letters) (drop-separator l t ∙ rest)))

pub closes_before : (l : Language) (piece behind : List ℕ) → IsSeparator l piece → begins_in signs behind ≡ false
    → (has_links l ≡ true → is_linked behind ≡ false) → begins_in letters behind ≡ false
    → begins_in alphanumerics (piece ++ behind) ≡ false → closes l (piece ++ behind) ≡ true
unfolding closes
closes_before l piece behind h stop no_link next first =
    let whole = separator_whole l piece behind h stop no_link in
    let rest : drop (length (separator l (piece ++ behind))) (piece ++ behind) ≡ behind =
    ap (λ x. drop (length x) (piece ++ behind)) whole ∙ drop-append_seam piece behind in
    and_from (not (begins_in alphanumerics (piece ++ behind))) _ (ap not first) (ap not (ap (begins_in letters) rest ∙ next))
