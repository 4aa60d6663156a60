-- What is so of each command that words give.
use Rattle.std.proofs.Common.{◌≡◌, sym, refl, ℕ, ◌≤◌, ◌&&◌, Bool, true, false, not, nat_le, nat_lt, List, [], ◌∷◌, length, Option, Some, None, cond, bytes_eq, codes, Result, Ok, Err, IfOk, IfSome, option_map, subst}
use Rattle.std.specs.List.{list_all}
use Rattle.std.specs.Option.{option_and_then}
use Rattle.ix_base.specs.declared.limits.TheConstants.{LONGEST_NAME, MOST_FACTS, MOST_PAGES}
use Rattle.ix_base.specs.declared.NoMemory.{NoMemory}
use Rattle.std.proofs.lemmas.Bool.{leb-true, ltb-true}
use Rattle.std.proofs.lemmas.List.Elements.{All-weaker}
use Rattle.std.proofs.lemmas.List.Sums.{AllPass-from_list_all}
use Rattle.url.proofs.OnLiterals.{url_on_literals}
use Rattle.clap.specs.Walk.{Row, all_of, first_of}
use Rattle.ix_base.specs.Decimals.{number_in}
use Rattle.command_words.specs.Bases.{is_base, is_web_scheme}
use Rattle.command_words.specs.Commands.{command_of, extract_from, extract_in, pages_from, pages_in, check_in, plain_in, sample_in, session_from, session_in, trace_in, AreNames, IsGiven}
use Rattle.page_names.specs.Names.{has_repeat, is_page_name, may_stand_in_name}
use Rattle.command_words.specs.Names.{are_pages}
use Rattle.sample_page.specs.Sample.{sample_names}
use Rattle.command_words.specs.Numbers.{is_count, sample_number}
use Rattle.command_words.specs.Simple.{check_app, extract_app, rows_taken, session_app, trace_app}
use Rattle.command_words.specs.declared.command.Command.{Command}
use Rattle.command_words.specs.declared.command.Command.TheVariants.{Extract, Check, Sample, Plain, Trace, Session}

both : (a b : Bool) → (a && b) ≡ true → (a ≡ true) × (b ≡ true)
both true b e = (refl, e)
both false b e = cc

not_false : (b : Bool) → not b ≡ true → b ≡ false
not_false true e = cc
not_false false e = refl

le_is : (m n : ℕ) → nat_le m n ≡ true → m ≤ n
le_is m n e = leb-true m n e

name_is_short : (n : List ℕ) → is_page_name n ≡ true → length n ≤ LONGEST_NAME
name_is_short n e =
    le_is (length n) LONGEST_NAME (both (nat_lt 0 (length n)) _ (both (nat_lt 0 (length n) && nat_le (length n) LONGEST_NAME) (list_all may_stand_in_name n) e).0).1

are_names : (names : List (List ℕ)) → are_pages names ≡ true → AreNames names
are_names names e =
    let all = both (nat_lt 0 (length names) && nat_le (length names) MOST_PAGES && list_all is_page_name names) (not (has_repeat names)) e in
    let two = both (nat_lt 0 (length names) && nat_le (length names) MOST_PAGES) (list_all is_page_name names) all.0 in
    let sizes = both (nat_lt 0 (length names)) (nat_le (length names) MOST_PAGES) two.0 in
    record {
      some = ltb-true 0 (length names) sizes.0;
      few = le_is (length names) MOST_PAGES sizes.1;
      short = All-weaker (λ n. is_page_name n ≡ true) (λ n. length n ≤ LONGEST_NAME) name_is_short names (AllPass-from_list_all is_page_name names two.1);
      once = not_false (has_repeat names) all.1;
    }

-- what a test gives, it gives where the test holds
where_holds : (t : Bool) (x c : Command) → cond t (Some x) None ≡ Some c → (t ≡ true) × (x ≡ c)
where_holds true x c e = (refl, let f = e in cc)
where_holds false x c e = cc

given_extract : (b d : Option (List ℕ)) (p : Option (List (List ℕ))) (c : Command) → extract_from b d p ≡ Some c → IsGiven c
given_extract None d p c e = cc
given_extract (Some base) None p c e = cc
given_extract (Some base) (Some dir) None c e = cc
given_extract (Some base) (Some dir) (Some pages) c e =
    let h = where_holds (is_base base && nat_lt 0 (length dir) && are_pages pages) (Extract base dir pages) c e in
    let all = both (is_base base && nat_lt 0 (length dir)) (are_pages pages) h.0 in
    let two = both (is_base base) (nat_lt 0 (length dir)) all.0 in
    subst IsGiven h.1 (record { base = two.0; dir = ltb-true 0 (length dir) two.1; pages = are_names pages all.1; number = tt })

given_session : (b d : Option (List ℕ)) (p : Option (List (List ℕ))) (c : Command) → session_from b d p ≡ Some c → IsGiven c
given_session None d p c e = cc
given_session (Some base) None p c e = cc
given_session (Some base) (Some dir) None c e = cc
given_session (Some base) (Some dir) (Some []) c e = cc
given_session (Some base) (Some dir) (Some (script ∷ other ∷ more)) c e = cc
given_session (Some base) (Some dir) (Some (script ∷ [])) c e =
    let h = where_holds (is_base base && nat_lt 0 (length dir) && are_pages (script ∷ [])) (Session base dir script) c e in
    let all = both (is_base base && nat_lt 0 (length dir)) (are_pages (script ∷ [])) h.0 in
    let two = both (is_base base) (nat_lt 0 (length dir)) all.0 in
    subst IsGiven h.1 (record { base = two.0; dir = ltb-true 0 (length dir) two.1; pages = are_names (script ∷ []) all.1; number = tt })

-- a base and pages as they are given
record AreGiven (p : List ℕ × List (List ℕ)) : Type 0 where
  pub base : is_base p.0 ≡ true
  pub names : AreNames p.1

holds_both : (t : Bool) (x q : List ℕ × List (List ℕ)) → cond t (Some x) None ≡ Some q → (t ≡ true) × (x ≡ q)
holds_both true x q e = (refl, let f = e in cc)
holds_both false x q e = cc

given_pages : (b : Option (List ℕ)) (p : Option (List (List ℕ))) (q : List ℕ × List (List ℕ)) → pages_from b p ≡ Some q → AreGiven q
given_pages None p q e = cc
given_pages (Some base) None q e = cc
given_pages (Some base) (Some pages) q e =
    let h = holds_both (is_base base && are_pages pages) (base, pages) q e in
    let two = both (is_base base) (are_pages pages) h.0 in
    subst AreGiven h.1 (record { base = two.0; names = are_names pages two.1 })

-- a command that is made of them
given_made : (make : List ℕ × List (List ℕ) → Command) → ((q : List ℕ × List (List ℕ)) → AreGiven q → IsGiven (make q)) → (o : Option (List ℕ × List (List ℕ))) (c : Command)
    → ((q : List ℕ × List (List ℕ)) → o ≡ Some q → AreGiven q) → option_map make o ≡ Some c → IsGiven c
given_made make good None c all e = cc
given_made make good (Some q) c all e = subst IsGiven (let f : Some (make q) ≡ Some c = e in let g : make q ≡ c = cc in g) (good q (all q refl))

-- a sample has a base, pages and a number that it may have
sample_given : (n : ℕ) → 1 ≤ n → n ≤ MOST_FACTS → IsGiven (Sample n)
unfolding url_on_literals is_web_scheme has_repeat
sample_given n some most = record { base = refl; dir = tt; pages = are_names sample_names refl; number = (some, most) }

number_by : (a b c : Bool) (m n : ℕ) → cond (a && b && c) (Some m) None ≡ Some n → (b ≡ true) × (c ≡ true) × (m ≡ n)
number_by true true true m n e = (refl, refl, let f = e in cc)
number_by true true false m n e = cc
number_by true false c m n e = cc
number_by false b c m n e = cc

sample_by : (o : Option ℕ) (c : Command) → ((n : ℕ) → o ≡ Some n → IsGiven (Sample n)) → option_map Sample o ≡ Some c → IsGiven c
sample_by None c h e = cc
sample_by (Some n) c h e = subst IsGiven (let f : Some (Sample n) ≡ Some c = e in let g : Sample n ≡ c = cc in g) (h n refl)

given_sample : (rest : List (List ℕ)) (c : Command) → sample_in rest ≡ Some c → IsGiven c
given_sample [] c e = cc
given_sample (word ∷ []) c e = sample_by (sample_number word) c (λ n is.
    let h = number_by (is_count word) (nat_le 1 (number_in word)) (nat_le (number_in word) MOST_FACTS) (number_in word) n is in
    subst (λ (k : ℕ). IsGiven (Sample k)) h.2 (sample_given (number_in word) (le_is 1 (number_in word) h.0) (le_is (number_in word) MOST_FACTS h.1))) e
given_sample (word ∷ next ∷ rest) c e = cc

given_plain : (rest : List (List ℕ)) (c : Command) → plain_in rest ≡ Some c → IsGiven c
given_plain [] c e = cc
given_plain (page ∷ []) c e =
    let h = where_holds (are_pages (page ∷ [])) (Plain page) c e in
    subst IsGiven h.1 (record { base = tt; dir = tt; pages = are_names (page ∷ []) h.0; number = tt })
given_plain (page ∷ next ∷ rest) c e = cc

given_rows : (f : List Row → Option Command) → ((rows : List Row) (c : Command) → f rows ≡ Some c → IsGiven c)
    → (rows : Option (List Row)) (c : Command) → option_and_then f rows ≡ Some c → IsGiven c
given_rows f good None c e = cc
given_rows f good (Some rows) c e = good rows c e

either : (t : Bool) (x y : Option Command) (c : Command) → (x ≡ Some c → IsGiven c) → (y ≡ Some c → IsGiven c) → cond t x y ≡ Some c → IsGiven c
either true x y c f g e = f e
either false x y c f g e = g e

none_given : (c : Command) → None ≡ Some c → IsGiven c
none_given c e = cc

pub given : (words : List (List ℕ)) (c : Command) → command_of words ≡ Some c → IsGiven c
unfolding command_of
given [] c e = cc
given (first ∷ rest) c e =
    either (bytes_eq first (codes "extract")) (option_and_then extract_in (rows_taken extract_app (first ∷ rest))) _ c
    (given_rows extract_in (λ rows. given_extract (first_of (codes "base") rows) (first_of (codes "out") rows) (all_of (codes "PAGE") rows)) (rows_taken extract_app (first ∷ rest)) c)
    (either (bytes_eq first (codes "check")) (option_and_then check_in (rows_taken check_app (first ∷ rest))) _ c
    (given_rows check_in (λ rows d. given_made (λ q. Check q.0 q.1) (λ q h. record { base = h.base; dir = tt; pages = h.names; number = tt }) (pages_in rows) d
    (given_pages (first_of (codes "base") rows) (all_of (codes "PAGE") rows))) (rows_taken check_app (first ∷ rest)) c)
    (either (bytes_eq first (codes "sample")) (sample_in rest) _ c (given_sample rest c)
    (either (bytes_eq first (codes "plain")) (plain_in rest) _ c (given_plain rest c)
    (either (bytes_eq first (codes "trace")) (option_and_then trace_in (rows_taken trace_app (first ∷ rest))) _ c
    (given_rows trace_in (λ rows d. given_made (λ q. Trace q.0 q.1) (λ q h. record { base = h.base; dir = tt; pages = h.names; number = tt }) (pages_in rows) d
    (given_pages (first_of (codes "base") rows) (all_of (codes "PAGE") rows))) (rows_taken trace_app (first ∷ rest)) c)
    (either (bytes_eq first (codes "session")) (option_and_then session_in (rows_taken session_app (first ∷ rest))) None c
    (given_rows session_in (λ rows. given_session (first_of (codes "base") rows) (first_of (codes "out") rows) (all_of (codes "SCRIPT") rows)) (rows_taken session_app (first ∷ rest)) c)
    (none_given c)))))) e

pub given_of : (o : Option Command) (words : List (List ℕ)) → o ≡ command_of words → IfSome o IsGiven
given_of None words e = tt
given_of (Some c) words e = given words c (sym e)

pub given_by : (r : Result (Option Command) NoMemory) (words : List (List ℕ)) → IfOk r (λ o. o ≡ command_of words) → IfOk r (λ o. IfSome o IsGiven)
given_by (Ok o) words e = given_of o words e
given_by (Err x) words e = tt
