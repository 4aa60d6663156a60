-- What the words of a command line ask for.
use Rattle.std.specs.Prelude.{◌≡◌, ℕ, ◌<◌, ◌≤◌, true, false, All, IfSome, ◌&&◌, nat_lt, List, [], ◌∷◌, length, bytes_eq, codes, Option, Some, None, option_and_then, option_map, if◌then◌else◌}
use Rattle.clap.specs.Walk.{Row, all_of, first_of}
use Rattle.ix_base.specs.declared.limits.TheConstants.{LONGEST_NAME, MOST_FACTS, MOST_PAGES}
use Rattle.command_words.specs.declared.command.Command.{Command}
use Rattle.command_words.specs.declared.command.Command.TheVariants.{Extract, Check, Sample, Plain, Trace, Session}
use Rattle.command_words.specs.Bases.{is_base}
use Rattle.page_names.specs.Names.{has_repeat}
use Rattle.command_words.specs.Names.{are_pages}
use Rattle.sample_page.specs.Sample.{sample_base, sample_names}
use Rattle.command_words.specs.Numbers.{sample_number}
use Rattle.command_words.specs.Simple.{check_app, extract_app, rows_taken, session_app, trace_app}

-- the extraction with this base, directory and pages, where they may stand for these
abbrev pub extract_from : Option (List ℕ) → Option (List ℕ) → Option (List (List ℕ)) → Option Command
extract_from None dir pages = None
extract_from (Some base) None pages = None
extract_from (Some base) (Some dir) None = None
extract_from (Some base) (Some dir) (Some pages) =
    if is_base base && nat_lt 0 (length dir) && are_pages pages then Some (Extract base dir pages) else None

-- the base and the pages, where they may stand for these
abbrev pub pages_from : Option (List ℕ) → Option (List (List ℕ)) → Option (List ℕ × List (List ℕ))
pages_from None pages = None
pages_from (Some base) None = None
pages_from (Some base) (Some pages) = if is_base base && are_pages pages then Some (base, pages) else None

abbrev pub extract_in : List Row → Option Command
extract_in rows = extract_from (first_of (codes "base") rows) (first_of (codes "out") rows) (all_of (codes "PAGE") rows)

abbrev pub pages_in : List Row → Option (List ℕ × List (List ℕ))
pages_in rows = pages_from (first_of (codes "base") rows) (all_of (codes "PAGE") rows)

abbrev pub check_in : List Row → Option Command
check_in rows = option_map (λ p. Check p.0 p.1) (pages_in rows)

abbrev pub trace_in : List Row → Option Command
trace_in rows = option_map (λ p. Trace p.0 p.1) (pages_in rows)

-- the session with this base and directory and this one script, where they may stand for these
abbrev pub session_from : Option (List ℕ) → Option (List ℕ) → Option (List (List ℕ)) → Option Command
session_from (Some base) (Some dir) (Some (script ∷ [])) =
    if is_base base && nat_lt 0 (length dir) && are_pages (script ∷ []) then Some (Session base dir script) else None
session_from base dir words = None

abbrev pub session_in : List Row → Option Command
session_in rows = session_from (first_of (codes "base") rows) (first_of (codes "out") rows) (all_of (codes "SCRIPT") rows)

-- the sample that the words behind `sample` ask for: one number
abbrev pub sample_in : List (List ℕ) → Option Command
sample_in (number ∷ []) = option_map Sample (sample_number number)
sample_in words = None

-- the page that the words behind `plain` ask for: one name
abbrev pub plain_in : List (List ℕ) → Option Command
plain_in (page ∷ []) = if are_pages (page ∷ []) then Some (Plain page) else None
plain_in words = None

-- the first word picks the command, whose simple command reads the words from there on, but for a sample and a plain page
abbrev pub command_by : List ℕ → List (List ℕ) → Option Command
command_by first rest =
    if bytes_eq first (codes "extract") then option_and_then extract_in (rows_taken extract_app (first ∷ rest))
    else (if bytes_eq first (codes "check") then option_and_then check_in (rows_taken check_app (first ∷ rest))
    else (if bytes_eq first (codes "sample") then sample_in rest
    else (if bytes_eq first (codes "plain") then plain_in rest
    else (if bytes_eq first (codes "trace") then option_and_then trace_in (rows_taken trace_app (first ∷ rest))
    else (if bytes_eq first (codes "session") then option_and_then session_in (rows_taken session_app (first ∷ rest)) else None)))))

-- the command that the words give, where they give one
unfoldable pub command_of : List (List ℕ) → Option Command
command_of [] = None
command_of (first ∷ rest) = command_by first rest

-- the names of the pages that a command names; a session names its script, which names the others
abbrev pub pages_of : Command → List (List ℕ)
pages_of (Extract base dir pages) = pages
pages_of (Check base pages) = pages
pages_of (Sample number) = sample_names
pages_of (Plain page) = page ∷ []
pages_of (Trace base pages) = pages
pages_of (Session base dir script) = script ∷ []

-- the base that links are joined to, where the command has one
abbrev pub base_of : Command → Option (List ℕ)
base_of (Extract base dir pages) = Some base
base_of (Check base pages) = Some base
base_of (Sample number) = Some sample_base
base_of (Plain page) = None
base_of (Trace base pages) = Some base
base_of (Session base dir script) = Some base

-- the directory word, where the command has one
abbrev pub dir_of : Command → Option (List ℕ)
dir_of (Extract base dir pages) = Some dir
dir_of (Check base pages) = None
dir_of (Sample number) = None
dir_of (Plain page) = None
dir_of (Trace base pages) = None
dir_of (Session base dir script) = Some dir

-- how many facts a sample has, whose pages are made and not read
abbrev pub number_of : Command → Option ℕ
number_of (Extract base dir pages) = None
number_of (Check base pages) = None
number_of (Sample number) = Some number
number_of (Plain page) = None
number_of (Trace base pages) = None
number_of (Session base dir script) = None

-- Names of pages as a command has them: few enough, none too long for a source, and none twice.
pub record AreNames (names : List (List ℕ)) : Type 0 where
  pub some : 0 < length names
  pub few : length names ≤ MOST_PAGES
  pub short : All (λ n. length n ≤ LONGEST_NAME) names
  pub once : has_repeat names ≡ false

-- A command as words give it: a base is a URL of the web, its directory word isn't empty, its pages can be asked for, and a sample
-- has 1 fact at least and no more than a sample may have.
pub record IsGiven (c : Command) : Type 0 where
  pub base : IfSome (base_of c) (λ b. is_base b ≡ true)
  pub dir : IfSome (dir_of c) (λ d. 0 < length d)
  pub pages : AreNames (pages_of c)
  pub number : IfSome (number_of c) (λ n. (1 ≤ n) × (n ≤ MOST_FACTS))
