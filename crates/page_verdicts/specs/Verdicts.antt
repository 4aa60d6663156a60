-- What the pages of a command come to: a report of the rules that they break, targets, or a text.
use Rattle.std.specs.Prelude.{◌≡◌, ◌≢◌, ◌⊎◌, ℕ, All, Bool, true, false, List, [], ◌∷◌, Some, None}
use Rattle.std.specs.List.{flat_map}
use Rattle.ix_base.specs.declared.breach.Found.{Found}
use Rattle.ix_base.specs.declared.rule.Rule.{Rule}
use Rattle.ix_base.specs.declared.rule.Rule.TheVariants.{P1}
use Rattle.ix_base.specs.Trees.{Tree}
use Rattle.fact_trace.specs.Spans.{Source, traces}
use Rattle.instance_lines.specs.Writable.{IsWritable}
use Rattle.page_plain.specs.Bare.{bare, is_inline, spell}
use Rattle.targets.specs.Breaches.{PagesComeTo, on_page, set_rule, text_faults}
use Rattle.targets.specs.Forest.{AreTrees}
use Rattle.target_contents.specs.SetOutcomes.{IsReport}
use Rattle.target_contents.specs.declared.outcome.Outcome.{Outcome}
use Rattle.target_contents.specs.declared.outcome.Outcome.TheVariants.{Broken, Whole}
use Rattle.command_words.specs.Commands.{pages_of}
use Rattle.sample_page.specs.Sample.{sample_base}
use Rattle.page_verdicts.specs.Texts.{trace_line}
use Rattle.command_words.specs.declared.command.Command.{Command}
use Rattle.command_words.specs.declared.command.Command.TheVariants.{Extract, Check, Sample, Plain, Trace, Session}
use Rattle.page_verdicts.specs.declared.verdict.Verdict.{Verdict}
use Rattle.page_verdicts.specs.declared.verdict.Verdict.TheVariants.{Reported, Extracted, Printed}

abbrev pub verdict_of : Outcome → Verdict
verdict_of (Broken report) = Reported report
verdict_of (Whole targets) = Extracted targets

-- the outcome of a set of pages of these names and bytes, under this base
abbrev pub IsOfSet : List ℕ → List (List ℕ) → List (List ℕ) → Verdict → Type 0
IsOfSet base names bs v = (o : Outcome) × PagesComeTo base names bs o × (v ≡ verdict_of o)

-- the report of these breaches, which were found on pages of these names
abbrev pub Reports : List (List ℕ) → List Found → Verdict → Type 0
Reports names found v = (o : Outcome) × IsReport names found o × (v ≡ verdict_of o)

-- a root is reported where it is an inline element; any other page is printed without its inline markup
abbrev pub IsShownBy : Bool → List (List ℕ) → Tree → Verdict → Type 0
IsShownBy true names root v = Reports names (on_page 0 root.head.offset P1 ∷ []) v
IsShownBy false names root v = v ≡ Printed (spell (bare root))

-- What one page of this name and these bytes comes to that is to be shown without its inline markup: the report of the size rule
-- that it breaks; else that of the first break of its text; else what its tree comes to.
abbrev pub IsShown : List (List ℕ) → List (List ℕ) → Verdict → Type 0
IsShown names bs v =
    ((rule : Rule) × (set_rule bs ≡ Some rule) × Reports names (on_page 0 0 rule ∷ []) v)
    ⊎ ((set_rule bs ≡ None)
    × (((text_faults 0 bs ≢ []) × Reports names (text_faults 0 bs) v)
    ⊎ ((root : Tree) × AreTrees bs (root ∷ []) × IsShownBy (is_inline root.head.name) names root v)))

-- pages of these names with these bytes and trees, as many as there are of all three
abbrev pub sources : List (List ℕ) → List (List ℕ) → List Tree → List Source
sources [] bs trees = []
sources (name ∷ names) [] trees = []
sources (name ∷ names) (b ∷ bs) [] = []
sources (name ∷ names) (b ∷ bs) (tree ∷ trees) = record { name = name; bytes = b; tree = tree } ∷ sources names bs trees

-- the lines of the items of these pages
abbrev pub trace_text : List (List ℕ) → List (List ℕ) → List Tree → List ℕ
trace_text names bs trees = flat_map trace_line (traces (sources names bs trees))

-- a set that breaks a rule is reported; of any other the lines of its items are printed
abbrev pub IsTracedBy : Outcome → List (List ℕ) → List (List ℕ) → Verdict → Type 0
IsTracedBy (Broken report) names bs v = v ≡ Reported report
IsTracedBy (Whole targets) names bs v = (trees : List Tree) × AreTrees bs trees × (v ≡ Printed (trace_text names bs trees))

-- what pages of these names and bytes come to under this base whose facts are to be shown where they stand
abbrev pub IsTraced : List ℕ → List (List ℕ) → List (List ℕ) → Verdict → Type 0
IsTraced base names bs v = (o : Outcome) × PagesComeTo base names bs o × IsTracedBy o names bs v

-- what pages of these names and bytes come to under a command, whatever pages it names itself; a session's script comes to nothing by itself
abbrev pub PagesMake : Command → List (List ℕ) → List (List ℕ) → Verdict → Type 0
PagesMake (Extract base dir pages) names bs v = IsOfSet base names bs v
PagesMake (Check base pages) names bs v = IsOfSet base names bs v
PagesMake (Sample number) names bs v = IsOfSet sample_base names bs v
PagesMake (Plain page) names bs v = IsShown names bs v
PagesMake (Trace base pages) names bs v = IsTraced base names bs v
PagesMake (Session base dir script) names bs v = ⊥

-- what the pages of a command come to that have these bytes
abbrev pub CommandMakes : Command → List (List ℕ) → Verdict → Type 0
CommandMakes c bs v = PagesMake c (pages_of c) bs v

-- the rules that are broken are reported, so that nothing else is made
abbrev pub is_report : Verdict → Bool
is_report (Reported report) = true
is_report (Extracted targets) = false
is_report (Printed text) = false

-- each content can be written
abbrev pub AreWritable : Verdict → Type 0
AreWritable (Reported report) = Unit {0}
AreWritable (Extracted targets) = All (λ t. IsWritable t.content) targets
AreWritable (Printed text) = Unit {0}
