-- The texts that `out` takes, each line with its line feed.
use Rattle.std.specs.Prelude.{ℕ, Bool, true, false, List, [], ◌∷◌, ◌++◌, length, codes}
use Rattle.std.specs.Fmt.{decimal}
use Rattle.std.specs.List.{flat_map}
use Rattle.fact_trace.specs.declared.span.Span.{Span}
use Rattle.fact_trace.specs.declared.span.Traced.{Traced}
use Rattle.ix_base.specs.Breaches.{class_of}
use Rattle.ix_base.specs.Facts.{Facts, facts_of}
use Rattle.ix_base.specs.Rules.{code_of as rule_code, text_of as rule_text}
use Rattle.ix_base.specs.declared.breach.Breach.{Breach}
use Rattle.ix_base.specs.declared.breach.Class.{Class}
use Rattle.ix_base.specs.declared.breach.Class.TheVariants as class
use Rattle.ix_base.specs.declared.content.Content.{Content}
use Rattle.page_verdicts.specs.Summary.{item_count, note_ids, tuple_count}
use Rattle.target_contents.specs.declared.outcome.Target.{Target}

-- how the program is used
unfoldable pub usage_text : List ℕ
usage_text = codes "usage: ixds extract --base URL --out DIR PAGE...\n       ixds check --base URL PAGE...\n       ixds sample N\n       ixds plain PAGE\n       ixds trace --base URL PAGE...\n       ixds session --base URL --out DIR SCRIPT\n"

unfoldable pub cannot_read_line : List ℕ → List ℕ
cannot_read_line page = codes "ixds: cannot read " ++ (page ++ 10 ∷ [])

-- the place of a breach, which one of class S doesn't have, and the line of a breach
abbrev pub place_text : Class → Breach → List ℕ
place_text class.S b = codes "(set)"
place_text c b = b.page ++ 58 ∷ decimal b.offset

abbrev pub breach_line : Breach → List ℕ
breach_line b =
    place_text (class_of b.rule) b ++ (codes ": " ++ (rule_code b.rule ++ (32 ∷ (rule_text b.rule ++ 10 ∷ []))))

-- where a span stands
abbrev pub span_text : Span → List ℕ
span_text s = s.page ++ 58 ∷ (decimal s.start ++ 45 ∷ decimal s.end)

abbrev pub next_span : Span → List ℕ
next_span s = codes ", " ++ span_text s

-- the spans of an item, or that it is nil
abbrev pub spans_text : Bool → List Span → List ℕ
spans_text true spans = codes " nil"
spans_text false [] = []
spans_text false (s ∷ more) = 32 ∷ (span_text s ++ flat_map next_span more)

-- where an item stands, and its name
abbrev pub item_text : Traced → List ℕ
item_text t = t.page ++ 58 ∷ (decimal t.offset ++ (codes " {" ++ (t.name.ns ++ 125 ∷ t.name.local)))

-- its line, with where its text stands
abbrev pub trace_line : Traced → List ℕ
trace_line t = item_text t ++ 58 ∷ (spans_text t.nil t.spans ++ 10 ∷ [])

-- the name of a target, as it is shown
abbrev pub shown_name : List ℕ → List ℕ
shown_name [] = codes "(default)"
shown_name (c ∷ cs) = c ∷ cs

-- a number, and what is counted
abbrev pub count : ℕ → List ℕ → List ℕ
count n what = decimal n ++ what

-- how many items and tuples there are
abbrev pub facts_text : Facts → List ℕ
facts_text facts = count (item_count facts) (codes " facts, ") ++ count (tuple_count facts) (codes " tuples, ")

-- how many contexts, units and footnotes a content has
abbrev pub others_text : Content → List ℕ
others_text c =
    count (length c.contexts) (codes " contexts, ")
    ++ (count (length c.units) (codes " units, ") ++ count (length (note_ids c.notes)) (codes " footnotes\n"))

-- the line of a target
abbrev pub summary_line : Target → List ℕ
summary_line t = shown_name t.name ++ (codes ": " ++ (facts_text (facts_of t.content.facts) ++ others_text t.content))

-- the lines of the summary
unfoldable pub summary_of : List Target → List ℕ
summary_of [] = codes "no targets\n"
summary_of (t ∷ ts) = flat_map summary_line (t ∷ ts)

-- the line of the number of a sample, and that of the length of its instance
abbrev pub number_line : ℕ → List ℕ
number_line number = codes "sample " ++ (decimal number ++ 10 ∷ [])

abbrev pub len_line : ℕ → List ℕ
len_line len = decimal len ++ codes " bytes\n"

-- what is told of a sample of so many facts, which has this summary, and an instance of so many bytes
unfoldable pub sample_text : ℕ → List ℕ → ℕ → List ℕ
sample_text number summary len = number_line number ++ (summary ++ len_line len)
