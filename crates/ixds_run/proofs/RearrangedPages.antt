-- Pages that are handed over in another order say the same.
use Rattle.std.proofs.Common.{◌≡◌, ◌≢◌, ◌∙◌, ◌++◌, ◌+◌, ◌<◌, ap, inl, inr, refl, subst, sym, ⊎_elim, ℕ, suc, Bool, true, false, List, [], ◌∷◌, length, map, Option, Some, None, arith}
use Rattle.std.specs.Prelude.{nat_lt, if◌then◌else◌}
use Rattle.ix_base.specs.declared.limits.TheConstants.{DEEPEST_ELEMENT, MOST_BYTES, MOST_TAGS}
use Rattle.std.specs.List.{flat_map}
use Rattle.std.specs.List.Sorted.{IsPermutation}
use Rattle.std.proofs.lemmas.List.Elements.{All-cons, All-nil}
use Rattle.std.proofs.lemmas.List.Sorted.{IsPermutation-append, IsPermutation-append_comm, IsPermutation-cons, IsPermutation-refl, IsPermutation-trans}
use Rattle.ix_base.specs.declared.breach.Class.TheVariants as class
use Rattle.ix_base.specs.declared.breach.Found.{Found}
use Rattle.ix_base.specs.declared.rule.Rule.{Rule}
use Rattle.ix_base.specs.declared.rule.Rule.TheVariants as rule
use Rattle.ix_base.specs.Breaches.{class_of, report_of, shown}
use Rattle.ix_base.specs.LocatedElements.{Paged}
use Rattle.ix_base.specs.Sound.{IsSoundTree}
use Rattle.ix_base.specs.Trees.{Tree}
use Rattle.ix_base.proofs.ExchangeLemmas.{by_exchanges}
use Rattle.page_tree.specs.Break.{Fault, w}
use Rattle.page_tree.specs.Page.{page}
use Rattle.target_contents.specs.declared.outcome.Outcome.{Outcome}
use Rattle.target_contents.specs.declared.outcome.Outcome.TheVariants.{Broken, Whole}
use Rattle.targets.specs.Forest.{AreTrees, page_set, paged}
use Rattle.target_contents.specs.SetOutcomes.{IsReport, ComesTo}
use Rattle.targets.specs.Breaches.{PagesComeTo, size_rule, tags_in, all_tags_in, bytes_in, fault_row, on_page, set_rule, text_fault, text_faults}
use Rattle.fact_trace.specs.Model.{AreNew}
use Rattle.fact_trace.specs.Spans.{Source, traces}
use Rattle.fact_trace.specs.ValidPages.{BreakNoRule, HaveTrees}
use Rattle.target_contents.specs.declared.outcome.Target.{Target}
use Rattle.command_words.specs.Commands.{IsGiven, pages_of}
use Rattle.page_verdicts.specs.CommandKinds.{with_pages}
use Rattle.page_session.specs.HandedPages.{Handed, bytes_of, names_of}
use Rattle.ixds_run.specs.Rearrangement.{IsRearranged}
use Rattle.sample_page.specs.Sample.{sample_base}
use Rattle.page_verdicts.specs.Texts.{trace_line}
use Rattle.page_verdicts.specs.Verdicts.{CommandMakes, IsShown, IsTraced, PagesMake, sources}
use Rattle.command_words.specs.declared.command.Command.{Command}
use Rattle.command_words.specs.declared.command.Command.TheVariants.{Extract, Check, Sample, Plain, Trace, Session}
use Rattle.page_verdicts.specs.declared.verdict.Verdict.{Verdict}
use Rattle.page_verdicts.specs.declared.verdict.Verdict.TheVariants.{Printed}
use Rattle.ixds_run.proofs.SoundPages.{sound_pages}
use Rattle.page_verdicts.proofs.TraceLaws.{are_new}
use Rattle.targets.proofs.Exchanged.{exchanged, numbered, said_at, swap_at}
use Rattle.targets.proofs.FaultsMoved.{found_moved}
use Rattle.targets.proofs.Rearranged.{rearranged}
use Rattle.targets.proofs.ReportsMoved.{none-left, report-moved}

-- Sizes.

bytes-exchanged : (front back : List Handed) (a b : Handed) → bytes_in (bytes_of (front ++ a ∷ b ∷ back)) ≡ bytes_in (bytes_of (front ++ b ∷ a ∷ back))
bytes-exchanged [] back a b = omega arith
bytes-exchanged (p ∷ front) back a b = ap (λ n. length p.bytes + n) (bytes-exchanged front back a b)

tags-exchanged : (front back : List Handed) (a b : Handed) → all_tags_in (bytes_of (front ++ a ∷ b ∷ back)) ≡ all_tags_in (bytes_of (front ++ b ∷ a ∷ back))
tags-exchanged [] back a b = omega arith
tags-exchanged (p ∷ front) back a b = ap (λ n. tags_in p.bytes + n) (tags-exchanged front back a b)

rule-exchanged : (front back : List Handed) (a b : Handed) → set_rule (bytes_of (front ++ a ∷ b ∷ back)) ≡ set_rule (bytes_of (front ++ b ∷ a ∷ back))
rule-exchanged front back a b = λ i. size_rule (bytes-exchanged front back a b i) (tags-exchanged front back a b i)

-- a size rule is the set's, whatever the names of its pages
size-class : (x y : Bool) (r : Rule) → (if x then Some rule.S1 else (if y then Some rule.S2 else None)) ≡ Some r → class_of r ≡ class.S
size-class true y r e = let same : rule.S1 ≡ r = cc in subst (λ k. class_of k ≡ class.S) same refl
size-class false true r e = let same : rule.S2 ≡ r = cc in subst (λ k. class_of k ≡ class.S) same refl
size-class false false r e = absurd (cc)

set-class : (bs : List (List ℕ)) (r : Rule) → set_rule bs ≡ Some r → class_of r ≡ class.S
set-class bs r e = size-class (nat_lt MOST_BYTES (bytes_in bs)) (nat_lt MOST_TAGS (all_tags_in bs)) r e

set-report : (ns ms : List (List ℕ)) (r : Rule) → class_of r ≡ class.S → (o : Outcome) → IsReport ns (on_page 0 0 r ∷ []) o → IsReport ms (on_page 0 0 r ∷ []) o
set-report ns ms r s (Broken report) h =
    h ∙ ap report_of (ap (λ c. shown c ns (on_page 0 0 r) ∷ []) s ∙ sym (ap (λ c. shown c ms (on_page 0 0 r) ∷ []) s))
set-report ns ms r s (Whole targets) h = absurd h

-- Breaks.

row-moved : (r : ℕ → ℕ) (n : ℕ) (o : Option Fault) → map (found_moved r) (fault_row n o) ≡ fault_row (r n) o
row-moved r n None = refl
row-moved r n (Some f) = refl

fault_at : ℕ → Handed → List Found
fault_at n p = text_fault n p.bytes

fault-moved : (r : ℕ → ℕ) (n : ℕ) (p : Handed) → map (found_moved r) (fault_at n p) ≡ fault_at (r n) p
unfolding fault_at
fault-moved r n p = row-moved r n (w p.bytes DEEPEST_ELEMENT)

faults-numbered : (n : ℕ) (ps : List Handed) → text_faults n (bytes_of ps) ≡ numbered fault_at n ps
unfolding fault_at
faults-numbered n [] = refl
faults-numbered n (p ∷ ps) = ap (λ l. text_fault n p.bytes ++ l) (faults-numbered (suc n) ps)

faults-exchanged : (front back : List Handed) (a b : Handed)
    → IsPermutation (map (found_moved (swap_at (length front))) (text_faults 0 (bytes_of (front ++ a ∷ b ∷ back)))) (text_faults 0 (bytes_of (front ++ b ∷ a ∷ back)))
faults-exchanged front back a b =
    let mv = found_moved (swap_at (length front)) in
    let now = text_faults 0 (bytes_of (front ++ b ∷ a ∷ back)) in
    subst (λ l. IsPermutation (map mv l) now) (sym (faults-numbered 0 (front ++ a ∷ b ∷ back)))
    (subst (IsPermutation (map mv (numbered fault_at 0 (front ++ a ∷ b ∷ back)))) (sym (faults-numbered 0 (front ++ b ∷ a ∷ back)))
    (exchanged fault_at found_moved fault-moved front back a b))

-- Trees.

-- trees of these pages, which are those pages in another order
abbrev Trees : List Paged → List Handed → Type 0
Trees pages ps = (trees : List Tree) × AreTrees (bytes_of ps) trees × IsPermutation pages (paged (names_of ps) trees)

trees-exchanged : (front back : List Handed) (a b : Handed) (ts : List Tree) → AreTrees (bytes_of (front ++ a ∷ b ∷ back)) ts
    → Trees (paged (names_of (front ++ a ∷ b ∷ back)) ts) (front ++ b ∷ a ∷ back)
trees-exchanged [] back a b [] h = absurd h
trees-exchanged [] back a b (t ∷ []) h = absurd h.1
trees-exchanged [] back a b (t ∷ u ∷ ts) h =
    let one : Paged = record { name = a.name; tree = t } in
    let two : Paged = record { name = b.name; tree = u } in
    let rest = paged (names_of back) ts in
    (u ∷ t ∷ ts, (h.1.0, (h.0, h.1.1)), IsPermutation-append (one ∷ two ∷ []) (two ∷ one ∷ []) rest rest (IsPermutation-append_comm (one ∷ []) (two ∷ [])) (IsPermutation-refl rest))
trees-exchanged (p ∷ front) back a b [] h = absurd h
trees-exchanged (p ∷ front) back a b (t ∷ ts) h =
    let next = trees-exchanged front back a b ts h.1 in
    (t ∷ next.0, (h.0, next.1), IsPermutation-cons (record { name = p.name; tree = t }) (paged (names_of (front ++ a ∷ b ∷ back)) ts) (paged (names_of (front ++ b ∷ a ∷ back)) next.0) next.2)

-- the sources of pages with these trees
abbrev sources_of : List Handed → List Tree → List Source
sources_of ps ts = sources (names_of ps) (bytes_of ps) ts

-- sources of these pages, which are those sources in another order
abbrev Sources : List Source → List Handed → Type 0
Sources all ps = (trees : List Tree) × AreTrees (bytes_of ps) trees × IsPermutation all (sources_of ps trees)

-- items of sources are the same in every order
abbrev InAnyOrder : Type 0
InAnyOrder = (ps qs : List Source) → HaveTrees ps → AreNew (map (λ p. p.name) ps) → BreakNoRule ps → IsPermutation ps qs → traces ps ≡ traces qs

-- All.

module _ (sound : (b : List ℕ) (n : ℕ) (t : Tree) → page b n t → IsSoundTree t n) where
  module _ (base : List ℕ) (o : Outcome) where
    abbrev Say : List Handed → Type 0
    Say ps = PagesComeTo base (names_of ps) (bytes_of ps) o

    says-exchanged : (front back : List Handed) (a b : Handed) → Say (front ++ a ∷ b ∷ back) → Say (front ++ b ∷ a ∷ back)
    says-exchanged front back a b h =
        let P = front ++ a ∷ b ∷ back in
        let Q = front ++ b ∷ a ∷ back in
        let same = rule-exchanged front back a b in
        let r = swap_at (length front) in
        let faults = faults-exchanged front back a b in
        let size : (k : Rule) × (set_rule (bytes_of P) ≡ Some k) × IsReport (names_of P) (on_page 0 0 k ∷ []) o → Say Q =
        λ s. inl (s.0, sym same ∙ s.1, set-report (names_of P) (names_of Q) s.0 (set-class (bytes_of P) s.0 s.1) o s.2) in
        let text : (text_faults 0 (bytes_of P) ≢ []) × IsReport (names_of P) (text_faults 0 (bytes_of P)) o
        → (text_faults 0 (bytes_of Q) ≢ []) × IsReport (names_of Q) (text_faults 0 (bytes_of Q)) o =
        λ s. (
          λ none. s.0 (none-left (found_moved r) (text_faults 0 (bytes_of P)) (text_faults 0 (bytes_of Q)) faults none),
          report-moved r (names_of P) (names_of Q) (said_at (λ (p : Handed). p.name) front back a b) (text_faults 0 (bytes_of P)) (text_faults 0 (bytes_of Q)) faults o s.1,
        ) in
        let made : (ts : List Tree) × AreTrees (bytes_of P) ts × ComesTo (page_set base (names_of P) ts) o → (ts : List Tree) × AreTrees (bytes_of Q) ts × ComesTo (page_set base (names_of Q) ts) o =
        λ s. (let next = trees-exchanged front back a b s.0 s.1 in
        (next.0, next.1, rearranged base (paged (names_of P) s.0) (paged (names_of Q) next.0) next.2 (sound_pages sound (names_of P) (bytes_of P) s.0 s.1) o s.2)) in
        ⊎_elim size (λ e. inr (sym same ∙ e.0, ⊎_elim (λ s. inl (text s)) (λ s. inr (made s)) e.1)) h

    pub says-rearranged : (ps qs : List Handed) → IsPermutation ps qs → Say ps → Say qs
    says-rearranged ps qs m h = by_exchanges Say says-exchanged ps qs m h

  -- sources in another order

  sources-exchanged : (front back : List Handed) (a b : Handed) (ts : List Tree) → AreTrees (bytes_of (front ++ a ∷ b ∷ back)) ts
      → Sources (sources_of (front ++ a ∷ b ∷ back) ts) (front ++ b ∷ a ∷ back)
  sources-exchanged [] back a b [] h = absurd h
  sources-exchanged [] back a b (t ∷ []) h = absurd h.1
  sources-exchanged [] back a b (t ∷ u ∷ ts) h =
      let one : Source = record { name = a.name; bytes = a.bytes; tree = t } in
      let two : Source = record { name = b.name; bytes = b.bytes; tree = u } in
      let rest = sources_of back ts in (
        u ∷ t ∷ ts,
        (h.1.0, (h.0, h.1.1)),
        IsPermutation-append (one ∷ two ∷ []) (two ∷ one ∷ []) rest rest (IsPermutation-append_comm (one ∷ []) (two ∷ [])) (IsPermutation-refl rest),
      )
  sources-exchanged (p ∷ front) back a b [] h = absurd h
  sources-exchanged (p ∷ front) back a b (t ∷ ts) h =
      let next = sources-exchanged front back a b ts h.1 in (
        t ∷ next.0,
        (h.0, next.1),
        IsPermutation-cons (record { name = p.name; bytes = p.bytes; tree = t }) (sources_of (front ++ a ∷ b ∷ back) ts) (sources_of (front ++ b ∷ a ∷ back) next.0) next.2,
      )

  sources-moved : (ps qs : List Handed) (ts : List Tree) → IsPermutation ps qs → AreTrees (bytes_of ps) ts → Sources (sources_of ps ts) qs
  sources-moved ps qs ts m h =
      by_exchanges (λ (xs : List Handed). Sources (sources_of ps ts) xs)
      (λ front back a b s.
      (let next = sources-exchanged front back a b s.0 s.1 in
      (next.0, next.1, IsPermutation-trans (sources_of ps ts) (sources_of (front ++ a ∷ b ∷ back) s.0) (sources_of (front ++ b ∷ a ∷ back) next.0) s.2 next.2)))
      ps qs m (ts, h, IsPermutation-refl (sources_of ps ts))

  have-trees : (ps : List Handed) (ts : List Tree) → AreTrees (bytes_of ps) ts → HaveTrees (sources_of ps ts)
  have-trees [] ts h = All-nil (λ (s : Source). page s.bytes DEEPEST_ELEMENT s.tree)
  have-trees (p ∷ ps) [] h = absurd h
  have-trees (p ∷ ps) (t ∷ ts) h =
      All-cons (λ (s : Source). page s.bytes DEEPEST_ELEMENT s.tree) (record { name = p.name; bytes = p.bytes; tree = t }) (sources_of ps ts) h.0 (have-trees ps ts h.1)

  source-names : (ps : List Handed) (ts : List Tree) → AreTrees (bytes_of ps) ts → map (λ s. s.name) (sources_of ps ts) ≡ names_of ps
  source-names [] ts h = refl
  source-names (p ∷ ps) [] h = absurd h
  source-names (p ∷ ps) (t ∷ ts) h = ap (λ l. p.name ∷ l) (source-names ps ts h.1)

  source-bytes : (ps : List Handed) (ts : List Tree) → AreTrees (bytes_of ps) ts → map (λ s. s.bytes) (sources_of ps ts) ≡ bytes_of ps
  source-bytes [] ts h = refl
  source-bytes (p ∷ ps) [] h = absurd h
  source-bytes (p ∷ ps) (t ∷ ts) h = ap (λ l. p.bytes ∷ l) (source-bytes ps ts h.1)

  unbroken : (base : List ℕ) (targets : List Target) (ps : List Handed) (ts : List Tree) → AreTrees (bytes_of ps) ts → PagesComeTo base (names_of ps) (bytes_of ps) (Whole targets)
      → BreakNoRule (sources_of ps ts)
  unbroken base targets ps ts h come = record {
    base = base;
    targets = targets;
    come = subst (λ (ns : List (List ℕ)). PagesComeTo base ns (map (λ s. s.bytes) (sources_of ps ts)) (Whole targets)) (sym (source-names ps ts h))
        (subst (λ (bs : List (List ℕ)). PagesComeTo base (names_of ps) bs (Whole targets)) (sym (source-bytes ps ts h)) come);
  }

  -- a page that is shown is alone
  two-at-least : (front back : List Handed) (a b : Handed) → 1 < length (names_of (front ++ a ∷ b ∷ back))
  two-at-least [] back a b = omega arith
  two-at-least (p ∷ front) back a b = let more = two-at-least front back a b in omega arith

  traced-moved : InAnyOrder → (base : List ℕ) (v : Verdict) (ps qs : List Handed) → IsPermutation ps qs → AreNew (names_of ps)
      → IsTraced base (names_of ps) (bytes_of ps) v → IsTraced base (names_of qs) (bytes_of qs) v
  traced-moved order base v ps qs m new (Broken report, says, by) = (Broken report, says-rearranged base (Broken report) ps qs m says, by)
  traced-moved order base v ps qs m new (Whole targets, says, (ts, are, is)) =
      let next = sources-moved ps qs ts m are in
      let apart = subst AreNew (sym (source-names ps ts are)) new in
      let same = order (sources_of ps ts) (sources_of qs next.0) (have-trees ps ts are) apart (unbroken base targets ps ts are says) next.2 in
      (Whole targets, says-rearranged base (Whole targets) ps qs m says, (next.0, next.1, is ∙ ap (λ l. Printed (flat_map trace_line l)) same))

  pages-made : InAnyOrder → (c : Command) (v : Verdict) (ps qs : List Handed) → IsPermutation ps qs → AreNew (names_of ps) → pages_of (with_pages c (names_of ps)) ≡ names_of ps
      → pages_of (with_pages c (names_of qs)) ≡ names_of qs → PagesMake c (names_of ps) (bytes_of ps) v → PagesMake c (names_of qs) (bytes_of qs) v
  pages-made order (Extract base dir pages) v ps qs m new own other (o, says, is) = (o, says-rearranged base o ps qs m says, is)
  pages-made order (Check base pages) v ps qs m new own other (o, says, is) = (o, says-rearranged base o ps qs m says, is)
  pages-made order (Sample number) v ps qs m new own other (o, says, is) = (o, says-rearranged sample_base o ps qs m says, is)
  pages-made order (Trace base pages) v ps qs m new own other h = traced-moved order base v ps qs m new h
  pages-made order (Session base dir script) v ps qs m new own other h = absurd h
  pages-made order (Plain name) v ps qs m new own other h =
      by_exchanges (λ (xs : List Handed). name ∷ [] ≡ names_of xs → IsShown (names_of xs) (bytes_of xs) v)
      (λ front back a b h one. absurd (let many = two-at-least front back b a in let z : 1 ≡ length (names_of (front ++ b ∷ a ∷ back)) = ap length one in omega arith))
      ps qs m (λ e. h) other

  with-other : (c : Command) (names others bs : List (List ℕ)) (v : Verdict) → PagesMake c names bs v → PagesMake (with_pages c others) names bs v
  with-other (Extract base dir pages) names others bs v h = h
  with-other (Check base pages) names others bs v h = h
  with-other (Sample number) names others bs v h = h
  with-other (Plain name) names others bs v h = h
  with-other (Trace base pages) names others bs v h = h
  with-other (Session base dir script) names others bs v h = h

  own-pages : (c : Command) (names : List (List ℕ)) → pages_of c ≡ names → pages_of (with_pages c names) ≡ names
  own-pages (Extract base dir pages) names e = refl
  own-pages (Check base pages) names e = refl
  own-pages (Sample number) names e = e
  own-pages (Plain name) names e = e
  own-pages (Trace base pages) names e = refl
  own-pages (Session base dir script) names e = e

  pub made-rearranged : InAnyOrder → (c d : Command) (bs cs : List (List ℕ)) (v : Verdict) → IsGiven c → IsRearranged c bs d cs → CommandMakes c bs v → CommandMakes d cs v
  made-rearranged order c d bs cs v given r h =
      let new = subst AreNew r.names (are_new (pages_of c) given.pages.once) in
      let named : PagesMake c (names_of r.pages) bs v = subst (λ (ns : List (List ℕ)). PagesMake c ns bs v) r.names h in
      let here : PagesMake c (names_of r.pages) (bytes_of r.pages) v = subst (λ (xs : List (List ℕ)). PagesMake c (names_of r.pages) xs v) r.bytes named in
      let there = pages-made order c v r.pages r.others r.order new (own-pages c (names_of r.pages) r.names) (ap pages_of (sym r.command) ∙ r.other_names) here in
      let asked = with-other c (names_of r.others) (names_of r.others) (bytes_of r.others) v there in
      let asked-by : PagesMake d (names_of r.others) (bytes_of r.others) v
      = subst (λ (k : Command). PagesMake k (names_of r.others) (bytes_of r.others) v) (sym r.command) asked in
      subst (λ (ns : List (List ℕ)). PagesMake d ns cs v) (sym r.other_names)
      (subst (λ (xs : List (List ℕ)). PagesMake d (names_of r.others) xs v) (sym r.other_bytes) asked-by)
