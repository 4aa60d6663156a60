-- What pages say is read back.
use Rattle.std.proofs.Common.{ℕ, Bool, true, false, List, [], ◌∷◌, inl, inr, subst, sym}
use Rattle.std.proofs.lemmas.List.Elements.{All-weaker}
use Rattle.ix_base.specs.PlainContents.{said_of}
use Rattle.ix_base.specs.Sound.{IsSoundTree}
use Rattle.ix_base.specs.Trees.{Tree}
use Rattle.ix_base.specs.declared.breach.Found.{Found}
use Rattle.ix_base.specs.declared.content.Content.{Content}
use Rattle.instance_lines.specs.Canonical.{canon}
use Rattle.instance_out.specs.Proper.{Proper}
use Rattle.instance_out.specs.Theorem.{IsReadBack}
use Rattle.page_tree.specs.Page.{page}
use Rattle.targets.specs.ValidSets.{AreProper}
use Rattle.target_contents.specs.SetOutcomes.{IsReport}
use Rattle.target_contents.specs.declared.outcome.Outcome.{Outcome}
use Rattle.target_contents.specs.declared.outcome.Outcome.TheVariants.{Broken, Whole}
use Rattle.target_contents.specs.declared.outcome.Target.{Target}
use Rattle.targets.proofs.ProperLaws.{comes-proper}
use Rattle.targets.specs.Forest.{paged}
use Rattle.ix_base.specs.declared.rule.Rule.TheVariants.{P1}
use Rattle.page_plain.specs.Bare.{is_inline}
use Rattle.ixds_run.specs.DueOutcomes.{AreReadBack}
use Rattle.sample_page.specs.Sample.{sample_base}
use Rattle.page_verdicts.specs.Verdicts.{IsOfSet, IsShown, IsShownBy, IsTracedBy, PagesMake, Reports, verdict_of}
use Rattle.command_words.specs.declared.command.Command.{Command}
use Rattle.command_words.specs.declared.command.Command.TheVariants.{Extract, Check, Sample, Plain, Trace, Session}
use Rattle.page_verdicts.specs.declared.verdict.Verdict.{Verdict}
use Rattle.targets.specs.Breaches.{PagesComeTo, on_page, text_faults}
use Rattle.ixds_run.proofs.SoundPages.{sound_pages}

-- a report has no targets
report_back : (names : List (List ℕ)) (found : List Found) (o : Outcome) → IsReport names found o → AreReadBack (verdict_of o)
report_back names found (Broken report) h = tt
report_back names found (Whole ts) h = absurd h

of_reports : (names : List (List ℕ)) (found : List Found) (v : Verdict) → Reports names found v → AreReadBack v
of_reports names found v (o, report, is) = subst (λ (w : Verdict). AreReadBack w) (sym is) (report_back names found o report)

by_root : (b : Bool) (names : List (List ℕ)) (root : Tree) (v : Verdict) → IsShownBy b names root v → AreReadBack v
by_root true names root v h = of_reports names (on_page 0 root.head.offset P1 ∷ []) v h
by_root false names root v h = subst (λ (w : Verdict). AreReadBack w) (sym h) tt

-- nor has a page that is shown
shown_back : (names bs : List (List ℕ)) (v : Verdict) → IsShown names bs v → AreReadBack v
shown_back names bs v (inl (rule, set, report)) = of_reports names (on_page 0 0 rule ∷ []) v report
shown_back names bs v (inr (kept, inl (some, report))) = of_reports names (text_faults 0 bs) v report
shown_back names bs v (inr (kept, inr (root, trees, shown))) = by_root (is_inline root.head.name) names root v shown

-- nor have items that are shown where they stand
traced_back : (o : Outcome) (names bs : List (List ℕ)) (v : Verdict) → IsTracedBy o names bs v → AreReadBack v
traced_back (Broken report) names bs v h = subst (λ (w : Verdict). AreReadBack w) (sym h) tt
traced_back (Whole ts) names bs v (trees, are, is) = subst (λ (w : Verdict). AreReadBack w) (sym is) tt

module _
    (sound : (b : List ℕ) (n : ℕ) (t : Tree) → page b n t → IsSoundTree t n)
    (back : (c : Content) → Proper (said_of c) → IsReadBack (canon c) c)
  where
    proper_back : (o : Outcome) → AreProper o → AreReadBack (verdict_of o)
    proper_back (Broken report) h = tt
    proper_back (Whole ts) h =
        All-weaker (λ (t : Target). Proper (said_of t.content)) (λ (t : Target). IsReadBack (canon t.content) t.content) (λ t proper. back t.content proper) ts h

    said_back : (base : List ℕ) (names bs : List (List ℕ)) (o : Outcome) → PagesComeTo base names bs o → AreReadBack (verdict_of o)
    said_back base names bs o (inl (rule, set, report)) = report_back names (on_page 0 0 rule ∷ []) o report
    said_back base names bs o (inr (kept, inl (some, report))) = report_back names (text_faults 0 bs) o report
    said_back base names bs o (inr (kept, inr (trees, are, made))) =
        proper_back o (comes-proper (record { base = base; pages = paged names trees }) (sound_pages sound names bs trees are) o made)

    set_back : (base : List ℕ) (names bs : List (List ℕ)) (v : Verdict) → IsOfSet base names bs v → AreReadBack v
    set_back base names bs v (o, says, is) = subst (λ (w : Verdict). AreReadBack w) (sym is) (said_back base names bs o says)

    pub made_back : (c : Command) (names bs : List (List ℕ)) (v : Verdict) → PagesMake c names bs v → AreReadBack v
    made_back (Extract base dir pages) names bs v h = set_back base names bs v h
    made_back (Check base pages) names bs v h = set_back base names bs v h
    made_back (Sample number) names bs v h = set_back sample_base names bs v h
    made_back (Plain page) names bs v h = shown_back names bs v h
    made_back (Trace base pages) names bs v (o, says, by) = traced_back o names bs v by
    made_back (Session base dir script) names bs v h = absurd h
