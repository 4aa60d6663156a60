-- Pages have one outcome.
use Rattle.ix_base.specs.declared.limits.TheConstants.{DEEPEST_ELEMENT}
use Rattle.std.proofs.Common.{◌≡◌, ◌∙◌, ap, sym, subst, ℕ, Bool, true, false, List, [], ◌∷◌, ◌++◌, All, map, filter, Option, Some, Result, Ok, inl, inr, refl}
use Rattle.std.specs.List.{flat_map}
use Rattle.std.proofs.lemmas.List.Elements.{All-head, All-tail}
use Rattle.ix_base.specs.Asks.{Asks, asks}
use Rattle.ix_base.specs.Facts.{Facts, none, item, tuple}
use Rattle.ix_base.specs.LocatedElements.{Located, is_item}
use Rattle.ix_base.specs.Trees.{Tree}
use Rattle.ix_base.specs.declared.breach.Breach.{Breach}
use Rattle.ix_base.specs.declared.breach.Found.{Found}
use Rattle.ix_base.specs.declared.content.Content.{Content}
use Rattle.ix_base.specs.declared.content.Item.{Item}
use Rattle.ix_base.specs.declared.rule.Rule.{Rule}
use Rattle.ix_base.specs.declared.rule.Rule.TheVariants.{P1}
use Rattle.ix_base.proofs.SaidLaws.{same-facts}
use Rattle.facts.specs.ItemValue.{IsItem}
use Rattle.instance_lines.specs.Arrangement.{arranged}
use Rattle.page_tree.specs.Break.{Fault, w}
use Rattle.page_tree.specs.Page.{page}
use Rattle.target_contents.specs.Contents.{IsContent, IsGathered, SaysItem}
use Rattle.target_contents.specs.Faults.{AreOfItems, element_faults, link_faults, value_fault}
use Rattle.targets.specs.Forest.{AreTrees, page_set, paged}
use Rattle.target_contents.specs.SetOutcomes.{ComesOfValues, ComesTo, FirstOf, IsReport, ComesToTargets}
use Rattle.target_contents.specs.PageSet.{PageSet, asked, base_at, elements, names as names_of}
use Rattle.target_contents.specs.TargetFacts.{AreFacts, members_read, one_less}
use Rattle.target_contents.specs.declared.outcome.Outcome.{Outcome}
use Rattle.target_contents.specs.declared.outcome.Outcome.TheVariants.{Broken, Whole}
use Rattle.target_contents.specs.declared.outcome.Target.{Target}
use Rattle.target_contents.proofs.TargetLaws.{same-target}
use Rattle.page_verdicts.proofs.JudgeLaws.{no_faults}
use Rattle.command_words.specs.Commands.{dir_of, number_of, pages_of}
use Rattle.sample_page.specs.Sample.{sample_base}
use Rattle.page_verdicts.specs.Verdicts.{IsOfSet, IsShown, IsShownBy, IsTraced, IsTracedBy, PagesMake, Reports, trace_text, verdict_of}
use Rattle.ixds_run.specs.DueOutcomes.{DueOutcome, IsOutcome, due_of, targets_under, text_of}
use Rattle.page_plain.specs.Bare.{is_inline}
use Rattle.targets.specs.Breaches.{PagesComeTo, on_page, text_faults}
use Rattle.page_verdicts.specs.Texts.{breach_line}
use Rattle.command_words.specs.declared.command.Command.{Command}
use Rattle.command_words.specs.declared.command.Command.TheVariants.{Extract, Check, Sample, Plain, Trace, Session}
use Rattle.page_verdicts.specs.declared.verdict.Verdict.{Verdict}
use Rattle.page_verdicts.specs.declared.verdict.Verdict.TheVariants.{Printed}
use Rattle.ixds_run.specs.declared.status.Status.TheVariants as status

-- what is due of what a set comes to
abbrev due_at : Option (List ℕ) → Option ℕ → Outcome → DueOutcome
due_at dir number o = due_of dir number (verdict_of o)

-- what is due of a report is due of its lines
same_report : (dir : Option (List ℕ)) (number : Option ℕ) (names : List (List ℕ)) (found : List Found) (o p : Outcome) → IsReport names found o → IsReport names found p → due_at dir number o ≡ due_at dir number p
same_report dir number names found (Broken r) (Broken s) h k =
    ap (λ (ls : List Breach). record { status = status.Broken; text = flat_map breach_line ls; targets = [] }) (h ∙ sym k)
same_report dir number names found (Broken r) (Whole ts) h k = absurd k
same_report dir number names found (Whole ts) p h k = absurd h

-- what is due of the first of some reports is due of it, or of what follows where there is nothing to report
same_first : (dir : Option (List ℕ)) (number : Option ℕ) (names : List (List ℕ)) (found : List Found) (Else : Outcome → Type 0)
    → ((o p : Outcome) → Else o → Else p → due_at dir number o ≡ due_at dir number p)
    → (o p : Outcome) → FirstOf names found Else o → FirstOf names found Else p → due_at dir number o ≡ due_at dir number p
same_first dir number names found Else same o p (inl (some, report)) (inl (some', report')) = same_report dir number names found o p report report'
same_first dir number names found Else same o p (inl (some, report)) (inr (empty, more)) = absurd (some empty)
same_first dir number names found Else same o p (inr (empty, more)) (inl (some, report)) = absurd (some empty)
same_first dir number names found Else same o p (inr (empty, more)) (inr (empty', more')) = same o p more more'

-- the facts of some elements are the same, where each element says one item
same_tree : (Says : Located → Item → Type 0) → ((e : Located) (i j : Item) → Says e i → Says e j → i ≡ j) → (all : List Located) (n : ℕ) (es : List Located) (f g : Facts)
    → AreFacts Says all n es f → AreFacts Says all n es g → f ≡ g
same_tree Says one all n [] none none h k = refl
same_tree Says one all n [] none (item j s) h k = absurd k
same_tree Says one all n [] none (tuple b y z v s) h k = absurd k
same_tree Says one all n [] (item i r) g h k = absurd h
same_tree Says one all n [] (tuple a y z v r) g h k = absurd h
same_tree Says one all n (e ∷ es) none g h k = absurd h
same_tree Says one all n (e ∷ es) (item i r) none h k = absurd k
same_tree Says one all n (e ∷ es) (item i r) (item j s) h k =
    let first = one e i j h.1 k.1 in
    let rest = same_tree Says one all n es r s h.2 k.2 in
    λ t. item (first t) (rest t)
same_tree Says one all n (e ∷ es) (item i r) (tuple b y z v s) h k = absurd (let x : false ≡ true = sym h.0 ∙ k.0 in cc)
same_tree Says one all n (e ∷ es) (tuple a w x u r) none h k = absurd k
same_tree Says one all n (e ∷ es) (tuple a w x u r) (item j s) h k = absurd (let q : false ≡ true = sym k.0 ∙ h.0 in cc)
same_tree Says one all n (e ∷ es) (tuple a w x u r) (tuple b y z v s) h k =
    let within = same_tree Says one all (one_less n) (members_read n all e) u v h.4 k.4 in
    let rest = same_tree Says one all n es r s h.5 k.5 in
    λ t. tuple ((h.1 ∙ sym k.1) t) ((h.2 ∙ sym k.2) t) ((h.3 ∙ sym k.3) t) (within t) (rest t)

-- the rules that items break are the same, where each element says one item or breaks one rule
same_broken : (Says : Located → Result Item Rule → Type 0) → ((e : Located) (r s : Result Item Rule) → Says e r → Says e s → r ≡ s) → (es : List Located) (found more : List Found)
    → AreOfItems Says es found → AreOfItems Says es more → found ≡ more
same_broken Says one [] found more h k = h ∙ sym k
same_broken Says one (e ∷ es) found more h k =
    let first = one e h.0 k.0 h.1 k.1 in
    let rest = same_broken Says one es h.2.0 k.2.0 h.2.1 k.2.1 in
    h.2.2 ∙ (λ t. value_fault e (first t) ++ rest t) ∙ sym k.2.2

module _
    (one : (b : List ℕ) (n : ℕ) (t u : Tree) → page b n t → page b n u → t ≡ u)
    (none : (b : List ℕ) (n : ℕ) (f : Fault) (t : Tree) → w b n ≡ Some f → page b n t → ⊥)
    (says : (bases : Located → List ℕ) (a : Asks Located) (e : Located) (r s : Result Item Rule) → IsItem bases a e r → IsItem bases a e s → r ≡ s)
  where
    one_trees : (bs : List (List ℕ)) (ts us : List Tree) → AreTrees bs ts → AreTrees bs us → ts ≡ us
    one_trees [] [] [] h k = refl
    one_trees [] [] (u ∷ us) h k = absurd k
    one_trees [] (t ∷ ts) us h k = absurd h
    one_trees (b ∷ bs) [] us h k = absurd h
    one_trees (b ∷ bs) (t ∷ ts) [] h k = absurd k
    one_trees (b ∷ bs) (t ∷ ts) (u ∷ us) h k =
        let first = one b DEEPEST_ELEMENT t u h.0 k.0 in
        let rest = one_trees bs ts us h.1 k.1 in
        λ i. first i ∷ rest i

    one_said : (bases : Located → List ℕ) (es : List Located) (e : Located) (i j : Item) → SaysItem bases es e i → SaysItem bases es e j → i ≡ j
    one_said bases es e i j h k =
        let both : Ok i ≡ Ok j = says bases (asks es) e (Ok i) (Ok j) h k in
        cc

    one_gathered : (bases : Located → List ℕ) (es : List Located) (target : List ℕ) (c d : Content) → IsGathered bases es target c → IsGathered bases es target d → c ≡ d
    one_gathered bases es target c d h k =
        let facts = same-facts c.facts d.facts (same_tree (SaysItem bases es) (one_said bases es) es _ _ _ _ h.facts k.facts) in
        λ t. record {
          schemas = (h.schemas ∙ sym k.schemas) t;
          linkbases = (h.linkbases ∙ sym k.linkbases) t;
          roles = (h.roles ∙ sym k.roles) t;
          arcroles = (h.arcroles ∙ sym k.arcroles) t;
          contexts = (h.contexts ∙ sym k.contexts) t;
          units = (h.units ∙ sym k.units) t;
          facts = facts t;
          notes = (h.notes ∙ sym k.notes) t;
        }

    one_content : (bases : Located → List ℕ) (es : List Located) (target : List ℕ) (c d : Content) → IsContent bases es target c → IsContent bases es target d → c ≡ d
    one_content bases es target c d h k = h.2 ∙ ap arranged (one_gathered bases es target h.0 k.0 h.1 k.1) ∙ sym k.2

    same_targets : (bases : Located → List ℕ) (es : List Located) (ts us : List Target) → map (λ t. t.name) ts ≡ map (λ t. t.name) us
        → All (λ t. IsContent bases es t.name t.content) ts → All (λ t. IsContent bases es t.name t.content) us → ts ≡ us
    same_targets bases es [] [] e h k = refl
    same_targets bases es [] (u ∷ us) e h k = absurd (let z = e in cc)
    same_targets bases es (t ∷ ts) [] e h k = absurd (let z = e in cc)
    same_targets bases es (t ∷ ts) (u ∷ us) e h k =
        let P : Target → Type 0 = λ x. IsContent bases es x.name x.content in
        let name : t.name ≡ u.name = let z : t.name ∷ map (λ x. x.name) ts ≡ u.name ∷ map (λ x. x.name) us = e in cc in
        let names : map (λ x. x.name) ts ≡ map (λ x. x.name) us = let z : t.name ∷ map (λ x. x.name) ts ≡ u.name ∷ map (λ x. x.name) us = e in cc in
        let other : IsContent bases es t.name u.content = subst (λ (n : List ℕ). IsContent bases es n u.content) (sym name) (All-head P u us k) in
        let content = one_content bases es t.name t.content u.content (All-head P t ts h) other in
        let rest = same_targets bases es ts us names (All-tail P t ts h) (All-tail P u us k) in
        λ i. same-target t u name content i ∷ rest i

    same_whole : (dir : Option (List ℕ)) (number : Option ℕ) (s : PageSet) (o p : Outcome) → ComesToTargets s o → ComesToTargets s p → due_at dir number o ≡ due_at dir number p
    same_whole dir number s (Broken r) p h k = absurd h
    same_whole dir number s (Whole ts) (Broken r) h k = absurd k
    same_whole dir number s (Whole ts) (Whole us) h k =
        ap (λ (xs : List Target). record { status = status.Done; text = text_of number xs; targets = targets_under dir xs })
        (same_targets (base_at s) (elements s) ts us (h.names ∙ sym k.names) h.contents k.contents)

    same_valued : (dir : Option (List ℕ)) (number : Option ℕ) (s : PageSet) (o p : Outcome) → ComesOfValues s o → ComesOfValues s p → due_at dir number o ≡ due_at dir number p
    same_valued dir number s o p (found, are, first) (more, are', first') =
        let e : more ≡ found = same_broken (IsItem (base_at s) (asked s)) (says (base_at s) (asked s)) (filter is_item (elements s)) more found are' are in
        same_first dir number (names_of s) found (ComesToTargets s) (same_whole dir number s) o p first (subst (λ (xs : List Found). FirstOf (names_of s) xs (ComesToTargets s) p) e first')

    same_set : (dir : Option (List ℕ)) (number : Option ℕ) (s : PageSet) (o p : Outcome) → ComesTo s o → ComesTo s p → due_at dir number o ≡ due_at dir number p
    same_set dir number s =
        same_first dir number (names_of s) (element_faults s) (FirstOf (names_of s) (link_faults s) (ComesOfValues s))
        (same_first dir number (names_of s) (link_faults s) (ComesOfValues s) (same_valued dir number s))

    same_saying : (dir : Option (List ℕ)) (number : Option ℕ) (base : List ℕ) (names bs : List (List ℕ)) (o p : Outcome) → PagesComeTo base names bs o → PagesComeTo base names bs p → due_at dir number o ≡ due_at dir number p
    same_saying dir number base names bs o p (inl (rule, set, report)) (inl (other, set', report')) =
        let z : other ≡ rule = cc in
        same_report dir number names (on_page 0 0 rule ∷ []) o p report (subst (λ (r : Rule). IsReport names (on_page 0 0 r ∷ []) p) z report')
    same_saying dir number base names bs o p (inl (rule, set, report)) (inr (kept, more)) = absurd (let z = kept in cc)
    same_saying dir number base names bs o p (inr (kept, more)) (inl (rule, set, report)) = absurd (let z = kept in cc)
    same_saying dir number base names bs o p (inr (kept, inl (some, report))) (inr (kept', inl (some', report'))) = same_report dir number names (text_faults 0 bs) o p report report'
    same_saying dir number base names bs o p (inr (kept, inl (some, report))) (inr (kept', inr (ts, trees, made))) = absurd (some (no_faults none 0 bs ts trees))
    same_saying dir number base names bs o p (inr (kept, inr (ts, trees, made))) (inr (kept', inl (some, report))) = absurd (some (no_faults none 0 bs ts trees))
    same_saying dir number base names bs o p (inr (kept, inr (ts, trees, made))) (inr (kept', inr (us, trees', made'))) =
        same_set dir number (record { base = base; pages = paged names ts }) o p made
        (subst (λ (xs : List Tree). ComesTo (page_set base names xs) p) (one_trees bs us ts trees' trees) made')

    -- reports of the same breaches
    same_reports : (dir : Option (List ℕ)) (number : Option ℕ) (names : List (List ℕ)) (found : List Found) (v w : Verdict) → Reports names found v → Reports names found w
        → due_of dir number v ≡ due_of dir number w
    same_reports dir number names found v w (o, report, is) (p, report', is') =
        ap (due_of dir number) is ∙ same_report dir number names found o p report report' ∙ sym (ap (due_of dir number) is')

    same_root : (dir : Option (List ℕ)) (number : Option ℕ) (b : Bool) (names : List (List ℕ)) (root : Tree) (v w : Verdict) → IsShownBy b names root v → IsShownBy b names root w
        → due_of dir number v ≡ due_of dir number w
    same_root dir number true names root v w h k = same_reports dir number names (on_page 0 root.head.offset P1 ∷ []) v w h k
    same_root dir number false names root v w h k = ap (due_of dir number) (h ∙ sym k)

    same_shown : (dir : Option (List ℕ)) (number : Option ℕ) (names bs : List (List ℕ)) (v w : Verdict) → IsShown names bs v → IsShown names bs w → due_of dir number v ≡ due_of dir number w
    same_shown dir number names bs v w (inl (rule, set, report)) (inl (other, set', report')) =
        let z : other ≡ rule = cc in
        same_reports dir number names (on_page 0 0 rule ∷ []) v w report (subst (λ (r : Rule). Reports names (on_page 0 0 r ∷ []) w) z report')
    same_shown dir number names bs v w (inl (rule, set, report)) (inr (kept, more)) = absurd (let z = kept in cc)
    same_shown dir number names bs v w (inr (kept, more)) (inl (rule, set, report)) = absurd (let z = kept in cc)
    same_shown dir number names bs v w (inr (kept, inl (some, report))) (inr (kept', inl (some', report'))) = same_reports dir number names (text_faults 0 bs) v w report report'
    same_shown dir number names bs v w (inr (kept, inl (some, report))) (inr (kept', inr (root, trees, shown))) = absurd (some (no_faults none 0 bs (root ∷ []) trees))
    same_shown dir number names bs v w (inr (kept, inr (root, trees, shown))) (inr (kept', inl (some, report))) = absurd (some (no_faults none 0 bs (root ∷ []) trees))
    same_shown dir number names bs v w (inr (kept, inr (root, trees, shown))) (inr (kept', inr (other, trees', shown'))) =
        let same : other ∷ [] ≡ root ∷ [] = one_trees bs (other ∷ []) (root ∷ []) trees' trees in
        let z : other ≡ root = cc in
        same_root dir number (is_inline root.head.name) names root v w shown (subst (λ (t : Tree). IsShownBy (is_inline t.head.name) names t w) z shown')

    same_of_set : (dir : Option (List ℕ)) (number : Option ℕ) (base : List ℕ) (names bs : List (List ℕ)) (v w : Verdict) → IsOfSet base names bs v → IsOfSet base names bs w
        → due_of dir number v ≡ due_of dir number w
    same_of_set dir number base names bs v w (o, says, is) (p, says', is') =
        ap (due_of dir number) is ∙ same_saying dir number base names bs o p says says' ∙ sym (ap (due_of dir number) is')

    same_traced_by : (dir : Option (List ℕ)) (number : Option ℕ) (names bs : List (List ℕ)) (o p : Outcome) (v w : Verdict) → due_at dir number o ≡ due_at dir number p
        → IsTracedBy o names bs v → IsTracedBy p names bs w → due_of dir number v ≡ due_of dir number w
    same_traced_by dir number names bs (Broken r) (Broken s) v w same h k = ap (due_of dir number) h ∙ same ∙ sym (ap (due_of dir number) k)
    same_traced_by dir number names bs (Broken r) (Whole ts) v w same h k = absurd (let z : status.Broken ≡ status.Done = ap (λ (d : DueOutcome). d.status) same in cc)
    same_traced_by dir number names bs (Whole ts) (Broken r) v w same h k = absurd (let z : status.Done ≡ status.Broken = ap (λ (d : DueOutcome). d.status) same in cc)
    same_traced_by dir number names bs (Whole ts) (Whole us) v w same (trees, are, is) (others, are', is') =
        let alike : others ≡ trees = one_trees bs others trees are' are in
        ap (due_of dir number) (is ∙ ap (λ (xs : List Tree). Printed (trace_text names bs xs)) (sym alike) ∙ sym is')

    same_traced : (dir : Option (List ℕ)) (number : Option ℕ) (base : List ℕ) (names bs : List (List ℕ)) (v w : Verdict) → IsTraced base names bs v → IsTraced base names bs w
        → due_of dir number v ≡ due_of dir number w
    same_traced dir number base names bs v w (o, says, by) (p, says', by') =
        same_traced_by dir number names bs o p v w (same_saying dir number base names bs o p says says') by by'

    same_made : (dir : Option (List ℕ)) (number : Option ℕ) (c : Command) (names bs : List (List ℕ)) (v w : Verdict) → PagesMake c names bs v → PagesMake c names bs w
        → due_of dir number v ≡ due_of dir number w
    same_made dir number (Extract base to pages) names bs v w h k = same_of_set dir number base names bs v w h k
    same_made dir number (Check base pages) names bs v w h k = same_of_set dir number base names bs v w h k
    same_made dir number (Sample facts) names bs v w h k = same_of_set dir number sample_base names bs v w h k
    same_made dir number (Plain page) names bs v w h k = same_shown dir number names bs v w h k
    same_made dir number (Trace base pages) names bs v w h k = same_traced dir number base names bs v w h k
    same_made dir number (Session base to script) names bs v w h k = absurd h

    pub outcome_one : (c : Command) (bs : List (List ℕ)) (due other : DueOutcome) → IsOutcome c bs due → IsOutcome c bs other → due ≡ other
    outcome_one c bs due other h k =
        h.is.due_is ∙ same_made (dir_of c) (number_of c) c (pages_of c) bs h.verdict k.verdict h.is.makes k.is.makes ∙ sym k.is.due_is
