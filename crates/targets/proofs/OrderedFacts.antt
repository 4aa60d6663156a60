-- Facts in another order have the same items and ids, each as often.
use Rattle.std.proofs.Common.{◌≡◌, ◌∙◌, ap, sym, refl, ℕ, ◌+◌, List, [], ◌∷◌, ◌++◌, append_assoc, append-nil, rules}
use Rattle.std.specs.declared.cmp.Ordering.{Ordering}
use Rattle.ix_base.specs.declared.content.Fact.{Fact, out-Fact, the_lemmas}
use Rattle.ix_base.specs.declared.content.Fact.TheOpen.{Fact-F}
use Rattle.ix_base.specs.declared.content.Fact.TheVariants as fact
use Rattle.ix_base.specs.declared.content.Item.{Item}
use Rattle.ix_base.specs.declared.content.Tuple.{Tuple}
use Rattle.ix_base.specs.Facts.{Facts, before, facts_of, none}
use Rattle.ix_base.specs.SortedLists.{sorted}
use Rattle.ix_base.proofs.FactLaws.{before-Item, before-Tuple}
use Rattle.instance_lines.specs.Holdings.{fact_ids, items_in}
use Rattle.instance_lines.specs.Lists.{of_option}
use Rattle.targets.proofs.TotalLaws.{total, total-append, total-sorted}

module _ {Y : Type 0} (g : Facts → List Y) (w : Y → ℕ) (empty : g none ≡ []) (step : (f : Fact) (rest : Facts) → g (before f rest) ≡ g (before f none) ++ g rest) where
  parted : (fs : List Fact) → total w (g (facts_of fs)) ≡ total (λ f. total w (g (before f none))) fs
  parted [] = ap (total w) empty
  parted (f ∷ fs) =
      ap (total w) (step f (facts_of fs)) ∙ total-append w (g (before f none)) (g (facts_of fs))
      ∙ ap (λ n. total w (g (before f none)) + n) (parted fs)

  ordered : (R : Fact → Fact → Ordering) (fs : List Fact) → total w (g (facts_of (sorted R fs))) ≡ total w (g (facts_of fs))
  ordered R fs = parted (sorted R fs) ∙ total-sorted (λ f. total w (g (before f none))) R fs ∙ sym (parted fs)

items-by : (f : Fact) (rest : Facts) (o : Fact-F Fact Tuple) → out-Fact f ≡ o → items_in (before f rest) ≡ items_in (before f none) ++ items_in rest
items-by f rest (Fact-F.Item i) e =
    let same : f ≡ fact.Item i = search (rules, the_lemmas) in
    ap (λ g. items_in (before g rest)) same ∙ ap items_in (before-Item i rest)
    ∙ sym (ap (λ g. items_in (before g none) ++ items_in rest) same ∙ ap (λ x. items_in x ++ items_in rest) (before-Item i none))
items-by f rest (Fact-F.Tuple t) e =
    let same : f ≡ fact.Tuple t = search (rules, the_lemmas) in
    ap (λ g. items_in (before g rest)) same ∙ ap items_in (before-Tuple t rest)
    ∙ ap (λ l. l ++ items_in rest) (sym (append-nil (items_in (facts_of t.members))))
    ∙ sym (ap (λ g. items_in (before g none) ++ items_in rest) same ∙ ap (λ x. items_in x ++ items_in rest) (before-Tuple t none))

ids-by : (f : Fact) (rest : Facts) (o : Fact-F Fact Tuple) → out-Fact f ≡ o → fact_ids (before f rest) ≡ fact_ids (before f none) ++ fact_ids rest
ids-by f rest (Fact-F.Item i) e =
    let same : f ≡ fact.Item i = search (rules, the_lemmas) in
    ap (λ g. fact_ids (before g rest)) same ∙ ap fact_ids (before-Item i rest)
    ∙ ap (λ l. l ++ fact_ids rest) (sym (append-nil (of_option i.id)))
    ∙ sym (ap (λ g. fact_ids (before g none) ++ fact_ids rest) same ∙ ap (λ x. fact_ids x ++ fact_ids rest) (before-Item i none))
ids-by f rest (Fact-F.Tuple t) e =
    let same : f ≡ fact.Tuple t = search (rules, the_lemmas) in
    let within = fact_ids (facts_of t.members) in
    ap (λ g. fact_ids (before g rest)) same ∙ ap fact_ids (before-Tuple t rest)
    ∙ sym (append_assoc (of_option t.id) within (fact_ids rest))
    ∙ ap (λ l. (of_option t.id ++ l) ++ fact_ids rest) (sym (append-nil within))
    ∙ sym (ap (λ g. fact_ids (before g none) ++ fact_ids rest) same ∙ ap (λ x. fact_ids x ++ fact_ids rest) (before-Tuple t none))

pub items-ordered : (w : Item → ℕ) (R : Fact → Fact → Ordering) (fs : List Fact) → total w (items_in (facts_of (sorted R fs))) ≡ total w (items_in (facts_of fs))
items-ordered w R fs = ordered items_in w refl (λ f rest. items-by f rest (out-Fact f) refl) R fs

pub ids-ordered : (w : List ℕ → ℕ) (R : Fact → Fact → Ordering) (fs : List Fact) → total w (fact_ids (facts_of (sorted R fs))) ≡ total w (fact_ids (facts_of fs))
ids-ordered w R fs = ordered fact_ids w refl (λ f rest. ids-by f rest (out-Fact f) refl) R fs
