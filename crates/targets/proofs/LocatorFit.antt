-- In a content the footnote links are whole: the facts of its target give it their ids.
use Rattle.std.proofs.Common.{◌≡◌, ◌∙◌, ap, refl, subst, ℕ, ◌≤◌, true, List, arith}
use Rattle.std.specs.List.{Contains}
use Rattle.std.specs.Option.{option_map_or}
use Rattle.std.specs.Prelude.{bytes_eq}
use Rattle.std.proofs.lemmas.Bool.{and_parts}
use Rattle.std.proofs.lemmas.Slice.Eq.{bytes_eq-Decides}
use Rattle.ix_base.specs.declared.content.Content.{Content}
use Rattle.ix_base.specs.Facts.{facts_of}
use Rattle.ix_base.specs.Ids.{id_of}
use Rattle.ix_base.specs.LinkRules.{target_of}
use Rattle.ix_base.specs.LocatedElements.{Located, is_fact}
use Rattle.ix_base.specs.PlainContents.{said_of}
use Rattle.ix_base.proofs.OnceLemmas.{Contains-from_filter}
use Rattle.instance_lines.specs.Holdings.{fact_ids}
use Rattle.instance_out.specs.Proper.{links_fit}
use Rattle.targets.specs.ValidSets.{IsClean}
use Rattle.target_contents.specs.Contents.{IsContent}
use Rattle.target_contents.specs.Groups.{is_fact_of}
use Rattle.target_contents.specs.PageSet.{PageSet, base_at, elements}
use Rattle.targets.proofs.CleanLaws.{told, told-all}
use Rattle.targets.proofs.HasLaws.{has-is}
use Rattle.targets.proofs.LinksFit.{HaveIds, links-fit}
use Rattle.targets.proofs.SumLaws.{ids-sum}
use Rattle.targets.proofs.TotalLaws.{total, total-has, when, when-has}

-- each fact of the target gives its id to the facts of the content
have-ids : (s : PageSet) → IsClean s → (target : List ℕ) (c : Content) → IsContent (base_at s) (elements s) target c → HaveIds (elements s) target c
have-ids s clean target c content e at id given =
    let es = elements s in
    let kept = Contains-from_filter (is_fact_of target) es e at in
    let parts = and_parts (is_fact e) (bytes_eq target (target_of e)) kept.1 in
    let w : List ℕ → ℕ = λ t. when (bytes_eq t id) 1 in
    let u : Located → ℕ = λ f. option_map_or w (id_of f) 0 in
    let here : u e ≡ 1 = ap (λ o. option_map_or w o 0) given ∙ ap (λ b. when b 1) ((bytes_eq-Decides id id).1 refl) in
    let there : u e ≤ total u (told s clean target) = told-all s clean target u e kept.0 parts.0 parts.1 in
    let same : total w (fact_ids (facts_of c.facts)) ≡ total u (told s clean target) = ids-sum s clean target c content w in
    let found = total-has w (fact_ids (facts_of c.facts)) (omega (arith, here, there, same)) in
    let is : found.0 ≡ id = (bytes_eq-Decides found.0 id).0 (when-has (bytes_eq found.0 id) 1 found.2).0 in
    has-is (fact_ids (facts_of c.facts)) id (subst (Contains (fact_ids (facts_of c.facts))) is found.1)

-- locators and footnotes of links are what their arcs name, and locators are ids of facts
pub whole-links-fit : (s : PageSet) → IsClean s → (target : List ℕ) (c : Content) → IsContent (base_at s) (elements s) target c
    → links_fit (said_of c) ≡ true
whole-links-fit s clean target c content = links-fit s clean target c content (have-ids s clean target c content)
