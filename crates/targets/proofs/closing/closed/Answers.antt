use Rattle.std.proofs.Common.{◌∙◌, ◌<◌, ◌≡◌, ℕ, List, ap, arith, inl, inr, length, subst, sym}
use Rattle.std.proofs.lemmas.List.{length-map}
use Rattle.std.proofs.lemmas.List.Elements.{All-same}
use Rattle.std.proofs.lemmas.Result.{IfOk-weaker}
use Rattle.ix_base.specs.declared.breach.Found.{Found}
use Rattle.target_contents.specs.Faults.{element_faults, link_faults}
use Rattle.page_links.specs.Model.{set_of}
use Rattle.target_contents.specs.SetOutcomes.{ComesOfValues, FirstOf, IsReport}
use Rattle.target_contents.specs.PageSet.{names}
use Rattle.targets.proofs.BelowLaws.{faults-below}
use Rattle.targets.proofs.ComesLaws.{names-are, none-is, some-is}
use Rattle.targets.proofs.closing.closed.Goals as goal

pub comes_of_links-requires-clause-names : goal.comes_of_links-requires-clause-names
comes_of_links-requires-clause-names c = c.as_slice.ensures.value ∙ c.in_ok-names.ensures ∙ names-are c.args.pages.now.pages.now

pub returns-then-is_empty-clause-comes : goal.returns-then-is_empty-clause-comes
returns-then-is_empty-clause-comes c =
    let s = set_of c.args.pages.now in
    let same = c.as_slice.ensures.value ∙ c.in_ok-names.ensures ∙ names-are c.args.pages.now.pages.now in
    let none = sym c.in_ok-found.ensures ∙ none-is c.in_ok-found.found c.is_empty.result c.is_empty.ensures c.if-is_empty.true in
    IfOk-weaker c.comes_of_links.result _ _ (λ o h. inr (
      none,
      subst (λ (ns : List (List ℕ)). FirstOf ns (link_faults s) (ComesOfValues s) o) same h,
    )) c.comes_of_links.ensures.comes

pub broken-requires : goal.broken-requires
broken-requires c =
    let s = set_of c.args.pages.now in
    let m = length c.as_slice-2.result.now in
    let same = c.as_slice-2.ensures.value ∙ c.in_ok-names.ensures ∙ names-are c.args.pages.now.pages.now in
    let count : m ≡ length s.pages = ap length same ∙ length-map s.pages (λ p. p.name) in
    All-same (λ (f : Found). f.place.page < m) c.in_ok-found.found (element_faults s) c.in_ok-found.ensures (faults-below m 0 s.pages (omega (arith, count)))

pub returns-clause-comes : goal.returns-clause-comes
returns-clause-comes c =
    let s = set_of c.args.pages.now in
    let same = c.as_slice-2.ensures.value ∙ c.in_ok-names.ensures ∙ names-are c.args.pages.now.pages.now in
    let some = some-is c.in_ok-found.found c.is_empty.result c.is_empty.ensures c.if-is_empty.false in
    IfOk-weaker c.broken.result _ _ (λ o h. inl (
      λ none. some (c.in_ok-found.ensures ∙ none),
      subst (λ (found : List Found). IsReport (names s) found o) c.in_ok-found.ensures
          (subst (λ (ns : List (List ℕ)). IsReport ns c.in_ok-found.found o) same h),
    )) c.broken.ensures.report
