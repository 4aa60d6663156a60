use Rattle.std.proofs.Common.{◌≡◌, ◌∙◌, List, ap, subst, sym, true, not}
use Rattle.std.specs.List.{Contains, filter}
use Rattle.std.specs.Prelude.{is_some}
use Rattle.std.proofs.lemmas.List.Elements.{All-contains_itself, All-filter, All-weaker, filter_passes}
use Rattle.std.proofs.lemmas.Result.{IfOk-weaker}
use Rattle.ix_base.specs.Asks.{asks}
use Rattle.ix_base.specs.Facts.{facts_of}
use Rattle.ix_base.specs.LocatedElements.{Located, base_in, is_fact}
use Rattle.ix_base.specs.Membership.{deepest}
use Rattle.id_table.specs.Tables.{all_located}
use Rattle.tuples.specs.Model.{owner_in}
use Rattle.target_contents.specs.Contents.{is_outer}
use Rattle.target_contents.specs.Groups.{is_fact_of}
use Rattle.target_contents.specs.LinkedSets.{AreApart, AreOwned, BasedElements, IsShallow, SaysIn, all_of}
use Rattle.target_contents.specs.TargetFacts.{AreFacts}
use Rattle.target_contents.proofs.AmongLaws.{&&-left, spots-are}
use Rattle.target_contents.proofs.ContentLaws.{outer-kept, outer-shallow}
use Rattle.target_contents.proofs.ListLaws.{among-such}
use Rattle.target_contents.proofs.contents.facts_for.Goals as goal

pub outer_of-requires : goal.outer_of-requires
outer_of-requires c =
    let l = c.set.inside.linked.now in
    let facts = subst (λ (b : BasedElements). all_located c.facts_of.result.now ≡ filter (is_fact_of c.args.target.now) b.elements)
    (sym (c.set.view_is ∙ c.valued.view_is)) c.facts_of.ensures in record {
      members = c.set.invariant.0.members;
      among = among-such (is_fact_of c.args.target.now) c.facts_of.result.now (all_of l) facts;
    }

pub facts_at-requires : goal.facts_at-requires
facts_at-requires c =
    let l = c.set.inside.linked.now in
    let target = c.args.target.now in
    let is = c.set.view_is ∙ c.valued.view_is in
    let facts = subst (λ (b : BasedElements). all_located c.facts_of.result.now ≡ filter (is_fact_of target) b.elements) (sym is) c.facts_of.ensures in
    let outer = ap all_located c.as_slice.ensures.value ∙ c.in_ok-outer.ensures
    ∙ ap (λ (xs : List Located). filter (λ e. not (is_some (owner_in l.members e))) xs) facts ∙ outer-kept l.members (all_of l) target c.set.invariant.0.members in
    let es = c.args.valued.now.elements in
    let p = is_outer (asks es) target in
    let are = subst (λ (b : BasedElements). all_located c.as_slice.result.now ≡ filter (is_outer (asks b.elements) target) b.elements) is outer in record {
      among = spots-are (Contains es) c.as_slice.result.now (filter p es) are (All-filter p (Contains es) es (All-contains_itself es));
      facts = spots-are (λ x. is_fact x ≡ true) c.as_slice.result.now (filter p es) are
          (All-weaker (λ x. p x ≡ true) (λ x. is_fact x ≡ true) (λ x h. &&-left (is_fact x) _ (&&-left _ _ h)) (filter p es) (filter_passes p es));
    }

pub returns : goal.returns
returns c =
    let l = c.set.inside.linked.now in
    let target = c.args.target.now in
    let is = c.set.view_is ∙ c.valued.view_is in
    let facts = subst (λ (b : BasedElements). all_located c.facts_of.result.now ≡ filter (is_fact_of target) b.elements) (sym is) c.facts_of.ensures in
    let outer = ap all_located c.as_slice.ensures.value ∙ c.in_ok-outer.ensures
    ∙ ap (λ (xs : List Located). filter (λ e. not (is_some (owner_in l.members e))) xs) facts ∙ outer-kept l.members (all_of l) target c.set.invariant.0.members in
    let v = c.args.valued.now in
    let are = subst (λ (b : BasedElements). all_located c.as_slice.result.now ≡ filter (is_outer (asks b.elements) target) b.elements) is outer in
    let made = IfOk-weaker c.facts_at.result _ _ (λ l h. subst (λ (xs : List Located). AreFacts (SaysIn v) v.elements deepest xs (facts_of l)) are h) c.facts_at.ensures in record {
      facts = made;
      shallow = IfOk-weaker c.facts_at.result _ _ (λ l h. outer-shallow (base_in v.bases) v.elements target (facts_of l)
          (subst (λ (b : BasedElements). AreApart b.elements) is c.set.invariant.0.apart) (subst (λ (b : BasedElements). AreOwned b.elements) is c.set.invariant.0.owned)
          (subst IsShallow is c.set.invariant.1) h) made;
    }
