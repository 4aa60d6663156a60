use Rattle.std.proofs.Common.{◌≡◌, ◌∙◌, ◌∷◌, [], ◌-◌, ◌++◌, List, ap, arith, subst, sym, take, true}
use Rattle.std.specs.List.{Contains}
use Rattle.std.proofs.lemmas.List.{take_all}
use Rattle.std.proofs.lemmas.List.Elements.{All-weaker}
use Rattle.std.proofs.lemmas.Result.{IfOk-weaker}
use Rattle.ix_base.specs.declared.content.Fact.{Fact}
use Rattle.ix_base.specs.declared.kind.Kind.TheVariants as kind
use Rattle.ix_base.specs.Facts.{facts_of}
use Rattle.ix_base.specs.Kinds.{same_kind}
use Rattle.ix_base.specs.LocatedElements.{Located, is_fact, is_tuple, located}
use Rattle.ix_base.specs.Membership.{members}
use Rattle.id_table.specs.Tables.{all_located}
use Rattle.tuples.specs.Model.{AreMembersOf}
use Rattle.target_contents.specs.LinkedSets.{BasedElements, SaysIn}
use Rattle.target_contents.specs.TargetFacts.{AreFacts, IsFactOf}
use Rattle.target_contents.proofs.AmongLaws.{located-more, members-among, spot-at, spots-are, un-not}
use Rattle.target_contents.proofs.FactsLaws.{Each, each-push, facts-each, read-less, tuple-fact}
use Rattle.target_contents.proofs.facts_in.+facts.Goals as goal

pub facts_at-item_fact-requires-clause-among : goal.facts_at-item_fact-requires-clause-among
facts_at-item_fact-requires-clause-among t c =
    spot-at (λ s. Contains c.args.valued.now.elements (located s.now)) c.args.spots.now c.loop-spot.spot-index c.spot-item.result c.requires.among
    c.loop-spot-test.true c.spot-item.is

pub facts_at-loop-spot-preserved-then-ne : goal.facts_at-loop-spot-preserved-then-ne
facts_at-loop-spot-preserved-then-ne t c =
    let R = IsFactOf (SaysIn c.args.valued.now) c.args.valued.now.elements c.args.depth in
    let before = all_located (take c.loop-spot.spot-index c.args.spots.now) in
    let e = located c.spot-item.result.now in
    subst (λ (es : List Located). Each R es c.push.new.self.items) (sym (located-more c.args.spots.now c.loop-spot.spot-index c.spot-item.result c.loop-spot-test.true c.spot-item.is))
    (subst (λ (fs : List Fact). Each R (before ++ e ∷ []) fs) (sym c.in_ok-push.ensures.items)
    (each-push R before c.loop-spot.facts.items e c.in_ok-item.item c.loop-spot.invariant (c.in_ok-item.ensures c.args.depth)))

pub facts_at-loop-spot-preserved : goal.facts_at-loop-spot-preserved
facts_at-loop-spot-preserved t c =
    let R = IsFactOf (SaysIn c.args.valued.now) c.args.valued.now.elements c.args.depth in
    let before = all_located (take c.loop-spot.spot-index c.args.spots.now) in
    let e = located c.spot-item.result.now in
    let tuple : is_tuple e ≡ true = ap (λ k. same_kind k kind.Tuple) (sym c.kind_of.ensures) ∙ un-not _ _ c.ne.ensures c.if-ne.false in
    subst (λ (es : List Located). Each R es c.push-in-loop-spot.new.self.items)
    (sym (located-more c.args.spots.now c.loop-spot.spot-index c.spot-item.result c.loop-spot-test.true c.spot-item.is))
    (subst (λ (fs : List Fact). Each R (before ++ e ∷ []) fs) (sym c.in_ok-push-2.ensures.items)
    (each-push R before c.loop-spot.facts.items e c.in_ok-tuple.tuple c.loop-spot.invariant
    (tuple-fact (SaysIn c.args.valued.now) c.args.valued.now.elements c.args.depth e c.in_ok-tuple.tuple (facts_of c.in_ok-members.members) tuple
    c.in_ok-tuple.ensures c.in_ok-members.ensures)))

pub facts_at-returns : goal.facts_at-returns
facts_at-returns t c =
    let R = IsFactOf (SaysIn c.args.valued.now) c.args.valued.now.elements c.args.depth in
    let facts = c.loop-spot.facts.items in
    subst (λ (fs : List Fact). AreFacts (SaysIn c.args.valued.now) c.args.valued.now.elements c.args.depth (all_located c.args.spots.now) (facts_of fs)) (sym c.of.ensures)
    (facts-each (SaysIn c.args.valued.now) c.args.valued.now.elements c.args.depth (all_located c.args.spots.now) facts
    (subst (λ (es : List Located). Each R es facts) (ap all_located (take_all c.loop-spot.spot-index c.args.spots.now c.loop-spot-test.false)) c.loop-spot.invariant))

pub members_in-facts_at-requires : goal.members_in-facts_at-requires
members_in-facts_at-requires t c =
    let es = c.args.valued.now.elements in
    let e = located c.args.tuple.now in
    let Both = λ (x : Located). Contains es x × (is_fact x ≡ true) in
    let kept = subst (λ (b : BasedElements). AreMembersOf c.set.inside.linked.now.members b.elements) (c.set.view_is ∙ c.valued.view_is) c.set.invariant.0.members in
    let are : all_located c.of.result.now ≡ members es e = c.of.ensures.members ∙ kept.members e in (
      omega (arith, c.decreases, c.if-depth-eq0.false),
      (
        spots-are (Contains es) c.of.result.now (members es e) are (All-weaker Both (Contains es) (λ x h. h.0) (members es e) (members-among es e)),
        spots-are (λ x. is_fact x ≡ true) c.of.result.now (members es e) are
            (All-weaker Both (λ x. is_fact x ≡ true) (λ x h. h.1) (members es e) (members-among es e)),
      ),
    )

pub members_in-returns : goal.members_in-returns
members_in-returns t c =
    let es = c.args.valued.now.elements in
    let e = located c.args.tuple.now in
    let kept = subst (λ (b : BasedElements). AreMembersOf c.set.inside.linked.now.members b.elements) (c.set.view_is ∙ c.valued.view_is) c.set.invariant.0.members in
    IfOk-weaker c.facts_at.result _ _ (λ l h. read-less (SaysIn c.args.valued.now) es c.args.depth (c.args.depth - 1) e (all_located c.of.result.now) (facts_of l)
    (omega (arith, c.if-depth-eq0.false)) (c.of.ensures.members ∙ kept.members e) h) c.facts_at.ensures
