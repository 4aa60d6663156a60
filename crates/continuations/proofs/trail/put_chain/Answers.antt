use Rattle.std.proofs.Common.{◌≡◌, ◌∙◌, ◌++◌, ◌<◌, ◌+◌, ◌-◌, ap, sym, subst, arith, length, refl, List, None}
use Rattle.std.proofs.lemmas.List.{get_or_default, length-map}
use Rattle.std.proofs.lemmas.List.Elements.{All-push}
use Rattle.std.specs.Borrow.{Bor}
use Rattle.ix_base.specs.declared.tree.Spot.{Spot}
use Rattle.ix_base.specs.LocatedElements.{located}
use Rattle.ix_base.specs.Spots.{IsOnOnePage}
use Rattle.id_table.specs.Model.{asked}
use Rattle.id_table.specs.Tables.{all_located, AreOnOwnPages}
use Rattle.id_table.proofs.OnPages.{on_page-at}
use Rattle.continuations.specs.Walks.{next_at}
use Rattle.continuations.proofs.Chaining.{element_at, left, chain-begins, chain-ends, chain-done, chain-goes_on, chain-whole, next-within}
use Rattle.continuations.proofs.Numbering.{located-at}
use Rattle.continuations.proofs.Walking.{some-inj}
use Rattle.continuations.proofs.trail.put_chain.Goals as goal

pub returns-in_default-clause-chain : goal.returns-in_default-clause-chain
returns-in_default-clause-chain c = λ e at.
    chain-ends (asked c.args.index.now) _ (all_located c.args.links.now.spots.items) c.loop-step.at _ _ (λ k is. c.in_default.not-Some k is) (c.loop-step.invariant.walked e at)
    ∙ chain-whole c.args.index.now.spots c.args.links.now.continuations e c.requires.links.counted

pub returns-clause-chain : goal.returns-clause-chain
returns-clause-chain c = λ e at.
    chain-done (asked c.args.index.now) _ _ _ _ (omega arith) (c.loop-step.invariant.walked e at)
    ∙ chain-whole c.args.index.now.spots c.args.links.now.continuations e c.requires.links.counted

pub loop-step-preserved : goal.loop-step-preserved
loop-step-preserved c =
    let a = asked c.args.index.now in
    let l = c.args.links.now in
    let xs = all_located l.spots.items in
    let s = c.index.result.now in
    let k = c.in-Some.number in
    let within : k < length l.spots.items = c.loop-step.invariant.inside k c.in-Some.is in
    let many : length xs ≡ length l.spots.items = length-map l.spots.items (λ (t : Bor Spot). located t.now) in
    let next : c.index-at.result.now ≡ next_at l.nexts.items k
    = c.index-at.ensures ∙ get_or_default l.nexts.items k c.index-at.result.now None (omega (arith, within, many, c.requires.links.nexts.length_is)) in
    record {
      walked = λ e at.
          ap (λ o. all_located c.push.new.self.items ++ left a (l.continuations + 1 - (c.loop-step._step + 1)) (element_at xs o)) next
          ∙ chain-goes_on a xs l.continuations l.nexts.items c.requires.links.nexts (l.continuations + 1) c.loop-step._step k c.loop-step.at s c.loop-step.chain.items c.push.new.self.items _
          c.in-Some.is (located-at l.spots.items k s within c.index.ensures) c.loop-step-test.true c.in_ok-push.ensures.items (c.loop-step.invariant.walked e at);
      pages = subst AreOnOwnPages (sym {A = List (Bor Spot)} c.in_ok-push.ensures.items) (All-push (λ (t : Bor Spot). IsOnOnePage t.now) c.loop-step.chain.items s c.loop-step.invariant.pages
          (on_page-at l.spots.items k s within c.index.ensures c.requires.links.on_pages));
      inside = λ j is. next-within a xs l.continuations l.nexts.items c.requires.links.nexts l.spots.items refl k j (sym next ∙ is);
    }

pub loop-step-init : goal.loop-step-init
loop-step-init c =
    let l = c.args.links.now in
    let ss = c.clear.new.self.items in
    record {
      walked = λ e at. chain-begins (asked c.args.index.now) (l.continuations + 1) (l.continuations + 1 - 0) c.args.from (all_located l.spots.items) e ss c.clear.ensures.items (omega arith) at;
      pages = subst AreOnOwnPages (sym {A = List (Bor Spot)} c.clear.ensures.items) (λ i d less. absurd (omega (arith, less)));
      inside = λ j is. subst (λ k. k < length l.spots.items) (some-inj c.args.from j is) c.requires.from;
    }

pub index-at-requires : goal.index-at-requires
index-at-requires c =
    let l = c.args.links.now in
    let within : c.in-Some.number < length l.spots.items = c.loop-step.invariant.inside c.in-Some.number c.in-Some.is in
    let many : length (all_located l.spots.items) ≡ length l.spots.items = length-map l.spots.items (λ (t : Bor Spot). located t.now) in
    omega (arith, within, many, c.requires.links.nexts.length_is)
