use Rattle.std.proofs.Common.{◌∙◌, ◌≡◌, ◌<◌, All, ap, length, subst, sym, true}
use Rattle.std.specs.Prelude.{is_some, ◌||◌}
use Rattle.std.proofs.lemmas.List.Elements.{All-contains}
use Rattle.ix_base.specs.Asks.{asks}
use Rattle.ix_base.specs.Chain.{chain}
use Rattle.ix_base.specs.Kinds.{same_kind}
use Rattle.ix_base.specs.LocatedElements.{Located, is_kind, is_start, located}
use Rattle.ix_base.specs.declared.kind.Kind.TheVariants as kind
use Rattle.continuations.specs.Model.{AreChainsOf}
use Rattle.continuations.proofs.HeadLaws.{chain_at-start}
use Rattle.continuations.proofs.Walking.{some-inj}
use Rattle.target_contents.specs.LinkedSets.{AreApart, BasedElements}
use Rattle.target_contents.proofs.AmongLaws.{spots-are}
use Rattle.target_contents.proofs.ChainLaws.{all-chain, starts-alone}
use Rattle.target_contents.proofs.values.chain_of.Goals as goal

pub of-requires : goal.of-requires
of-requires c =
    let e = located c.args.spot.now in
    let es = c.args.set.now.elements in
    let chains = subst (λ (b : BasedElements). AreChainsOf c.set.inside.linked.now.chains b.elements) c.set.view_is c.set.invariant.0.chains in
    let apart = subst (λ (b : BasedElements). AreApart b.elements) c.set.view_is c.set.invariant.0.apart in
    let is : is_kind kind.NonNumeric e ≡ true = ap (λ k. same_kind k kind.NonNumeric) (sym c.kind_of.ensures) ∙ sym c.eq.ensures ∙ c.if-eq.true in
    let start : is_start e ≡ true = ap (λ b. b || is_kind kind.Footnote e) is in
    ap is_some (chain_at-start c.set.inside.linked.now.chains es e chains c.requires start (starts-alone es apart e c.requires))

pub returns-then-eq-clause-chain : goal.returns-then-eq-clause-chain
returns-then-eq-clause-chain c = λ is.
    let e = located c.args.spot.now in
    let es = c.args.set.now.elements in
    let chains = subst (λ (b : BasedElements). AreChainsOf c.set.inside.linked.now.chains b.elements) c.set.view_is c.set.invariant.0.chains in
    let apart = subst (λ (b : BasedElements). AreApart b.elements) c.set.view_is c.set.invariant.0.apart in
    let start : is_start e ≡ true = ap (λ b. b || is_kind kind.Footnote e) is in
    let kept = chain_at-start c.set.inside.linked.now.chains es e chains c.requires start (starts-alone es apart e c.requires) in
    some-inj _ _ (sym c.of.ensures.chain ∙ kept)

pub returns-then-eq-clause-pages : goal.returns-then-eq-clause-pages
returns-then-eq-clause-pages c =
    let e = located c.args.spot.now in
    let es = c.args.set.now.elements in
    let chains = subst (λ (b : BasedElements). AreChainsOf c.set.inside.linked.now.chains b.elements) c.set.view_is c.set.invariant.0.chains in
    let apart = subst (λ (b : BasedElements). AreApart b.elements) c.set.view_is c.set.invariant.0.apart in
    let is : is_kind kind.NonNumeric e ≡ true = ap (λ k. same_kind k kind.NonNumeric) (sym c.kind_of.ensures) ∙ sym c.eq.ensures ∙ c.if-eq.true in
    let start : is_start e ≡ true = ap (λ b. b || is_kind kind.Footnote e) is in
    let kept = chain_at-start c.set.inside.linked.now.chains es e chains c.requires start (starts-alone es apart e c.requires) in
    let On = λ (x : Located). x.page < length c.args.set.now.bases in
    let on = subst (λ (b : BasedElements). All (λ x. x.page < length b.bases) b.elements) c.set.view_is c.set.invariant.0.pages in
    spots-are On c.of.result.now (chain (asks es) e) (some-inj _ _ (sym c.of.ensures.chain ∙ kept)) (all-chain On es on e (All-contains On es e on c.requires))
