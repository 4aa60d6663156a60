use Rattle.std.proofs.Common.{◌∙◌, ◌∷◌, ap, map, subst, sym}
use Rattle.ix_base.specs.Spaces.{AreNumbered, space_of}
use Rattle.page_plain.specs.Bare.{numbered, prefix_in}
use Rattle.page_plain.specs.SpaceNumbers.{Prefixed}
use Rattle.page_plain.proofs.PrefixedLaws.{number-some, prefix-number}
use Rattle.page_plain.proofs.prefixes.Prefixes.number.Goals as goal

pub returns-clause-prefix : goal.returns-clause-prefix
returns-clause-prefix c =
    prefix-number (map (λ s. s.now) c.self.inside.spaces.items) c.self.inside.numbers c.args.name.now c.self.invariant
    (subst (λ (p : Prefixed). AreNumbered (space_of c.args.name.now ∷ p.spaces)) (sym c.self.view_is) c.requires)
    c.copied.result (c.copied.ensures ∙ c.get.ensures.value)
    ∙ ap (λ (p : Prefixed). prefix_in (numbered 1 p.texts) c.args.name.now.ns.now) c.self.view_is

pub returns-clause-some : goal.returns-clause-some
returns-clause-some c =
    number-some (map (λ s. s.now) c.self.inside.spaces.items) c.self.inside.numbers c.args.name.now c.self.invariant
    (subst (λ (p : Prefixed). AreNumbered (space_of c.args.name.now ∷ p.spaces)) (sym c.self.view_is) c.requires)
    c.copied.result (c.copied.ensures ∙ c.get.ensures.value)
