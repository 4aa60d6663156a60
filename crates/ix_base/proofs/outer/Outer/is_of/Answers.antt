use Rattle.std.proofs.Common.{◌∷◌, [], subst}
use Rattle.std.specs.Prelude.{IfSome}
use Rattle.ix_base.specs.Spaces.{AreNumbered, Space, space_of}
use Rattle.ix_base.proofs.OnceLemmas.{Contains-first, Contains-later}
use Rattle.ix_base.proofs.outer.Outer.is_of.Goals as goal

pub returns-in-Some : goal.returns-in-Some
returns-in-Some c =
    let own : Space = space_of c.args.name.now in
    let around : Space = record { number = c.in-Some.number; text = c.args.self.ns.now } in
    let tied : AreNumbered (around ∷ own ∷ []) =
    subst (λ o. IfSome o (λ n. AreNumbered (record { number = n; text = c.args.self.ns.now } ∷ own ∷ []))) c.in-Some.is c.requires in
    tied own around (Contains-later around (own ∷ []) own (Contains-first own [])) (Contains-first around (own ∷ []))
