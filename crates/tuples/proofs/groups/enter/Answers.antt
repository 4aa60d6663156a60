use Rattle.std.proofs.Common.{◌≡◌, ◌∙◌, ◌++◌, ℕ, List, [], ◌∷◌, Some, arith}
use Rattle.std.proofs.lemmas.Grind.{common_steps}
use Rattle.std.specs.List.{filter}
use Rattle.std.specs.Prelude.{◌&&◌, ◌==◌}
use Rattle.ix_base.specs.LocatedElements.{offset_of}
use Rattle.tuples.specs.declared.fact.Fact.{Fact}
use Rattle.tuples.specs.declared.fact.Owner.{Owner}
use Rattle.tuples.specs.FactGroups.{group_at, put_at}
use Rattle.tuples.specs.OwnedFacts.{is_owned_at, owner_seen}
use Rattle.tuples.proofs.groups.enter.Goals as goal

owned-put : (k n page offset : ℕ) (o : Owner) (f : Fact) (xs : List Fact) → f.owner ≡ Some o → k ≡ (owner_seen o).page → n ≡ offset_of (owner_seen o)
    → put_at ((k == page) && (n == offset)) f xs ≡ xs ++ filter (is_owned_at page offset) (f ∷ [])
owned-put k n page offset o f xs is p q = grind (arith, common_steps)

pub returns-in_ok-enter_at : goal.returns-in_ok-enter_at
returns-in_ok-enter_at c = λ page offset.
    c.in_ok-enter_at.ensures page offset
    ∙ owned-put c.place_of.result.0 c.place_of.result.1 page offset c.in-Some.owner c.args.fact (group_at c.args.groups.now page offset)
    c.in-Some.is c.place_of.ensures.page c.place_of.ensures.offset
