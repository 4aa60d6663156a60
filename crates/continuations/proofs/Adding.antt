-- Breaches that are added element by element, up to want of memory.
use Rattle.std.proofs.Common.{◌≡◌, ◌∙◌, ◌++◌, ◌+◌, ◌<◌, ℕ, List, length, drop, get_or, ap, sym, arith, Result, Ok, Err}
use Rattle.std.proofs.lemmas.List.{take_all}
use Rattle.std.specs.Borrow.{Bor}
use Rattle.std.specs.List.{flat_map}
use Rattle.std.specs.Result.{OnErr}
use Rattle.ix_base.proofs.FrontLemmas.{Grows, grows-more, grows-front, front-none}
use Rattle.ix_base.specs.Asks.{Asks}
use Rattle.ix_base.specs.Fronts.{AppendsFront}
use Rattle.ix_base.specs.LinkRules.{broken_at}
use Rattle.ix_base.specs.LocatedElements.{Located, located}
use Rattle.ix_base.specs.declared.breach.Found.{Found}
use Rattle.ix_base.specs.declared.rule.Rule.{Rule}
use Rattle.ix_base.specs.declared.tree.Spot.{Spot}
use Rattle.id_table.proofs.RowLemmas.{flat_map-next}
use Rattle.id_table.specs.Tables.{all_located}

-- the breaches of a rule by the elements from this index on
abbrev pub from_on : Asks Located → Rule → List (Bor Spot) → ℕ → List Found
from_on a rule spots i = flat_map (broken_at a rule) (all_located (drop i spots))

-- those of one more element were added
pub one-more : (a : Asks Located) (rule : Rule) (spots : List (Bor Spot)) (i : ℕ) (spot : Bor Spot) (old now new all : List Found)
    → i < length spots → spot ≡ get_or spots i spot → Grows old now (from_on a rule spots i) all → new ≡ now ++ broken_at a rule (located spot.now)
    → Grows old new (from_on a rule spots (i + 1)) all
one-more a rule spots i spot old now new all h e g n =
    grows-more old now new (broken_at a rule (located spot.now)) _ (from_on a rule spots (i + 1)) all g
    (flat_map-next (broken_at a rule) (λ (s : Bor Spot). located s.now) spots i spot h e) n

-- those of the next element weren't added
pub no-more : (a : Asks Located) (rule : Rule) (spots : List (Bor Spot)) (i : ℕ) (spot : Bor Spot) (old now new all : List Found)
    → i < length spots → spot ≡ get_or spots i spot → Grows old now (from_on a rule spots i) all → new ≡ now → AppendsFront all old new
no-more a rule spots i spot old now new all h e g n =
    grows-front old now new (broken_at a rule (located spot.now)) _ (from_on a rule spots (i + 1)) all g
    (flat_map-next (broken_at a rule) (λ (s : Bor Spot). located s.now) spots i spot h e) (front-none _ _ _ n)

-- all of it is a front
pub front-all : (all old new : List Found) → new ≡ old ++ all → AppendsFront all old new
front-all all old new n = (length all, n ∙ ap (λ x. old ++ x) (sym (take_all (length all) all (omega arith))))

-- what holds anyway holds where there is an error
pub err-any : {T E P : Type 0} (r : Result T E) → P → OnErr r P
err-any (Ok x) p = tt
err-any (Err e) p = p
