-- Breaches that are added relationship by relationship, up to want of memory.
use Rattle.std.proofs.Common.{◌≡◌, ◌∙◌, ◌++◌, ◌+◌, ◌<◌, ℕ, Bool, true, false, cond, List, [], ◌∷◌, length, drop, get_or, refl, sym, ap, subst, append_assoc, append-nil}
use Rattle.std.specs.Prelude.{◌&&◌, Result, Ok, Err}
use Rattle.std.specs.Result.{OnErr}
use Rattle.std.specs.List.{flat_map, filter}
use Rattle.ix_base.proofs.FrontLemmas.{Grows, grows-more, grows-front, front-first, front-none, front-second}
use Rattle.ix_base.specs.Asks.{Asks, asks}
use Rattle.ix_base.specs.Fronts.{AppendsFront}
use Rattle.ix_base.specs.LinkRules.{breaking, broken_at, breaks_link, found_at, is_relationship}
use Rattle.ix_base.specs.LocatedElements.{Located}
use Rattle.ix_base.specs.Rows.{row}
use Rattle.ix_base.specs.declared.breach.Found.{Found}
use Rattle.id_table.proofs.RowLemmas.{flat_map-next}
use Rattle.footnotes.specs.declared.relationships.Relationship.{Relationship}
use Rattle.footnotes.specs.declared.rules.Test.{Test}
use Rattle.footnotes.specs.declared.rules.Test.TheVariants as test
use Rattle.footnotes.specs.NamedEnds.{all_seen, seen}
use Rattle.footnotes.specs.Tests.{relationship_rule}

-- the breaches of a rule by the relationships from this index on
abbrev pub from_on : Asks Located → Test → List Relationship → ℕ → List Found
from_on a t relationships i = flat_map (broken_at a (relationship_rule t)) (all_seen (drop i relationships))

-- those of one more relationship were added
pub one-more : (a : Asks Located) (t : Test) (relationships : List Relationship) (i : ℕ) (relationship : Relationship) (old now new all : List Found)
    → i < length relationships → relationship ≡ get_or relationships i relationship → Grows old now (from_on a t relationships i) all → new ≡ now ++ broken_at a (relationship_rule t) (seen relationship)
    → Grows old new (from_on a t relationships (i + 1)) all
one-more a t relationships i relationship old now new all h e g n =
    grows-more old now new (broken_at a (relationship_rule t) (seen relationship)) _ (from_on a t relationships (i + 1)) all g
    (flat_map-next (broken_at a (relationship_rule t)) seen relationships i relationship h e) n

-- those of the next relationship weren't added
pub no-more : (a : Asks Located) (t : Test) (relationships : List Relationship) (i : ℕ) (relationship : Relationship) (old now new all : List Found)
    → i < length relationships → relationship ≡ get_or relationships i relationship → Grows old now (from_on a t relationships i) all → new ≡ now → AppendsFront all old new
no-more a t relationships i relationship old now new all h e g n =
    grows-front old now new (broken_at a (relationship_rule t) (seen relationship)) _ (from_on a t relationships (i + 1)) all g
    (flat_map-next (broken_at a (relationship_rule t)) seen relationships i relationship h e) (front-none _ _ _ n)

and-left : (b c : Bool) → b ≡ false → (b && c) ≡ false
and-left true c h = absurd (cc)
and-left false c h = refl

-- only relationships break the rules on them
breaks-no : (a : Asks Located) (t : Test) (e : Located) → is_relationship e ≡ false → breaks_link a e (relationship_rule t) ≡ false
breaks-no a test.Sources e h = and-left (is_relationship e) _ h
breaks-no a test.Ends e h = and-left (is_relationship e) _ h
breaks-no a test.Targets e h = and-left (is_relationship e && _) _ (and-left (is_relationship e) _ h)

others-none : (a : Asks Located) (t : Test) (e : Located) → is_relationship e ≡ false → broken_at a (relationship_rule t) e ≡ []
others-none a t e h = ap (λ b. row b (found_at e (relationship_rule t))) (breaks-no a t e h)

next : (a : Asks Located) (t : Test) (e : Located) (es : List Located) (b : Bool) → is_relationship e ≡ b
    → flat_map (broken_at a (relationship_rule t)) (filter is_relationship es) ≡ flat_map (broken_at a (relationship_rule t)) es
    → flat_map (broken_at a (relationship_rule t)) (cond b (e ∷ filter is_relationship es) (filter is_relationship es)) ≡ broken_at a (relationship_rule t) e ++ flat_map (broken_at a (relationship_rule t)) es
next a t e es true h rest = ap (λ l. broken_at a (relationship_rule t) e ++ l) rest
next a t e es false h rest = rest ∙ ap (λ l. l ++ flat_map (broken_at a (relationship_rule t)) es) (sym (others-none a t e h))

by-relationships : (a : Asks Located) (t : Test) (es : List Located) → flat_map (broken_at a (relationship_rule t)) (filter is_relationship es) ≡ flat_map (broken_at a (relationship_rule t)) es
by-relationships a t [] = refl
by-relationships a t (e ∷ es) = next a t e es (is_relationship e) refl (by-relationships a t es)

pub all-left : (t : Test) (es : List Located) (relationships : List Relationship) → all_seen relationships ≡ filter is_relationship es → from_on (asks es) t relationships 0 ≡ breaking (relationship_rule t) es
all-left t es relationships e = ap (flat_map (broken_at (asks es) (relationship_rule t))) e ∙ by-relationships (asks es) t es

-- what was added part by part
joined : (old now new part more : List Found) → now ≡ old ++ part → new ≡ now ++ more → new ≡ old ++ (part ++ more)
joined old now new part more n e = e ∙ ap (λ x. x ++ more) n ∙ append_assoc old part more

-- all of it is a front
front-all : (all old new : List Found) → new ≡ old ++ all → AppendsFront all old new
front-all all old new e = subst (λ (l : List Found). AppendsFront l old new) (append-nil all) (front-second old new new all [] e (front-none [] new new refl))

module _ (a b c : List Found) where
  pub front-1 : (old new : List Found) → AppendsFront a old new → AppendsFront (a ++ b ++ c) old new
  front-1 old new f = front-first old new (a ++ b) c (front-first old new a b f)

  pub front-2 : (old one new : List Found) → one ≡ old ++ a → AppendsFront b one new → AppendsFront (a ++ b ++ c) old new
  front-2 old one new n f = front-first old new (a ++ b) c (front-second old one new a b n f)

  pub front-3 : (old one two new : List Found) → one ≡ old ++ a → two ≡ one ++ b → AppendsFront c two new → AppendsFront (a ++ b ++ c) old new
  front-3 old one two new n m f = front-second old two new (a ++ b) c (joined old one two a b n m) f

  -- all of it is a front
  pub front-4 : (old new : List Found) → new ≡ old ++ a ++ b ++ c → AppendsFront (a ++ b ++ c) old new
  front-4 old new h = front-3 old (old ++ a) (old ++ a ++ b) new refl refl (front-all c (old ++ a ++ b) new h)

pub err-any : {T E P : Type 0} (r : Result T E) → P → OnErr r P
err-any (Ok t) p = tt
err-any (Err e) p = p
