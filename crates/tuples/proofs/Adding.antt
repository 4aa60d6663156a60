-- Breaches that are added fact by fact, up to want of memory.
use Rattle.std.proofs.Common.{◌≡◌, ◌∙◌, ◌++◌, ◌+◌, ◌<◌, ℕ, Bool, true, false, cond, List, [], ◌∷◌, length, drop, get_or, refl, sym, ap, subst, append_assoc, append-nil}
use Rattle.std.specs.Prelude.{◌&&◌, is_some, Result, Ok, Err}
use Rattle.std.specs.Result.{OnErr}
use Rattle.std.specs.List.{flat_map, filter}
use Rattle.ix_base.proofs.FrontLemmas.{Grows, grows-more, grows-front, front-first, front-none, front-second}
use Rattle.ix_base.specs.Asks.{Asks, asks}
use Rattle.ix_base.specs.Fronts.{AppendsFront}
use Rattle.ix_base.specs.LinkRules.{breaking, broken_at, breaks_link, found_at}
use Rattle.ix_base.specs.Kinds as kinds
use Rattle.ix_base.specs.Kinds.{kind_of, same_kind}
use Rattle.ix_base.specs.LocatedElements.{Located, is_fact, is_tuple}
use Rattle.ix_base.specs.declared.kind.Kind.{Kind}
use Rattle.ix_base.specs.declared.kind.Kind.TheVariants as kind
use Rattle.ix_base.specs.Membership.{owner}
use Rattle.ix_base.specs.Rows.{row}
use Rattle.ix_base.specs.declared.breach.Found.{Found}
use Rattle.id_table.proofs.RowLemmas.{flat_map-next}
use Rattle.tuples.specs.declared.fact.Fact.{Fact}
use Rattle.tuples.specs.declared.rules.Test.{Test}
use Rattle.tuples.specs.declared.rules.Test.TheVariants as test
use Rattle.tuples.specs.OwnedFacts.{all_seen, seen}
use Rattle.tuples.specs.Tests.{tuple_rule}

-- the breaches of a rule by the facts from this index on
abbrev pub from_on : Asks Located → Test → List Fact → ℕ → List Found
from_on a t facts i = flat_map (broken_at a (tuple_rule t)) (all_seen (drop i facts))

-- those of one more fact were added
pub one-more : (a : Asks Located) (t : Test) (facts : List Fact) (i : ℕ) (fact : Fact) (old now new all : List Found)
    → i < length facts → fact ≡ get_or facts i fact → Grows old now (from_on a t facts i) all → new ≡ now ++ broken_at a (tuple_rule t) (seen fact)
    → Grows old new (from_on a t facts (i + 1)) all
one-more a t facts i fact old now new all h e g n =
    grows-more old now new (broken_at a (tuple_rule t) (seen fact)) _ (from_on a t facts (i + 1)) all g
    (flat_map-next (broken_at a (tuple_rule t)) seen facts i fact h e) n

-- those of the next fact weren't added
pub no-more : (a : Asks Located) (t : Test) (facts : List Fact) (i : ℕ) (fact : Fact) (old now new all : List Found)
    → i < length facts → fact ≡ get_or facts i fact → Grows old now (from_on a t facts i) all → new ≡ now → AppendsFront all old new
no-more a t facts i fact old now new all h e g n =
    grows-front old now new (broken_at a (tuple_rule t) (seen fact)) _ (from_on a t facts (i + 1)) all g
    (flat_map-next (broken_at a (tuple_rule t)) seen facts i fact h e) (front-none _ _ _ n)

-- a kind that is none of a fact isn't that of a tuple
no-tuple : (k : Kind) → kinds.is_fact k ≡ false → same_kind k kind.Tuple ≡ false
no-tuple kind.Continuation h = refl
no-tuple kind.Denominator h = refl
no-tuple kind.Exclude h = refl
no-tuple kind.Footnote h = refl
no-tuple kind.Fraction h = refl
no-tuple kind.Header h = refl
no-tuple kind.Hidden h = refl
no-tuple kind.NonFraction h = refl
no-tuple kind.NonNumeric h = refl
no-tuple kind.Numerator h = refl
no-tuple kind.References h = refl
no-tuple kind.Relationship h = refl
no-tuple kind.Resources h = refl
no-tuple kind.Tuple h = absurd (cc)
no-tuple kind.Context h = refl
no-tuple kind.Unit h = refl
no-tuple kind.SchemaRef h = refl
no-tuple kind.LinkbaseRef h = refl
no-tuple kind.RoleRef h = refl
no-tuple kind.ArcroleRef h = refl
no-tuple kind.Other h = refl

and-left : (b c : Bool) → b ≡ false → (b && c) ≡ false
and-left true c h = absurd (cc)
and-left false c h = refl

-- only facts break the rules on tuples
breaks-no : (a : Asks Located) (t : Test) (e : Located) → is_fact e ≡ false → breaks_link a e (tuple_rule t) ≡ false
breaks-no a test.Lacking e h = and-left (is_fact e) _ h
breaks-no a test.Deep e h = and-left (is_tuple e) _ (no-tuple (kind_of e.placed) h)
breaks-no a test.Leaving e h = and-left (is_fact e) _ h
breaks-no a test.Repeating e h = and-left (is_fact e) _ h
breaks-no a test.Unordered e h = and-left (is_fact e && is_some (owner a e)) _ (and-left (is_fact e) _ h)

facts-only : (a : Asks Located) (t : Test) (e : Located) → is_fact e ≡ false → broken_at a (tuple_rule t) e ≡ []
facts-only a t e h = ap (λ b. row b (found_at e (tuple_rule t))) (breaks-no a t e h)

next : (a : Asks Located) (t : Test) (e : Located) (es : List Located) (b : Bool) → is_fact e ≡ b
    → flat_map (broken_at a (tuple_rule t)) (filter is_fact es) ≡ flat_map (broken_at a (tuple_rule t)) es
    → flat_map (broken_at a (tuple_rule t)) (cond b (e ∷ filter is_fact es) (filter is_fact es)) ≡ broken_at a (tuple_rule t) e ++ flat_map (broken_at a (tuple_rule t)) es
next a t e es true h rest = ap (λ l. broken_at a (tuple_rule t) e ++ l) rest
next a t e es false h rest = rest ∙ ap (λ l. l ++ flat_map (broken_at a (tuple_rule t)) es) (sym (facts-only a t e h))

by-facts : (a : Asks Located) (t : Test) (es : List Located) → flat_map (broken_at a (tuple_rule t)) (filter is_fact es) ≡ flat_map (broken_at a (tuple_rule t)) es
by-facts a t [] = refl
by-facts a t (e ∷ es) = next a t e es (is_fact e) refl (by-facts a t es)

pub all-left : (t : Test) (es : List Located) (facts : List Fact) → all_seen facts ≡ filter is_fact es → from_on (asks es) t facts 0 ≡ breaking (tuple_rule t) es
all-left t es facts e = ap (flat_map (broken_at (asks es) (tuple_rule t))) e ∙ by-facts (asks es) t es

-- what was added part by part
joined : (old now new part more : List Found) → now ≡ old ++ part → new ≡ now ++ more → new ≡ old ++ (part ++ more)
joined old now new part more n e = e ∙ ap (λ x. x ++ more) n ∙ append_assoc old part more

-- all of it is a front
front-all : (all old new : List Found) → new ≡ old ++ all → AppendsFront all old new
front-all all old new e = subst (λ (l : List Found). AppendsFront l old new) (append-nil all) (front-second old new new all [] e (front-none [] new new refl))

module _ (a b c d e : List Found) where
  abbrev whole : List Found
  whole = a ++ b ++ c ++ d ++ e

  pub front-1 : (old new : List Found) → AppendsFront a old new → AppendsFront whole old new
  front-1 old new f = front-first old new (a ++ b ++ c ++ d) e (front-first old new (a ++ b ++ c) d (front-first old new (a ++ b) c (front-first old new a b f)))

  pub front-2 : (old one new : List Found) → one ≡ old ++ a → AppendsFront b one new → AppendsFront whole old new
  front-2 old one new n f =
      front-first old new (a ++ b ++ c ++ d) e (front-first old new (a ++ b ++ c) d (front-first old new (a ++ b) c (front-second old one new a b n f)))

  pub front-3 : (old one two new : List Found) → one ≡ old ++ a → two ≡ one ++ b → AppendsFront c two new → AppendsFront whole old new
  front-3 old one two new n m f =
      front-first old new (a ++ b ++ c ++ d) e (front-first old new (a ++ b ++ c) d (front-second old two new (a ++ b) c (joined old one two a b n m) f))

  pub front-4 : (old one two three new : List Found) → one ≡ old ++ a → two ≡ one ++ b → three ≡ two ++ c → AppendsFront d three new → AppendsFront whole old new
  front-4 old one two three new n m k f =
      front-first old new (a ++ b ++ c ++ d) e (front-second old three new (a ++ b ++ c) d (joined old two three (a ++ b) c (joined old one two a b n m) k) f)

  pub front-5 : (old one two three four new : List Found) → one ≡ old ++ a → two ≡ one ++ b → three ≡ two ++ c → four ≡ three ++ d → AppendsFront e four new → AppendsFront whole old new
  front-5 old one two three four new n m k l f =
      front-second old four new (a ++ b ++ c ++ d) e (joined old three four (a ++ b ++ c) d (joined old two three (a ++ b) c (joined old one two a b n m) k) l) f

  -- all of it is a front
  pub front-6 : (old new : List Found) → new ≡ old ++ a ++ b ++ c ++ d ++ e → AppendsFront whole old new
  front-6 old new h =
      front-5 old (old ++ a) (old ++ a ++ b) (old ++ a ++ b ++ c) (old ++ a ++ b ++ c ++ d) new refl refl refl refl
      (front-all e (old ++ a ++ b ++ c ++ d) new h)

pub err-any : {T E P : Type 0} (r : Result T E) → P → OnErr r P
err-any (Ok t) p = tt
err-any (Err e) p = p
