-- What stands of the contents of targets.
use Rattle.std.proofs.Common.{◌≡◌, ◌∙◌, ap, refl, Bool, true, false, cond, not, List, [], ◌∷◌, Option, Some, None}
use Rattle.std.specs.List.{All, Contains, cons_option, filter, filter_map}
use Rattle.std.specs.Prelude.{ℕ, ◌≤◌, ◌&&◌, ◌||◌, bytes_eq, is_some, option_and_then}
use Rattle.std.proofs.lemmas.List.Elements.{All-cons, All-contains_itself, All-filter, All-nil, All-same, filter_agree}
use Rattle.ix_base.specs.declared.content.Content.{Content}
use Rattle.ix_base.specs.declared.content.Context.{Context}
use Rattle.ix_base.specs.declared.rule.Rule.TheVariants.{L9}
use Rattle.ix_base.specs.Asks.{asks, if_such}
use Rattle.ix_base.specs.Facts.{Facts, facts_of}
use Rattle.ix_base.specs.Ids.{context_for, speaker}
use Rattle.ix_base.specs.Kinds as kinds
use Rattle.ix_base.specs.Kinds.{kind_of, same_kind}
use Rattle.ix_base.specs.declared.kind.Kind.{Kind}
use Rattle.ix_base.specs.declared.kind.Kind.TheVariants as kind
use Rattle.ix_base.specs.LinkRules.{breaking, target_of}
use Rattle.ix_base.specs.LocatedElements.{Located, is_item, is_kind}
use Rattle.ix_base.specs.Membership.{deepest, owner}
use Rattle.ix_base.specs.declared.limits.TheConstants.{DEEPEST_TUPLE}
use Rattle.instance_lines.specs.Writable.{IsTimely, IsWritable, depth}
use Rattle.tuples.specs.Model.{AreMembersOf, Kept, owner_in}
use Rattle.target_contents.specs.Contents.{SaysItem, context_at, contexts_of, is_item_of, is_outer}
use Rattle.target_contents.specs.Groups.{is_fact_of}
use Rattle.target_contents.specs.LinkedSets.{AreApart, AreOwned}
use Rattle.target_contents.specs.TargetFacts.{AreFacts}
use Rattle.target_contents.proofs.DepthLaws.{shallow}
use Rattle.target_contents.proofs.TimelyLaws.{timely_form}

-- the form of a context holds at a time that can be written
said-timely : (o : Option Located) (x : Context) → option_and_then context_at (if_such (is_kind kind.Context) o) ≡ Some x → IsTimely x.period
said-timely None x h = absurd (let z : None ≡ Some x = h in cc)
said-timely (Some e) x h = by (is_kind kind.Context e) h
  where
    by : (b : Bool) → option_and_then context_at (cond b (Some e) None) ≡ Some x → IsTimely x.period
    by true g = timely_form e.placed.tree x g
    by false g = absurd (let z : None ≡ Some x = g in cc)

module _ (es : List Located) where
  timely-one : (id : List ℕ) (o : Option Context) (rest : List Context) → context_for es id ≡ o → All (λ x. IsTimely x.period) rest
      → All (λ x. IsTimely x.period) (cons_option o rest)
  timely-one id None rest h all = all
  timely-one id (Some x) rest h all = All-cons (λ (y : Context). IsTimely y.period) x rest (said-timely (speaker es id) x h) all

  -- so do all that are said
  all-timely : (ids : List (List ℕ)) → All (λ x. IsTimely x.period) (filter_map (context_for es) ids)
  all-timely [] = All-nil (λ (x : Context). IsTimely x.period)
  all-timely (id ∷ ids) = timely-one id (context_for es id) (filter_map (context_for es) ids) refl (all-timely ids)

-- the facts of a target are no deeper than tuples may be
pub outer-shallow : (bases : Located → List ℕ) (es : List Located) (target : List ℕ) (facts : Facts) → AreApart es → AreOwned es → breaking L9 es ≡ []
    → AreFacts (SaysItem bases es) es deepest (filter (is_outer (asks es) target) es) facts → depth facts ≤ DEEPEST_TUPLE
outer-shallow bases es target facts apart owned sound are =
    shallow (SaysItem bases es) es apart owned sound (filter (is_outer (asks es) target) es)
    (All-filter (is_outer (asks es) target) (Contains es) es (All-contains_itself es)) facts are

-- what is gathered can be written
pub gathered-writable : (es : List Located) (target : List ℕ) (c : Content) → c.contexts ≡ contexts_of es target → depth (facts_of c.facts) ≤ DEEPEST_TUPLE
    → IsWritable c
gathered-writable es target c contexts deep = record {
  times = All-same (λ (x : Context). IsTimely x.period) c.contexts _ contexts (all-timely es _);
  tuples = deep;
}

filter-both : {X : Type 0} (p q : X → Bool) (xs : List X) → filter p (filter q xs) ≡ filter (λ x. q x && p x) xs
filter-both p q [] = refl
filter-both p q (x ∷ xs) = by (q x) (filter-both p q xs)
  where
    by : (b : Bool) → filter p (filter q xs) ≡ filter (λ y. q y && p y) xs
        → filter p (cond b (x ∷ filter q xs) (filter q xs)) ≡ cond (b && p x) (x ∷ filter (λ y. q y && p y) xs) (filter (λ y. q y && p y) xs)
    by true h = ap (λ ys. cond (p x) (x ∷ ys) ys) h
    by false h = h

and-true : (b : Bool) → (b && true) ≡ b
and-true true = refl
and-true false = refl

and-false : (b : Bool) → (b && false) ≡ false
and-false true = refl
and-false false = refl

item-kind : (k : Kind) (b : Bool) → (kinds.is_fact k && b && (same_kind k kind.NonNumeric || same_kind k kind.NonFraction || same_kind k kind.Fraction))
    ≡ ((same_kind k kind.NonNumeric || same_kind k kind.NonFraction || same_kind k kind.Fraction) && b)
item-kind kind.NonNumeric b = and-true b
item-kind kind.NonFraction b = and-true b
item-kind kind.Fraction b = and-true b
item-kind kind.Tuple b = and-false b
item-kind k b = refl

-- the items of a target
pub items-are : (es : List Located) (target : List ℕ) → filter is_item (filter (is_fact_of target) es) ≡ filter (is_item_of target) es
items-are es target =
    filter-both is_item (is_fact_of target) es
    ∙ filter_agree _ (is_item_of target) (λ e. item-kind (kind_of e.placed) (bytes_eq target (target_of e))) es

-- the facts of a target without an owner
pub outer-are : (es : List Located) (target : List ℕ)
    → filter (λ e. not (is_some (owner (asks es) e))) (filter (is_fact_of target) es) ≡ filter (is_outer (asks es) target) es
outer-are es target = filter-both (λ e. not (is_some (owner (asks es) e))) (is_fact_of target) es

-- so are those that have no owner by what is kept of the members
pub outer-kept : (k : Kept) (es : List Located) (target : List ℕ) → AreMembersOf k es
    → filter (λ e. not (is_some (owner_in k e))) (filter (is_fact_of target) es) ≡ filter (is_outer (asks es) target) es
outer-kept k es target are =
    filter_agree (λ e. not (is_some (owner_in k e))) (λ e. not (is_some (owner (asks es) e))) (λ e. ap (λ (o : Option Located). not (is_some o)) (are.owners e))
    (filter (is_fact_of target) es)
    ∙ outer-are es target
