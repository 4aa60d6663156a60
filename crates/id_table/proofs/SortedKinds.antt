-- In which list the elements of a kind are.
use Rattle.std.proofs.Common.{◌≡◌, Bool, true, false, refl, sym, true≢false, ℕ, List, None}
use Rattle.std.specs.List.{filter}
use Rattle.ix_base.specs.declared.kind.Kind.{Kind}
use Rattle.ix_base.specs.declared.kind.Kind.TheVariants as kind
use Rattle.ix_base.specs.Ids.{holds_tuple_id}
use Rattle.ix_base.specs.Kinds.{is_fact as fact_kind, kind_of, same_kind}
use Rattle.ix_base.specs.LinkRules.{is_relationship}
use Rattle.ix_base.specs.LocatedElements.{Located, is_fact, is_item, is_kind, is_text, is_tuple, token_at}
use Rattle.std.specs.Prelude.{◌||◌, ◌&&◌, codes, if◌then◌else◌, not}
use Rattle.id_table.specs.Tables.{is_other}
use Rattle.id_table.proofs.Sorting.{filter-within}

tuple-kind : (k : Kind) → same_kind k kind.Tuple ≡ true → fact_kind k ≡ true
tuple-kind kind.Tuple h = refl
tuple-kind k h = absurd (let z : false ≡ true = h in cc)

item-kind : (k : Kind) → (same_kind k kind.NonNumeric || same_kind k kind.NonFraction || same_kind k kind.Fraction) ≡ true → fact_kind k ≡ true
item-kind kind.NonNumeric h = refl
item-kind kind.NonFraction h = refl
item-kind kind.Fraction h = refl
item-kind k h = absurd (let z : false ≡ true = h in cc)

pub tuple-fact : (e : Located) → is_tuple e ≡ true → is_fact e ≡ true
tuple-fact e h = tuple-kind (kind_of e.placed) h

pub item-fact : (e : Located) → is_item e ≡ true → is_fact e ≡ true
item-fact e h = item-kind (kind_of e.placed) h

-- what is neither a fact nor one of a chain
abbrev other_kind : Kind → Bool
other_kind k = not (fact_kind k) && not ((same_kind k kind.NonNumeric || same_kind k kind.Footnote) || same_kind k kind.Continuation)

relationship-kind : (k : Kind) → same_kind k kind.Relationship ≡ true → other_kind k ≡ true
relationship-kind kind.Relationship h = refl
relationship-kind k h = absurd (let z : false ≡ true = h in cc)

schema-kind : (k : Kind) → same_kind k kind.SchemaRef ≡ true → other_kind k ≡ true
schema-kind kind.SchemaRef h = refl
schema-kind k h = absurd (let z : false ≡ true = h in cc)

linkbase-kind : (k : Kind) → same_kind k kind.LinkbaseRef ≡ true → other_kind k ≡ true
linkbase-kind kind.LinkbaseRef h = refl
linkbase-kind k h = absurd (let z : false ≡ true = h in cc)

role-kind : (k : Kind) → same_kind k kind.RoleRef ≡ true → other_kind k ≡ true
role-kind kind.RoleRef h = refl
role-kind k h = absurd (let z : false ≡ true = h in cc)

arcrole-kind : (k : Kind) → same_kind k kind.ArcroleRef ≡ true → other_kind k ≡ true
arcrole-kind kind.ArcroleRef h = refl
arcrole-kind k h = absurd (let z : false ≡ true = h in cc)

pub relationship-other : (e : Located) → is_relationship e ≡ true → is_other e ≡ true
relationship-other e h = relationship-kind (kind_of e.placed) h

pub schema-other : (e : Located) → is_kind kind.SchemaRef e ≡ true → is_other e ≡ true
schema-other e h = schema-kind (kind_of e.placed) h

pub linkbase-other : (e : Located) → is_kind kind.LinkbaseRef e ≡ true → is_other e ≡ true
linkbase-other e h = linkbase-kind (kind_of e.placed) h

pub role-other : (e : Located) → is_kind kind.RoleRef e ≡ true → is_other e ≡ true
role-other e h = role-kind (kind_of e.placed) h

pub arcrole-other : (e : Located) → is_kind kind.ArcroleRef e ≡ true → is_other e ≡ true
arcrole-other e h = arcrole-kind (kind_of e.placed) h

-- only facts have tuple ids
id-fact : (q : List ℕ) (e : Located) → holds_tuple_id q e ≡ true → is_fact e ≡ true
id-fact q e h = by (is_tuple e) refl h where
  by : (b : Bool) → is_tuple e ≡ b → is_text q (if b then token_at (codes "tupleID") e else None) ≡ true → is_fact e ≡ true
  by true t k = tuple-fact e t
  by false t k = absurd (true≢false (sym k))

pub tuple-ids-of : (q : List ℕ) (es : List Located) → filter (holds_tuple_id q) (filter is_fact es) ≡ filter (holds_tuple_id q) es
tuple-ids-of q = filter-within (holds_tuple_id q) is_fact (id-fact q)

pub relationships-of : (es : List Located) → filter is_relationship (filter is_other es) ≡ filter is_relationship es
relationships-of = filter-within is_relationship is_other relationship-other
