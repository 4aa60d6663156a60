-- Contexts and units that say the same (XBRL 2.1, sections 4.7 and 4.8). Tools that write each page of a report by itself repeat
-- them, so that those with one id and one normal form count as one.
use Rattle.std.specs.Prelude.{Bool, true, false, ◌&&◌, List, [], ◌∷◌, Option, Some, bytes_eq}
use Rattle.std.specs.Ordering.{int_eq}
use Rattle.ix_base.specs.declared.content.Context.{Context}
use Rattle.ix_base.specs.declared.content.Dim.{Dim}
use Rattle.ix_base.specs.declared.content.Member.{Member}
use Rattle.ix_base.specs.declared.content.Member.TheVariants as member
use Rattle.ix_base.specs.declared.content.Period.{Period}
use Rattle.ix_base.specs.declared.content.Period.TheVariants as period
use Rattle.ix_base.specs.declared.content.Unit.{Unit as UnitContent}
use Rattle.ix_base.specs.declared.kind.Kind.{Kind}
use Rattle.ix_base.specs.declared.kind.Kind.TheVariants as kind
use Rattle.ix_base.specs.ContextForm.{context}
use Rattle.ix_base.specs.Kinds.{kind_of}
use Rattle.ix_base.specs.LocatedElements.{Located}
use Rattle.ix_base.specs.OwnNames.{same_own}
use Rattle.ix_base.specs.Trees.{Tree}
use Rattle.ix_base.specs.UnitForm.{unit}

-- two lists are alike, item by item
abbrev pub same_each : {X : Type 0} → (X → X → Bool) → List X → List X → Bool
same_each same [] [] = true
same_each same (x ∷ xs) (y ∷ ys) = same x y && same_each same xs ys
same_each same xs ys = false

abbrev pub same_member : Member → Member → Bool
same_member (member.Explicit m) (member.Explicit n) = same_own m n
same_member (member.Typed m text) (member.Typed n other) = same_own m n && bytes_eq text other
same_member m n = false

abbrev pub same_dim : Dim → Dim → Bool
same_dim a b = same_own a.dimension b.dimension && same_member a.member b.member

abbrev pub same_period : Period → Period → Bool
same_period (period.Instant a) (period.Instant b) = int_eq a b
same_period (period.Duration a b) (period.Duration c d) = int_eq a c && int_eq b d
same_period period.Forever period.Forever = true
same_period p q = false

-- the normal forms are equal, ids included
abbrev pub same_context : Context → Context → Bool
same_context a b =
    bytes_eq a.id b.id && (bytes_eq a.scheme b.scheme && (bytes_eq a.identifier b.identifier
    && (same_each same_dim a.segment b.segment && (same_each same_dim a.scenario b.scenario && same_period a.period b.period))))

abbrev pub same_unit : UnitContent → UnitContent → Bool
same_unit a b = bytes_eq a.id b.id && (same_each same_own a.over b.over && same_each same_own a.under b.under)

-- both are there, and alike: one without a normal form is like no other
abbrev pub same_forms : {X : Type 0} → (X → X → Bool) → Option X → Option X → Bool
same_forms same (Some x) (Some y) = same x y
same_forms same o p = false

abbrev pub alike_as : Kind → Kind → Tree → Tree → Bool
alike_as kind.Context kind.Context s t = same_forms same_context (context s) (context t)
alike_as kind.Unit kind.Unit s t = same_forms same_unit (unit s) (unit t)
alike_as k l s t = false

-- two contexts of one normal form, or two units of one
unfoldable pub alike : Located → Located → Bool
alike x y = alike_as (kind_of x.placed) (kind_of y.placed) x.placed.tree y.placed.tree
