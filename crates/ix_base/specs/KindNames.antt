-- The kinds of the elements of the ix namespace, by their names (Inline XBRL 1.1).
use Rattle.std.specs.Prelude.{ℕ, List, [], ◌∷◌, Option, Some, None, if◌then◌else◌, bytes_eq, codes}
use Rattle.ix_base.specs.declared.kind.Kind.{Kind}
use Rattle.ix_base.specs.declared.kind.Kind.TheVariants as kind
use Rattle.ix_base.specs.Namespaces.{ix_namespace}

-- a local name and the kind of the elements that have it
pub record Row : Type 0 where
  pub local : List ℕ
  pub kind : Kind

abbrev pub row : List ℕ → Kind → Row
row local k = record { local = local; kind = k }

-- the kind in a table, where the name is there
abbrev pub kind_among : List Row → List ℕ → Kind
kind_among [] local = kind.Other
kind_among (r ∷ rows) local = if bytes_eq local r.local then r.kind else kind_among rows local

-- the fourteen elements
unfoldable pub ix_rows : List Row
ix_rows =
    row (codes "continuation") kind.Continuation
    ∷ row (codes "denominator") kind.Denominator
    ∷ row (codes "exclude") kind.Exclude
    ∷ row (codes "footnote") kind.Footnote
    ∷ row (codes "fraction") kind.Fraction
    ∷ row (codes "header") kind.Header
    ∷ row (codes "hidden") kind.Hidden
    ∷ row (codes "nonFraction") kind.NonFraction
    ∷ row (codes "nonNumeric") kind.NonNumeric
    ∷ row (codes "numerator") kind.Numerator
    ∷ row (codes "references") kind.References
    ∷ row (codes "relationship") kind.Relationship
    ∷ row (codes "resources") kind.Resources
    ∷ row (codes "tuple") kind.Tuple
    ∷ []

-- the kind of the elements of this namespace and local name, where the namespace is that of inline elements
abbrev pub inline_by_name : List ℕ → List ℕ → Option Kind
inline_by_name ns local = if bytes_eq ns ix_namespace then Some (kind_among ix_rows local) else None
