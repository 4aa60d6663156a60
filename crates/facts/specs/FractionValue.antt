-- The value of a fraction, or the lowest rule that it breaks (Inline XBRL 1.1, fraction, numerator and denominator).
use Rattle.std.specs.Prelude.{◌≡◌, ℕ, false, List, [], Option, Some, None, Result, Ok, Err, if◌then◌else◌, bytes_eq, codes, pos}
use Rattle.std.specs.Option.{option_or}
use Rattle.std.specs.declared.cmp.Ordering.{Ordering}
use Rattle.std.specs.declared.cmp.Ordering.TheVariants.{Less, Equal, Greater}
use Rattle.ix_base.specs.declared.content.Value.{Value}
use Rattle.ix_base.specs.declared.content.Value.TheVariants as value
use Rattle.ix_base.specs.declared.rule.Rule.{Rule}
use Rattle.ix_base.specs.declared.rule.Rule.TheVariants.{V5}
use Rattle.ix_base.specs.Breaches.{rule_cmp}
use Rattle.ix_base.specs.Elements.{tree_at}
use Rattle.ix_base.specs.Forms.{is_zero}
use Rattle.ix_base.specs.Namespaces.{ix_namespace}
use Rattle.ix_base.specs.Trees.{Nodes, none, chars, elem, Tree}
use Rattle.ix_base.specs.FactViews.{view}
use Rattle.facts.specs.NumberValue.{IsNumberValue, Number, number_at, number_by, own_text}

-- the first element of the ix namespace that has this local name and whose nearest ix ancestor holds these nodes
abbrev pub part_in : List ℕ → Nodes → Option Tree
part_in local none = None
part_in local (chars text rest) = part_in local rest
part_in local (elem head children rest) =
    option_or (if bytes_eq head.name.ns ix_namespace then (if bytes_eq head.name.local local then Some (tree_at head children) else None)
    else part_in local children) (part_in local rest)

-- the same of one element: itself, or what it holds
abbrev pub part_at : List ℕ → Tree → Option Tree
part_at local t =
    if bytes_eq t.head.name.ns ix_namespace then (if bytes_eq t.head.name.local local then Some t else None)
    else part_in local t.children

-- the number of a part, whose text is its own; a part that isn't there is an empty number
abbrev pub part_number : Option Tree → Number
part_number None = number_at None (pos 0) false []
part_number (Some t) = number_by (view t) (own_text t.children)

-- the part of this name has this value, or breaks this rule
abbrev pub IsPart : List ℕ → Tree → Result (List ℕ) Rule → Type 0
IsPart local t r = IsNumberValue (part_number (part_in local t.children)) r

-- of two rules the lower one
abbrev pub lower_by : Ordering → Rule → Rule → Rule
lower_by Less q r = q
lower_by Equal q r = q
lower_by Greater q r = r

abbrev pub lower : Rule → Rule → Rule
lower q r = lower_by (rule_cmp q r) q r

-- V5: the denominator is zero
abbrev pub over : List ℕ → List ℕ → Result Value Rule
over n d = if is_zero d then Err V5 else Ok (value.Fraction n d)

-- both numbers, or the lowest rule that is broken by either or by both together
abbrev pub fraction : Result (List ℕ) Rule → Result (List ℕ) Rule → Result Value Rule
fraction (Ok n) (Ok d) = over n d
fraction (Ok n) (Err r) = Err r
fraction (Err q) (Ok d) = Err q
fraction (Err q) (Err r) = Err (lower q r)

-- what its numerator and its denominator give
abbrev pub IsFractionValue : Tree → Result Value Rule → Type 0
IsFractionValue t r =
    (n : Result (List ℕ) Rule) × (IsPart (codes "numerator") t n
    × ((d : Result (List ℕ) Rule) × (IsPart (codes "denominator") t d × (r ≡ fraction n d))))
