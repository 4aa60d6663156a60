-- How exact the number of an item is (XBRL 2.1, 4.6.3 to 4.6.5: precision and decimals).
use Rattle.std.specs.Prelude.{ℕ, Bool, true, false, List, Option, None, option_map, if◌then◌else◌, codes}
use Rattle.std.specs.Option.{option_or}
use Rattle.ix_base.specs.declared.content.Accuracy.{Accuracy}
use Rattle.ix_base.specs.declared.content.Accuracy.TheVariants as accuracy
use Rattle.ix_base.specs.declared.kind.Kind.{Kind}
use Rattle.ix_base.specs.declared.kind.Kind.TheVariants as kind
use Rattle.ix_base.specs.Forms.{is_infinite, integer_form}
use Rattle.ix_base.specs.Readers.{attr, is_nil}
use Rattle.ix_base.specs.Token.{token_of}
use Rattle.ix_base.specs.Trees.{Tree}

-- `INF`, or an integer in normal form
abbrev pub exact_form : List ℕ → List ℕ
exact_form value = if is_infinite value then codes "INF" else integer_form (token_of value)

-- what `decimals` says, or else `precision`
abbrev pub accuracy_at : Tree → Option Accuracy
accuracy_at t =
    option_or (option_map (λ value. accuracy.Decimals (exact_form value)) (attr (codes "decimals") t))
    (option_map (λ value. accuracy.Precision (exact_form value)) (attr (codes "precision") t))

-- an item that is nil has no number
abbrev pub accuracy_by : Bool → Tree → Option Accuracy
accuracy_by true t = None
accuracy_by false t = accuracy_at t

-- nonFractions alone say how exact they are
abbrev pub accuracy_of : Kind → Tree → Option Accuracy
accuracy_of kind.NonFraction t = accuracy_by (is_nil t) t
accuracy_of k t = None
