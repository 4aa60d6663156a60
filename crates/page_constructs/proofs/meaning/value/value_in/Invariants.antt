use Rattle.std.proofs.Common.{◌≡◌, ◌++◌, length, None, option_map}
use Rattle.std.specs.Str.{IsUtf8}
use Rattle.std.specs.String.{string_bytes}
use Rattle.page_constructs.specs.Values.{meant_in}
use Rattle.page_constructs.proofs.meaning.value.value_in.Given as goal

abbrev pub invariant-loop-value : goal.invariant-loop-value
invariant-loop-value l = IsUtf8 l.rest × (option_map (λ more. string_bytes l.value ++ more) (meant_in None l.rest) ≡ meant_in None l.raw)

abbrev pub decreases-loop-value : goal.decreases-loop-value
decreases-loop-value l = length l.rest
