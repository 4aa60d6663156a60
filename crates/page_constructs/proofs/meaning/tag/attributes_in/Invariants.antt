use Rattle.std.proofs.Common.{ℕ, ◌<◌, length, map}
use Rattle.std.specs.Str.{IsUtf8}
use Rattle.page_constructs.specs.Model.{attribute_of}
use Rattle.page_constructs.proofs.TagReading.{SoFar}
use Rattle.page_constructs.proofs.meaning.tag.attributes_in.Given as goal

abbrev pub invariant-loop-rest : goal.invariant-loop-rest
invariant-loop-rest l = IsUtf8 l.rest × ((n : ℕ) → length l.text < n → SoFar (map attribute_of l.attrs.items) l.rest l.text n)

abbrev pub decreases-loop-rest : goal.decreases-loop-rest
decreases-loop-rest l = length l.rest
