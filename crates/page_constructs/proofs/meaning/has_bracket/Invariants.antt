use Rattle.std.proofs.Common.{◌≡◌, drop, None}
use Rattle.page_constructs.specs.Forms.{has_bracket}
use Rattle.page_constructs.proofs.meaning.has_bracket.Given as goal

abbrev pub invariant-loop-byte : goal.invariant-loop-byte
invariant-loop-byte l = has_bracket l.quote (drop l.byte-index l.text) ≡ has_bracket None l.text
