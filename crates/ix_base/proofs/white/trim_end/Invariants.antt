use Rattle.std.proofs.Common.{◌≡◌, length, reverse}
use denote.Text.{Utf8}
use denote.Shadow.{shadow}
use Rattle.ix_base.specs.Token.{without_front}
use Rattle.ix_base.proofs.white.trim_end.Given as goal

abbrev pub invariant-loop-last : goal.invariant-loop-last
invariant-loop-last l = shadow (Utf8 l.text) × (without_front (reverse l.text) ≡ without_front (reverse l.fn.text))

abbrev pub decreases-loop-last : goal.decreases-loop-last
decreases-loop-last l = length l.text
