use Rattle.std.proofs.Common.{drop, map}
use Rattle.ix_base.specs.LocatedElements.{located}
use Rattle.ix_base.specs.Markup.{plain_along}
use Rattle.ix_base.proofs.FrontLemmas.{Grows}
use Rattle.escape_text.proofs.plain_text.plain.Given as goal

-- the texts of the elements before here are appended
abbrev pub invariant-loop-spot : goal.invariant-loop-spot
invariant-loop-spot l = Grows l.initial.text l.text (plain_along (map (λ s. located s.now) (drop l.spot-index l.chain))) (plain_along (map (λ s. located s.now) l.chain))
