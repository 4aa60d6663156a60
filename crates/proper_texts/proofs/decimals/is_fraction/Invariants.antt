use Rattle.std.proofs.Common.{◌≡◌, ◌∷◌, drop}
use Rattle.ix_base.specs.Forms.{is_fraction_part}
use Rattle.proper_texts.proofs.decimals.is_fraction.Given as goal

abbrev pub invariant-loop-next : goal.invariant-loop-next
invariant-loop-next l = is_fraction_part (l.last ∷ drop l.next-index l.rest) ≡ is_fraction_part l.text
