use Rattle.std.proofs.Common.{◌≡◌, ◌++◌, map}
use Rattle.page_plain.specs.SpaceNumbers.{space_met, spaces_met, texts_of}
use Rattle.page_plain.proofs.prefixes.in_order.Given as goal

abbrev pub invariant-loop-space : goal.invariant-loop-space
invariant-loop-space l = map (λ s. s.now) l.spaces.items ++ texts_of (map space_met l.space-iterator) ≡ texts_of (spaces_met l.met)
