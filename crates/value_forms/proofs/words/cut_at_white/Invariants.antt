use Rattle.std.proofs.Common.{◌≡◌, ◌++◌, take, drop}
use Rattle.value_forms.specs.Words.{from_white, to_white}
use Rattle.value_forms.proofs.words.cut_at_white.Given as goal

abbrev pub invariant-loop-i : goal.invariant-loop-i
invariant-loop-i l =
    (take l.i l.text ++ to_white (drop l.i l.text) ≡ to_white l.text)
    × (from_white (drop l.i l.text) ≡ from_white l.text)
