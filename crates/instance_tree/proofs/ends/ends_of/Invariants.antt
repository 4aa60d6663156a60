use Rattle.std.proofs.Common.{◌≡◌, ◌++◌, drop, map}
use Rattle.instance_out.specs.Denotation.{ends_of}
use Rattle.instance_tree.specs.ReaderWords.{end_of}
use Rattle.instance_tree.proofs.ends.ends_of.Given as goal

abbrev pub invariant-loop-loc : goal.invariant-loop-loc
invariant-loop-loc l = map end_of l.ends.items ++ drop l.loc-index l.locs ≡ l.locs

abbrev pub invariant-loop-footnote : goal.invariant-loop-footnote
invariant-loop-footnote l = map end_of l.ends.items ++ map (λ f. (f.id, f.id)) (drop l.footnote-index l.footnotes) ≡ ends_of l.locs l.footnotes
