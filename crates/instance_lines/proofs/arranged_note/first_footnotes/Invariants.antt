use Rattle.std.proofs.Common.{◌≡◌, List, ℕ}
use Rattle.std.specs.BTreeSet.{contains_text}
use Rattle.instance_lines.specs.Arrangement.{firsts}
use Rattle.instance_lines.specs.Elements.{footnote_text}
use Rattle.instance_lines.proofs.FirstLaws.{has_text}
use Rattle.instance_lines.proofs.arranged_note.first_footnotes.Given as goal

abbrev pub invariant-loop-footnote : goal.invariant-loop-footnote
invariant-loop-footnote l = record {
  kept : l.kept.items ≡ firsts footnote_text l.yielded;
  seen : (t : List ℕ) → contains_text l.seen t ≡ has_text footnote_text l.yielded t;
}
