use Rattle.std.proofs.Common.{◌≡◌, map, take, List, ℕ}
use Rattle.ix_base.specs.declared.content.Footnote.{Footnote}
use Rattle.instance_lines.specs.Elements.{footnote_text}
use Rattle.instance_lines.specs.declared.sort.Keyed.{Keyed}
use Rattle.instance_lines.proofs.note.footnotes_of.Given as goal

abbrev pub invariant-loop-footnote : goal.invariant-loop-footnote
invariant-loop-footnote l =
    l.keyed.items ≡ map {B = Keyed (List ℕ)} (λ (x : Footnote). record { key = x.id; item = footnote_text x })
    (take l.footnote-index l.footnotes)
