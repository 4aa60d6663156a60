use Rattle.std.proofs.Common.{◌≡◌, take}
use Rattle.footnotes.specs.ArcLinks.{texts_of}
use Rattle.footnotes.proofs.footnote_links.copies_of.Given as goal

-- the texts before here are copied
abbrev pub invariant-loop-text : goal.invariant-loop-text
invariant-loop-text l = l.copies ≡ texts_of (take l.text-index l.texts)
