use Rattle.std.proofs.Common.{◌≡◌, ◌++◌, take}
use Rattle.footnotes.specs.ArcLinks.{texts_of}
use Rattle.footnotes.proofs.LinkLaws.{facts_to}
use Rattle.footnotes.proofs.footnote_links.push_facts.Given as goal

-- the ids of facts at the arcs to the ends before here are added
abbrev pub invariant-loop-to : goal.invariant-loop-to
invariant-loop-to l = texts_of l.ids.items ≡ texts_of l.initial.ids.items ++ facts_to l.group (take l.to-index l.to-items)
